use Rattle.std.proofs.Common.{◌≡◌, ◌++◌, ◌≤◌, length}
use Rattle.gv_base.specs.declared.pieces.Cut.TheVariants.{Tokens}
use Rattle.gv_base.specs.Pieces.{left}
use Rattle.gv_expr.specs.Token.{tokens_of}
use Rattle.gv_expr.specs.Spaced.{tokens_in}
use Rattle.gv_expr.specs.TokenFaults.{first_fault, fault_from}
use Rattle.gv_expr.proofs.reading.read_tokens.Given as goal

abbrev pub invariant-loop-word : goal.invariant-loop-word
invariant-loop-word g l = record {
  text : l.reader.text ++ tokens_in (left Tokens l.rest) ≡ tokens_of l.bytes;
  few : l.number ≤ 100001;
  fault : first_fault g.E.Grammar.language (tokens_of l.bytes) ≡ fault_from g.E.Grammar.language l.reader.head l.reader.depth l.number (tokens_in (left Tokens l.rest));
}

abbrev pub decreases-loop-word : goal.decreases-loop-word
decreases-loop-word g l = length (left Tokens l.rest)
