use Rattle.std.proofs.Common.{ap, refl}
use Rattle.gv_logic.specs.Formulas.{Formula}
use Rattle.gv_encode.proofs.Ranges.{named_same}
use Rattle.gv_encode.proofs.encoding.add_or.Goals as goal

pub add_opposite_pairs-requires-clause-named : goal.add_opposite_pairs-requires-clause-named
add_opposite_pairs-requires-clause-named c = named_same c.args.place c.args.clauses.now.variables _ c.args.operands.now refl c.requires.place c.requires.earlier

pub add_whole-requires-clause-named : goal.add_whole-requires-clause-named
add_whole-requires-clause-named c =
    named_same c.args.place c.args.clauses.now.variables _ c.args.operands.now (ap (λ (f : Formula). f.variables) c.in_ok-add_opposite_pairs.ensures) c.requires.place c.requires.earlier
