use Rattle.std.proofs.Common.{◌≡◌, ◌++◌, drop, map}
use Rattle.gv_facts.specs.Effective.{prefixed}
use Rattle.gv_usestate.proofs.flags.add_prefixed.Given as goal

abbrev pub invariant-loop-word : goal.invariant-loop-word
invariant-loop-word l = l.flags ++ map (prefixed l.name) (drop l.word-index l.words) ≡ l.fn.flags ++ map (prefixed l.name) l.words
