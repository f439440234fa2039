use Rattle.std.proofs.Common.{◌≡◌, ◌++◌, length}
use Rattle.std.specs.Prelude.{option_map}
use Rattle.gv_entry.specs.Digests.{between_tabs, eclasses_in}
use Rattle.gv_entry.specs.PrivateWords.{fields_left}
use Rattle.gv_entry.proofs.digests.read_pairs.Given as goal

abbrev pub invariant-loop-name : goal.invariant-loop-name
invariant-loop-name l = option_map (λ more. l.eclasses ++ more) (eclasses_in (fields_left l.rest)) ≡ eclasses_in (between_tabs l.value)

abbrev pub decreases-loop-name : goal.decreases-loop-name
decreases-loop-name l = length (fields_left l.rest)
