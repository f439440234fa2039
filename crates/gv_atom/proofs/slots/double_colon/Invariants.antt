use Rattle.std.proofs.Common.{◌≡◌, ◌-◌, ◌≤◌, length}
use Rattle.gv_atom.specs.Reading.{double_colon}
use Rattle.gv_atom.proofs.slots.double_colon.Given as goal

abbrev pub invariant-loop-rest : goal.invariant-loop-rest
invariant-loop-rest l = record {
  within : length l.rest ≤ l.end;
  left : double_colon (l.end - length l.rest) l.rest ≡ double_colon l.at l.part;
}

abbrev pub decreases-loop-rest : goal.decreases-loop-rest
decreases-loop-rest l = length l.rest
