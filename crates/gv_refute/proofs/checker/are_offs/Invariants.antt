use Rattle.std.proofs.Common.{◌≡◌, ◌≤◌, ◌++◌, take, drop, length}
use Rattle.gv_logic.specs.Logs.{set_clause, offs}
use Rattle.gv_refute.proofs.checker.are_offs.Given as goal

abbrev pub invariant-loop-place : goal.invariant-loop-place
invariant-loop-place l = record {
  offs : set_clause (offs 0 l.bits) ≡ take l.at l.lits ++ set_clause (offs l.place (drop l.place l.bits));
  at : l.at ≤ length l.lits;
}
