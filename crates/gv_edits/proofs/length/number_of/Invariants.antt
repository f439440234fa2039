use Rattle.std.proofs.Common.{◌≡◌, ◌≤◌, true, drop}
use Rattle.std.specs.List.{list_all}
use Rattle.gv_edits.specs.Length.{digits_behind, is_digit}
use Rattle.gv_edits.proofs.length.number_of.Given as goal

abbrev pub invariant-loop-b : goal.invariant-loop-b
invariant-loop-b l =
    (digits_behind l.n (drop l.b-index l.digits) ≡ digits_behind 0 l.digits)
    × (list_all is_digit (drop l.b-index l.digits) ≡ true)
    × (l.n ≤ 16777216)
