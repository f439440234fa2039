use Rattle.std.proofs.Common.{◌≡◌, drop}
use Rattle.std.specs.List.{list_any}
use Rattle.gv_renew.specs.Mentioned.{is_marked}
use Rattle.gv_renew.proofs.touched.some_marked.Given as goal

abbrev pub invariant-loop-number : goal.invariant-loop-number
invariant-loop-number l = list_any (is_marked l.marks) (drop l.number-index l.numbers) ≡ list_any (is_marked l.marks) l.numbers
