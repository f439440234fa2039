use Rattle.std.proofs.Common.{drop}
use Rattle.gv_renew.proofs.MarkLemmas.{AreMarkedBut}
use Rattle.gv_renew.proofs.touched.marks_of.Given as goal

-- those behind this one are left
abbrev pub invariant-loop-name : goal.invariant-loop-name
invariant-loop-name l = AreMarkedBut (drop l.name-index l.names) l.names l.marks.items
