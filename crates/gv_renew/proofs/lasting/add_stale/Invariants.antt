use Rattle.std.proofs.Common.{◌≡◌, ◌+◌, ◌++◌, drop}
use Rattle.gv_facts.specs.Places.{places_from}
use Rattle.gv_renew.specs.Touched.{is_stale_by}
use Rattle.gv_renew.proofs.lasting.add_stale.Given as goal

abbrev pub invariant-loop-i : goal.invariant-loop-i
invariant-loop-i l =
    l.places.items ++ places_from (l.start + l.i) (is_stale_by l.edits l.touched) (drop l.i l.reports)
    ≡ l.fn.places.items ++ places_from l.start (is_stale_by l.edits l.touched) l.reports
