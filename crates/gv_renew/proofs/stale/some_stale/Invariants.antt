use Rattle.std.proofs.Common.{◌≡◌, drop}
use Rattle.std.specs.List.{list_any}
use Rattle.gv_report.specs.declared.report.Subject.TheVariants.{Package}
use Rattle.gv_renew.specs.Touched.{is_stale_place}
use Rattle.gv_renew.proofs.stale.some_stale.Given as goal

abbrev pub invariant-loop-place : goal.invariant-loop-place
invariant-loop-place l = list_any (is_stale_place (Package l.category l.name l.version l.pf) l.class l.touched) (drop l.place-index l.places)
    ≡ list_any (is_stale_place (Package l.category l.name l.version l.pf) l.class l.touched) l.places
