use Rattle.std.proofs.Common.{◌≡◌, ◌++◌, drop}
use Rattle.std.specs.Prelude.{flat_map}
use Rattle.gv_usedefaults.specs.Selected.{selected_in}
use Rattle.gv_usedefaults.proofs.reports.reports_in.Given as goal

abbrev pub invariant-loop-profile : goal.invariant-loop-profile
invariant-loop-profile l = l.reports ++ flat_map (selected_in l.options l.repo l.walk) (drop l.profile-index l.profiles) ≡ flat_map (selected_in l.options l.repo l.walk) l.profiles
