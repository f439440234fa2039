use Rattle.std.proofs.Common.{◌≡◌, ◌++◌, drop}
use Rattle.std.specs.Prelude.{flat_map, filter_map}
use Rattle.gv_plain.specs.Cases.{case_in, cases_of}
use Rattle.gv_plain.specs.Context.{listed}
use Rattle.gv_plain.specs.Plain.{told_case}
use Rattle.gv_plain.proofs.plainly.add_cases.Given as goal

abbrev pub invariant-loop-view : goal.invariant-loop-view
invariant-loop-view l = l.reports ++ flat_map (told_case l.options) (filter_map (case_in l.repo.pkgs (listed l.one)) (drop l.view-index l.repo.profiles))
    ≡ l.initial.reports ++ flat_map (told_case l.options) (cases_of l.repo (listed l.one))
