use Rattle.std.proofs.Common.{◌≡◌, ◌++◌, ap, subst, sym, ◌∙◌}
use Rattle.std.specs.Prelude.{OnOk, slice_get}
use Rattle.gv_facts.specs.Visible.{judged}
use Rattle.gv_facts.specs.declared.profile.Profile.{Profile}
use Rattle.gv_plain.specs.Cases.{case_in}
use Rattle.gv_plain.specs.Context.{listed}
use Rattle.gv_plain.specs.Plain.{told_in}
use Rattle.gv_plain.proofs.ViewLemmas.{judged_told, unjudged_told}
use Rattle.gv_plain.proofs.plainly.add_judged.Goals as goal

pub returns-in-None : goal.returns-in-None
returns-in-None c =
    unjudged_told c.args.options.now c.args.pkgs.now (listed c.args.one.now) c.args.view.now.profile c.args.reports.now
    (sym (c.judged.ensures (ap (λ v. slice_get v.pkgs c.args.one.now.number) c.requires.view ∙ c.requires.numbered)) ∙ c.in-None.is)

pub returns-in-Some : goal.returns-in-Some
returns-in-Some c =
    subst (λ (p : Profile). OnOk c.add_case.result (c.add_case.new.reports ≡ c.args.reports.now ++ told_in c.args.options.now (case_in c.args.pkgs.now (listed c.args.one.now) p))) c.profile.ensures
    (judged_told c.args.options.now c.args.pkgs.now (listed c.args.one.now) c.profile.result.now c.args.reports.now c.add_case.new.reports c.in-Some.level
    (ap (judged c.args.one.now.pkg.now) c.profile.ensures ∙ (sym (c.judged.ensures (ap (λ v. slice_get v.pkgs c.args.one.now.number) c.requires.view ∙ c.requires.numbered)) ∙ c.in-Some.is)) c.add_case.result c.add_case.ensures)
