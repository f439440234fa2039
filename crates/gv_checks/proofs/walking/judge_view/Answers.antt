use Rattle.std.proofs.Common.{ap, refl, sym, ◌∙◌}
use Rattle.std.specs.Prelude.{slice_get}
use Rattle.gv_plain.specs.Context.{listed}
use Rattle.gv_checks.proofs.GoLemmas.{goes_judged, goes_unjudged}
use Rattle.gv_checks.proofs.walking.judge_view.Goals as goal

pub returns-in-None-clause-goes : goal.returns-in-None-clause-goes
returns-in-None-clause-goes g c =
    goes_unjudged c.args.errand.now.asking.now c.args.errand.now.walk.now.options c.args.errand.now.walk.now.repo.pkgs (listed c.args.one.now) c.args.view.now.profile
    (sym (c.judged.ensures (ap (λ v. slice_get v.pkgs c.args.one.now.number) c.requires.view ∙ c.requires.numbered)) ∙ c.in-None.is) c.args.going.now c.args.steps.now tt

pub returns-in-Some-clause-goes : goal.returns-in-Some-clause-goes
returns-in-Some-clause-goes g c =
    goes_judged c.args.errand.now.asking.now c.args.errand.now.walk.now.options c.args.errand.now.walk.now.repo.pkgs (listed c.args.one.now) c.args.view.now.profile c.in-Some.level c.args.going.now c.judge_case.new.going c.args.steps.now c.judge_case.new.steps c.judge_case.result
    (sym (c.judged.ensures (ap (λ v. slice_get v.pkgs c.args.one.now.number) c.requires.view ∙ c.requires.numbered)) ∙ c.in-Some.is)
    c.args.errand.now.walk.now.options refl c.repo-repo.result.now.pkgs (ap (λ r. r.pkgs) c.repo-repo.ensures) c.profile.result.now c.profile.ensures c.judge_case.ensures.goes
