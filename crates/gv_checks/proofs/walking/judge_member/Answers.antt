use Rattle.std.proofs.Common.{sym, ◌∙◌}
use Rattle.gv_plain.specs.Context.{listed}
use Rattle.gv_checks.proofs.GoLemmas.{goes_passed}
use Rattle.gv_checks.proofs.walking.judge_member.Goals as goal

pub returns-then-passes-clause-goes : goal.returns-then-passes-clause-goes
returns-then-passes-clause-goes g c =
    goes_passed c.args.errand.now.asking.now c.args.errand.now.walk.now.options (listed c.args.one.now) (sym c.passes.ensures ∙ c.if-passes.true) c.args.errand.now.walk.now.repo.pkgs c.args.errand.now.walk.now.repo.profiles c.args.going.now c.args.steps.now tt
