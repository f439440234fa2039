use Rattle.std.proofs.lemmas.Result.{IfOk-weaker}
use Rattle.gv_run.specs.Summary.{IsSummary}
use Rattle.gv_run.proofs.Summed.{is_summary}
use Rattle.gv_run.proofs.summing.summary_of.Goals as goal

pub returns : goal.returns
returns g c =
    IfOk-weaker c.summary_text.result _ (IsSummary c.args.number)
    (λ summary made. is_summary c.args.number c.in_ok-options.options c.in_ok-repo.repo c.in-Ok.text summary c.in_ok-options.ensures c.in_ok-repo.ensures.repo c.in_ok-repo.ensures.packages c.in-Ok.ensures.queries c.in-Ok.ensures.text made)
    c.summary_text.ensures
