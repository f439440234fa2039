use Rattle.std.proofs.Common.{◌≡◌, ◌∙◌}
use Rattle.std.proofs.lemmas.Result.{IfOk-weaker}
use Rattle.gv_plain.specs.Context.{case_of}
use Rattle.gv_checks.specs.Queries.{query_of}
use Rattle.gv_checks.specs.RepoReports.{failing_text}
use Rattle.gv_checks.proofs.ReportLemmas.{failing_is}
use Rattle.gv_checks.proofs.reporting.failing_text.Goals as goal

pub returns : goal.returns
returns c =
    IfOk-weaker c.unmet_text.result _ (λ text. text ≡ failing_text (query_of (case_of c.args.judged.now) c.args.class) c.args.dep.now c.args.bits.now)
    (λ text found. failing_is c.value_law.ensures.items (query_of (case_of c.args.judged.now) c.args.class) c.args.dep.now c.args.bits.now c.args.query.now.gates c.items-2.result.now c.items.result.now text
    c.requires.class c.requires.lowered.gates (c.items-2.ensures.items ∙ c.requires.lowered.items) c.requires.long (c.items.ensures.items ∙ c.in_ok-places.ensures) found)
    c.unmet_text.ensures
