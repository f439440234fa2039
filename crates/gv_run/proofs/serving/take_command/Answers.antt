use Rattle.std.proofs.Common.{◌≡◌, Err, ap, ◌∙◌}
use Rattle.gv_edits.specs.declared.script.ScriptFault.TheVariants as faults
use Rattle.gv_run.proofs.Heads.{loses_all}
use Rattle.gv_run.proofs.Served.{no_more, not_full}
use Rattle.gv_run.proofs.serving.take_command.Goals as goal

pub returns-in-Err-Limit-clause-cause : goal.returns-in-Err-Limit-clause-cause
returns-in-Err-Limit-clause-cause g c =
    let is : c.next_command.result ≡ Err faults.Limit = c.in-Err-Limit.is ∙ ap Err c.in-Err-Limit.field-0-is in
    let e = c.next_command.ensures in
    no_more c.args.reader.now c.next_command.new.self _ _ _ _ c.too_many.result (e.limit.0 is) (e.same is) (e.unread is) (e.few_behind is) (e.calm_limit is) c.too_many.ensures

pub returns-in-Err-Failed-clause-cause : goal.returns-in-Err-Failed-clause-cause
returns-in-Err-Failed-clause-cause g c =
    let is : c.next_command.result ≡ Err faults.Failed = c.in-Err-Failed.is ∙ ap Err c.in-Err-Failed.field-0-is in
    let e = c.next_command.ensures in
    (loses_all c.args.reader.now _ _ c.requires (not_full c.next_command.result c.args.reader.now.read is e.limit.1) (e.lacks is), e.failed is)
