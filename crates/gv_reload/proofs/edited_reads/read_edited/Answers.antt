use Rattle.std.proofs.Common.{◌∙◌}
use Rattle.gv_reading.specs.Passing.{ended_as, read_as}
use Rattle.gv_reload.proofs.EditedReading.{same_read, same_steps}
use Rattle.gv_reload.proofs.edited_reads.read_edited.Goals as goal

pub returns-in-Ok-clause-reads : goal.returns-in-Ok-clause-reads
returns-in-Ok-clause-reads g c =
    let paths = c.args.paths.now in
    let categories = c.args.categories.now in
    let is = c.deref.ensures.value ∙ c.in_ok-given.ensures in
    read_as c.in-Ok.ensures.reads (λ look said. same_steps look paths categories c.deref.result.now is) (λ look said. said ∙ same_read look paths categories c.deref.result.now is)

pub returns-clause-reads : goal.returns-clause-reads
returns-clause-reads g c = ended_as c.in-Err.ensures.reads (λ look. same_steps look c.args.paths.now c.args.categories.now c.deref.result.now (c.deref.ensures.value ∙ c.in_ok-given.ensures))
