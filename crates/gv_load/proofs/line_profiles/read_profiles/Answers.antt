use Rattle.std.proofs.Common.{◌∙◌, ap, refl}
use Rattle.std.specs.FinMap.{get}
use Rattle.gv_load.specs.Directories.{dir_at}
use Rattle.gv_load.specs.Order.{stack_steps}
use Rattle.gv_reading.specs.Passing.{ended_first, faulted, no_memory}
use Rattle.gv_load.specs.declared.line_profiles.Profiled.{Profiled}
use Rattle.gv_load.proofs.OwnLinesLaw.{have_own}
use Rattle.gv_load.proofs.ProfileLemmas.{profiled_is, stacks_ended, stacks_read}
use Rattle.gv_load.proofs.line_profiles.read_profiles.Goals as goal

pub returns-in_err-reached-clause-reads : goal.returns-in_err-reached-clause-reads
returns-in_err-reached-clause-reads g c = rw (faulted c.from_residual.result c.from_residual.ensures.1) (ended_first (λ look. stack_steps (dir_at look) c.args.lines.now) c.in_err-reached.ensures (λ look. refl))

pub returns-in_err-folds-clause-reads : goal.returns-in_err-folds-clause-reads
returns-in_err-folds-clause-reads g c = rw (faulted c.from_residual-in_err-folds.result c.from_residual-in_err-folds.ensures.1) (stacks_ended _ c.in_ok-reached.ensures c.in_err-folds.ensures.cause)

pub returns-in_err-with_notes-clause-reads : goal.returns-in_err-with_notes-clause-reads
returns-in_err-with_notes-clause-reads g c = rw (faulted c.from_residual-in_err-with_notes.result c.from_residual-in_err-with_notes.ensures.1) (no_memory c.in_ok-reached.ensures.same)

pub returns-clause-reads : goal.returns-clause-reads
returns-clause-reads g c =
    let folds = c.in_ok-folds in
    stacks_read c.in_ok-reached.ensures folds.ensures.passed
    (λ look is. profiled_is look c.in_ok-reached.reached c.args.masks.now c.args.lines.now folds.folds _ is.dirs is.stacks is.order folds.ensures.profiles folds.ensures.errors c.in_ok-with_notes.ensures)

pub returns-clause-own : goal.returns-clause-own
returns-clause-own g c =
    have_own (get c.in_ok-reached.reached.dirs) c.args.masks.now c.args.lines.now _ c.requires.lines (ap (λ (p : Profiled). p.profiles) c.in_ok-with_notes.ensures ∙ c.in_ok-folds.ensures.profiles)
