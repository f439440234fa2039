use Rattle.gv_run.proofs.Endings.{complete}
use Rattle.gv_run.proofs.Linted.{complete_lint}
use Rattle.gv_run.proofs.PartEndings.{complete_merge, complete_part, merge_unsolved, merges_parts, unsaid, unwritten}
use Rattle.gv_run.proofs.Overlaid.{complete_overlay}
use Rattle.gv_run.proofs.Performed.{bad_only, leaves}
use Rattle.gv_run.proofs.SessionEndings.{complete_session}
use Rattle.gv_run.proofs.Summed.{complete_demo}
use Rattle.gv_run.proofs.VerifyEndings.{accepts_scans, complete_verify, only_read, unsolved}
use Rattle.gv_run.proofs.running.run.Goals as goal

pub returns-clause-leaves : goal.returns-clause-leaves
returns-clause-leaves g c = leaves _ _ _ _ _ _ c.perform-ending.result _ c.perform-ending.ensures.runs c.tell.ensures.well c.tell.ensures.refused c.perform-ending.ensures.input_later c.tell.ensures.later

pub returns-clause-only_read : goal.returns-clause-only_read
returns-clause-only_read g c = λ v is. only_read c.command_law.ensures _ _ _ _ v is _ c.perform-ending.result c.perform-ending.ensures.runs

pub returns-clause-unsolved : goal.returns-clause-unsolved
returns-clause-unsolved g c = λ v is. unsolved c.command_law.ensures _ _ _ _ v is _ c.perform-ending.result c.perform-ending.ensures.runs

pub returns-clause-bad_words_only : goal.returns-clause-bad_words_only
returns-clause-bad_words_only g c = λ bad. bad_only _ _ _ _ _ bad _ c.perform-ending.result _ c.perform-ending.ensures.runs c.tell.ensures.refused

pub returns-clause-complete : goal.returns-clause-complete
returns-clause-complete g c = λ a is tree store out.
    complete c.command_law.ensures _ _ _ _ a is _ tree store out _ _ c.perform-ending.result c.perform-ending.ensures.runs c.tell.ensures.well c.tell.ensures.refused

pub returns-clause-complete_overlay : goal.returns-clause-complete_overlay
returns-clause-complete_overlay g c = λ s is tree store out.
    complete_overlay c.command_law.ensures c.overlay_law.ensures.loads _ _ _ _ s is _ tree store out _ _ c.perform-ending.result c.perform-ending.ensures.runs c.tell.ensures.well c.tell.ensures.refused

pub returns-clause-complete_verify : goal.returns-clause-complete_verify
returns-clause-complete_verify g c = λ v is tree store out.
    complete_verify c.command_law.ensures _ _ _ _ v is _ tree store out _ c.file_law.ensures.one _ c.perform-ending.result c.perform-ending.ensures.runs c.tell.ensures.well c.tell.ensures.refused

pub returns-clause-complete_demo : goal.returns-clause-complete_demo
returns-clause-complete_demo g c = λ number is out. complete_demo c.command_law.ensures _ _ _ _ _ number is _ out _ c.perform-ending.result c.perform-ending.ensures.runs c.tell.ensures.well c.tell.ensures.refused

pub returns-clause-complete_lint : goal.returns-clause-complete_lint
returns-clause-complete_lint g c = λ l is tree out.
    complete_lint c.command_law.ensures _ _ _ _ _ l is _ tree out _ c.perform-ending.result c.perform-ending.ensures.runs c.tell.ensures.well c.tell.ensures.refused

pub returns-clause-accepts_scans : goal.returns-clause-accepts_scans
returns-clause-accepts_scans g c = λ v is left tree store out.
    accepts_scans c.command_law.ensures c.accepted_law.ensures _ _ _ _ v is _ left tree store out _ _ c.perform-ending.result c.perform-ending.ensures.runs c.tell.ensures.well c.tell.ensures.refused

pub returns-clause-complete_session : goal.returns-clause-complete_session
returns-clause-complete_session g c = λ s is tree fed out.
    complete_session c.command_law.ensures _ _ _ _ _ s is _ tree fed out _ c.perform-ending.result c.perform-ending.ensures.runs c.tell.ensures.well c.tell.ensures.refused

pub returns-clause-unwritten : goal.returns-clause-unwritten
returns-clause-unwritten g c = λ a share is. unwritten c.command_law.ensures _ _ _ _ _ c.perform-ending.result c.perform-ending.ensures.runs a share is

pub returns-clause-unsaid : goal.returns-clause-unsaid
returns-clause-unsaid g c = λ a share is. unsaid c.command_law.ensures _ _ _ _ _ a share is _ _ c.perform-ending.result c.perform-ending.ensures.runs c.tell.ensures.well c.tell.ensures.refused

pub returns-clause-merge_unsolved : goal.returns-clause-merge_unsolved
returns-clause-merge_unsolved g c = λ m is. merge_unsolved c.command_law.ensures _ _ _ _ _ c.perform-ending.result c.perform-ending.ensures.runs m is

pub returns-clause-complete_part : goal.returns-clause-complete_part
returns-clause-complete_part g c = λ a share is tree store out.
    complete_part c.command_law.ensures _ _ _ _ a share is _ tree store out _ _ c.perform-ending.result c.perform-ending.ensures.runs c.tell.ensures.well c.tell.ensures.refused

pub returns-clause-complete_merge : goal.returns-clause-complete_merge
returns-clause-complete_merge g c = λ m is tree store out.
    complete_merge c.command_law.ensures _ _ _ _ m is _ tree store out _ _ c.perform-ending.result c.perform-ending.ensures.runs c.tell.ensures.well c.tell.ensures.refused

pub returns-clause-merges_parts : goal.returns-clause-merges_parts
returns-clause-merges_parts g c = λ m is left tree store out.
    merges_parts c.command_law.ensures c.merged_law.ensures _ _ _ _ m is _ left tree store out _ _ c.perform-ending.result c.perform-ending.ensures.runs c.tell.ensures.well c.tell.ensures.refused
