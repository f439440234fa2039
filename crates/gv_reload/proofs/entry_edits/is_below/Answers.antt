use Rattle.std.proofs.Common.{[], ◌∷◌, ◌∙◌}
use Rattle.gv_reload.proofs.EditedIn.{behind_both, behind_none}
use Rattle.gv_reload.proofs.entry_edits.is_below.Goals as goal

pub returns-in-Some : goal.returns-in-Some
returns-in-Some c = c.is_slash_first.ensures ∙ behind_both c.args.folder.now (47 ∷ []) c.args.path.now c.in-Some.rest.now c.in-Some.ensures.after

pub returns-in-None : goal.returns-in-None
returns-in-None c = behind_none c.args.folder.now (47 ∷ []) c.args.path.now c.in-None.ensures.after
