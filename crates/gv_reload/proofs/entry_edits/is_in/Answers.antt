use Rattle.std.proofs.Common.{[], ◌∷◌, ◌++◌, ap, ◌∙◌}
use Rattle.std.specs.Prelude.{codes}
use Rattle.std.specs.Option.{is_some}
use Rattle.gv_base.specs.Cut.{after_prefix}
use Rattle.gv_reload.proofs.EditedIn.{behind_both, behind_none, folder_is}
use Rattle.gv_reload.proofs.entry_edits.is_in.Goals as goal

pub returns-in-Some : goal.returns-in-Some
returns-in-Some c =
    c.is_below.ensures ∙ behind_both (codes "metadata/md5-cache/") (c.args.category.now ++ 47 ∷ []) c.args.path.now c.in-Some.rest.now c.in-Some.ensures.after
    ∙ ap (λ front. is_some (after_prefix front c.args.path.now)) (folder_is c.args.category.now)

pub returns-in-None : goal.returns-in-None
returns-in-None c =
    behind_none (codes "metadata/md5-cache/") (c.args.category.now ++ 47 ∷ []) c.args.path.now c.in-None.ensures.after
    ∙ ap (λ front. is_some (after_prefix front c.args.path.now)) (folder_is c.args.category.now)
