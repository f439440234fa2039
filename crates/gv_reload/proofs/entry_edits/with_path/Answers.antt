use Rattle.std.proofs.Common.{List, ℕ, ◌++◌, ◌∷◌, [], ap, subst, sym, ◌∙◌}
use Rattle.gv_reload.specs.EditKeys.{AreKeys}
use Rattle.gv_reload.proofs.EditLemmas.{keys_with}
use Rattle.gv_reload.proofs.entry_edits.with_path.Goals as goal

pub invariant_of-result : goal.invariant_of-result
invariant_of-result c =
    subst (λ (paths : List (List ℕ)). AreKeys paths c.in_ok-entries.entries c.in_ok-names.names)
    (sym (c.in_ok-add.ensures.ok ∙ ap (λ text. c.edits.inside.paths ++ text ∷ []) c.in_ok-copy.ensures))
    (keys_with c.edits.inside.paths c.edits.inside.entries c.edits.inside.names c.in_ok-entries.entries c.in_ok-names.names c.args.path.now c.edits.invariant c.in_ok-entries.ensures
    (c.in_ok-names.ensures ∙ ap (λ name. c.edits.inside.names ++ name ∷ []) c.in_ok-entry_name.ensures))
