use Rattle.std.proofs.Common.{◌++◌, ◌∷◌, [], ◌||◌, ap, sym, ◌∙◌}
use Rattle.gv_base.specs.Order.{has_text}
use Rattle.gv_reading.specs.Paths.{within}
use Rattle.gv_reload.proofs.EditLemmas.{entry_added, entry_none}
use Rattle.gv_reload.proofs.entry_edits.with_entry.Goals as goal

pub returns-in_ok-more-in-Some : goal.returns-in_ok-more-in-Some
returns-in_ok-more-in-Some c =
    entry_added c.args.path.now c.in-Some.rest.now c.args.entries c.in_ok-more-in-Some.more (sym c.bytes.ensures ∙ c.in-Some.ensures.cut)
    (c.in_ok-more-in-Some.ensures ∙ ap (λ text. c.args.entries ++ text ∷ []) c.in_ok-of-in-Some.ensures)

pub returns-in-None : goal.returns-in-None
returns-in-None c = λ category pf.
    sym (ap (λ b. b || has_text c.args.entries (within category pf)) (entry_none c.args.path.now category pf (λ rest is. c.in-None.ensures.cut rest (c.bytes.ensures ∙ is))))
