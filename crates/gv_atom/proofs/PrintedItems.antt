-- The text of items, as it is printed piece by piece.
use Rattle.std.proofs.Common.{◌≡◌, ℕ, List, [], ◌∷◌, ◌++◌, refl, ap, sym, ◌∙◌, append_assoc, append-nil}
use Rattle.std.specs.Prelude.{codes}
use Rattle.std.specs.List.{join_by}
use Rattle.std.specs.Str.{byte}
use Rattle.gv_atom.specs.declared.items.UseItem.{UseItem}
use Rattle.gv_atom.specs.declared.items.Ask.{Ask}
use Rattle.gv_atom.specs.declared.items.Ask.TheVariants.{On, Off, Same, Opposite, OnIf, OffIfNot}
use Rattle.gv_atom.specs.Printing.{sign_text, end_text, more_items_text}
use Rattle.gv_atom.specs.Grammar.{asked_text, item_text, items_text}

pub asked_parts : (ask : Ask) (text : List ℕ) → asked_text ask text ≡ sign_text ask ++ (text ++ end_text ask)
asked_parts On text = sym (append-nil text)
asked_parts Off text = ap (λ x. byte "-" ∷ x) (sym (append-nil text))
asked_parts Same text = refl
asked_parts Opposite text = refl
asked_parts OnIf text = refl
asked_parts OffIfNot text = refl

pub joined : (i : UseItem) (is : List UseItem) → join_by item_text (codes ",") (i ∷ is) ≡ item_text i ++ more_items_text is
joined i [] = refl
joined i (j ∷ js) = ap (λ x. item_text i ++ byte "," ∷ x) (joined j js)

pub joined_items : (i : UseItem) (is : List UseItem) → items_text (i ∷ is) ≡ byte "[" ∷ (item_text i ++ (more_items_text is ++ codes "]"))
joined_items i is = ap (λ x. byte "[" ∷ x) (ap (λ x. x ++ codes "]") (joined i is) ∙ append_assoc (item_text i) (more_items_text is) (codes "]"))
