-- How the program prints items, for the contracts of private functions.
use Rattle.std.specs.Prelude.{ℕ, List, [], ◌∷◌, codes, flat_map}
use Rattle.std.specs.Str.{byte}
use Rattle.gv_atom.specs.declared.items.UseItem.{UseItem}
use Rattle.gv_atom.specs.declared.items.Ask.{Ask}
use Rattle.gv_atom.specs.declared.items.Ask.TheVariants.{On, Off, Same, Opposite, OnIf, OffIfNot}
use Rattle.gv_atom.specs.Grammar.{item_text}

-- the sign before a flag, and the mark at the item's end
abbrev pub sign_text : Ask → List ℕ
sign_text On = []
sign_text Off = codes "-"
sign_text Same = []
sign_text Opposite = codes "!"
sign_text OnIf = []
sign_text OffIfNot = codes "!"

abbrev pub end_text : Ask → List ℕ
end_text On = []
end_text Off = []
end_text Same = codes "="
end_text Opposite = codes "="
end_text OnIf = codes "?"
end_text OffIfNot = codes "?"

-- each item behind a comma
abbrev pub more_items_text : List UseItem → List ℕ
more_items_text items = flat_map (λ i. byte "," ∷ item_text i) items
