-- Whether a set has a text, and whether the list of its texts has it.
use Rattle.std.proofs.Common.{◌≡◌, ℕ, List, [], ◌∷◌, refl}
use Rattle.std.specs.List.{list_any}
use Rattle.std.specs.BTreeMap.{is_at}
use Rattle.std.proofs.lemmas.Map.Text.{is_eq-slice_cmp}
use Rattle.gv_base.specs.Order.{byte_cmp, has_text}

pub has_key : (keys : List (List ℕ)) (text : List ℕ) → list_any (is_at (byte_cmp text)) keys ≡ has_text keys text
has_key [] text = refl
has_key (key ∷ keys) text = rw (is_eq-slice_cmp text key, has_key keys text) refl
