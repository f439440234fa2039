-- Items are read of their text.
use Rattle.std.proofs.Common.{◌≡◌, ℕ, ◌+◌, Bool, true, false, not, List, [], ◌∷◌, ◌++◌, length, map, refl, ap, ◌∙◌, None, append-nil}
use Rattle.std.proofs.lemmas.Bool.{and_parts}
use Rattle.std.specs.Prelude.{◌==◌, codes, filter_map}
use Rattle.std.specs.List.{list_all, list_any, slice_split}
use Rattle.std.specs.Str.{byte}
use Rattle.gv_version.specs.Names.{is_flag}
use Rattle.gv_atom.specs.declared.items.UseItem.{UseItem}
use Rattle.gv_atom.specs.declared.items.Ask.{Ask}
use Rattle.gv_atom.specs.declared.items.Ask.TheVariants.{On, Off, Same, Opposite, OnIf, OffIfNot}
use Rattle.gv_atom.specs.Printing.{sign_text, end_text, more_items_text}
use Rattle.gv_atom.specs.Reading.{item_of, is_bracket, is_bracketed, bad_item, bad_items, items_of}
use Rattle.gv_atom.specs.Grammar.{item_text, items_text}
use Rattle.gv_atom.proofs.Lacks.{lacks, lacks_both, not_true, split_none, split_there}
use Rattle.gv_atom.proofs.LastByte.{ends_added, last_off}
use Rattle.gv_atom.proofs.PrintedItems.{joined}
use Rattle.gv_atom.proofs.WrittenItem.{item_again, item_lacks}

-- Signs and marks are no commas and no brackets.
signs_lack : (c : ℕ) → lacks c (codes "-") ≡ true → lacks c (codes "!") ≡ true → (ask : Ask) → lacks c (sign_text ask) ≡ true
signs_lack c h k On = refl
signs_lack c h k Off = h
signs_lack c h k Same = refl
signs_lack c h k Opposite = k
signs_lack c h k OnIf = refl
signs_lack c h k OffIfNot = k

ends_lack : (c : ℕ) → lacks c (codes "=") ≡ true → lacks c (codes "?") ≡ true → (ask : Ask) → lacks c (end_text ask) ≡ true
ends_lack c h k On = refl
ends_lack c h k Off = refl
ends_lack c h k Same = h
ends_lack c h k Opposite = h
ends_lack c h k OnIf = k
ends_lack c h k OffIfNot = k

no_comma : (i : UseItem) → is_flag i.flag ≡ true → lacks (byte ",") (item_text i) ≡ true
no_comma i h = item_lacks (byte ",") refl refl refl (signs_lack (byte ",") refl refl) (ends_lack (byte ",") refl refl) i h

no_open : (i : UseItem) → is_flag i.flag ≡ true → lacks (byte "[") (item_text i) ≡ true
no_open i h = item_lacks (byte "[") refl refl refl (signs_lack (byte "[") refl refl) (ends_lack (byte "[") refl refl) i h

no_close : (i : UseItem) → is_flag i.flag ≡ true → lacks (byte "]") (item_text i) ≡ true
no_close i h = item_lacks (byte "]") refl refl refl (signs_lack (byte "]") refl refl) (ends_lack (byte "]") refl refl) i h

abbrev are_flags : List UseItem → Bool
are_flags is = list_all (λ i. is_flag i.flag) is

split_items : (i : UseItem) (is : List UseItem) → are_flags (i ∷ is) ≡ true → slice_split (λ b. b == byte ",") (item_text i ++ more_items_text is) ≡ map item_text (i ∷ is)
split_items i [] h =
    let parts = and_parts (is_flag i.flag) true h in
    rw (append-nil (item_text i)) (split_none (byte ",") (item_text i) (no_comma i parts.0))
split_items i (j ∷ js) h =
    let parts = and_parts (is_flag i.flag) (are_flags (j ∷ js)) h in
    split_there (byte ",") (item_text i) (item_text j ++ more_items_text js) (no_comma i parts.0) ∙ ap (λ x. item_text i ∷ x) (split_items j js parts.1)

more_lack : (c : ℕ) → (byte "," == c) ≡ false → ((i : UseItem) → is_flag i.flag ≡ true → lacks c (item_text i) ≡ true)
    → (is : List UseItem) → are_flags is ≡ true → lacks c (more_items_text is) ≡ true
more_lack c e lack [] h = refl
more_lack c e lack (i ∷ is) h =
    let parts = and_parts (is_flag i.flag) (are_flags is) h in
    rw e (lacks_both c (item_text i) (more_items_text is) (lack i parts.0) (more_lack c e lack is parts.1))

no_bracket : (text : List ℕ) → lacks (byte "[") text ≡ true → lacks (byte "]") text ≡ true → list_any is_bracket text ≡ false
no_bracket [] h k = refl
no_bracket (b ∷ bs) h k =
    let opens = and_parts (not (b == byte "[")) (lacks (byte "[") bs) h in
    let closes = and_parts (not (b == byte "]")) (lacks (byte "]") bs) k in
    rw (not_true (b == byte "[") opens.0, not_true (b == byte "]") closes.0) (no_bracket bs opens.1 closes.1)

none_bad : (at : ℕ) (is : List UseItem) → are_flags is ≡ true → bad_item at (map item_text is) ≡ None
none_bad at [] h = refl
none_bad at (i ∷ is) h =
    let parts = and_parts (is_flag i.flag) (are_flags is) h in
    rw (item_again i parts.0) (none_bad (at + length (item_text i) + 1) is parts.1)

all_again : (is : List UseItem) → are_flags is ≡ true → filter_map item_of (map item_text is) ≡ is
all_again [] h = refl
all_again (i ∷ is) h =
    let parts = and_parts (is_flag i.flag) (are_flags is) h in
    rw (item_again i parts.0) (ap (λ x. i ∷ x) (all_again is parts.1))

-- an item part is read without a fault as its items
pub record ItemsAgain (is : List UseItem) : Type 0 where
  pub none : (at : ℕ) → bad_items at (items_text is) ≡ None
  pub again : items_of (items_text is) ≡ is

bracketed : (inner : List ℕ) → list_any is_bracket inner ≡ false → is_bracketed (byte "[" ∷ (inner ++ codes "]")) ≡ true
bracketed inner h = rw (ends_added (byte "]") (byte "]") (byte "[" ∷ inner), last_off (byte "]") inner, h) refl

texts_again : (inner : List ℕ) (is : List UseItem) → are_flags is ≡ true → list_any is_bracket inner ≡ false → slice_split (λ b. b == byte ",") inner ≡ map item_text is
    → (at : ℕ) → bad_items at (byte "[" ∷ (inner ++ codes "]")) ≡ None
texts_again inner is h k e at = rw (bracketed inner k, last_off (byte "]") inner, e) (none_bad (at + 1) is h)

pub items_again : (is : List UseItem) → are_flags is ≡ true → ItemsAgain is
items_again [] h = record { none = λ at. refl; again = refl }
items_again (i ∷ is) h =
    let parts = and_parts (is_flag i.flag) (are_flags is) h in
    let inner : List ℕ = item_text i ++ more_items_text is in
    let text : items_text (i ∷ is) ≡ byte "[" ∷ (inner ++ codes "]") = ap (λ x. byte "[" ∷ (x ++ codes "]")) (joined i is) in
    let split : slice_split (λ b. b == byte ",") inner ≡ map item_text (i ∷ is) = split_items i is h in
    let free : list_any is_bracket inner ≡ false = no_bracket inner
    (lacks_both (byte "[") (item_text i) (more_items_text is) (no_open i parts.0) (more_lack (byte "[") refl no_open is parts.1))
    (lacks_both (byte "]") (item_text i) (more_items_text is) (no_close i parts.0) (more_lack (byte "]") refl no_close is parts.1)) in
    record {
      none = λ at. ap (bad_items at) text ∙ texts_again inner (i ∷ is) h free split at;
      again = ap items_of text ∙ (ap (λ x. filter_map item_of (slice_split (λ b. b == byte ",") x)) (last_off (byte "]") inner) ∙ (ap (filter_map item_of) split ∙ all_again (i ∷ is) h));
    }
