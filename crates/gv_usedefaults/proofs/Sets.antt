-- Texts in a set.
use Rattle.std.proofs.Common.{◌≡◌, ℕ, List, [], ◌∷◌, Bool, true, false, cond, ◌||◌, refl, sym, ap, subst, ◌∙◌}
use Rattle.std.specs.Prelude.{if◌then◌else◌}
use Rattle.std.specs.BTreeMap.{is_at}
use Rattle.std.specs.Cmp.Lexicographic.{same_text}
use Rattle.std.specs.List.{list_any}
use Rattle.std.specs.Str.{bytes_eq}
use Rattle.std.proofs.lemmas.Bool.{false≢true}
use Rattle.std.proofs.lemmas.Map.Text.{is_eq-slice_cmp}
use Rattle.std.proofs.lemmas.Slice.Eq.{bytes_eq-Decides}
use Rattle.gv_base.specs.Order.{byte_cmp, has_text}

pub has_key : (keys : List (List ℕ)) (text : List ℕ) → list_any (is_at (byte_cmp text)) keys ≡ has_text keys text
has_key [] text = refl
has_key (key ∷ keys) text = rw (is_eq-slice_cmp text key, has_key keys text) refl

-- behind a removal
pub cut : (old new : List (List ℕ)) (text other : List ℕ) → list_any (is_at (byte_cmp other)) new ≡ cond (is_at (byte_cmp text) other) false (list_any (is_at (byte_cmp other)) old) →
    has_text new other ≡ (if bytes_eq text other then false else has_text old other)
cut old new text other is =
    sym (has_key new other) ∙ is
    ∙ ap (λ b. cond b false (list_any (is_at (byte_cmp other)) old)) (is_eq-slice_cmp text other)
    ∙ ap (λ b. cond (bytes_eq text other) false b) (has_key old other)

pub flipped : (a b : List ℕ) → bytes_eq a b ≡ bytes_eq b a
flipped a b = two (bytes_eq a b) (bytes_eq b a) (turned a b) (turned b a)
  where
    turned : (c d : List ℕ) → bytes_eq c d ≡ true → bytes_eq d c ≡ true
    turned c d h = (bytes_eq-Decides d c).1 (sym (same_text c d (sym h)))

    two : (s t : Bool) → (s ≡ true → t ≡ true) → (t ≡ true → s ≡ true) → s ≡ t
    two true t f g = sym (f refl)
    two false true f g = absurd (false≢true (g refl))
    two false false f g = refl
