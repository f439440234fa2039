-- A text that is split at a byte: its first piece, and those behind it.
use Rattle.std.proofs.Common.{◌≡◌, ℕ, ◌-◌, ◌<◌, Bool, true, false, ◌&&◌, not, List, [], ◌∷◌, ◌++◌, length, take, drop, refl, ap, sym, ◌∙◌, Some, None, if◌then◌else◌, arith, one-add, append-nil}
use Rattle.std.proofs.lemmas.Bool.{and_parts}
use Rattle.std.specs.Prelude.{◌==◌, codes}
use Rattle.std.specs.List.{slice_split, onto_first, list_all}
use Rattle.std.specs.Str.{byte}
use Rattle.gv_base.specs.Cut.{from_first, up_to_first}
use Rattle.gv_version.specs.Bytes.{is_one_of, begins_with}
use Rattle.gv_version.specs.Names.{is_slot, is_category_byte}
use Rattle.gv_atom.specs.declared.atom.SlotNeed.TheVariants.{Both}
use Rattle.gv_atom.specs.Reading.{need_of}
use Rattle.gv_atom.proofs.Lacks.{lacks_failing, split_none}
use Rattle.gv_atom.proofs.Pieces.{cut}

abbrev pieces_behind : ℕ → List ℕ → List (List ℕ)
pieces_behind c [] = []
pieces_behind c (b ∷ bs) = slice_split (λ x. x == c) bs

pub split_cut : (c : ℕ) (text : List ℕ) → slice_split (λ x. x == c) text ≡ up_to_first c text ∷ pieces_behind c (from_first c text)
split_cut c [] = refl
split_cut c (b ∷ bs) = by (b == c) refl (split_cut c bs)
  where
    by : (here : Bool) → (b == c) ≡ here → slice_split (λ x. x == c) bs ≡ up_to_first c bs ∷ pieces_behind c (from_first c bs)
        → slice_split (λ x. x == c) (b ∷ bs) ≡ up_to_first c (b ∷ bs) ∷ pieces_behind c (from_first c (b ∷ bs))
    by true e later = rw e refl
    by false e later = rw (e, one-add) (ap (onto_first b) later)

-- where nothing is left, and where something is
pub one_text : (c : ℕ) (text : List ℕ) → length (from_first c text) < 1 → slice_split (λ x. x == c) text ≡ up_to_first c text ∷ []
one_text c text h = split_cut c text ∙ by (from_first c text) h
  where
    by : (rest : List ℕ) → length rest < 1 → up_to_first c text ∷ pieces_behind c rest ≡ up_to_first c text ∷ []
    by [] h = refl
    by (b ∷ bs) h = absurd (omega arith)

all_taken : (xs : List ℕ) → take (length xs) xs ≡ xs
all_taken [] = refl
all_taken (x ∷ xs) = ap (λ ys. x ∷ ys) (all_taken xs)

pub more_texts : (c : ℕ) (text : List ℕ) → 0 < length (from_first c text)
    → slice_split (λ x. x == c) text ≡ up_to_first c text ∷ slice_split (λ x. x == c) (take (length (from_first c text) - 1) (drop 1 (from_first c text)))
more_texts c text h = split_cut c text ∙ by (from_first c text) h
  where
    by : (rest : List ℕ) → 0 < length rest → up_to_first c text ∷ pieces_behind c rest ≡ up_to_first c text ∷ slice_split (λ x. x == c) (take (length rest - 1) (drop 1 rest))
    by [] h = absurd (omega arith)
    by (b ∷ bs) h =
        let e : length (b ∷ bs) - 1 ≡ length bs = omega arith in
        rw (e, all_taken bs) refl

-- What a slot part's text asks for.
pub no_slot : (slot : List ℕ) (behind : List (List ℕ)) → is_slot slot ≡ false → need_of (slot ∷ behind) ≡ None
no_slot slot [] h = rw h refl
no_slot slot (sub ∷ []) h = rw h refl
no_slot slot (sub ∷ x ∷ xs) h = refl

pub slot_bytes : (slot : List ℕ) → is_slot slot ≡ true → list_all is_category_byte slot ≡ true
slot_bytes [] h = refl
slot_bytes (b ∷ bs) h = (and_parts (list_all is_category_byte (b ∷ bs)) (not (begins_with (is_one_of (codes "-.+")) (b ∷ bs))) h).0

pub with_sub : (slot sub : List ℕ) → is_slot slot ≡ true → is_slot sub ≡ true → need_of (slot ∷ slice_split (λ x. x == byte "/") sub) ≡ Some (Both slot sub)
with_sub slot sub h k = rw (split_none (byte "/") sub (lacks_failing is_category_byte (byte "/") sub refl (slot_bytes sub k)), h, k) refl

pub no_sub : (slot sub : List ℕ) → is_slot sub ≡ false → need_of (slot ∷ slice_split (λ x. x == byte "/") sub) ≡ None
no_sub slot sub h = by (from_first (byte "/") sub) refl
  where
    third : (front more : List ℕ) → need_of (slot ∷ front ∷ slice_split (λ x. x == byte "/") more) ≡ None
    third front more = rw (split_cut (byte "/") more) refl

    one : need_of (slot ∷ sub ∷ []) ≡ None
    one = slots (is_slot slot) (is_slot sub) h
      where
        slots : (a b : Bool) → b ≡ false → (if a && b then Some (Both slot sub) else None) ≡ None
        slots true b e = rw e refl
        slots false b e = refl

    by : (rest : List ℕ) → from_first (byte "/") sub ≡ rest → need_of (slot ∷ slice_split (λ x. x == byte "/") sub) ≡ None
    by [] e =
        let whole : up_to_first (byte "/") sub ≡ sub = sym (append-nil (up_to_first (byte "/") sub)) ∙ (ap (λ z. up_to_first (byte "/") sub ++ z) (sym e) ∙ cut (byte "/") sub) in
        rw (split_cut (byte "/") sub, e, whole) one
    by (b ∷ bs) e = rw (split_cut (byte "/") sub, e) (third (up_to_first (byte "/") sub) bs)
