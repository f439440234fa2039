-- Texts that lack a byte: where they are cut or split at it.
use Rattle.std.proofs.Common.{◌≡◌, ℕ, Bool, true, false, not, List, [], ◌∷◌, ◌++◌, refl, ap, sym, ◌∙◌, one-add}
use Rattle.std.proofs.lemmas.Bool.{false≢true, and_parts, and_from}
use Rattle.std.proofs.lemmas.Bool.Decides.{Decides-eqb}
use Rattle.std.specs.Prelude.{◌==◌}
use Rattle.std.specs.List.{list_all, slice_split, onto_first}
use Rattle.gv_base.specs.Cut.{from_first, up_to_first}

abbrev pub lacks : ℕ → List ℕ → Bool
lacks c text = list_all (λ b. not (b == c)) text

-- bytes that pass a test that this one fails
pub other : (test : ℕ → Bool) (c b : ℕ) → test c ≡ false → test b ≡ true → not (b == c) ≡ true
other test c b fails passes = by (b == c) refl
  where
    by : (same : Bool) → (b == c) ≡ same → not same ≡ true
    by false e = refl
    by true e = absurd (false≢true (sym fails ∙ (ap test (sym ((Decides-eqb b c).0 e)) ∙ passes)))

pub lacks_failing : (test : ℕ → Bool) (c : ℕ) (text : List ℕ) → test c ≡ false → list_all test text ≡ true → lacks c text ≡ true
lacks_failing test c [] fails h = refl
lacks_failing test c (b ∷ bs) fails h =
    let parts = and_parts (test b) (list_all test bs) h in
    and_from (not (b == c)) (lacks c bs) (other test c b fails parts.0) (lacks_failing test c bs fails parts.1)

pub lacks_both : (c : ℕ) (x y : List ℕ) → lacks c x ≡ true → lacks c y ≡ true → lacks c (x ++ y) ≡ true
lacks_both c [] y h k = k
lacks_both c (b ∷ bs) y h k =
    let parts = and_parts (not (b == c)) (lacks c bs) h in
    and_from (not (b == c)) (lacks c (bs ++ y)) parts.0 (lacks_both c bs y parts.1 k)

pub not_true : (b : Bool) → not b ≡ true → b ≡ false
not_true false h = refl
not_true true h = absurd (false≢true h)

-- the byte itself
same_byte : (c : ℕ) → (c == c) ≡ true
same_byte c = (Decides-eqb c c).1 refl

pub split_none : (c : ℕ) (text : List ℕ) → lacks c text ≡ true → slice_split (λ b. b == c) text ≡ text ∷ []
split_none c [] h = refl
split_none c (b ∷ bs) h =
    let parts = and_parts (not (b == c)) (lacks c bs) h in
    rw (not_true (b == c) parts.0) (ap (onto_first b) (split_none c bs parts.1))

pub split_there : (c : ℕ) (x y : List ℕ) → lacks c x ≡ true → slice_split (λ b. b == c) (x ++ c ∷ y) ≡ x ∷ slice_split (λ b. b == c) y
split_there c [] y h = rw (same_byte c) refl
split_there c (b ∷ bs) y h =
    let parts = and_parts (not (b == c)) (lacks c bs) h in
    rw (not_true (b == c) parts.0) (ap (onto_first b) (split_there c bs y parts.1))

-- a text is cut where the other begins, which is empty or begins with the byte
pub front_none : (c : ℕ) (x : List ℕ) → lacks c x ≡ true → up_to_first c x ≡ x
front_none c [] h = refl
front_none c (b ∷ bs) h =
    let parts = and_parts (not (b == c)) (lacks c bs) h in
    rw (not_true (b == c) parts.0, one-add) (ap (λ z. b ∷ z) (front_none c bs parts.1))

pub rest_none : (c : ℕ) (x : List ℕ) → lacks c x ≡ true → from_first c x ≡ []
rest_none c [] h = refl
rest_none c (b ∷ bs) h =
    let parts = and_parts (not (b == c)) (lacks c bs) h in
    rw (not_true (b == c) parts.0, one-add) (rest_none c bs parts.1)

pub front_there : (c : ℕ) (x y : List ℕ) → lacks c x ≡ true → up_to_first c (x ++ c ∷ y) ≡ x
front_there c [] y h = rw (same_byte c) refl
front_there c (b ∷ bs) y h =
    let parts = and_parts (not (b == c)) (lacks c bs) h in
    rw (not_true (b == c) parts.0, one-add) (ap (λ z. b ∷ z) (front_there c bs y parts.1))

pub rest_there : (c : ℕ) (x y : List ℕ) → lacks c x ≡ true → from_first c (x ++ c ∷ y) ≡ c ∷ y
rest_there c [] y h = rw (same_byte c) refl
rest_there c (b ∷ bs) y h =
    let parts = and_parts (not (b == c)) (lacks c bs) h in
    rw (not_true (b == c) parts.0, one-add) (rest_there c bs y parts.1)
