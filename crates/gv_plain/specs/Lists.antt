-- Facts of lists, of truth values and of results, and no rule: what proofs of this crate and of those above it cite.
use Rattle.std.proofs.Common.{◌≡◌, ℕ, ◌+◌, ◌<◌, Bool, true, false, ◌&&◌, ◌||◌, if◌then◌else◌, cond, List, [], ◌∷◌, ◌++◌, length, map, filter, get_or, drop, drop-cons, add-one, refl, sym, ap, ◌∙◌, Some, append_assoc, length-append, arith}
use Rattle.std.specs.Prelude.{flat_map, slice_get, Result, Ok, Err, OnOk}
use Rattle.std.specs.List.{list_any}
use Rattle.std.proofs.lemmas.Bool.{false≢true}
use Rattle.std.proofs.lemmas.List.Elements.{filter-append}
use Rattle.gv_facts.specs.Places.{places_from}

-- What stands at the places of the items that pass a test.
module _ {X : Type 0} (test : X → Bool) where
  at_length : (front : List X) (x : X) (xs : List X) → slice_get (front ++ x ∷ xs) (length front) ≡ Some x
  at_length [] x xs = refl
  at_length (y ∷ front) x xs = at_length front x xs

  pub items_from : (front xs : List X) → map (slice_get (front ++ xs)) (places_from (length front) test xs) ≡ map Some (filter test xs)
  items_from front [] = refl
  items_from front (x ∷ xs) = by (test x) (at_length front x xs) (shifted (items_from (front ++ x ∷ []) xs))
    where
      shifted : map (slice_get ((front ++ x ∷ []) ++ xs)) (places_from (length (front ++ x ∷ [])) test xs) ≡ map Some (filter test xs)
          → map (slice_get (front ++ x ∷ xs)) (places_from (length front + 1) test xs) ≡ map Some (filter test xs)
      shifted h =
          let whole : (front ++ x ∷ []) ++ xs ≡ front ++ x ∷ xs = append_assoc front (x ∷ []) xs in
          let one_more : length (front ++ x ∷ []) ≡ length front + 1 = omega (arith, length-append front (x ∷ [])) in
          rw (whole, one_more) at h

      by : (b : Bool) → slice_get (front ++ x ∷ xs) (length front) ≡ Some x
          → map (slice_get (front ++ x ∷ xs)) (places_from (length front + 1) test xs) ≡ map Some (filter test xs)
          → map (slice_get (front ++ x ∷ xs)) (if b then length front ∷ places_from (length front + 1) test xs else places_from (length front + 1) test xs)
          ≡ map Some (cond b (x ∷ filter test xs) (filter test xs))
      by true here h = rw (here, h) refl
      by false here h = h

-- what else a test of two parts and more says
pub front_two : (a b c : Bool) → (a && (b && c)) ≡ true → (a && b) ≡ true
front_two true true c h = refl
front_two true false c h = h
front_two false b c h = h

pub any_map : {A B : Type 0} (test : B → Bool) (f : A → B) (xs : List A) → list_any test (map f xs) ≡ list_any (λ x. test (f x)) xs
any_map test f [] = refl
any_map test f (x ∷ xs) = ap (λ r. test (f x) || r) (any_map test f xs)

pub any_among : {A : Type 0} (test other : A → Bool) → ((x : A) → test x ≡ true → other x ≡ true) → (xs : List A) → list_any test (filter other xs) ≡ list_any test xs
any_among test other only [] = refl
any_among test other only (x ∷ xs) = by (other x) refl (test x) refl (any_among test other only xs)
  where
    by : (b : Bool) → other x ≡ b → (c : Bool) → test x ≡ c → list_any test (filter other xs) ≡ list_any test xs → list_any test (filter other (x ∷ xs)) ≡ list_any test (x ∷ xs)
    by true e c f rest = rw e (ap (λ r. test x || r) rest)
    by false e true f rest = absurd (false≢true (sym e ∙ only x f))
    by false e false f rest = rw (e, f) rest

-- lists made of each item
pub filter_flat : {A B : Type 0} (test : B → Bool) (f : A → List B) (xs : List A) → filter test (flat_map f xs) ≡ flat_map (λ x. filter test (f x)) xs
filter_flat test f [] = refl
filter_flat test f (x ∷ xs) = filter-append test (f x) (flat_map f xs) ∙ ap (λ rs. filter test (f x) ++ rs) (filter_flat test f xs)

pub flat_same : {A B : Type 0} (f g : A → List B) → ((x : A) → f x ≡ g x) → (xs : List A) → flat_map f xs ≡ flat_map g xs
flat_same f g e [] = refl
flat_same f g e (x ∷ xs) = ap (λ rs. rs ++ flat_map f xs) (e x) ∙ ap (λ rs. g x ++ rs) (flat_same f g e xs)

pub one_kind : {A B : Type 0} (test : B → Bool) (f : A → B) (b : Bool) → ((x : A) → test (f x) ≡ b) → (xs : List A) → filter test (map f xs) ≡ (if b then map f xs else [])
one_kind test f true e [] = refl
one_kind test f false e [] = refl
one_kind test f true e (x ∷ xs) = rw (e x) (ap (λ rs. f x ∷ rs) (one_kind test f true e xs))
one_kind test f false e (x ∷ xs) = rw (e x) (one_kind test f false e xs)

-- what is left from a place on
pub drop_here : {A : Type 0} (xs : List A) (x : A) (i : ℕ) → i < length xs → x ≡ get_or xs i x → drop i xs ≡ x ∷ drop (i + 1) xs
drop_here xs x i lt here = rw add-one (drop-cons xs i x lt) ∙ ap (λ y. y ∷ drop (i + 1) xs) (sym here)

-- what follows from what an answer says
pub on_ok : {T E P Q : Type 0} (r : Result T E) → (P → Q) → OnOk r P → OnOk r Q
on_ok (Ok x) f h = f h
on_ok (Err x) f h = tt
