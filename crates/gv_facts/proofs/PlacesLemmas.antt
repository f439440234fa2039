-- The places of a list with one more item.
use Rattle.std.proofs.Common.{◌≡◌, ℕ, zero, suc, ◌+◌, Bool, true, false, List, [], ◌∷◌, ◌++◌, length, arith, map, filter, Some, refl, append_assoc, length-append, sym, ap, subst, ◌∙◌}
use Rattle.std.specs.Prelude.{◌&&◌, if◌then◌else◌, slice_get, slice_set}
use Rattle.std.specs.Option.{option_map_or}
use Rattle.std.proofs.lemmas.Slice.Eq.{bytes_eq-Decides}
use Rattle.std.specs.Cmp.Lexicographic.{same_text}
use Rattle.std.specs.Str.{bytes_eq}
use Rattle.std.proofs.lemmas.Bool.{and_parts, false≢true}
use Rattle.gv_atom.specs.declared.atom.Atom.{Atom}
use Rattle.gv_atom.specs.Matching.{matches_named}
use Rattle.gv_facts.specs.declared.pkg.Pkg.{Pkg}
use Rattle.gv_facts.specs.Places.{is_pkg_of, places_from, places_of}
use Rattle.gv_facts.specs.Visible.{matches_pkg}

pub same_flag : (f : List ℕ) → bytes_eq f f ≡ true
same_flag f = (bytes_eq-Decides f f).1 refl

pub turned : (a b : List ℕ) → bytes_eq a b ≡ bytes_eq b a
turned a b = by (bytes_eq a b) (bytes_eq b a) refl refl
  where
    by : (x y : Bool) → bytes_eq a b ≡ x → bytes_eq b a ≡ y → x ≡ y
    by true y e f = sym (subst (λ z. bytes_eq z a ≡ true) (same_text a b (sym e)) (same_flag a)) ∙ f
    by false true e f = sym e ∙ subst (λ z. bytes_eq z b ≡ true) (same_text b a (sym f)) (same_flag b)
    by false false e f = refl

module _ {A : Type 0} (test : A → Bool) (x : A) where
  from_more : (xs : List A) (n : ℕ) → places_from n test (xs ++ x ∷ []) ≡ (if test x then places_from n test xs ++ (n + length xs) ∷ [] else places_from n test xs)
  from_more [] n = let none : n ≡ n + 0 = omega (arith) in ap (λ m. if test x then m ∷ [] else []) none
  from_more (y ∷ ys) n = by (test y) (test x) (from_more ys (n + 1))
    where
      one : n + 1 + length ys ≡ n + length (y ∷ ys)
      one = omega (arith)

      by : (b c : Bool) → places_from (n + 1) test (ys ++ x ∷ []) ≡ (if c then places_from (n + 1) test ys ++ (n + 1 + length ys) ∷ [] else places_from (n + 1) test ys)
          → (if b then n ∷ places_from (n + 1) test (ys ++ x ∷ []) else places_from (n + 1) test (ys ++ x ∷ []))
          ≡ (if c then (if b then n ∷ places_from (n + 1) test ys else places_from (n + 1) test ys) ++ (n + length (y ∷ ys)) ∷ [] else (if b then n ∷ places_from (n + 1) test ys else places_from (n + 1) test ys))
      by true true h = ap (λ r. n ∷ r) (h ∙ ap (λ m. places_from (n + 1) test ys ++ m ∷ []) one)
      by true false h = ap (λ r. n ∷ r) h
      by false true h = h ∙ ap (λ m. places_from (n + 1) test ys ++ m ∷ []) one
      by false false h = h

  -- the place of an item that came is added where the item passes
  pub one_more : (xs : List A) (old new : List ℕ) (place : ℕ) (passes : Bool) → passes ≡ test x → place ≡ length xs → old ≡ places_of test xs
      → new ≡ (if passes then old ++ place ∷ [] else old) → new ≡ places_of test (xs ++ x ∷ [])
  one_more xs old new place passes is at has more =
      let none : length xs ≡ 0 + length xs = omega (arith) in
      more ∙ rw (is, at, has) (ap (λ n. if test x then places_of test xs ++ n ∷ [] else places_of test xs) none) ∙ sym (from_more xs 0)

-- at the places of the items that pass stand these items, in their order
module _ {A : Type 0} (test : A → Bool) where
  at_length : (front : List A) (x : A) (xs : List A) → slice_get (front ++ x ∷ xs) (length front) ≡ Some x
  at_length [] x xs = refl
  at_length (y ∷ front) x xs = at_length front x xs

  at_from : (front xs : List A) → map (slice_get (front ++ xs)) (places_from (length front) test xs) ≡ map Some (filter test xs)
  at_from front [] = refl
  at_from front (x ∷ xs) = by (test x) (shifted (at_from (front ++ x ∷ []) xs))
    where
      shifted : map (slice_get ((front ++ x ∷ []) ++ xs)) (places_from (length (front ++ x ∷ [])) test xs) ≡ map Some (filter test xs)
          → map (slice_get (front ++ x ∷ xs)) (places_from (length front + 1) test xs) ≡ map Some (filter test xs)
      shifted h =
          let whole : (front ++ x ∷ []) ++ xs ≡ front ++ x ∷ xs = append_assoc front (x ∷ []) xs in
          let one_more : length (front ++ x ∷ []) ≡ length front + 1 = omega (arith, length-append front (x ∷ [])) in
          rw (whole, one_more) at h

      by : (b : Bool) → map (slice_get (front ++ x ∷ xs)) (places_from (length front + 1) test xs) ≡ map Some (filter test xs)
          → map (slice_get (front ++ x ∷ xs)) (if b then length front ∷ places_from (length front + 1) test xs else places_from (length front + 1) test xs)
          ≡ map Some (if b then x ∷ filter test xs else filter test xs)
      by true h = ap (λ os. slice_get (front ++ x ∷ xs) (length front) ∷ os) h ∙ ap (λ o. o ∷ map Some (filter test xs)) (at_length front x xs)
      by false h = h

  pub at_places : (xs : List A) → map (slice_get xs) (places_of test xs) ≡ map Some (filter test xs)
  at_places xs = at_from [] xs

-- An item in the place of one that passes as it does leaves all places.
module _ {A : Type 0} (test : A → Bool) where
  pub from_set : (n : ℕ) (xs : List A) (place : ℕ) (x : A) → ((old : A) → slice_get xs place ≡ Some old → test x ≡ test old)
      → places_from n test (slice_set xs place x) ≡ places_from n test xs
  from_set n [] place x alike = refl
  from_set n (y ∷ ys) zero x alike = ap (λ b. if b then n ∷ places_from (n + 1) test ys else places_from (n + 1) test ys) (alike y refl)
  from_set n (y ∷ ys) (suc place) x alike = ap (λ r. if test y then n ∷ r else r) (from_set (n + 1) ys place x alike)

-- a package of the same category and name
pub same_places : (pkgs : List Pkg) (place : ℕ) (p : Pkg) → option_map_or (is_pkg_of p.category p.name) (slice_get pkgs place) false ≡ true
    → (category name : List ℕ) → places_of (is_pkg_of category name) (slice_set pkgs place p) ≡ places_of (is_pkg_of category name) pkgs
same_places pkgs place p there category name = from_set (is_pkg_of category name) 0 pkgs place p alike
  where
    alike : (old : Pkg) → slice_get pkgs place ≡ Some old → is_pkg_of category name p ≡ is_pkg_of category name old
    alike old here =
        let parts = and_parts (bytes_eq p.category old.category) (bytes_eq p.name old.name) (ap (λ o. option_map_or (is_pkg_of p.category p.name) o false) (sym here) ∙ there) in
        ap (λ c. bytes_eq category c && bytes_eq name p.name) (same_text p.category old.category (sym parts.0)) ∙ ap (λ m. bytes_eq category old.category && bytes_eq name m) (same_text p.name old.name (sym parts.1))

both_hold : (x y z : Bool) → (x && y) ≡ true → z ≡ (x && (y && z))
both_hold true true z h = refl
both_hold true false z h = absurd (false≢true h)
both_hold false y z h = absurd (false≢true h)

-- of a package with the atom's category and name
pub named_matches : (a : Atom) (p : Pkg) → is_pkg_of a.category a.name p ≡ true → matches_named a p.version p.slot p.sub ≡ matches_pkg a p
named_matches a p h = both_hold (bytes_eq a.category p.category) (bytes_eq a.name p.name) (matches_named a p.version p.slot p.sub) h
