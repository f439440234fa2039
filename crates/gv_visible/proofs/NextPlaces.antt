-- The first of the places from a number on.
use Rattle.std.proofs.Common.{◌≡◌, ℕ, ◌+◌, ◌-◌, ◌<◌, ◌≤◌, Bool, true, false, ◌&&◌, not, cond, List, [], ◌∷◌, ◌++◌, length, drop, take, Some, arith, refl, sym, ap, ◌∙◌, append_assoc, length-append}
use Rattle.std.specs.Prelude.{None, Option, filter, if◌then◌else◌, slice_get, slice_index_or, nat_lt, zero, suc}
use Rattle.std.specs.List.{find, AllWithin}
use Rattle.std.specs.List.Sorted.{IsPartitionedBy}
use Rattle.std.specs.Option.{option_map_or}
use Rattle.std.specs.Str.{bytes_eq}
use Rattle.std.proofs.lemmas.List.{length-drop}
use Rattle.std.proofs.Math.Seq.{take-length}
use Rattle.std.proofs.lemmas.Bool.{false≢true, le-ltb, lt-ltb, ltb-false, ltb-true}
use Rattle.gv_atom.specs.declared.atom.Atom.{Atom}
use Rattle.gv_facts.specs.declared.kinds.Level.{Level}
use Rattle.gv_facts.specs.declared.pkg.Pkg.{Pkg}
use Rattle.gv_facts.specs.declared.profile.Profile.{Profile}
use Rattle.gv_facts.specs.Places.{is_pkg_of, places_from, places_of}
use Rattle.gv_visible.specs.VisiblePkgs.{is_from, shows}
use Rattle.gv_visible.specs.PrivateWords.{shows_at}

pub front_three : (a b c d : Bool) → ((a && (b && c)) && d) ≡ true → (a && b) ≡ true
front_three true true c d h = refl
front_three true false c d h = h
front_three false b c d h = h

-- What a cut leaves.

all_fail : (test : ℕ → Bool) (xs : List ℕ) → AllWithin (λ y. test y ≡ false) xs 0 (length xs) → xs ≡ filter (λ y. not (test y)) xs
all_fail test [] h = refl
all_fail test (x ∷ xs) h = rw (h 0 0 (omega arith) (omega arith)) (ap (λ r. x ∷ r) (all_fail test xs (λ k d low high. h (suc k) d (omega arith) (omega (arith, high)))))

-- the numbers behind the place at which a test begins to fail are those that fail it
behind : (test : ℕ → Bool) (xs : List ℕ) (k : ℕ) → AllWithin (λ y. test y ≡ true) xs 0 k → AllWithin (λ y. test y ≡ false) xs k (length xs)
    → drop k xs ≡ filter (λ y. not (test y)) xs
behind test xs zero pass fail = all_fail test xs fail
behind test [] (suc k) pass fail = refl
behind test (x ∷ xs) (suc k) pass fail =
    rw (pass 0 0 (omega arith) (omega arith))
    (behind test xs k (λ j d low high. pass (suc j) d (omega arith) (omega (arith, high))) (λ j d low high. fail (suc j) d (omega (arith, low)) (omega (arith, high))))

pub cut : (test : ℕ → Bool) (xs : List ℕ) (k : ℕ) → AllWithin (λ y. test y ≡ true) xs 0 k → AllWithin (λ y. test y ≡ false) xs k (length xs)
    → take (length xs - k) (drop k xs) ≡ filter (λ y. not (test y)) xs
cut test xs k pass fail = whole (drop k xs) (length-drop k xs) ∙ behind test xs k pass fail
  where
    whole : (ys : List ℕ) → length ys ≡ length xs - k → take (length xs - k) ys ≡ ys
    whole ys same = rw (sym same) (take-length ys)

-- Places rise.

module _ {X : Type 0} (test : X → Bool) where
  above : (n : ℕ) (xs : List X) (j d : ℕ) → j < length (places_from n test xs) → n ≤ slice_index_or (places_from n test xs) j d
  above n [] = λ j d lt. omega (arith, lt)
  above n (x ∷ xs) = by (test x) (above (n + 1) xs)
    where
      by : (b : Bool) → ((j d : ℕ) → j < length (places_from (n + 1) test xs) → n + 1 ≤ slice_index_or (places_from (n + 1) test xs) j d)
          → (j d : ℕ) → j < length (if b then n ∷ places_from (n + 1) test xs else places_from (n + 1) test xs)
          → n ≤ slice_index_or (if b then n ∷ places_from (n + 1) test xs else places_from (n + 1) test xs) j d
      by true h zero d lt = omega arith
      by true h (suc j) d lt = let more = h j d (omega (arith, lt)) in omega (arith, more)
      by false h j d lt = let more = h j d lt in omega (arith, more)

  abbrev pub Rise : List ℕ → Type 0
  Rise ns = (i j d : ℕ) → i ≤ j → j < length ns → slice_index_or ns i d ≤ slice_index_or ns j d

  rise_from : (n : ℕ) (xs : List X) → Rise (places_from n test xs)
  rise_from n [] = λ i j d le lt. omega (arith, lt)
  rise_from n (x ∷ xs) = by (test x) (above (n + 1) xs) (rise_from (n + 1) xs)
    where
      by : (b : Bool) → ((j d : ℕ) → j < length (places_from (n + 1) test xs) → n + 1 ≤ slice_index_or (places_from (n + 1) test xs) j d)
          → Rise (places_from (n + 1) test xs) → Rise (if b then n ∷ places_from (n + 1) test xs else places_from (n + 1) test xs)
      by true least h zero zero d le lt = omega arith
      by true least h zero (suc j) d le lt = let more = least j d (omega (arith, lt)) in omega (arith, more)
      by true least h (suc i) zero d le lt = omega (arith, le)
      by true least h (suc i) (suc j) d le lt = h i j d (omega (arith, le)) (omega (arith, lt))
      by false least h i j d le lt = h i j d le lt

  -- so those below a number come first
  pub below_first : (xs : List X) (from : ℕ) → IsPartitionedBy (λ n. nat_lt n from) (places_of test xs)
  below_first xs from i j d le lt below =
      let under = ltb-true (slice_index_or (places_of test xs) j d) from below in
      let order = rise_from 0 xs i j d le lt in
      lt-ltb (slice_index_or (places_of test xs) i d) from (omega (arith, under, order))

-- The first place is found among those that may pass.

module _ (at from_on : ℕ → Bool) (n : ℕ) (places : List ℕ) (later : Option ℕ) (same : find at places ≡ later) where
  found_here : at n ≡ true → find at (cond (from_on n) (n ∷ places) places) ≡ cond (from_on n) (Some n) later
  found_here here = by (from_on n)
    where
      by : (b : Bool) → find at (cond b (n ∷ places) places) ≡ cond b (Some n) later
      by true = rw here refl
      by false = same

  passed_here : at n ≡ false → find at (cond (from_on n) (n ∷ places) places) ≡ later
  passed_here here = by (from_on n)
    where
      by : (b : Bool) → find at (cond b (n ∷ places) places) ≡ later
      by true = rw here same
      by false = same

module _ {X : Type 0} (test first : X → Bool) (implied : (x : X) → test x ≡ true → first x ≡ true) (from : ℕ) where
  abbrev passes_at : List X → ℕ → Bool
  passes_at xs n = option_map_or test (slice_get xs n) false

  at_length : (front : List X) (x : X) (xs : List X) → passes_at (front ++ x ∷ xs) (length front) ≡ test x
  at_length [] x xs = refl
  at_length (y ∷ front) x xs = at_length front x xs

  found_from : (front xs : List X)
      → find (passes_at (front ++ xs)) (filter (is_from from) (places_from (length front) first xs)) ≡ find (is_from from) (places_from (length front) test xs)
  found_from front [] = refl
  found_from front (x ∷ xs) = by (test x) (first x) (implied x) (at_length front x xs) (shifted (found_from (front ++ x ∷ []) xs))
    where
      shifted : find (passes_at ((front ++ x ∷ []) ++ xs)) (filter (is_from from) (places_from (length (front ++ x ∷ [])) first xs)) ≡ find (is_from from) (places_from (length (front ++ x ∷ [])) test xs)
          → find (passes_at (front ++ x ∷ xs)) (filter (is_from from) (places_from (length front + 1) first xs)) ≡ find (is_from from) (places_from (length front + 1) test xs)
      shifted h =
          let whole : (front ++ x ∷ []) ++ xs ≡ front ++ x ∷ xs = append_assoc front (x ∷ []) xs in
          let one_more : length (front ++ x ∷ []) ≡ length front + 1 = omega (arith, length-append front (x ∷ [])) in
          rw (whole, one_more) at h

      by : (b c : Bool) → (b ≡ true → c ≡ true) → passes_at (front ++ x ∷ xs) (length front) ≡ b
          → find (passes_at (front ++ x ∷ xs)) (filter (is_from from) (places_from (length front + 1) first xs)) ≡ find (is_from from) (places_from (length front + 1) test xs)
          → find (passes_at (front ++ x ∷ xs)) (filter (is_from from) (if c then length front ∷ places_from (length front + 1) first xs else places_from (length front + 1) first xs))
          ≡ find (is_from from) (if b then length front ∷ places_from (length front + 1) test xs else places_from (length front + 1) test xs)
      by true true i here h = found_here (passes_at (front ++ x ∷ xs)) (is_from from) (length front) (filter (is_from from) (places_from (length front + 1) first xs)) (find (is_from from) (places_from (length front + 1) test xs)) h here
      by true false i here h = absurd (false≢true (i refl))
      by false true i here h = passed_here (passes_at (front ++ x ∷ xs)) (is_from from) (length front) (filter (is_from from) (places_from (length front + 1) first xs)) (find (is_from from) (places_from (length front + 1) test xs)) h here
      by false false i here h = h

-- a package that the atom asks for has the atom's category and name
pub found : (profile : Profile) (level : Level) (a : Atom) (pkgs : List Pkg) (from : ℕ)
    → find (shows_at profile level a pkgs) (filter (is_from from) (places_of (is_pkg_of a.category a.name) pkgs)) ≡ find (is_from from) (places_of (shows profile level a) pkgs)
found profile level a pkgs from = found_from (shows profile level a) (is_pkg_of a.category a.name) of_name from [] pkgs
  where
    of_name : (p : Pkg) → shows profile level a p ≡ true → is_pkg_of a.category a.name p ≡ true
    of_name p h = front_three (bytes_eq a.category p.category) (bytes_eq a.name p.name) _ _ h

-- The places from a number on are the first of them and those behind it.

abbrev pub ByFirst : ℕ → List ℕ → Type 0
ByFirst from places = filter (is_from from) places ≡ option_map_or (λ k. k ∷ filter (is_from (k + 1)) places) (find (is_from from) places) []

not_true : (b : Bool) → not b ≡ true → b ≡ false
not_true true h = sym h
not_true false h = refl

below_next : (n : ℕ) → is_from (n + 1) n ≡ false
below_next n = ap not (lt-ltb n (n + 1) (omega arith))

not_below : (from n : ℕ) → from ≤ n → is_from from n ≡ true
not_below from n le = ap not (le-ltb n from le)

module _ {X : Type 0} (test : X → Bool) where
  all_from : (from n : ℕ) (xs : List X) → from ≤ n → filter (is_from from) (places_from n test xs) ≡ places_from n test xs
  all_from from n [] le = refl
  all_from from n (x ∷ xs) le = by (test x) (all_from from (n + 1) xs (omega (arith, le)))
    where
      by : (b : Bool) → filter (is_from from) (places_from (n + 1) test xs) ≡ places_from (n + 1) test xs
          → filter (is_from from) (if b then n ∷ places_from (n + 1) test xs else places_from (n + 1) test xs) ≡ (if b then n ∷ places_from (n + 1) test xs else places_from (n + 1) test xs)
      by true h = rw (not_below from n le) (ap (λ r. n ∷ r) h)
      by false h = h

  found_above : (p : ℕ → Bool) (n : ℕ) (xs : List X) (k : ℕ) → find p (places_from n test xs) ≡ Some k → n ≤ k
  found_above p n [] k is = absurd cc
  found_above p n (x ∷ xs) k is = by (test x) (λ later. omega (arith, found_above p (n + 1) xs k later)) is
    where
      here : (b : Bool) → (find p (places_from (n + 1) test xs) ≡ Some k → n ≤ k) → cond b (Some n) (find p (places_from (n + 1) test xs)) ≡ Some k → n ≤ k
      here true h i = let same : n ≡ k = cc in omega (arith, same)
      here false h i = h i

      by : (b : Bool) → (find p (places_from (n + 1) test xs) ≡ Some k → n ≤ k) → find p (if b then n ∷ places_from (n + 1) test xs else places_from (n + 1) test xs) ≡ Some k → n ≤ k
      by true h i = here (p n) h i
      by false h i = h i

  by_first : (from n : ℕ) (xs : List X) → ByFirst from (places_from n test xs)
  by_first from n [] = refl
  by_first from n (x ∷ xs) = by (test x) (by_first from (n + 1) xs)
    where
      passed : (k : ℕ) → n + 1 ≤ k → filter (is_from (k + 1)) (n ∷ places_from (n + 1) test xs) ≡ filter (is_from (k + 1)) (places_from (n + 1) test xs)
      passed k le = let below : is_from (k + 1) n ≡ false = ap not (lt-ltb n (k + 1) (omega (arith, le))) in rw below refl

      same : (o : Option ℕ) → ((k : ℕ) → o ≡ Some k → n + 1 ≤ k)
          → option_map_or (λ k. k ∷ filter (is_from (k + 1)) (places_from (n + 1) test xs)) o [] ≡ option_map_or (λ k. k ∷ filter (is_from (k + 1)) (n ∷ places_from (n + 1) test xs)) o []
      same None above_it = refl
      same (Some k) above_it = ap (λ r. k ∷ r) (sym (passed k (above_it k refl)))

      here : (b : Bool) → is_from from n ≡ b → ByFirst from (places_from (n + 1) test xs)
          → cond b (n ∷ filter (is_from from) (places_from (n + 1) test xs)) (filter (is_from from) (places_from (n + 1) test xs))
          ≡ option_map_or (λ k. k ∷ filter (is_from (k + 1)) (n ∷ places_from (n + 1) test xs)) (cond b (Some n) (find (is_from from) (places_from (n + 1) test xs))) []
      here true is h =
          let le = ltb-false n from (not_true (nat_lt n from) is) in
          ap (λ r. n ∷ r) (all_from from (n + 1) xs (omega (arith, le)) ∙ sym (all_from (n + 1) (n + 1) xs (omega arith)))
          ∙ rw (below_next n) refl
      here false is h = h ∙ same (find (is_from from) (places_from (n + 1) test xs)) (found_above (is_from from) (n + 1) xs)

      by : (b : Bool) → ByFirst from (places_from (n + 1) test xs) → ByFirst from (if b then n ∷ places_from (n + 1) test xs else places_from (n + 1) test xs)
      by true h = here (is_from from n) refl h
      by false h = h

pub rest : {X : Type 0} (test : X → Bool) (from : ℕ) (xs : List X) → ByFirst from (places_of test xs)
rest test from xs = by_first test from 0 xs
