-- Packages that others of the same order place are put in the places of: they are put together in order.
use Rattle.std.proofs.Common.{◌≡◌, ℕ, zero, suc, ◌+◌, ◌<◌, Bool, true, false, cond, ◌&&◌, List, [], ◌∷◌, ◌++◌, length, map, refl, sym, ap, subst, ◌∙◌, eqb-true, arith}
use Rattle.std.specs.Prelude.{not, filter, slice_get, slice_set, if◌then◌else◌, ⊤}
use Rattle.std.specs.Cmp.{IsTotalOrder}
use Rattle.std.specs.List.{AllByRecursion}
use Rattle.std.specs.List.Sorted.{IsStrictlySortedBy}
use Rattle.std.specs.Option.{option_map_or}
use Rattle.std.specs.Ordering.{is_eq, ordering_reverse, ordering_then}
use Rattle.std.specs.Str.{bytes_eq}
use Rattle.std.specs.declared.cmp.Ordering.{Ordering}
use Rattle.std.specs.declared.cmp.Ordering.TheVariants.{Less, Equal, Greater}
use Rattle.std.proofs.lemmas.Cmp.{on_total}
use Rattle.std.proofs.lemmas.Bool.{and_parts, false≢true}
use Rattle.std.proofs.lemmas.Map.Lookups.{exact_bytes}
use Rattle.std.proofs.lemmas.Slice.Eq.{bytes_eq-Decides}
use Rattle.gv_base.specs.Order.{byte_cmp}
use Rattle.gv_entry.specs.declared.entry.Body.{Body}
use Rattle.gv_facts.specs.Places.{is_pkg_of, places_from, places_of}
use Rattle.gv_facts.specs.declared.pkg.Pkg.{Pkg}
use Rattle.gv_report.specs.OrderTotal.{subject_total}
use Rattle.gv_version.specs.Order.{compare}
use Rattle.gv_reload.specs.EntryEdits.{is_edited_pkg, is_other, together}
use Rattle.gv_reload.specs.Exchanged.{are_at, are_exchangeable, edited_places, have_bodies, is_at, set_all}
use Rattle.gv_load.specs.MemberOrder.{member_total}
use Rattle.gv_reload.specs.Replacing.{is_of_edited}
use Rattle.gv_load.specs.Repository.{AreInPackageOrder, body_of, in_package_order, member_cmp, pkg_cmp, pkg_of, subject_of}
use Rattle.gv_load.specs.declared.members.Member.{Member}
use Rattle.gv_load.specs.declared.members.Packages.{Packages}
use Rattle.gv_reload.proofs.Partings.{ascends_filter, passes_all, put_together, puts_ascending}
use Rattle.gv_reload.proofs.Replaces.{alike, bodies_of, both_equal, members_ascend, pkgs_of, ties}

-- ---- lists that tie, item by item
module _ {K : Type 0} {cmp : K → K → Ordering} (total : IsTotalOrder cmp) where
  abbrev pub Tied : List K → List K → Type 0
  Tied [] [] = ⊤
  Tied [] (y ∷ ys) = ⊥
  Tied (x ∷ xs) [] = ⊥
  Tied (x ∷ xs) (y ∷ ys) = (cmp x y ≡ Equal) × Tied xs ys

  less_tied : (x y z w : K) → cmp x y ≡ Equal → cmp z w ≡ Equal → cmp x z ≡ Less → cmp y w ≡ Less
  less_tied x y z w e f less =
      total.antisymm y w ∙ ap ordering_reverse (sym (total.congr z w y f)) ∙ sym (total.antisymm y z) ∙ sym (total.congr x y z e) ∙ less

  below_tied : (x y : K) → cmp x y ≡ Equal → (xs ys : List K) → Tied xs ys → AllByRecursion (λ z. cmp x z ≡ Less) xs → AllByRecursion (λ z. cmp y z ≡ Less) ys
  below_tied x y e [] [] t all = tt
  below_tied x y e [] (w ∷ ws) t all = absurd t
  below_tied x y e (z ∷ zs) [] t all = absurd t
  below_tied x y e (z ∷ zs) (w ∷ ws) t all = (less_tied x y z w e t.0 all.0, below_tied x y e zs ws t.1 all.1)

  pub ascends_tied : (xs ys : List K) → Tied xs ys → IsStrictlySortedBy cmp xs → IsStrictlySortedBy cmp ys
  unfolding IsStrictlySortedBy
  ascends_tied [] [] t a = tt
  ascends_tied [] (y ∷ ys) t a = absurd t
  ascends_tied (x ∷ xs) [] t a = absurd t
  ascends_tied (x ∷ xs) (y ∷ ys) t a = (below_tied x y t.0 xs ys t.1 a.0, ascends_tied xs ys t.1 a.1)

  itself : (x : K) → cmp x x ≡ Equal
  itself x = by (cmp x x) (total.antisymm x x)
    where
      by : (r : Ordering) → r ≡ ordering_reverse r → r ≡ Equal
      by Less e = cc
      by Equal e = refl
      by Greater e = cc

  turned_tie : (x y : K) → cmp x y ≡ Equal → cmp y x ≡ Equal
  turned_tie x y e = total.antisymm y x ∙ ap ordering_reverse e

-- ---- places behind a first item
module _ {A : Type 0} where
  behind_first : (test : A → Bool) (n : ℕ) (xs : List A) → places_from (suc n) test xs ≡ map suc (places_from n test xs)
  behind_first test n [] = refl
  behind_first test n (x ∷ xs) = by (test x) (ap (λ m. places_from m test xs) more ∙ behind_first test (n + 1) xs)
    where
      more : suc n + 1 ≡ suc (n + 1)
      more = omega arith

      by : (b : Bool) → places_from (suc n + 1) test xs ≡ map suc (places_from (n + 1) test xs)
          → (if b then suc n ∷ places_from (suc n + 1) test xs else places_from (suc n + 1) test xs)
          ≡ map suc (if b then n ∷ places_from (n + 1) test xs else places_from (n + 1) test xs)
      by true h = ap (λ ps. suc n ∷ ps) h
      by false h = h

  set_behind : (x : A) (xs : List A) (places : List ℕ) (ys : List A) → set_all (x ∷ xs) (map suc places) ys ≡ x ∷ set_all xs places ys
  set_behind x xs [] ys = refl
  set_behind x xs (p ∷ ps) [] = refl
  set_behind x xs (p ∷ ps) (y ∷ ys) = set_behind x (slice_set xs p y) ps ys

  length_set : (xs : List A) (place : ℕ) (y : A) → length (slice_set xs place y) ≡ length xs
  length_set [] place y = refl
  length_set (x ∷ xs) zero y = refl
  length_set (x ∷ xs) (suc place) y = ap (λ n. suc n) (length_set xs place y)

  map_set : {B : Type 0} (f : A → B) (xs : List A) (place : ℕ) (y : A) → slice_set (map f xs) place (f y) ≡ map f (slice_set xs place y)
  map_set f [] place y = refl
  map_set f (x ∷ xs) zero y = refl
  map_set f (x ∷ xs) (suc place) y = ap (λ zs. f x ∷ zs) (map_set f xs place y)

  map_set_all : {B : Type 0} (f : A → B) (xs : List A) (places : List ℕ) (ys : List A) → set_all (map f xs) places (map f ys) ≡ map f (set_all xs places ys)
  map_set_all f xs [] ys = refl
  map_set_all f xs (p ∷ ps) [] = refl
  map_set_all f xs (p ∷ ps) (y ∷ ys) = ap (λ zs. set_all zs ps (map f ys)) (map_set f xs p y) ∙ map_set_all f (slice_set xs p y) ps ys

at_behind : (p : Pkg) (pkgs : List Pkg) (places : List ℕ) (qs : List Pkg) → are_at (p ∷ pkgs) (map suc places) qs ≡ are_at pkgs places qs
at_behind p pkgs [] [] = refl
at_behind p pkgs [] (q ∷ qs) = refl
at_behind p pkgs (n ∷ ns) [] = refl
at_behind p pkgs (n ∷ ns) (q ∷ qs) = ap (λ b. is_at pkgs n q && b) (at_behind p pkgs ns qs)

places_mapped : (test : Pkg → Bool) (n : ℕ) (ms : List Member) → places_from n test (map pkg_of ms) ≡ places_from n (λ m. test (pkg_of m)) ms
places_mapped test n [] = refl
places_mapped test n (m ∷ ms) = ap (λ ps. if test (pkg_of m) then n ∷ ps else ps) (places_mapped test (n + 1) ms)

filter_mapped : (test : Pkg → Bool) (ms : List Member) → filter test (map pkg_of ms) ≡ map pkg_of (filter (λ m. test (pkg_of m)) ms)
filter_mapped test [] = refl
filter_mapped test (m ∷ ms) = by (test (pkg_of m)) (filter_mapped test ms)
  where
    by : (b : Bool) → filter test (map pkg_of ms) ≡ map pkg_of (filter (λ k. test (pkg_of k)) ms)
        → cond b (pkg_of m ∷ filter test (map pkg_of ms)) (filter test (map pkg_of ms)) ≡ map pkg_of (cond b (m ∷ filter (λ k. test (pkg_of k)) ms) (filter (λ k. test (pkg_of k)) ms))
    by true h = ap (λ ps. pkg_of m ∷ ps) h
    by false h = h

-- ---- those that are put in the places: all tie, the others stay, and these are the edited ones
record IsExchanged (q : Member → Bool) (ms ns all : List Member) : Type 0 where
  tied : Tied member_total ms all
  others : filter (λ m. not (q m)) all ≡ filter (λ m. not (q m)) ms
  these : filter q all ≡ ns

abbrev Exchanges : (Member → Bool) → List Member → Type 0
Exchanges q ms = (ns : List Member) → AllByRecursion (λ n. q n ≡ true) ns → are_at (map pkg_of ms) (places_of q ms) (map pkg_of ns) ≡ true
    → IsExchanged q ms ns (set_all ms (places_of q ms) ns)

exchanges : (q : Member → Bool) (ms : List Member) → Exchanges q ms
exchanges q [] [] pass at = record { tied = tt; others = refl; these = refl }
exchanges q [] (n ∷ ns) pass at = absurd (false≢true at)
exchanges q (m ∷ ms) ns pass at = by (exchanges q ms) (q m) refl ns pass at
  where
    places : List ℕ
    places = places_of q ms

    shifted : places_from 1 q ms ≡ map suc places
    shifted = behind_first q 0 ms

    by : Exchanges q ms → (b : Bool) → q m ≡ b → (ns : List Member) → AllByRecursion (λ n. q n ≡ true) ns
        → are_at (map pkg_of (m ∷ ms)) (if b then 0 ∷ places_from 1 q ms else places_from 1 q ms) (map pkg_of ns) ≡ true
        → IsExchanged q (m ∷ ms) ns (set_all (m ∷ ms) (if b then 0 ∷ places_from 1 q ms else places_from 1 q ms) ns)
    by later false is ns pass at =
        let here : are_at (map pkg_of ms) places (map pkg_of ns) ≡ true =
        sym (at_behind (pkg_of m) (map pkg_of ms) places (map pkg_of ns)) ∙ sym (ap (λ ps. are_at (map pkg_of (m ∷ ms)) ps (map pkg_of ns)) shifted) ∙ at in
        let rest = later ns pass here in
        let whole : set_all (m ∷ ms) (places_from 1 q ms) ns ≡ m ∷ set_all ms places ns = ap (λ ps. set_all (m ∷ ms) ps ns) shifted ∙ set_behind m ms places ns in
        subst (IsExchanged q (m ∷ ms) ns) (sym whole) (record {
          tied = (itself member_total m, rest.tied);
          others = rw is (ap (λ ks. m ∷ ks) rest.others);
          these = rw is rest.these;
        })
    by later true is [] pass at = absurd (false≢true at)
    by later true is (n ∷ ns) pass at =
        let parts = and_parts (is_eq (pkg_cmp (pkg_of n) (pkg_of m))) (are_at (map pkg_of (m ∷ ms)) (places_from 1 q ms) (map pkg_of ns)) at in
        let here : are_at (map pkg_of ms) places (map pkg_of ns) ≡ true =
        sym (at_behind (pkg_of m) (map pkg_of ms) places (map pkg_of ns)) ∙ sym (ap (λ ps. are_at (map pkg_of (m ∷ ms)) ps (map pkg_of ns)) shifted) ∙ parts.1 in
        let rest = later ns pass.1 here in
        let whole : set_all (n ∷ ms) (places_from 1 q ms) ns ≡ n ∷ set_all ms places ns = ap (λ ps. set_all (n ∷ ms) ps ns) shifted ∙ set_behind n ms places ns in
        subst (IsExchanged q (m ∷ ms) (n ∷ ns)) (sym whole) (record {
          tied = (turned_tie member_total n m (ties (member_cmp n m) parts.0), rest.tied);
          others = rw (is, pass.0) rest.others;
          these = rw pass.0 (ap (λ ks. n ∷ ks) rest.these);
        })

-- ---- the packages of two repositories
module _ (paths : List (List ℕ)) (old new : Packages) where
  abbrev olds : List Member
  olds = together old.pkgs old.bodies

  abbrev news : List Member
  news = filter (is_of_edited paths) (together new.pkgs new.bodies)

  abbrev places : List ℕ
  places = edited_places paths old.pkgs

  abbrev pub members_with : List Member
  members_with = in_package_order (filter (is_other paths) olds ++ news)

  same_count : (packages : Packages) → have_bodies packages ≡ true → length packages.bodies ≡ length packages.pkgs
  same_count packages e = eqb-true (length packages.bodies) (length packages.pkgs) e

  module _ (old_order : AreInPackageOrder old.pkgs) (new_order : AreInPackageOrder new.pkgs) (are : are_exchangeable paths old new ≡ true) where
    lengths : (have_bodies old ≡ true) × (have_bodies new ≡ true)
    lengths = and_parts (have_bodies old) (have_bodies new) (and_parts (have_bodies old && have_bodies new) (are_at old.pkgs places (filter (is_edited_pkg paths) new.pkgs)) are).0

    pub counted : length old.bodies ≡ length old.pkgs
    counted = same_count old lengths.0

    pkgs_are : map pkg_of olds ≡ old.pkgs
    pkgs_are = pkgs_of old.pkgs old.bodies (same_count old lengths.0)

    places_are : places ≡ places_of (is_of_edited paths) olds
    places_are = ap (edited_places paths) (sym pkgs_are) ∙ places_mapped (is_edited_pkg paths) 0 olds

    news_are : filter (is_edited_pkg paths) new.pkgs ≡ map pkg_of news
    news_are =
        ap (filter (is_edited_pkg paths)) (sym (pkgs_of new.pkgs new.bodies (same_count new lengths.1)))
        ∙ filter_mapped (is_edited_pkg paths) (together new.pkgs new.bodies)

    pub stand_at : are_at old.pkgs places (map pkg_of news) ≡ true
    stand_at =
        ap (are_at old.pkgs places) (sym news_are)
        ∙ (and_parts (have_bodies old && have_bodies new) (are_at old.pkgs places (filter (is_edited_pkg paths) new.pkgs)) are).1

    exchanged : IsExchanged (is_of_edited paths) olds news (set_all olds (places_of (is_of_edited paths) olds) news)
    exchanged =
        exchanges (is_of_edited paths) olds news (passes_all (is_of_edited paths) (together new.pkgs new.bodies))
        (ap (λ ps. are_at ps (places_of (is_of_edited paths) olds) (map pkg_of news)) pkgs_are ∙ ap (λ ns. are_at old.pkgs ns (map pkg_of news)) (sym places_are) ∙ stand_at)

    in_order : members_with ≡ set_all olds places news
    in_order =
        let all = set_all olds (places_of (is_of_edited paths) olds) news in
        let up = members_ascend old.pkgs old.bodies old_order in
        ap (λ ns. in_package_order (filter (is_other paths) olds ++ ns)) (sym exchanged.these)
        ∙ put_together member_total (is_of_edited paths) (λ m n e. alike paths (subject_of m.pkg) (subject_of n.pkg) e) olds all up (ascends_tied member_total olds all exchanged.tied up) exchanged.others
        ∙ ap (λ ns. set_all olds ns news) (sym places_are)

    pub keys_are : in_package_order news ≡ news
    keys_are =
        puts_ascending member_total news (ascends_filter member_total (is_of_edited paths) (together new.pkgs new.bodies) (members_ascend new.pkgs new.bodies new_order))

    pub pkgs_set : set_all old.pkgs places (map pkg_of news) ≡ map pkg_of members_with
    pkgs_set = ap (λ ps. set_all ps places (map pkg_of news)) (sym pkgs_are) ∙ map_set_all pkg_of olds places news ∙ ap (map pkg_of) (sym in_order)

    pub bodies_set : set_all old.bodies places (map body_of news) ≡ map body_of members_with
    bodies_set =
        ap (λ bs. set_all bs places (map body_of news)) (sym (bodies_of old.pkgs old.bodies (same_count old lengths.0)))
        ∙ map_set_all body_of olds places news ∙ ap (map body_of) (sym in_order)

-- ---- one is put in a place
pkg_total : IsTotalOrder pkg_cmp
pkg_total = on_total subject_of subject_total

tied_alike : (p q r : Pkg) → is_eq (pkg_cmp p q) ≡ true → is_eq (pkg_cmp r q) ≡ true → is_eq (pkg_cmp r p) ≡ true
tied_alike p q r e f =
    let same : pkg_cmp r p ≡ Equal = pkg_total.antisymm r p ∙ ap ordering_reverse (pkg_total.congr p q r (ties (pkg_cmp p q) e) ∙ pkg_total.antisymm q r ∙ ap ordering_reverse (ties (pkg_cmp r q) f)) in
    ap is_eq same

pub still_at : (pkgs : List Pkg) (place other : ℕ) (p r : Pkg) → is_at pkgs place p ≡ true → is_at pkgs other r ≡ true → is_at (slice_set pkgs place p) other r ≡ true
still_at [] place other p r e f = f
still_at (q ∷ qs) zero zero p r e f = tied_alike p q r e f
still_at (q ∷ qs) zero (suc other) p r e f = f
still_at (q ∷ qs) (suc place) zero p r e f = f
still_at (q ∷ qs) (suc place) (suc other) p r e f = still_at qs place other p r e f

pub still_all : (pkgs : List Pkg) (place : ℕ) (p : Pkg) (places : List ℕ) (rs : List Pkg) → is_at pkgs place p ≡ true → are_at pkgs places rs ≡ true → are_at (slice_set pkgs place p) places rs ≡ true
still_all pkgs place p [] [] e f = refl
still_all pkgs place p [] (r ∷ rs) e f = f
still_all pkgs place p (n ∷ ns) [] e f = f
still_all pkgs place p (n ∷ ns) (r ∷ rs) e f =
    let parts = and_parts (is_at pkgs n r) (are_at pkgs ns rs) f in
    rw (still_at pkgs place n p r e parts.0) (still_all pkgs place p ns rs e parts.1)

pub first_at : (pkgs : List Pkg) (place : ℕ) (places : List ℕ) (p : Pkg) (ps : List Pkg) → are_at pkgs (place ∷ places) (p ∷ ps) ≡ true → is_at pkgs place p ≡ true
first_at pkgs place places p ps e = (and_parts (is_at pkgs place p) (are_at pkgs places ps) e).0

pub rest_at : (pkgs : List Pkg) (place : ℕ) (places : List ℕ) (p : Pkg) (ps : List Pkg) → are_at pkgs (place ∷ places) (p ∷ ps) ≡ true → are_at (slice_set pkgs place p) places ps ≡ true
rest_at pkgs place places p ps e =
    let parts = and_parts (is_at pkgs place p) (are_at pkgs places ps) e in
    still_all pkgs place p places ps parts.0 parts.1

pub some_left : (places : List ℕ) → 0 < length places → (pkgs : List Pkg) → false ≡ are_at pkgs places []
some_left [] less pkgs = absurd (omega (arith, less))
some_left (n ∷ ns) less pkgs = refl

pub named_at : (pkgs : List Pkg) (place : ℕ) (p : Pkg) → is_at pkgs place p ≡ true → option_map_or (is_pkg_of p.category p.name) (slice_get pkgs place) false ≡ true
named_at [] place p e = e
named_at (q ∷ qs) (suc place) p e = named_at qs place p e
named_at (q ∷ qs) zero p e =
    let first = both_equal (byte_cmp p.category q.category) (ordering_then (byte_cmp p.name q.name) (ordering_then (compare p.version q.version) (byte_cmp p.pf q.pf))) (ties (pkg_cmp p q) e) in
    let second = both_equal (byte_cmp p.name q.name) (ordering_then (compare p.version q.version) (byte_cmp p.pf q.pf)) first.1 in
    rw ((bytes_eq-Decides p.category q.category).1 (exact_bytes p.category q.category first.0)) ((bytes_eq-Decides p.name q.name).1 (exact_bytes p.name q.name second.0))

pub within_at : (pkgs : List Pkg) (place : ℕ) (p : Pkg) → is_at pkgs place p ≡ true → place < length pkgs
within_at [] place p e = absurd (false≢true e)
within_at (q ∷ qs) zero p e = omega (arith)
within_at (q ∷ qs) (suc place) p e = let h = within_at qs place p e in omega (arith, h)

pub counts_set : (pkgs : List Pkg) (bodies : List Body) (place : ℕ) (p : Pkg) (b : Body) → length bodies ≡ length pkgs
    → length (slice_set bodies place b) ≡ length (slice_set pkgs place p)
counts_set pkgs bodies place p b e = length_set bodies place b ∙ e ∙ sym (length_set pkgs place p)
