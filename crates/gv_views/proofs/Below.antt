-- The part of a repository that a path below another one belongs to.
use Rattle.std.proofs.Common.{◌≡◌, ◌<◌, ◌≤◌, ◌+◌, ℕ, suc, List, [], ◌∷◌, ◌++◌, Bool, true, false, not, ◌&&◌, cond, if◌then◌else◌, length, refl, sym, ap, subst, ◌∙◌, inl, inr, ◌⊎◌, arith, length-append}
use Rattle.std.specs.Prelude.{nat_eq, nat_lt, codes}
use Rattle.std.specs.List.{list_all, position_or_len}
use Rattle.std.specs.Str.{bytes_eq}
use Rattle.std.proofs.lemmas.Slice.Eq.{bytes_eq-Decides}
use Rattle.gv_base.specs.Cut.{up_to_first}
use Rattle.gv_views.specs.declared.areas.Area.{Area}
use Rattle.gv_views.specs.declared.areas.Area.TheVariants.{Categories, Eclasses, InEclasses, InProfiles, Other, Profiles}
use Rattle.gv_views.specs.Areas.{area_of, categories_path, eclasses_path, first_part, has_more, profiles_path, top_area}
use Rattle.gv_views.specs.Views.{inside}

pub up_step : (b : ℕ) (bs : List ℕ) → up_to_first 47 (b ∷ bs) ≡ cond (nat_eq b 47) [] (b ∷ up_to_first 47 bs)
up_step b bs = by (nat_eq b 47) refl
  where
    by : (t : Bool) → nat_eq b 47 ≡ t → up_to_first 47 (b ∷ bs) ≡ cond t [] (b ∷ up_to_first 47 bs)
    by true is = rw is refl
    by false is = rw is (let e : 1 + position_or_len (λ c. nat_eq c 47) bs ≡ suc (position_or_len (λ c. nat_eq c 47) bs) = omega arith in rw e refl)

first_inside : (path rest : List ℕ) → first_part (inside path rest) ≡ first_part path
first_inside [] rest = up_step 47 rest
first_inside (b ∷ bs) rest = up_step b (bs ++ 47 ∷ rest) ∙ (ap (λ xs. cond (nat_eq b 47) [] (b ∷ xs)) (first_inside bs rest) ∙ sym (up_step b bs))

first_short : (path : List ℕ) → length (first_part path) ≤ length path
first_short [] = omega arith
first_short (b ∷ bs) = rw (up_step b bs) (by (nat_eq b 47) (first_short bs))
  where
    by : (t : Bool) → length (first_part bs) ≤ length bs → length (cond t [] (b ∷ first_part bs)) ≤ length (b ∷ bs)
    by true h = omega arith
    by false h = omega (arith, h)

more_inside : (path rest : List ℕ) → has_more (inside path rest) ≡ true
more_inside path rest =
    let lt : length (first_part path) < length (inside path rest) = omega (arith, first_short path, length-append path (47 ∷ rest)) in
    rw (first_inside path rest) (grind (arith, lt))

-- ---- a path of two parts
abbrev slash_free : List ℕ → Bool
slash_free bytes = list_all (λ b. not (nat_eq b 47)) bytes

has_slash : (xs r : List ℕ) → slash_free (xs ++ 47 ∷ r) ≡ false
has_slash [] r = refl
has_slash (x ∷ xs) r = by (nat_eq x 47) (has_slash xs r)
  where
    by : (t : Bool) → slash_free (xs ++ 47 ∷ r) ≡ false → (not t && slash_free (xs ++ 47 ∷ r)) ≡ false
    by true h = refl
    by false h = h

free_rest : (t : ℕ) (ts : List ℕ) → slash_free (t ∷ ts) ≡ true → (nat_eq t 47 ≡ false) × (slash_free ts ≡ true)
free_rest t ts h = by (nat_eq t 47) refl h
  where
    by : (b : Bool) → nat_eq t 47 ≡ b → (not b && slash_free ts) ≡ true → (nat_eq t 47 ≡ false) × (slash_free ts ≡ true)
    by true is h' = cc
    by false is h' = (is, h')

pub two_parts : (a t r u : List ℕ) → slash_free t ≡ true → slash_free u ≡ true → a ++ 47 ∷ r ≡ t ++ 47 ∷ u → (a ≡ t) × (r ≡ u)
two_parts [] [] r u ft fu e = (refl, cc)
two_parts [] (t ∷ ts) r u ft fu e = let same : 47 ≡ t = cc in let f = (free_rest t ts ft).0 in let f' : nat_eq 47 47 ≡ false = subst (λ (b : ℕ). nat_eq b 47 ≡ false) (sym same) f in cc
two_parts (x ∷ xs) [] r u ft fu e = let tail : xs ++ 47 ∷ r ≡ u = cc in let f : slash_free u ≡ false = subst (λ (ys : List ℕ). slash_free ys ≡ false) tail (has_slash xs r) in cc
two_parts (x ∷ xs) (t ∷ ts) r u ft fu e =
    let head : x ≡ t = cc in
    let tail : xs ++ 47 ∷ r ≡ ts ++ 47 ∷ u = cc in
    let more = two_parts xs ts r u (free_rest t ts ft).1 fu tail in
    let front : xs ≡ ts = more.0 in
    (ap (λ y. y ∷ xs) head ∙ ap (λ ys. t ∷ ys) front, more.1)

pub of_list : (path rest : List ℕ) → inside path rest ≡ categories_path → (path ≡ profiles_path) × (rest ≡ codes "categories")
unfolding categories_path profiles_path
of_list path rest e = two_parts path (codes "profiles") rest (codes "categories") refl refl e

list_first : bytes_eq (first_part categories_path) profiles_path ≡ true
unfolding categories_path profiles_path
list_first = refl

list_more : has_more categories_path ≡ true
unfolding categories_path
list_more = refl

profiles_one : has_more profiles_path ≡ false
unfolding profiles_path
profiles_one = refl

profiles_first : bytes_eq (first_part profiles_path) profiles_path ≡ true
unfolding profiles_path
profiles_first = refl

-- ---- areas by what is known of a path
abbrev area : (list profiles eclass more : Bool) → Area
area list profiles eclass more = if list then Categories else (if profiles then (if more then InProfiles else Profiles) else (if eclass then (if more then InEclasses else Eclasses) else Other))

-- the areas of paths below a path of an area
abbrev pub Below : Area → Area → Type 0
Below Categories b = b ≡ InProfiles
Below InProfiles b = b ≡ InProfiles
Below InEclasses b = b ≡ InEclasses
Below Profiles b = (b ≡ Categories) ⊎ (b ≡ InProfiles)
Below Eclasses b = b ≡ InEclasses
Below Other b = b ≡ Other

below_by : (list profiles eclass more there : Bool) → (list ≡ true → (profiles ≡ true) × (more ≡ true)) → (more ≡ true → there ≡ false) → (profiles ≡ false → there ≡ false)
    → Below (area list profiles eclass more) (area there profiles eclass true)
below_by true profiles eclass more there h g f = let p = (h refl).0 in let q = g (h refl).1 in rw (p, q) refl
below_by false true eclass true there h g f = rw (g refl) refl
below_by false true eclass false true h g f = inl refl
below_by false true eclass false false h g f = inr refl
below_by false false true true there h g f = rw (f refl) refl
below_by false false true false there h g f = rw (f refl) refl
below_by false false false more there h g f = rw (f refl) refl

pub area_below : (path rest : List ℕ) → Below (area_of path) (area_of (inside path rest))
area_below path rest =
    subst (Below (area_of path)) (sym there)
    (below_by (bytes_eq path categories_path) (bytes_eq (first_part path) profiles_path) (bytes_eq (first_part path) eclasses_path) (has_more path) (bytes_eq (inside path rest) categories_path) list more first)
  where
    there : area_of (inside path rest) ≡ area (bytes_eq (inside path rest) categories_path) (bytes_eq (first_part path) profiles_path) (bytes_eq (first_part path) eclasses_path) true
    there =
        ap (λ f. area (bytes_eq (inside path rest) categories_path) (bytes_eq f profiles_path) (bytes_eq f eclasses_path) (has_more (inside path rest))) (first_inside path rest)
        ∙ ap (λ m. area (bytes_eq (inside path rest) categories_path) (bytes_eq (first_part path) profiles_path) (bytes_eq (first_part path) eclasses_path) m) (more_inside path rest)

    list : bytes_eq path categories_path ≡ true → (bytes_eq (first_part path) profiles_path ≡ true) × (has_more path ≡ true)
    list h = let e : path ≡ categories_path = (bytes_eq-Decides path categories_path).0 h in
        (ap (λ p. bytes_eq (first_part p) profiles_path) e ∙ list_first, ap has_more e ∙ list_more)

    split : bytes_eq (inside path rest) categories_path ≡ true → (path ≡ profiles_path)
    split h = (of_list path rest ((bytes_eq-Decides (inside path rest) categories_path).0 h)).0

    more : has_more path ≡ true → bytes_eq (inside path rest) categories_path ≡ false
    more h = by (bytes_eq (inside path rest) categories_path) refl
      where
        by : (t : Bool) → bytes_eq (inside path rest) categories_path ≡ t → bytes_eq (inside path rest) categories_path ≡ false
        by true is = let one : has_more path ≡ false = ap has_more (split is) ∙ profiles_one in cc
        by false is = is

    first : bytes_eq (first_part path) profiles_path ≡ false → bytes_eq (inside path rest) categories_path ≡ false
    first h = by (bytes_eq (inside path rest) categories_path) refl
      where
        by : (t : Bool) → bytes_eq (inside path rest) categories_path ≡ t → bytes_eq (inside path rest) categories_path ≡ false
        by true is = let one : bytes_eq (first_part path) profiles_path ≡ true = ap (λ p. bytes_eq (first_part p) profiles_path) (split is) ∙ profiles_first in cc
        by false is = is

-- the list of categories, and `profiles`, by their areas
list_by : (list profiles eclass more : Bool) → area list profiles eclass more ≡ Categories → list ≡ true
list_by true profiles eclass more e = refl
list_by false true eclass true e = cc
list_by false true eclass false e = cc
list_by false false true true e = cc
list_by false false true false e = cc
list_by false false false more e = cc

pub list_is : (path : List ℕ) → area_of path ≡ Categories → path ≡ categories_path
list_is path e = (bytes_eq-Decides path categories_path).0 (list_by (bytes_eq path categories_path) (bytes_eq (first_part path) profiles_path) (bytes_eq (first_part path) eclasses_path) (has_more path) e)

profiles_by : (list profiles eclass more : Bool) → area list profiles eclass more ≡ Profiles → (profiles ≡ true) × (more ≡ false)
profiles_by true profiles eclass more e = cc
profiles_by false true eclass true e = cc
profiles_by false true eclass false e = (refl, refl)
profiles_by false false true true e = cc
profiles_by false false true false e = cc
profiles_by false false false more e = cc

not_less : (a b : ℕ) → nat_lt a b ≡ false → b ≤ a
not_less a b h = grind (arith, h)

no_less : (a b : ℕ) → b ≤ a → nat_lt a b ≡ false
no_less a b le = grind (arith, le)

-- a path without a second part is its first part
one_part : (path : List ℕ) → has_more path ≡ false → first_part path ≡ path
one_part [] h = refl
one_part (b ∷ bs) h = rw (up_step b bs) (by (nat_eq b 47) refl (one_part bs))
  where
    by : (t : Bool) → nat_eq b 47 ≡ t → (has_more bs ≡ false → first_part bs ≡ bs) → cond t [] (b ∷ first_part bs) ≡ b ∷ bs
    by true is later =
        let step : first_part (b ∷ bs) ≡ [] = up_step b bs ∙ ap (λ u. cond u [] (b ∷ first_part bs)) is in
        let none : length (first_part (b ∷ bs)) ≡ 0 = ap length step in
        let le : length (b ∷ bs) ≤ length (first_part (b ∷ bs)) = not_less (length (first_part (b ∷ bs))) (length (b ∷ bs)) h in
        absurd (omega (arith, none, le))
    by false is later =
        let step : first_part (b ∷ bs) ≡ b ∷ first_part bs = up_step b bs ∙ ap (λ u. cond u [] (b ∷ first_part bs)) is in
        let len : length (first_part (b ∷ bs)) ≡ length (b ∷ first_part bs) = ap length step in
        let le : length (b ∷ bs) ≤ length (first_part (b ∷ bs)) = not_less (length (first_part (b ∷ bs))) (length (b ∷ bs)) h in
        let less : length bs ≤ length (first_part bs) = omega (arith, len, le) in
        ap (λ xs. b ∷ xs) (later (no_less (length (first_part bs)) (length bs) less))

pub profiles_is : (path : List ℕ) → area_of path ≡ Profiles → path ≡ profiles_path
profiles_is path e =
    let h = profiles_by (bytes_eq path categories_path) (bytes_eq (first_part path) profiles_path) (bytes_eq (first_part path) eclasses_path) (has_more path) e in
    sym (one_part path h.1) ∙ (bytes_eq-Decides (first_part path) profiles_path).0 h.0

pub list_path_is : inside profiles_path (codes "categories") ≡ categories_path
unfolding profiles_path categories_path
list_path_is = refl

pub list_area : area_of categories_path ≡ Categories
unfolding categories_path
list_area = refl
