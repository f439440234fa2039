-- The numbers of mentioned names: of one name, of the packages one after another, and what the marks of edited names tell.
use Rattle.std.proofs.Common.{◌≡◌, ℕ, ◌+◌, ◌*◌, ◌%◌, ◌<◌, ◌≤◌, true, false, List, [], ◌∷◌, ◌++◌, length, map, filter, get_or, drop, zero, suc, refl, sym, ap, ◌∙◌, append_assoc, append-nil, arith}
use Rattle.std.proofs.Math.ListN.{drop_of_length-le}
use Rattle.std.proofs.lemmas.Bool.{true≢false}
use Rattle.std.proofs.lemmas.List.Sums.{fold-append}
use Rattle.std.specs.Prelude.{fold}
use Rattle.gv_entry.specs.declared.entry.Body.{Body}
use Rattle.gv_facts.specs.declared.pkg.Pkg.{Pkg}
use Rattle.gv_reading.specs.Paths.{within}
use Rattle.gv_reload.specs.EntryEdits.{is_edited_pkg, is_other, together}
use Rattle.gv_renew.specs.Mentioned.{member_body, name_number, number_with}
use Rattle.gv_plain.specs.Lists.{drop_here}

pub number_within : (category name : List ℕ) → fold number_with (number_with (fold number_with 0 category) 47) name ≡ name_number (within category name)
number_within category name = sym (fold-append number_with 0 category (47 ∷ name))

pub number_is : (number byte more : ℕ) → more ≡ byte → (number * 31 % 65536 + more) % 65536 ≡ number_with number byte
unfolding number_with
number_is number byte more e = ap (λ b. (number * 31 % 65536 + b) % 65536) e

-- the rest of a list
abbrev tail_of : {X : Type 0} → List X → List X
tail_of [] = []
tail_of (x ∷ xs) = xs

drop_tail : {X : Type 0} (xs : List X) (i : ℕ) → tail_of (drop i xs) ≡ drop (suc i) xs
drop_tail [] zero = refl
drop_tail [] (suc i) = refl
drop_tail (x ∷ xs) zero = refl
drop_tail (x ∷ xs) (suc i) = drop_tail xs i

pub rest_next : {X : Type 0} (xs : List X) (i : ℕ) (y : X) (ys : List X) → y ∷ ys ≡ drop i xs → ys ≡ drop (i + 1) xs
rest_next xs i y ys e = ap tail_of e ∙ (drop_tail xs i ∙ ap (λ k. drop k xs) more)
  where
    more : suc i ≡ i + 1
    more = omega arith

module _ (paths : List (List ℕ)) (pkgs : List Pkg) (bodies whole : List Body) where
  -- the unedited ones of the rest
  abbrev rest_from : List Pkg → List Body → List Body
  rest_from ps bs = map member_body (filter (is_other paths) (together ps bs))

  module _ (old : List Body) (i : ℕ) (pkg : Pkg) (lt : i < length pkgs) (here : pkg ≡ get_or pkgs i pkg) (n : Body) (ns : List Body) (rest : n ∷ ns ≡ drop i bodies) where
    kept_by : (bs : List Body) → n ∷ ns ≡ bs → is_edited_pkg paths pkg ≡ false → old ++ rest_from (pkg ∷ drop (i + 1) pkgs) bs ≡ (old ++ n ∷ []) ++ rest_from (drop (i + 1) pkgs) (tail_of bs)
    kept_by [] e other = absurd (omega (arith, ap length e))
    kept_by (b ∷ bs) e other = rw other (ap (λ m. old ++ m ∷ rest_from (drop (i + 1) pkgs) bs) (sym (ap (λ l. get_or l 0 n) e)) ∙ sym (append_assoc old (n ∷ []) (rest_from (drop (i + 1) pkgs) bs)))

    left_by : (bs : List Body) → n ∷ ns ≡ bs → is_edited_pkg paths pkg ≡ true → old ++ rest_from (pkg ∷ drop (i + 1) pkgs) bs ≡ old ++ rest_from (drop (i + 1) pkgs) (tail_of bs)
    left_by [] e is = absurd (omega (arith, ap length e))
    left_by (b ∷ bs) e is = rw is refl

    next_bodies : tail_of (drop i bodies) ≡ drop (i + 1) bodies
    next_bodies = drop_tail bodies i ∙ ap (λ k. drop k bodies) more
      where
        more : suc i ≡ i + 1
        more = omega arith

    module _ (so_far : old ++ rest_from (drop i pkgs) (drop i bodies) ≡ whole) where
      at_pkg : old ++ rest_from (pkg ∷ drop (i + 1) pkgs) (drop i bodies) ≡ whole
      at_pkg = ap (λ ps. old ++ rest_from ps (drop i bodies)) (sym (drop_here pkgs pkg i lt here)) ∙ so_far

      pub one_kept : is_edited_pkg paths pkg ≡ false → (new : List Body) → new ≡ old ++ n ∷ [] → new ++ rest_from (drop (i + 1) pkgs) (drop (i + 1) bodies) ≡ whole
      one_kept other new is = ap (λ l. l ++ rest_from (drop (i + 1) pkgs) (drop (i + 1) bodies)) is
          ∙ (ap (λ bs. (old ++ n ∷ []) ++ rest_from (drop (i + 1) pkgs) bs) (sym next_bodies) ∙ (sym (kept_by (drop i bodies) rest other) ∙ at_pkg))

      pub one_left : is_edited_pkg paths pkg ≡ true → old ++ rest_from (drop (i + 1) pkgs) (drop (i + 1) bodies) ≡ whole
      one_left is = ap (λ bs. old ++ rest_from (drop (i + 1) pkgs) bs) (sym next_bodies) ∙ (sym (left_by (drop i bodies) rest is) ∙ at_pkg)

  module _ (old : List Body) (i : ℕ) (so_far : old ++ rest_from (drop i pkgs) (drop i bodies) ≡ whole) where
    -- no package is left, or no body
    pub kept_end : length pkgs ≤ i → old ≡ whole
    kept_end le = sym (append-nil old) ∙ (ap (λ ps. old ++ rest_from ps (drop i bodies)) (sym (drop_of_length-le pkgs le)) ∙ so_far)

    none_by : (ps : List Pkg) (bs : List Body) → [] ≡ bs → rest_from ps bs ≡ []
    none_by [] bs e = refl
    none_by (p ∷ ps) [] e = refl
    none_by (p ∷ ps) (b ∷ bs) e = absurd (omega (arith, ap length e))

    kept_all : [] ≡ drop i bodies → old ≡ whole
    kept_all e = sym (append-nil old) ∙ (ap (λ l. old ++ l) (sym (none_by (drop i pkgs) (drop i bodies) e)) ∙ so_far)

    pub kept_some : (items : List Body) (n : ℕ) → items ≡ drop i bodies → n ≡ length items → (0 < n → false ≡ true) → old ≡ whole
    kept_some [] n e count none = kept_all e
    kept_some (x ∷ xs) n e count none = absurd (true≢false (sym (none (omega (arith, count)))))

-- ---- all of them, from those of the unedited packages
module _ (paths : List (List ℕ)) (pkgs : List Pkg) (bodies : List Body) (i : ℕ) (pkg : Pkg) (body : Body) (in_pkgs : i < length pkgs) (in_bodies : i < length bodies) (pkg_here : pkg ≡ get_or pkgs i pkg)
    (body_here : body ≡ get_or bodies i body) where
  at_both : rest_from paths pkgs bodies [] (drop i pkgs) (drop i bodies) ≡ rest_from paths pkgs bodies [] (pkg ∷ drop (i + 1) pkgs) (body ∷ drop (i + 1) bodies)
  at_both = ap (λ ps. rest_from paths pkgs bodies [] ps (drop i bodies)) (drop_here pkgs pkg i in_pkgs pkg_here)
      ∙ ap (λ bs. rest_from paths pkgs bodies [] (pkg ∷ drop (i + 1) pkgs) bs) (drop_here bodies body i in_bodies body_here)

  pub rest_behind : is_edited_pkg paths pkg ≡ true → rest_from paths pkgs bodies [] (drop i pkgs) (drop i bodies) ≡ rest_from paths pkgs bodies [] (drop (i + 1) pkgs) (drop (i + 1) bodies)
  rest_behind is = at_both ∙ rw is refl

  pub rest_begins : is_edited_pkg paths pkg ≡ false → rest_from paths pkgs bodies [] (drop i pkgs) (drop i bodies) ≡ body ∷ rest_from paths pkgs bodies [] (drop (i + 1) pkgs) (drop (i + 1) bodies)
  rest_begins other = at_both ∙ rw other refl

  pub one_made : (whole old new : List Body) (n : Body) → n ≡ body → new ≡ old ++ n ∷ [] → old ++ drop i bodies ≡ whole → new ++ drop (i + 1) bodies ≡ whole
  one_made whole old new n is e so_far = ap (λ l. l ++ drop (i + 1) bodies) e
      ∙ (append_assoc old (n ∷ []) (drop (i + 1) bodies)
      ∙ (ap (λ m. old ++ m ∷ drop (i + 1) bodies) is
      ∙ (ap (λ bs. old ++ bs) (sym (drop_here bodies body i in_bodies body_here)) ∙ so_far)))

  -- one that isn't edited has its own among the rest
  pub never_short : is_edited_pkg paths pkg ≡ false → (rest : List Body) (n : ℕ) → rest ≡ rest_from paths pkgs bodies [] (drop i pkgs) (drop i bodies) → n ≡ length rest → (0 < n → false ≡ true) → ⊥
  never_short other rest n is count none = by rest (is ∙ rest_begins other) count
    where
      by : (rest : List Body) → rest ≡ body ∷ rest_from paths pkgs bodies [] (drop (i + 1) pkgs) (drop (i + 1) bodies) → n ≡ length rest → ⊥
      by [] e count = absurd (omega (arith, ap length e))
      by (b ∷ bs) e count = true≢false (sym (none (omega (arith, count))))

pub same_first : {X : Type 0} (x y : X) (xs ys : List X) → x ∷ xs ≡ y ∷ ys → x ≡ y
same_first x y xs ys e = ap (λ l. get_or l 0 x) e

pub same_rest : {X : Type 0} (x y : X) (xs ys : List X) → x ∷ xs ≡ y ∷ ys → xs ≡ ys
same_rest x y xs ys e = ap tail_of e
