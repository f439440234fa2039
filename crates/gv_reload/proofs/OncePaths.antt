-- The paths of entries, ebuilds and eclasses tell whose they are.
use Rattle.std.proofs.Common.{◌≡◌, ℕ, suc, ◌-◌, Bool, true, false, List, [], ◌∷◌, ◌++◌, length, take, refl, sym, ap, ◌∙◌, append_assoc, length-append, arith, map}
use Rattle.std.specs.Prelude.{nat_eq, ◌&&◌, not, if◌then◌else◌, codes}
use Rattle.std.specs.List.{list_all}
use Rattle.std.specs.Str.{bytes_eq}
use Rattle.std.proofs.lemmas.Slice.Eq.{bytes_eq-Decides}
use Rattle.gv_load.specs.Categories.{front_of, name_of}
use Rattle.gv_reload.specs.Once.{AreDistinct}
use Rattle.gv_load.specs.Paths.{cache_dir, entry_path, ebuild_end, ebuild_path, eclass_path}
use Rattle.gv_reload.proofs.Apart.{misses}
use Rattle.gv_reload.proofs.Slashes.{is_plain, up_to, behind, slashes, both, plain_both, up_to_front, behind_front, none_in}

none_at_all : (text : List ℕ) → is_plain text ≡ true → slashes text ≡ 0
none_at_all text is = ap slashes (sym (nil text)) ∙ none_in text [] is
  where
    nil : (xs : List ℕ) → xs ++ [] ≡ xs
    nil [] = refl
    nil (x ∷ xs) = ap (λ ys. x ∷ ys) (nil xs)

pub front_is : (front end : List ℕ) → take (length front) (front ++ end) ≡ front
front_is [] end = refl
front_is (b ∷ bs) end = ap (λ t. b ∷ t) (front_is bs end)

pub without_end : (front end : List ℕ) → take (length (front ++ end) - length end) (front ++ end) ≡ front
without_end front end =
    let less : length (front ++ end) - length end ≡ length front = simp length-append (omega arith) in
    ap (λ n. take n (front ++ end)) less ∙ front_is front end

-- ---- an ebuild's path, part by part
parts_of : (category name file : List ℕ) → (category ++ 47 ∷ name) ++ 47 ∷ file ≡ category ++ 47 ∷ (name ++ 47 ∷ file)
parts_of category name file = append_assoc category (47 ∷ name) (47 ∷ file)

entry_slashes : (category pf : List ℕ) → is_plain category ≡ true → is_plain pf ≡ true → slashes (entry_path category pf) ≡ 3
unfolding cache_dir
entry_slashes category pf pc pp = ap (λ n. suc (suc n)) (none_in category (47 ∷ pf) pc) ∙ ap (λ n. suc (suc (suc n))) (none_at_all pf pp)

pub plain_file : (pf : List ℕ) → is_plain pf ≡ true → is_plain (pf ++ ebuild_end) ≡ true
unfolding ebuild_end
plain_file pf pp = plain_both pf (codes ".ebuild") pp refl

ebuild_slashes : (category name pf : List ℕ) → is_plain category ≡ true → is_plain name ≡ true → is_plain pf ≡ true → slashes (ebuild_path category name pf) ≡ 2
ebuild_slashes category name pf pc pn pp =
    ap slashes (parts_of category name (pf ++ ebuild_end)) ∙ none_in category (47 ∷ (name ++ 47 ∷ (pf ++ ebuild_end))) pc
    ∙ ap suc (none_in name (47 ∷ (pf ++ ebuild_end)) pn) ∙ ap (λ n. suc (suc n)) (none_at_all (pf ++ ebuild_end) (plain_file pf pp))

-- ---- the category and the PF that a path is of
abbrev pub is_entry : List ℕ → Bool
is_entry path = nat_eq (slashes path) 3

abbrev category_by : Bool → List ℕ → List ℕ
category_by entry path = if entry then up_to (behind (behind path)) else up_to path

abbrev pub category_at : List ℕ → List ℕ
category_at path = category_by (is_entry path) path

abbrev pf_by : Bool → List ℕ → List ℕ
pf_by entry path = if entry then behind (behind (behind path)) else front_of (behind (behind path))

abbrev pub pf_at : List ℕ → List ℕ
pf_at path = pf_by (is_entry path) path

pub entry_is : (category pf : List ℕ) → is_plain category ≡ true → is_plain pf ≡ true → is_entry (entry_path category pf) ≡ true
entry_is category pf pc pp = ap (λ n. nat_eq n 3) (entry_slashes category pf pc pp)

pub ebuild_is : (category name pf : List ℕ) → is_plain category ≡ true → is_plain name ≡ true → is_plain pf ≡ true → is_entry (ebuild_path category name pf) ≡ false
ebuild_is category name pf pc pn pp = ap (λ n. nat_eq n 3) (ebuild_slashes category name pf pc pn pp)

inside : (category pf : List ℕ) → behind (behind (entry_path category pf)) ≡ category ++ 47 ∷ pf
unfolding cache_dir
inside category pf = refl

entry_category : (category pf : List ℕ) → is_plain category ≡ true → is_plain pf ≡ true → category_at (entry_path category pf) ≡ category
entry_category category pf pc pp =
    ap (λ b. category_by b (entry_path category pf)) (entry_is category pf pc pp) ∙ ap up_to (inside category pf) ∙ up_to_front category pf pc

entry_pf : (category pf : List ℕ) → is_plain category ≡ true → is_plain pf ≡ true → pf_at (entry_path category pf) ≡ pf
entry_pf category pf pc pp =
    ap (λ b. pf_by b (entry_path category pf)) (entry_is category pf pc pp) ∙ ap behind (inside category pf) ∙ behind_front category pf pc

ebuild_category : (category name pf : List ℕ) → is_plain category ≡ true → is_plain name ≡ true → is_plain pf ≡ true → category_at (ebuild_path category name pf) ≡ category
ebuild_category category name pf pc pn pp =
    ap (λ b. category_by b (ebuild_path category name pf)) (ebuild_is category name pf pc pn pp) ∙ ap up_to (parts_of category name (pf ++ ebuild_end))
    ∙ up_to_front category (name ++ 47 ∷ (pf ++ ebuild_end)) pc

ebuild_pf : (category name pf : List ℕ) → is_plain category ≡ true → is_plain name ≡ true → is_plain pf ≡ true → pf_at (ebuild_path category name pf) ≡ pf
ebuild_pf category name pf pc pn pp =
    ap (λ b. pf_by b (ebuild_path category name pf)) (ebuild_is category name pf pc pn pp)
    ∙ ap (λ t. front_of (behind t)) (ap behind (parts_of category name (pf ++ ebuild_end)) ∙ behind_front category (name ++ 47 ∷ (pf ++ ebuild_end)) pc)
    ∙ ap front_of (behind_front name (pf ++ ebuild_end) pn) ∙ without_end pf ebuild_end

-- ---- the paths of a PF
abbrev pub paths_by : (entry : Bool) → (category pf : List ℕ) → List (List ℕ)
paths_by entry category pf = (if entry then entry_path category pf ∷ [] else []) ++ ebuild_path category (name_of pf) pf ∷ []

here : (f : List ℕ → List ℕ) (x k : List ℕ) → f x ≡ k → bytes_eq (f x) k ≡ true
here f x k is = (bytes_eq-Decides (f x) k).1 is

pub all_of_pf : (entry : Bool) (category pf : List ℕ) → is_plain category ≡ true → is_plain pf ≡ true → is_plain (name_of pf) ≡ true → list_all (λ x. bytes_eq (pf_at x) pf) (paths_by entry category pf) ≡ true
all_of_pf true category pf pc pp pn =
    both _ _ (here pf_at (entry_path category pf) pf (entry_pf category pf pc pp)) (both _ true (here pf_at (ebuild_path category (name_of pf) pf) pf (ebuild_pf category (name_of pf) pf pc pn pp)) refl)
all_of_pf false category pf pc pp pn = both _ true (here pf_at (ebuild_path category (name_of pf) pf) pf (ebuild_pf category (name_of pf) pf pc pn pp)) refl

pub all_of_category : (entry : Bool) (category pf : List ℕ) → is_plain category ≡ true → is_plain pf ≡ true → is_plain (name_of pf) ≡ true → list_all (λ x. bytes_eq (category_at x) category) (paths_by entry category pf) ≡ true
all_of_category true category pf pc pp pn =
    both _ _ (here category_at (entry_path category pf) category (entry_category category pf pc pp)) (both _ true (here category_at (ebuild_path category (name_of pf) pf) category (ebuild_category category (name_of pf) pf pc pn pp)) refl)
all_of_category false category pf pc pp pn = both _ true (here category_at (ebuild_path category (name_of pf) pf) category (ebuild_category category (name_of pf) pf pc pn pp)) refl

pub pf_distinct : (entry : Bool) (category pf : List ℕ) → is_plain category ≡ true → is_plain pf ≡ true → is_plain (name_of pf) ≡ true → AreDistinct (paths_by entry category pf)
pf_distinct true category pf pc pp pn =
    ((misses is_entry (entry_path category pf) (ebuild_path category (name_of pf) pf ∷ []) (entry_is category pf pc pp) (both _ true (ap not (ebuild_is category (name_of pf) pf pc pn pp)) refl)), (refl, tt))
pf_distinct false category pf pc pp pn = (refl, tt)

-- ---- eclasses: their paths begin and end as no other does
abbrev head_of : List ℕ → ℕ
head_of [] = 0
head_of (b ∷ bs) = b

abbrev last_of : List ℕ → ℕ
last_of [] = 0
last_of (b ∷ []) = b
last_of (b ∷ c ∷ bs) = last_of (c ∷ bs)

abbrev pub is_eclass : List ℕ → Bool
is_eclass path = nat_eq (head_of path) 101 && nat_eq (last_of path) 115

last_behind : (xs : List ℕ) (b : ℕ) (bs : List ℕ) → last_of (xs ++ b ∷ bs) ≡ last_of (b ∷ bs)
last_behind [] b bs = refl
last_behind (x ∷ []) b bs = refl
last_behind (x ∷ y ∷ ys) b bs = last_behind (y ∷ ys) b bs

entry_no_eclass : (category pf : List ℕ) → is_eclass (entry_path category pf) ≡ false
unfolding cache_dir
entry_no_eclass category pf = refl

no_last : (b : Bool) (path : List ℕ) → last_of path ≡ 100 → (b && nat_eq (last_of path) 115) ≡ false
no_last true path is = ap (λ n. nat_eq n 115) is
no_last false path is = refl

ebuild_no_eclass : (category name pf : List ℕ) → is_eclass (ebuild_path category name pf) ≡ false
unfolding ebuild_end
ebuild_no_eclass category name pf =
    let path = ebuild_path category name pf in
    let end : last_of path ≡ 100 =
    ap last_of (sym (append_assoc (category ++ 47 ∷ name) (47 ∷ pf) (codes ".ebuild"))) ∙ last_behind ((category ++ 47 ∷ name) ++ 47 ∷ pf) 46 (codes "ebuild") in
    no_last (nat_eq (head_of path) 101) path end

eclass_is : (name : List ℕ) → is_eclass (eclass_path name) ≡ true
unfolding eclass_path
eclass_is name = ap (λ n. nat_eq n 115) (last_behind (47 ∷ name) 46 (codes "eclass"))

pub none_is_eclass : (entry : Bool) (category pf : List ℕ) → list_all (λ x. not (is_eclass x)) (paths_by entry category pf) ≡ true
none_is_eclass true category pf = both _ _ (ap not (entry_no_eclass category pf)) (both _ true (ap not (ebuild_no_eclass category (name_of pf) pf)) refl)
none_is_eclass false category pf = both _ true (ap not (ebuild_no_eclass category (name_of pf) pf)) refl

twice_not : (b : Bool) → b ≡ true → not (not b) ≡ true
twice_not true is = refl
twice_not false is = is

pub all_are_eclasses : (names : List (List ℕ)) → list_all (λ x. not (not (is_eclass x))) (map eclass_path names) ≡ true
all_are_eclasses [] = refl
all_are_eclasses (name ∷ names) = both _ _ (twice_not (is_eclass (eclass_path name)) (eclass_is name)) (all_are_eclasses names)

abbrev pub eclass_at : List ℕ → List ℕ
eclass_at path = take (length (behind path) - 7) (behind path)

pub eclass_back : (name : List ℕ) → eclass_at (eclass_path name) ≡ name
unfolding eclass_path
eclass_back name = without_end name (codes ".eclass")
