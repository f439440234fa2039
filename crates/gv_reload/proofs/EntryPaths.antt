-- The paths of entries: their first part, and which other paths are none of them.
use Rattle.std.proofs.Common.{◌≡◌, ℕ, ◌+◌, Bool, true, false, cond, ◌⊎◌, inl, inr, List, [], ◌∷◌, ◌++◌, Some, None, length, take, drop, add-one, refl, sym, ap, ◌∙◌, arith, eqb-true, true≢false}
use Rattle.std.specs.Prelude.{Option, ◌==◌, ◌&&◌, if◌then◌else◌, codes}
use Rattle.std.specs.List.{list_all}
use Rattle.std.specs.Option.{is_some, option_map, option_map_or}
use Rattle.std.specs.Str.{bytes_eq}
use Rattle.std.proofs.Math.ListN.{drop_of_length-le}
use Rattle.std.proofs.lemmas.Bool.{and_parts}
use Rattle.std.proofs.lemmas.List.{take-append-drop}
use Rattle.std.proofs.lemmas.Slice.Eq.{bytes_eq-Decides}
use Rattle.gv_base.specs.Cut.{after_prefix, up_to_first}
use Rattle.gv_base.specs.Order.{has_text}
use Rattle.gv_reading.specs.Paths.{within}
use Rattle.gv_version.specs.Laws.{IsDivided}
use Rattle.gv_version.specs.Names.{is_category}
use Rattle.gv_load.specs.Categories.{is_pf, name_of}
use Rattle.gv_reload.specs.EntryEdits.{is_entry, is_in_metadata, parts_behind}
use Rattle.gv_load.specs.Paths.{cache_dir, entry_path, ebuild_path, eclass_path}
use Rattle.gv_reload.proofs.OnceLaw.{member_passes}
use Rattle.gv_reload.proofs.OncePaths as once
use Rattle.gv_reload.proofs.Slashes.{behind_byte, is_plain, passed_over, plain_category, plain_name, plain_pf, up_to}
use Rattle.gv_load.specs.ListLemmas.{on_left, on_right}
use Rattle.gv_base.specs.Folders.{Split, is_one, split_part, up_step}

-- ---- the first part of a path
pub up_within : (dir rest : List ℕ) → up_to (dir ++ 47 ∷ rest) ≡ up_to dir
up_within [] rest = refl
up_within (b ∷ bs) rest = ap (λ (t : List ℕ). if b == 47 then [] else b ∷ t) (up_within bs rest)

split_up : (path : List ℕ) → (path ≡ up_to path) ⊎ ((more : List ℕ) × (path ≡ up_to path ++ 47 ∷ more))
split_up [] = inl refl
split_up (b ∷ bs) = by (b == 47) refl (split_up bs)
  where
    by : (e : Bool) → (b == 47) ≡ e → (bs ≡ up_to bs) ⊎ ((more : List ℕ) × (bs ≡ up_to bs ++ 47 ∷ more)) →
        ((b ∷ bs) ≡ (if e then [] else b ∷ up_to bs)) ⊎ ((more : List ℕ) × ((b ∷ bs) ≡ (if e then [] else b ∷ up_to bs) ++ 47 ∷ more))
    by true is s = inr (bs, ap (λ x. x ∷ bs) (eqb-true b 47 is))
    by false is (inl e) = inl (ap (λ xs. b ∷ xs) e)
    by false is (inr m) = inr (m.0, ap (λ xs. b ∷ xs) m.1)

pub first_up : (text : List ℕ) → up_to_first 47 text ≡ up_to text
first_up [] = refl
first_up (b ∷ bs) = up_step b bs ∙ ap (λ (t : List ℕ). if b == 47 then [] else b ∷ t) (first_up bs)

up_plain : (text : List ℕ) → is_plain text ≡ true → up_to text ≡ text
up_plain [] is = refl
up_plain (b ∷ bs) is =
    let parts = and_parts _ (is_plain bs) is in
    passed_over (b == 47) [] (b ∷ up_to bs) parts.0 ∙ ap (λ t. b ∷ t) (up_plain bs parts.1)

pub plain_one : (text : List ℕ) → is_plain text ≡ true → is_one text ≡ true
plain_one text is = (bytes_eq-Decides (up_to_first 47 text) text).1 (first_up text ∙ up_plain text is)

-- ---- a path outside the folder of entries and others
abbrev pub IsOutside : List ℕ → Type 0
IsOutside path = bytes_eq (up_to path) (codes "metadata") ≡ false

pub outside_within : (path rest : List ℕ) → IsOutside path → IsOutside (within path rest)
outside_within path rest out = ap (λ p. bytes_eq p (codes "metadata")) (up_within path rest) ∙ out

begins_so : (more : List ℕ) → is_some (after_prefix (codes "metadata/") (codes "metadata" ++ 47 ∷ more)) ≡ true
begins_so more = refl

pub not_in_metadata : (path : List ℕ) → is_in_metadata path ≡ false → IsOutside path
not_in_metadata path out = by (bytes_eq (up_to path) (codes "metadata")) refl
  where
    inside : up_to path ≡ codes "metadata" → (path ≡ up_to path) ⊎ ((more : List ℕ) × (path ≡ up_to path ++ 47 ∷ more)) → is_in_metadata path ≡ true
    inside first (inl e) = on_left (bytes_eq path (codes "metadata")) (is_some (after_prefix (codes "metadata/") path)) ((bytes_eq-Decides path (codes "metadata")).1 (e ∙ first))
    inside first (inr m) =
        let whole : path ≡ codes "metadata" ++ 47 ∷ m.0 = m.1 ∙ ap (λ p. p ++ 47 ∷ m.0) first in
        on_right (bytes_eq path (codes "metadata")) (is_some (after_prefix (codes "metadata/") path)) (ap (λ p. is_some (after_prefix (codes "metadata/") p)) whole ∙ begins_so m.0)

    by : (b : Bool) → bytes_eq (up_to path) (codes "metadata") ≡ b → b ≡ false
    by true is = absurd (true≢false (sym (inside ((bytes_eq-Decides (up_to path) (codes "metadata")).0 is) (split_up path)) ∙ out))
    by false is = refl

-- ---- the path of an entry
pub record IsEntryOf (categories : List (List ℕ)) (path : List ℕ) : Type 0 where
  pub category : List ℕ
  pub pf : List ℕ
  pub known : has_text categories category ≡ true
  pub good : is_pf pf ≡ true
  pub is : path ≡ entry_path category pf

prefix_is : (front bytes rest : List ℕ) → after_prefix front bytes ≡ Some rest → bytes ≡ front ++ rest
prefix_is front bytes rest = by (bytes_eq (take (length front) bytes) front) refl
  where
    by : (t : Bool) → bytes_eq (take (length front) bytes) front ≡ t → cond t (Some (drop (length front) bytes)) None ≡ Some rest → bytes ≡ front ++ rest
    by true is h =
        let begins : take (length front) bytes ≡ front = (bytes_eq-Decides _ _).0 is in
        let back : drop (length front) bytes ≡ rest = cc in
        sym (take-append-drop (length front) bytes) ∙ ap (λ x. x ++ drop (length front) bytes) begins ∙ ap (λ y. front ++ y) back
    by false is h = cc

entry_written : (category pf : List ℕ) → codes "metadata/md5-cache/" ++ (category ++ 47 ∷ pf) ≡ entry_path category pf
unfolding cache_dir
entry_written category pf = refl

entry_first : (category pf : List ℕ) → up_to (entry_path category pf) ≡ codes "metadata"
unfolding cache_dir
entry_first category pf = refl

no_pf : is_pf [] ≡ false
no_pf = refl

pub behind_first : (first rest more : List ℕ) → rest ≡ first ++ 47 ∷ more → drop (length first + 1) rest ≡ more
behind_first first rest more is = ap (drop (length first + 1)) is ∙ ap (λ n. drop n (first ++ 47 ∷ more)) (add-one (length first)) ∙ behind_byte first 47 more

nothing_behind : (first rest : List ℕ) → rest ≡ first → drop (length first + 1) rest ≡ []
nothing_behind first rest is = ap (drop (length first + 1)) is ∙ drop_of_length-le first (omega arith)

pub entry_is_of : (categories : List (List ℕ)) (path : List ℕ) → is_entry categories path ≡ true → IsEntryOf categories path
entry_is_of categories path = by (after_prefix (codes "metadata/md5-cache/") path) refl
  where
    divided : (rest : List ℕ) → path ≡ codes "metadata/md5-cache/" ++ rest → Split rest → has_text categories (up_to_first 47 rest) ≡ true → is_pf (drop (length (up_to_first 47 rest) + 1) rest) ≡ true → IsEntryOf categories path
    divided rest is (inl e) known good = absurd (true≢false (sym good ∙ ap is_pf (nothing_behind (up_to_first 47 rest) rest e) ∙ no_pf))
    divided rest is (inr m) known good = record {
      category = up_to_first 47 rest;
      pf = m.0;
      known = known;
      good = sym (ap is_pf (behind_first (up_to_first 47 rest) rest m.0 m.1)) ∙ good;
      is = is ∙ ap (λ r. codes "metadata/md5-cache/" ++ r) m.1 ∙ entry_written (up_to_first 47 rest) m.0;
    }

    by : (o : Option (List ℕ)) → after_prefix (codes "metadata/md5-cache/") path ≡ o →
        option_map_or (λ (parts : List ℕ × List ℕ). has_text categories parts.0 && is_pf parts.1) (option_map parts_behind o) false ≡ true → IsEntryOf categories path
    by None at h = cc
    by (Some rest) at h =
        let parts = and_parts (has_text categories (up_to_first 47 rest)) (is_pf (drop (length (up_to_first 47 rest) + 1) rest)) h in
        divided rest (prefix_is (codes "metadata/md5-cache/") path rest at) (split_part rest) parts.0 parts.1

module _ (categories paths : List (List ℕ)) (are : list_all (is_entry categories) paths ≡ true) where
  pub edited_is : (path : List ℕ) → has_text paths path ≡ true → IsEntryOf categories path
  edited_is path there = entry_is_of categories path (member_passes (is_entry categories) paths are path there)

  unless_edited : (path : List ℕ) → (IsEntryOf categories path → ⊥) → has_text paths path ≡ false
  unless_edited path not_so = by (has_text paths path) refl
    where
      by : (b : Bool) → has_text paths path ≡ b → b ≡ false
      by true is = absurd (not_so (edited_is path is))
      by false is = refl

  pub outside_other : (path : List ℕ) → IsOutside path → has_text paths path ≡ false
  outside_other path out = unless_edited path (λ e. true≢false (sym ((bytes_eq-Decides (up_to path) (codes "metadata")).1 (ap up_to e.is ∙ entry_first e.category e.pf)) ∙ out))

  pub outside_clear : (path : List ℕ) → IsOutside path → (rest : List ℕ) → has_text paths (within path rest) ≡ false
  outside_clear path out rest = outside_other (within path rest) (outside_within path rest out)

  pub eclass_other : (name : List ℕ) → has_text paths (eclass_path name) ≡ false
  unfolding eclass_path
  eclass_other name = outside_other (eclass_path name) refl

  -- an ebuild's path has a slash less
  pub ebuild_other : ((bytes : List ℕ) → IsDivided bytes) → list_all is_category categories ≡ true → (category pf : List ℕ) → is_category category ≡ true → is_pf pf ≡ true → has_text paths (ebuild_path category (name_of pf) pf) ≡ false
  ebuild_other division valid category pf is good =
      let pp = plain_pf division pf good in
      let here : once.is_entry (ebuild_path category (name_of pf) pf) ≡ false = once.ebuild_is category (name_of pf) pf (plain_category category is) (plain_name pf pp) pp in
      unless_edited (ebuild_path category (name_of pf) pf) (λ e.
      true≢false (sym (ap once.is_entry e.is ∙ once.entry_is e.category e.pf (plain_category e.category (member_passes is_category categories valid e.category e.known)) (plain_pf division e.pf e.good)) ∙ here))
