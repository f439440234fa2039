-- What is left at and below a path that was listed.
use Rattle.std.proofs.Common.{◌≡◌, ℕ, List, [], ◌∷◌, ◌++◌, Bool, true, false, ◌&&◌, ◌||◌, Some, None, refl, sym, ap, subst, ◌∙◌, inl, inr, ◌⊎◌}
use Rattle.std.specs.Prelude.{Option}
use Rattle.std.specs.List.{list_all, filter_map}
use Rattle.std.specs.Option.{is_some}
use Rattle.std.specs.Str.{bytes_eq}
use Rattle.std.specs.FinMap.{get, keys, contains_key}
use Rattle.std.specs.Cmp.{both_ways}
use Rattle.std.proofs.lemmas.List.Folds.{list_any-append}
use Rattle.std.proofs.lemmas.Slice.Eq.{bytes_eq-Decides}
use Rattle.gv_base.specs.FileMap.{FileMap}
use Rattle.gv_base.specs.Cut.{up_to_first}
use Rattle.gv_base.specs.Listing.{next_part, is_folder, IsListing}
use Rattle.gv_base.specs.Order.{has_text}
use Rattle.gv_base.specs.Laws.{InOrderLaw}
use Rattle.gv_edits.specs.declared.inner.Kind.TheVariants.{File, Dir, Absent}
use Rattle.gv_edits.specs.declared.edit.Edit.{Edit}
use Rattle.gv_edits.specs.Inner.{kind_as, kind_at}
use Rattle.gv_edits.specs.Kept.{cut_paths}
use Rattle.gv_edits.specs.Edited.{within, stands, uncut, any_folder, any_stands, all_stand}
use Rattle.gv_base.specs.Folders.{or_first, or_second, and_both, and_first, and_second, or_cases, folder_from, folder_to, found_in, in_found, name_stands, is_one, Split, split_part, up_up, within_within}
use Rattle.gv_edits.proofs.Overlays.{uncut_same, uncut_none}

kind_file : (o : Option (List ℕ)) (b : Bool) → File ≡ kind_as o b → is_some o ≡ true
kind_file (Some x) b e = refl
kind_file None true e = cc
kind_file None false e = cc

kind_dir : (o : Option (List ℕ)) (b : Bool) → Dir ≡ kind_as o b → (o ≡ None) × (b ≡ true)
kind_dir (Some x) b e = cc
kind_dir None true e = (refl, refl)
kind_dir None false e = cc

kind_absent : (o : Option (List ℕ)) (b : Bool) → Absent ≡ kind_as o b → (o ≡ None) × (b ≡ false)
kind_absent (Some x) b e = cc
kind_absent None true e = cc
kind_absent None false e = (refl, refl)

pub cut_left : (m : FileMap) (es : List Edit) (path : List ℕ) → contains_key (cut_paths es) path ≡ true → stands (uncut m es) path ≡ is_folder (uncut m es) path
cut_left m es path cut = rw (uncut_none m es path cut) refl

pub file_left : (m : FileMap) (es : List Edit) (path : List ℕ) → contains_key (cut_paths es) path ≡ false → File ≡ kind_at m path → stands (uncut m es) path ≡ true
file_left m es path cut at = rw (uncut_same m es path cut) (or_first (is_some (get m path)) (is_folder (uncut m es) path) (kind_file (get m path) (is_folder m path) at))

pub dir_left : (m : FileMap) (es : List Edit) (path : List ℕ) → contains_key (cut_paths es) path ≡ false → Dir ≡ kind_at m path → stands (uncut m es) path ≡ is_folder (uncut m es) path
dir_left m es path cut at = rw (uncut_same m es path cut, (kind_dir (get m path) (is_folder m path) at).0) refl

pub absent_left : (m : FileMap) (path : List ℕ) → Absent ≡ kind_at m path → stands m path ≡ false
absent_left m path at = rw ((kind_absent (get m path) (is_folder m path) at).0, (kind_absent (get m path) (is_folder m path) at).1) refl

-- ---- the names of a listing
pub listed_name : (law : InOrderLaw) (m : FileMap) (path : List ℕ) (names : List (List ℕ)) → IsListing m path names → (name : List ℕ) → has_text names name ≡ (is_one name && stands m (within path name))
listed_name law m path names is name =
    law.members names name ∙ ap (λ ns. has_text ns name) is.ordered ∙ sym (law.members (filter_map (next_part path) (keys m)) name) ∙ name_stands m path name

all_of : (f : List ℕ → Bool) (xs : List (List ℕ)) → ((x : List ℕ) → has_text xs x ≡ true → f x ≡ true) → list_all f xs ≡ true
all_of f [] h = refl
all_of f (x ∷ xs) h = and_both (f x) (list_all f xs) (h x (or_first (bytes_eq x x) (has_text xs x) ((bytes_eq-Decides x x).1 refl))) (all_of f xs (λ y there. h y (or_second (bytes_eq y x) (has_text xs y) there)))

pub listed_stand : (law : InOrderLaw) (m : FileMap) (path : List ℕ) (names : List (List ℕ)) → IsListing m path names → all_stand m path names ≡ true
listed_stand law m path names is = all_of (λ name. stands m (within path name)) names (λ name there. and_second (is_one name) (stands m (within path name)) (sym (listed_name law m path names is name) ∙ there))

-- a folder of some of the files has one of the listed names
pub listed_folder : (law : InOrderLaw) (u m : FileMap) (path : List ℕ) (names : List (List ℕ)) → ((q : List ℕ) → is_some (get u q) ≡ true → is_some (get m q) ≡ true) → IsListing m path names → is_folder u path ≡ any_stands u path names
listed_folder law u m path names more is = both_ways (is_folder u path) (any_stands u path names) forth back
  where
    name_of : (rest : List ℕ) → Split rest → is_some (get u (within path rest)) ≡ true → (is_one (up_to_first 47 rest) ≡ true) × (stands u (within path (up_to_first 47 rest)) ≡ true) × (stands m (within path (up_to_first 47 rest)) ≡ true)
    name_of rest (inl e) h =
        let at : is_some (get u (within path (up_to_first 47 rest))) ≡ true = subst (λ (n : List ℕ). is_some (get u (within path n)) ≡ true) e h in
        ((bytes_eq-Decides _ _).1 (up_up rest), or_first _ (is_folder u (within path (up_to_first 47 rest))) at, or_first _ (is_folder m (within path (up_to_first 47 rest))) (more _ at))
    name_of rest (inr s) h =
        let e : within path rest ≡ within (within path (up_to_first 47 rest)) s.0 = ap (within path) s.1 ∙ within_within path (up_to_first 47 rest) s.0 in
        let at : is_some (get u (within (within path (up_to_first 47 rest)) s.0)) ≡ true = subst (λ (q : List ℕ). is_some (get u q) ≡ true) e h in (
          (bytes_eq-Decides _ _).1 (up_up rest),
          or_second (is_some (get u (within path (up_to_first 47 rest)))) _ (folder_to u (within path (up_to_first 47 rest)) s.0 at),
          or_second (is_some (get m (within path (up_to_first 47 rest)))) _ (folder_to m (within path (up_to_first 47 rest)) s.0 (more _ at)),
        )

    forth : is_folder u path ≡ true → any_stands u path names ≡ true
    forth h =
        let r = folder_from u path h in
        let n = name_of r.0 (split_part r.0) r.1 in
        let there : has_text names (up_to_first 47 r.0) ≡ true = listed_name law m path names is (up_to_first 47 r.0) ∙ and_both (is_one (up_to_first 47 r.0)) (stands m (within path (up_to_first 47 r.0))) n.0 n.2 in
        in_found (λ name. stands u (within path name)) names (up_to_first 47 r.0) there n.1

    below : (name : List ℕ) → (is_some (get u (within path name)) ≡ true) ⊎ (is_folder u (within path name) ≡ true) → is_folder u path ≡ true
    below name (inl at) = folder_to u path name at
    below name (inr f) =
        let r = folder_from u (within path name) f in
        folder_to u path (name ++ 47 ∷ r.0) (subst (λ (q : List ℕ). is_some (get u q) ≡ true) (sym (within_within path name r.0)) r.1)

    back : any_stands u path names ≡ true → is_folder u path ≡ true
    back h = let n = found_in (λ name. stands u (within path name)) names h in below n.0 (or_cases (is_some (get u (within path n.0))) (is_folder u (within path n.0)) n.2)

-- ---- what is ahead in a search
pub any_one_more : (u : FileMap) (ahead : List (List ℕ)) (path : List ℕ) → any_folder u (ahead ++ path ∷ []) ≡ (any_folder u ahead || is_folder u path)
any_one_more u ahead path = list_any-append (is_folder u) ahead (path ∷ []) ∙ ap (λ b. any_folder u ahead || b) (or_false (is_folder u path))
  where
    or_false : (b : Bool) → (b || false) ≡ b
    or_false true = refl
    or_false false = refl
