-- What is at a path of the edited files.
-- A folder stays where the tree has one, unless a cut lies below it and no put does. Then the tree is searched for a
-- file that wasn't cut (`Lefts`).
use Rattle.std.proofs.Common.{◌≡◌, ℕ, List, [], ◌∷◌, Bool, true, false, not, ◌||◌, length, Some, None, refl, sym, ap, ◌∙◌, arith}
use Rattle.std.specs.Prelude.{Option, IfSome, ◌==◌}
use Rattle.std.specs.FinMap.{get, contains_key}
use Rattle.std.proofs.Math.Bool.{or-false}
use Rattle.std.proofs.lemmas.Bool.{ne_eqb}
use Rattle.gv_base.specs.FileMap.{FileMap}
use Rattle.gv_base.specs.Laws.{InOrderLaw}
use Rattle.gv_base.specs.Outside.{found_as, found_at, IsLarge}
use Rattle.gv_base.specs.Listing.{is_folder, IsListing}
use Rattle.gv_base.specs.declared.tree.Found.TheVariants as found
use Rattle.gv_edits.specs.declared.edit.Edit.{Edit}
use Rattle.gv_edits.specs.declared.inner.Kind.TheVariants.{Dir, Absent}
use Rattle.gv_edits.specs.Inner.{IsTold, told_files, kind_as, kind_at}
use Rattle.gv_edits.specs.Edits.{edited, edited_told}
use Rattle.gv_edits.specs.Kept.{put_files, cut_paths}
use Rattle.gv_edits.specs.Edited.{uncut, any_stands, all_stand}
use Rattle.gv_base.specs.Folders.{or_first, and_first, folder_more}
use Rattle.gv_edits.proofs.Overlays.{uncut_same, uncut_none, uncut_more, no_cut_below, folder-edited, put-edited, uncut-edited}
use Rattle.gv_edits.proofs.Lefts.{listed_stand, listed_folder}

-- what holds of the edited files where files are told holds of those that are told
pub if_told : (told : Option FileMap) (es : List Edit) (P : FileMap → Type 0) → (IsTold told → P (edited (told_files told) es)) → IfSome (edited_told told es) P
unfolding told_files
if_told None es P h = tt
if_told (Some m) es P h = h refl

-- what holds where files are told holds of those that are told
pub told_of : (told : Option FileMap) (P : FileMap → Type 0) → IfSome told P → IsTold told → P (told_files told)
unfolding told_files
told_of None P h t = cc
told_of (Some m) P h t = h

pub put_there : (m : FileMap) (es : List Edit) (path bytes : List ℕ) → get (put_files es) path ≡ Some bytes → found.File bytes ≡ found_at (edited m es) path
put_there m es path bytes at = sym (ap (λ o. found_as o (is_folder (edited m es) path)) (put-edited m es path bytes at))

pub cut_there : (m : FileMap) (es : List Edit) (path : List ℕ) (is : Bool) → get (put_files es) path ≡ None → contains_key (cut_paths es) path ≡ true → is ≡ is_folder (edited m es) path → found_as None is ≡ found_at (edited m es) path
cut_there m es path is put cut folder =
    ap (found_as None) folder ∙ sym (ap (λ o. found_as o (is_folder (edited m es) path)) (uncut-edited m es path put ∙ uncut_none m es path cut))

-- a path that no edit names has the tree's file
pub file_there : (m : FileMap) (es : List Edit) (path : List ℕ) → get (put_files es) path ≡ None → contains_key (cut_paths es) path ≡ false → get (edited m es) path ≡ get m path
file_there m es path put cut = uncut-edited m es path put ∙ uncut_same m es path cut

found_file : (o : Option (List ℕ)) (b : Bool) (bytes : List ℕ) → found.File bytes ≡ found_as o b → o ≡ Some bytes
found_file (Some x) b bytes e = cc
found_file None true bytes e = cc
found_file None false bytes e = cc

found_dir : (o : Option (List ℕ)) (b : Bool) → found.Dir ≡ found_as o b → (o ≡ None) × (b ≡ true)
found_dir (Some x) b e = cc
found_dir None true e = (refl, refl)
found_dir None false e = cc

found_absent : (o : Option (List ℕ)) (b : Bool) → found.Absent ≡ found_as o b → (o ≡ None) × (b ≡ false)
found_absent (Some x) b e = cc
found_absent None true e = cc
found_absent None false e = (refl, refl)

pub file_stays : (m : FileMap) (es : List Edit) (path bytes : List ℕ) → get (put_files es) path ≡ None → contains_key (cut_paths es) path ≡ false → found.File bytes ≡ found_at m path → found.File bytes ≡ found_at (edited m es) path
file_stays m es path bytes put cut at =
    sym (ap (λ o. found_as o (is_folder (edited m es) path)) (file_there m es path put cut ∙ found_file (get m path) (is_folder m path) bytes at))

pub dir_is : (m : FileMap) (path : List ℕ) → found.Dir ≡ found_at m path → is_folder m path ≡ true
dir_is m path at = (found_dir (get m path) (is_folder m path) at).1

pub dir_there : (m : FileMap) (es : List Edit) (path : List ℕ) (is : Bool) → get (put_files es) path ≡ None → contains_key (cut_paths es) path ≡ false → found.Dir ≡ found_at m path → is ≡ is_folder (edited m es) path → found_as None is ≡ found_at (edited m es) path
dir_there m es path is put cut at folder =
    ap (found_as None) folder ∙ sym (ap (λ o. found_as o (is_folder (edited m es) path)) (file_there m es path put cut ∙ (found_dir (get m path) (is_folder m path) at).0))

none_left : (t : Bool) → (t ≡ true → false ≡ true) → t ≡ false
none_left true h = sym (h refl)
none_left false h = refl

pub absent_there : (m : FileMap) (es : List Edit) (path : List ℕ) (is : Bool) → get (put_files es) path ≡ None → contains_key (cut_paths es) path ≡ false → found.Absent ≡ found_at m path → is ≡ is_folder (put_files es) path → found_as None is ≡ found_at (edited m es) path
absent_there m es path is put cut at folder =
    let none = found_absent (get m path) (is_folder m path) at in
    let left : is_folder (uncut m es) path ≡ false = none_left (is_folder (uncut m es) path) (λ h. sym none.1 ∙ folder_more (uncut m es) m (uncut_more m es) path h) in
    let whole : is_folder (put_files es) path ≡ is_folder (edited m es) path = sym (folder-edited m es path ∙ ap (λ b. is_folder (put_files es) path || b) left ∙ or-false (is_folder (put_files es) path)) in
    ap (found_as None) (folder ∙ whole) ∙ sym (ap (λ o. found_as o (is_folder (edited m es) path)) (file_there m es path put cut ∙ none.0))

pub large_stays : (m : FileMap) (es : List Edit) (path : List ℕ) → get (put_files es) path ≡ None → contains_key (cut_paths es) path ≡ false → IsLarge 16777216 m path → IsLarge 16777216 (edited m es) path
large_stays m es path put cut large = (large.0, file_there m es path put cut ∙ large.1, large.2)

-- ---- folders
pub put_below : (m : FileMap) (es : List Edit) (path : List ℕ) → true ≡ is_folder (put_files es) path → true ≡ is_folder (edited m es) path
put_below m es path h = sym (folder-edited m es path ∙ or_first (is_folder (put_files es) path) (is_folder (uncut m es) path) (sym h))

pub no_put_below : (m : FileMap) (es : List Edit) (path : List ℕ) → false ≡ is_folder (put_files es) path → is_folder (edited m es) path ≡ is_folder (uncut m es) path
no_put_below m es path h = folder-edited m es path ∙ ap (λ b. b || is_folder (uncut m es) path) (sym h)

pub no_edit_below : (m : FileMap) (es : List Edit) (path : List ℕ) → false ≡ is_folder (put_files es) path → false ≡ is_folder (cut_paths es) path → is_folder (edited m es) path ≡ is_folder m path
no_edit_below m es path put cut = no_put_below m es path put ∙ no_cut_below m es path (sym cut)

some_stand : (m : FileMap) (path : List ℕ) (names : List (List ℕ)) → all_stand m path names ≡ true → any_stands m path names ≡ not (length names == 0)
some_stand m path [] h = refl
some_stand m path (name ∷ names) h =
    let filled : (length (name ∷ names) == 0) ≡ false = ne_eqb (length (name ∷ names)) 0 (λ e. omega arith) in
    rw filled (or_first _ (any_stands m path names) (and_first _ (all_stand m path names) h))

pub names_folder : (law : InOrderLaw) (m : FileMap) (path : List ℕ) (names : List (List ℕ)) → IsListing m path names → not (length names == 0) ≡ is_folder m path
names_folder law m path names is = sym (listed_folder law m m path names (λ q h. h) is ∙ some_stand m path names (listed_stand law m path names is))

kind_folder : (o : Option (List ℕ)) (b : Bool) → Dir ≡ kind_as o b → true ≡ b
kind_folder (Some x) b e = cc
kind_folder None true e = refl
kind_folder None false e = cc

kind_nothing : (o : Option (List ℕ)) (b : Bool) → Absent ≡ kind_as o b → false ≡ b
kind_nothing (Some x) b e = cc
kind_nothing None true e = cc
kind_nothing None false e = refl

pub kind_dir_folder : (m : FileMap) (path : List ℕ) → Dir ≡ kind_at m path → true ≡ is_folder m path
kind_dir_folder m path e = kind_folder (get m path) (is_folder m path) e

pub kind_absent_folder : (m : FileMap) (path : List ℕ) → Absent ≡ kind_at m path → false ≡ is_folder m path
kind_absent_folder m path e = kind_nothing (get m path) (is_folder m path) e
