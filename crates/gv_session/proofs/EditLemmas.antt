-- Files with edits that some were seen of: elsewhere than at the paths of the others they are as with those that were seen.
use Rattle.std.proofs.Common.{◌≡◌, ℕ, Bool, true, false, ◌||◌, cond, List, [], ◌∷◌, length, map, refl, sym, ap, ◌∙◌, Option, None, Some}
use Rattle.std.specs.Prelude.{Result, Ok, Err, take, drop, fold, IfSome, IfOk}
use Rattle.std.specs.FinMap.{get, get-insert, get-remove}
use Rattle.std.specs.Str.{bytes_eq}
use Rattle.std.proofs.lemmas.Cmp.{nat_list_cmp_total}
use Rattle.std.proofs.lemmas.Map.Text.{is_eq-slice_cmp}
use Rattle.std.proofs.lemmas.Bool.{false≢true}
use Rattle.std.proofs.lemmas.List.{take-append-drop}
use Rattle.std.proofs.lemmas.List.Sums.{fold-append}
use Rattle.gv_base.specs.FileMap.{FileMap}
use Rattle.gv_base.specs.Order.{has_text}
use Rattle.gv_edits.specs.Edits.{after_edit, edit_path, edited, edited_told}
use Rattle.gv_edits.specs.declared.edit.Edit.{Edit}
use Rattle.gv_edits.specs.declared.edit.Edit.TheVariants.{Put, Cut}
use Rattle.gv_load.specs.Loading.{PassesWithin}
use Rattle.gv_load.specs.Repository.{folders_of}
use Rattle.gv_load.specs.declared.loading.Loaded.{Loaded}
use Rattle.gv_reading.specs.Look.{look_of}
use Rattle.gv_reading.specs.declared.faults.LoadFault.{LoadFault}
use Rattle.gv_session.specs.Due.{new_paths}
use Rattle.gv_session.specs.Session.{IsFound}

first_off : (a b : Bool) → (a || b) ≡ false → (a ≡ false) × (b ≡ false)
first_off true b h = absurd (false≢true (sym h))
first_off false b h = (refl, h)

elsewhere : (files : FileMap) (edit : Edit) (path : List ℕ) → bytes_eq path (edit_path edit) ≡ false → get (after_edit files edit) path ≡ get files path
elsewhere files (Put at bytes) path other = get-insert nat_list_cmp_total files at bytes path ∙ ap (λ b. cond b (Some bytes) (get files path)) (is_eq-slice_cmp path at ∙ other)
elsewhere files (Cut at) path other = get-remove nat_list_cmp_total files at path ∙ ap (λ b. cond b Option.None (get files path)) (is_eq-slice_cmp path at ∙ other)

all_elsewhere : (files : FileMap) (edits : List Edit) (path : List ℕ) → has_text (map edit_path edits) path ≡ false → get (fold after_edit files edits) path ≡ get files path
all_elsewhere files [] path none = refl
all_elsewhere files (e ∷ es) path none =
    let parts = first_off (bytes_eq path (edit_path e)) (has_text (map edit_path es) path) none in
    all_elsewhere (after_edit files e) es path parts.1 ∙ elsewhere files e path parts.0

-- the files with all edits are those with the first ones and then the others
pub then_others : (files : FileMap) (edits : List Edit) (n : ℕ) → edited files edits ≡ fold after_edit (edited files (take n edits)) (drop n edits)
then_others files edits n = ap (edited files) (sym (take-append-drop n edits)) ∙ fold-append after_edit files (take n edits) (drop n edits)

pub same_elsewhere : (files : FileMap) (edits : List Edit) (n : ℕ) (path : List ℕ) → has_text (new_paths edits n) path ≡ false → get (edited files edits) path ≡ get (edited files (take n edits)) path
same_elsewhere files edits n path none = ap (λ m. get m path) (then_others files edits n) ∙ all_elsewhere (edited files (take n edits)) (drop n edits) path none

pub take_all : {X : Type 0} (xs : List X) → take (length xs) xs ≡ xs
take_all [] = refl
take_all (x ∷ xs) = ap (λ ys. x ∷ ys) (take_all xs)

-- where the files are told, how many of them are found and the folders are those of the files with the edits
pub found_at : (edits : List Edit) (files : FileMap) (l : Loaded) → IsFound edits (Some files) l → PassesWithin (edited files edits) l.found × (l.folders ≡ folders_of (look_of (edited files edits)))
found_at edits files l found = found

pub found_both : (edits : List Edit) (told : Option FileMap) (l : Loaded) → IfSome (edited_told told edits) (λ files. PassesWithin files l.found)
    → IfSome (edited_told told edits) (λ files. l.folders ≡ folders_of (look_of files)) → IsFound edits told l
found_both edits None l within are = tt
found_both edits (Some files) l within are = (within, are)

pub loaded_both : (edits : List Edit) (told : Option FileMap) (result : Result Loaded LoadFault) → IfOk result (λ l. IfSome (edited_told told edits) (λ files. PassesWithin files l.found))
    → IfOk result (λ l. IfSome (edited_told told edits) (λ files. l.folders ≡ folders_of (look_of files))) → IfOk result (IsFound edits told)
loaded_both edits told (Ok l) within are = found_both edits told l within are
loaded_both edits told (Err fault) within are = tt
