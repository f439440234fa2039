-- The files of a folder, as files of its own.
use Rattle.std.proofs.Common.{◌≡◌, ℕ, List, Bool, true, Some, None, refl, sym, ap, ◌∙◌}
use Rattle.std.specs.Prelude.{Option, IfSome}
use Rattle.std.specs.Option.{is_some}
use Rattle.std.specs.FinMap.{get, keys}
use Rattle.gv_base.specs.FileMap.{FileMap}
use Rattle.gv_base.specs.Laws.{InOrderLaw}
use Rattle.gv_base.specs.Listing.{below, is_folder, IsListing}
use Rattle.gv_base.specs.Order.{has_text}
use Rattle.gv_base.specs.Outside.{found_as, found_at, IsLarge}
use Rattle.gv_base.specs.declared.tree.Found.{Found}
use Rattle.gv_views.specs.Told.{IsTold, told_files, parts_below}
use Rattle.gv_views.specs.Views.{file_in, folder_files, folder_told, inside, paths_in}
use Rattle.gv_views.proofs.Folders.{below_inside, get-files_by, has_key, in_mapped, inside_inside, same_folder, same_parts}

pub path_there : (m : FileMap) (folder q : List ℕ) → is_some (file_in m folder q) ≡ true → has_text (paths_in m folder) q ≡ true
path_there m folder q h = in_mapped (below folder) (keys m) (inside folder q) q (sym (has_key m (inside folder q)) ∙ h) (below_inside folder q)

get-folder : (m : FileMap) (folder q : List ℕ) → get (folder_files m folder) q ≡ get m (inside folder q)
get-folder m folder q = get-files_by (file_in m folder) (paths_in m folder) (path_there m folder) q

same : (m : FileMap) (folder path rest : List ℕ) → is_some (get (folder_files m folder) (inside path rest)) ≡ is_some (get m (inside (inside folder path) rest))
same m folder path rest = ap is_some (get-folder m folder (inside path rest) ∙ ap (get m) (inside_inside folder path rest))

found_same : (m : FileMap) (folder path : List ℕ) → found_at m (inside folder path) ≡ found_at (folder_files m folder) path
found_same m folder path =
    ap (λ o. found_as o (is_folder m (inside folder path))) (sym (get-folder m folder path))
    ∙ ap (found_as (get (folder_files m folder) path)) (sym (same_folder (folder_files m folder) m path (inside folder path) (same m folder path)))

-- two listings of the same parts
pub listing_same : (law : InOrderLaw) (v m : FileMap) (path other : List ℕ) (names : List (List ℕ)) → ((rest : List ℕ) → is_some (get v (inside path rest)) ≡ is_some (get m (inside other rest)))
    → IsListing m other names → IsListing v path names
listing_same law v m path other names same is = record {
  distinct = is.distinct;
  ordered = is.ordered ∙ law.same (parts_below m other) (parts_below v path) (same_parts v m path other same);
}

pub found_folder : (told : Option FileMap) (folder path : List ℕ) (found : Found) → (IsTold told → found ≡ found_at (told_files told) (inside folder path)) → IfSome (folder_told told folder) (λ v. found ≡ found_at v path)
unfolding told_files
found_folder None folder path found is = tt
found_folder (Some m) folder path found is = is refl ∙ found_same m folder path

pub large_folder : (told : Option FileMap) (folder path : List ℕ) → (IsTold told → IsLarge 16777216 (told_files told) (inside folder path)) → IfSome (folder_told told folder) (λ v. IsLarge 16777216 v path)
unfolding told_files
large_folder None folder path large = tt
large_folder (Some m) folder path large = let l = large refl in (l.0, get-folder m folder path ∙ l.1, l.2)

pub names_folder : (law : InOrderLaw) (told : Option FileMap) (folder path : List ℕ) (names : List (List ℕ)) → (IsTold told → IsListing (told_files told) (inside folder path) names)
    → IfSome (folder_told told folder) (λ v. IsListing v path names)
unfolding told_files
names_folder law None folder path names is = tt
names_folder law (Some m) folder path names is = listing_same law (folder_files m folder) m path (inside folder path) names (same m folder path) (is refl)
