-- What one call of the tree below tells of the files that are told.
use Rattle.std.proofs.Common.{◌≡◌, ℕ, List, Some, None}
use Rattle.std.specs.Prelude.{Option, IfSome}
use Rattle.gv_base.specs.FileMap.{FileMap}
use Rattle.gv_base.specs.Outside.{found_at, IsLarge}
use Rattle.gv_base.specs.Listing.{IsListing}
use Rattle.gv_base.specs.declared.tree.Found.{Found}
use Rattle.gv_views.specs.Told.{IsTold, told_files}

pub found_told : (told : Option FileMap) (path : List ℕ) (found : Found) → IfSome told (λ m. found ≡ found_at m path) → IsTold told → found ≡ found_at (told_files told) path
unfolding told_files
found_told None path found is told = cc
found_told (Some m) path found is told = is

pub large_told : (told : Option FileMap) (path : List ℕ) → IfSome told (λ m. IsLarge 16777216 m path) → IsTold told → IsLarge 16777216 (told_files told) path
unfolding told_files
large_told None path large told = cc
large_told (Some m) path large told = large

pub names_told : (told : Option FileMap) (path : List ℕ) (names : List (List ℕ)) → IfSome told (λ m. IsListing m path names) → IsTold told → IsListing (told_files told) path names
unfolding told_files
names_told None path names is told = cc
names_told (Some m) path names is told = is
