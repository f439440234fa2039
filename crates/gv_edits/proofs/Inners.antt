-- What one reading of the tree below tells.
use Rattle.std.proofs.Common.{◌≡◌, ℕ, List, Bool, true, false, Some, None, refl, sym, ap, ◌∙◌}
use Rattle.std.specs.Prelude.{Option, IfSome}
use Rattle.std.specs.FinMap.{get}
use Rattle.gv_base.specs.FileMap.{FileMap}
use Rattle.gv_base.specs.Outside.{found_at, found_as, IsLarge}
use Rattle.gv_base.specs.Listing.{is_folder, IsListing}
use Rattle.gv_base.specs.declared.tree.Found.{Found}
use Rattle.gv_edits.specs.declared.inner.Kind.TheVariants.{File}
use Rattle.gv_edits.specs.Inner.{IsTold, told_files, kind_in, kind_as, kind_at}

found_kind : (o : Option (List ℕ)) (b : Bool) → kind_in (found_as o b) ≡ kind_as o b
found_kind (Some bytes) b = refl
found_kind None true = refl
found_kind None false = refl

pub told_kind : (told : Option FileMap) (path : List ℕ) (found : Found) → IfSome told (λ m. found ≡ found_at m path) → IsTold told → kind_in found ≡ kind_at (told_files told) path
unfolding told_files
told_kind None path found is told = cc
told_kind (Some m) path found is told = ap kind_in is ∙ found_kind (get m path) (is_folder m path)

pub large_kind : (told : Option FileMap) (path : List ℕ) → IfSome told (λ m. IsLarge 16777216 m path) → IsTold told → File ≡ kind_at (told_files told) path
unfolding told_files
large_kind None path large told = cc
large_kind (Some m) path large told = sym (ap (λ (o : Option (List ℕ)). kind_as o (is_folder m path)) large.1)

pub told_names : (told : Option FileMap) (path : List ℕ) (names : List (List ℕ)) → IfSome told (λ m. IsListing m path names) → IsTold told → IsListing (told_files told) path names
unfolding told_files
told_names None path names is told = cc
told_names (Some m) path names is told = is
