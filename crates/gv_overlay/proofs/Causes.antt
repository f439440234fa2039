-- How a load of a master or of the overlay's view ends.
use Rattle.std.proofs.Common.{◌≡◌, ℕ, List, Some, None, refl, sym, ap, ◌∙◌}
use Rattle.std.specs.Prelude.{Option, IfSome, Result, Ok, Err}
use Rattle.gv_base.specs.FileMap.{FileMap}
use Rattle.gv_load.specs.Loading.{LoadCause, loading}
use Rattle.gv_reading.specs.Look.{look_of}
use Rattle.gv_reading.specs.declared.faults.LoadFault.{LoadFault}
use Rattle.gv_reading.specs.declared.faults.LoadFault.TheVariants as load
use Rattle.gv_load.specs.declared.loading.Repo.{Repo}
use Rattle.gv_views.specs.Told.{IsTold, told_files}
use Rattle.gv_views.specs.Views.{folder_told, layered_told}
use Rattle.gv_views.specs.declared.layers.Layers.{Layers}
use Rattle.gv_overlay.specs.declared.faults.OverlayFault.{OverlayFault}
use Rattle.gv_overlay.specs.declared.faults.OverlayFault.TheVariants.{Limit, NoMemory, NotARepository, Tree}
use Rattle.gv_overlay.specs.Overlays.{layered_loading, master_fault, master_loading, own_fault}
use Rattle.gv_overlay.specs.Refused.{Hands, IsFaultOf, LoadEnds, Refused}

-- ---- over the views
pub folder_loaded : (told : Option FileMap) (folder : List ℕ) (repo : Repo) → IfSome (folder_told told folder) (λ v. loading (look_of v) ≡ Ok repo) → IsTold told → master_loading (told_files told) folder ≡ Ok repo
unfolding told_files
folder_loaded None folder repo h t = cc
folder_loaded (Some m) folder repo h t = h

folder_err : (told : Option FileMap) (folder : List ℕ) (fault : LoadFault) → IfSome (folder_told told folder) (λ v. loading (look_of v) ≡ Err fault) → IsTold told → master_loading (told_files told) folder ≡ Err fault
unfolding told_files
folder_err None folder fault h t = cc
folder_err (Some m) folder fault h t = h

pub folder_cause : (told : Option FileMap) (before now : ℕ) (folder : List ℕ) (fault : LoadFault) → LoadCause (folder_told told folder) before now fault → LoadEnds told before now (λ files. master_loading files folder) fault
folder_cause told before now folder load.NoMemory h = tt
folder_cause told before now folder (load.Tree path) h = h.0
folder_cause told before now folder (load.NotARepository path) h = (h.0, folder_err told folder (load.NotARepository path) h.1)
folder_cause told before now folder (load.Limit place number) h = (h.0, folder_err told folder (load.Limit place number) h.1)

pub layers_loaded : (told : Option FileMap) (layers : Layers) (repo : Repo) → IfSome (layered_told told layers) (λ v. loading (look_of v) ≡ Ok repo) → IsTold told → layered_loading (told_files told) layers ≡ Ok repo
unfolding told_files
layers_loaded None layers repo h t = cc
layers_loaded (Some m) layers repo h t = h

layers_err : (told : Option FileMap) (layers : Layers) (fault : LoadFault) → IfSome (layered_told told layers) (λ v. loading (look_of v) ≡ Err fault) → IsTold told → layered_loading (told_files told) layers ≡ Err fault
unfolding told_files
layers_err None layers fault h t = cc
layers_err (Some m) layers fault h t = h

pub layers_cause : (told : Option FileMap) (before now : ℕ) (layers : Layers) (fault : LoadFault) → LoadCause (layered_told told layers) before now fault → LoadEnds told before now (λ files. layered_loading files layers) fault
layers_cause told before now layers load.NoMemory h = tt
layers_cause told before now layers (load.Tree path) h = h.0
layers_cause told before now layers (load.NotARepository path) h = (h.0, layers_err told layers (load.NotARepository path) h.1)
layers_cause told before now layers (load.Limit place number) h = (h.0, layers_err told layers (load.Limit place number) h.1)

-- ---- handed on
module _ (told : Option FileMap) (before now : ℕ) (loads : FileMap → Result Repo LoadFault) where
  pub master_handed : (folder : List ℕ) (fault : LoadFault) (out : OverlayFault) → LoadEnds told before now loads fault → Hands (master_fault folder) fault out → Refused told before now (IsFaultOf (master_fault folder) loads) out
  master_handed folder load.NoMemory NoMemory ends is = tt
  master_handed folder load.NoMemory (Tree q) ends is = cc
  master_handed folder load.NoMemory (NotARepository q) ends is = cc
  master_handed folder load.NoMemory (Limit q n) ends is = cc
  master_handed folder (load.Tree path) NoMemory ends is = tt
  master_handed folder (load.Tree path) (Tree q) ends is = ends
  master_handed folder (load.Tree path) (NotARepository q) ends is = absurd is
  master_handed folder (load.Tree path) (Limit q n) ends is = absurd is
  master_handed folder (load.NotARepository path) NoMemory ends is = tt
  master_handed folder (load.NotARepository path) (Tree q) ends is = cc
  master_handed folder (load.NotARepository path) (NotARepository q) ends is = (ends.0, λ t. (load.NotARepository path, ends.1 t, sym is))
  master_handed folder (load.NotARepository path) (Limit q n) ends is = cc
  master_handed folder (load.Limit place number) NoMemory ends is = tt
  master_handed folder (load.Limit place number) (Tree q) ends is = cc
  master_handed folder (load.Limit place number) (NotARepository q) ends is = cc
  master_handed folder (load.Limit place number) (Limit q n) ends is = (ends.0, λ t. (load.Limit place number, ends.1 t, sym is))

  pub own_handed : (fault : LoadFault) (out : OverlayFault) → LoadEnds told before now loads fault → Hands own_fault fault out → Refused told before now (IsFaultOf own_fault loads) out
  own_handed load.NoMemory NoMemory ends is = tt
  own_handed load.NoMemory (Tree q) ends is = cc
  own_handed load.NoMemory (NotARepository q) ends is = cc
  own_handed load.NoMemory (Limit q n) ends is = cc
  own_handed (load.Tree path) NoMemory ends is = tt
  own_handed (load.Tree path) (Tree q) ends is = ends
  own_handed (load.Tree path) (NotARepository q) ends is = absurd is
  own_handed (load.Tree path) (Limit q n) ends is = absurd is
  own_handed (load.NotARepository path) NoMemory ends is = tt
  own_handed (load.NotARepository path) (Tree q) ends is = cc
  own_handed (load.NotARepository path) (NotARepository q) ends is = (ends.0, λ t. (load.NotARepository path, ends.1 t, sym is))
  own_handed (load.NotARepository path) (Limit q n) ends is = cc
  own_handed (load.Limit place number) NoMemory ends is = tt
  own_handed (load.Limit place number) (Tree q) ends is = cc
  own_handed (load.Limit place number) (NotARepository q) ends is = cc
  own_handed (load.Limit place number) (Limit q n) ends is = (ends.0, λ t. (load.Limit place number, ends.1 t, sym is))
