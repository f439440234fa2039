-- What a load of an overlay with its masters comes to, and why it is refused.
use Rattle.std.specs.Prelude.{◌≡◌, ℕ, Bool, true, false, nat_lt, if◌then◌else◌, List, [], ◌∷◌, ◌++◌, length, map, filter, codes, Option, None, Some, IfSome, Result, Ok, Err}
use Rattle.std.specs.FinMap.{get}
use Rattle.gv_base.specs.Causes.{Rose}
use Rattle.gv_base.specs.FileMap.{FileMap}
use Rattle.gv_load.specs.Loading.{loading}
use Rattle.gv_reading.specs.Look.{look_of}
use Rattle.gv_reading.specs.declared.faults.LoadFault.{LoadFault}
use Rattle.gv_reading.specs.declared.faults.LoadFault.TheVariants as load
use Rattle.gv_load.specs.declared.loading.Repo.{Repo}
use Rattle.gv_report.specs.declared.report.Report.{Report}
use Rattle.gv_report.specs.declared.report.Subject.{Subject}
use Rattle.gv_report.specs.declared.report.Subject.TheVariants.{Package, Place}
use Rattle.gv_views.specs.Layout.{masters_in}
use Rattle.gv_views.specs.Views.{folder_files, inside, layered_files, layers_of}
use Rattle.gv_views.specs.declared.layers.Layers.{Layers}
use Rattle.gv_views.specs.declared.layout.LayoutFault.{LayoutFault}
use Rattle.gv_views.specs.declared.layout.LayoutFault.TheVariants as layout
use Rattle.gv_overlay.specs.declared.combining.Entry.{Entry}
use Rattle.gv_overlay.specs.declared.faults.OverlayFault.{OverlayFault}
use Rattle.gv_overlay.specs.declared.faults.OverlayFault.TheVariants.{Limit, NoMemory, NotARepository, Tree}
use Rattle.gv_overlay.specs.declared.overlay.Overlay.{Overlay}
use Rattle.gv_overlay.specs.Combined.{AreCombined, body_of, master_entries, own_of, pkg_of, repo_entries}

-- ---- the layout
unfoldable pub layout_name : List ℕ
layout_name = codes "metadata/layout.conf"

abbrev pub layout_path : (name : List ℕ) → List ℕ
layout_path name = inside name layout_name

abbrev pub layout_fault : (path : List ℕ) → LayoutFault → OverlayFault
layout_fault path layout.TooMany = Limit path 8
layout_fault path layout.Bad = NotARepository path
layout_fault path layout.NoMemory = NoMemory

abbrev pub of_layout : (path : List ℕ) → Result (List (List ℕ)) LayoutFault → Result (List (List ℕ)) OverlayFault
of_layout path (Ok masters) = Ok masters
of_layout path (Err fault) = Err (layout_fault path fault)

-- the masters that the layout's file names, which is no larger than a file that is read
abbrev pub masters_of_file : (name path : List ℕ) → Option (List ℕ) → Result (List (List ℕ)) OverlayFault
masters_of_file name path None = Err (NotARepository path)
masters_of_file name path (Some bytes) = if nat_lt 16777216 (length bytes) then Err (Limit path 16777216) else of_layout path (masters_in name bytes)

abbrev pub masters_at : FileMap → (name path : List ℕ) → Result (List (List ℕ)) OverlayFault
masters_at files name path = if nat_lt 4096 (length path) then Err (Limit path 4096) else masters_of_file name path (get files path)

abbrev pub masters_named : FileMap → (name : List ℕ) → Result (List (List ℕ)) OverlayFault
masters_named files name = masters_at files name (layout_path name)

-- ---- the repositories
abbrev pub master_loading : FileMap → (folder : List ℕ) → Result Repo LoadFault
master_loading files folder = loading (look_of (folder_files files folder))

abbrev pub layered_loading : FileMap → Layers → Result Repo LoadFault
layered_loading files layers = loading (look_of (layered_files files layers))

abbrev pub own_loading : FileMap → (name : List ℕ) → (masters : List (List ℕ)) → Result Repo LoadFault
own_loading files name masters = layered_loading files (layers_of name masters)

-- a path of a master has its folder in front; a path of the overlay's view is given as in the view
abbrev pub master_fault : (folder : List ℕ) → LoadFault → OverlayFault
master_fault folder (load.Tree path) = Tree (inside folder path)
master_fault folder (load.NotARepository path) = NotARepository (inside folder path)
master_fault folder (load.Limit place number) = Limit (inside folder place) number
master_fault folder load.NoMemory = NoMemory

abbrev pub own_fault : LoadFault → OverlayFault
own_fault (load.Tree path) = Tree path
own_fault (load.NotARepository path) = NotARepository path
own_fault (load.Limit place number) = Limit place number
own_fault load.NoMemory = NoMemory

-- ---- the overlay
-- what is told of entries, and not of a place
abbrev pub is_package : Subject → Bool
is_package (Place path line) = false
is_package (Package category name version pf) = true

abbrev pub is_of_entry : Report → Bool
is_of_entry r = is_package r.subject

-- the packages of all views together, with the profiles and lines of the overlay's view
pub record IsCombined (masters : List Repo) (own : Repo) (over : Overlay) : Type 0 where
  pub entries : List Entry
  pub combined : AreCombined (master_entries masters ++ repo_entries true own) entries
  pub pkgs_are : over.repo.pkgs ≡ map pkg_of entries
  pub bodies_are : over.repo.bodies ≡ map body_of entries
  pub own_are : over.own ≡ map own_of entries
  pub profiles_are : over.repo.profiles ≡ own.profiles
  pub lines_are : over.repo.lines ≡ own.lines
  pub no_notes : over.repo.notes ≡ []
  pub notes_are : over.notes ≡ filter is_of_entry own.notes

-- the layout names masters; each of them, and the overlay over them, is a repository within the limits of loading
pub record IsOverlay (files : FileMap) (name : List ℕ) (over : Overlay) : Type 0 where
  pub masters : List (List ℕ)
  pub named : masters_named files name ≡ Ok masters
  pub repos : List Repo
  pub loaded : map (master_loading files) masters ≡ map Ok repos
  pub own : Repo
  pub own_loaded : own_loading files name masters ≡ Ok own
  pub combined : IsCombined repos own over

-- ---- the first refusal: of the layout, then of a master, then of the overlay's view
abbrev pub own_refusal : Result Repo LoadFault → Option OverlayFault
own_refusal (Ok repo) = None
own_refusal (Err fault) = Some (own_fault fault)

abbrev pub master_refusal : (folder : List ℕ) → Result Repo LoadFault → (rest : Option OverlayFault) → Option OverlayFault
master_refusal folder (Ok repo) rest = rest
master_refusal folder (Err fault) rest = Some (master_fault folder fault)

abbrev pub masters_refusal : FileMap → (folders : List (List ℕ)) → (rest : Option OverlayFault) → Option OverlayFault
masters_refusal files [] rest = rest
masters_refusal files (folder ∷ folders) rest = master_refusal folder (master_loading files folder) (masters_refusal files folders rest)

abbrev pub refusal_by : FileMap → (name : List ℕ) → Result (List (List ℕ)) OverlayFault → Option OverlayFault
refusal_by files name (Err fault) = Some fault
refusal_by files name (Ok masters) = masters_refusal files masters (own_refusal (own_loading files name masters))

abbrev pub overlay_refusal : FileMap → (name : List ℕ) → Option OverlayFault
overlay_refusal files name = refusal_by files name (masters_named files name)

-- where there is an overlay, none of these is refused
abbrev pub ExcludesRefusal : Type 0
ExcludesRefusal = (files : FileMap) (name : List ℕ) (over : Overlay) → IsOverlay files name over → overlay_refusal files name ≡ None

-- the files have one overlay of a name at most
abbrev pub IsOneOverlay : Type 0
IsOneOverlay = (files : FileMap) (name : List ℕ) (one other : Overlay) → IsOverlay files name one → IsOverlay files name other → one ≡ other

-- a fault of the tree comes with a count that rose. Another refusal comes with a count that stands, and where the files are told it
-- is the first of them; want of memory says nothing
abbrev pub OverlayCause : Option FileMap → (name : List ℕ) → (before now : ℕ) → OverlayFault → Type 0
OverlayCause told name before now NoMemory = Unit {0}
OverlayCause told name before now (Tree path) = Rose before now
OverlayCause told name before now (NotARepository path) = (now ≡ before) × IfSome told (λ files. overlay_refusal files name ≡ Some (NotARepository path))
OverlayCause told name before now (Limit place number) = (now ≡ before) × IfSome told (λ files. overlay_refusal files name ≡ Some (Limit place number))
