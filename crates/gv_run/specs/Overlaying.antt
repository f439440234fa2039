-- What a scan of an overlay leaves, and what it says of the files.
use Rattle.std.specs.Prelude.{◌≡◌, ◌⊎◌, ℕ, false, List, Option, None, Some, IfSome}
use Rattle.gv_base.specs.FileMap.{FileMap}
use Rattle.gv_cert.specs.Known.{KnownRecord}
use Rattle.gv_reading.specs.declared.faults.LoadFault.{LoadFault}
use Rattle.gv_overlay.specs.Judged.{overlay_queries, overlay_text}
use Rattle.gv_overlay.specs.Overlays.{IsOverlay, overlay_refusal, own_fault}
use Rattle.gv_overlay.specs.declared.faults.OverlayFault.{OverlayFault}
use Rattle.gv_overlay.specs.declared.faults.OverlayFault.TheVariants.{Limit, NoMemory, NotARepository, Tree}
use Rattle.gv_overlay.specs.declared.overlay.Overlay.{Overlay}
use Rattle.gv_words.specs.declared.command.OverlayScan.{OverlayScan}
use Rattle.gv_ending.specs.Causes.{Causes}
use Rattle.gv_ending.specs.Fetching.{IsGiven}
use Rattle.gv_run.specs.Naming.{TellsFirst}
use Rattle.gv_run.specs.Scan.{SaysOf}
use Rattle.gv_run.specs.Scanning.{Scanning, Scans, scanning_causes}
use Rattle.gv_ending.specs.World.{World}

-- an overlay of this name is what was loaded, or loading is refused so, where the files are told
abbrev pub IsOverlaid : Option FileMap → (name : List ℕ) → Overlay → Type 0
IsOverlaid told name over = IfSome told (λ files. IsOverlay files name over)

abbrev pub IsNotOverlaid : Option FileMap → (name : List ℕ) → LoadFault → Type 0
IsNotOverlaid told name fault = IfSome told (λ files. overlay_refusal files name ≡ Some (own_fault fault))

-- what is scanned, where the files are told: the queries of the overlay's packages, among those of its masters
abbrev pub overlay_of : OverlayScan → Option FileMap → Scanning
overlay_of s told = record {
  certs = s.asked.certs;
  Fetching = s.asked.fresh ≡ false;
  Fetches = λ path. path ≡ s.asked.certs;
  Given = λ kept. IsGiven s.asked.fresh kept s.asked.certs;
  budget = s.asked.options.budget;
  Of = Overlay;
  Loads = IsOverlaid told s.repo;
  Unloads = IsNotOverlaid told s.repo;
  asks = overlay_queries s.asked.options;
  Unasked = λ given over. TellsFirst s.asked.options.budget given (overlay_queries s.asked.options over) over.repo;
  prints = overlay_text s.asked.options;
}

-- all queries were answered and their certificates kept, and the text was written
abbrev pub OverlayReports : OverlayScan → World → World → ℕ → Type 0
OverlayReports s old new status = Scans (overlay_of s old.files) old new status

-- why it has no answer, and what it leaves then
abbrev pub overlay_causes : OverlayScan → World → World → Causes
overlay_causes s old new = scanning_causes (overlay_of s old.files) old new

-- ---- where nothing outside fails

abbrev pub overlay_status : OverlayFault → ℕ
overlay_status (Tree path) = 3
overlay_status (NotARepository path) = 6
overlay_status (Limit place number) = 7
overlay_status NoMemory = 5

-- the status of a refusal of loading, or there is an overlay, of which the status is that of its queries and its text
abbrev pub OverlaySaysBy : OverlayScan → (given : List KnownRecord) → FileMap → (refusal : Option OverlayFault) → ℕ → Type 0
OverlaySaysBy s given files None status =
    (over : Overlay) × IsOverlay files s.repo over × SaysOf s.asked.options.budget given (overlay_queries s.asked.options over) (overlay_text s.asked.options over) status
OverlaySaysBy s given files (Some fault) status = (status ≡ overlay_status fault) ⊎ (status ≡ 5)

abbrev pub OverlaySays : OverlayScan → (given : List KnownRecord) → FileMap → ℕ → Type 0
OverlaySays s given files status = OverlaySaysBy s given files (overlay_refusal files s.repo) status
