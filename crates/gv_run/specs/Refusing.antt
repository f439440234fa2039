-- Words of private contracts alone: faults of the crates below that are handed on as refusals.
use Rattle.std.specs.Prelude.{◌≡◌, ◌⊎◌, ℕ}
use Rattle.gv_reading.specs.declared.faults.LoadFault.{LoadFault}
use Rattle.gv_reading.specs.declared.faults.LoadFault.TheVariants as loads
use Rattle.gv_load.specs.declared.loading.Repo.{Repo}
use Rattle.gv_overlay.specs.declared.faults.OverlayFault.{OverlayFault}
use Rattle.gv_overlay.specs.declared.faults.OverlayFault.TheVariants as overlays
use Rattle.gv_checks.specs.declared.fault.JudgeFault.{JudgeFault}
use Rattle.gv_checks.specs.declared.fault.JudgeFault.TheVariants as judges
use Rattle.gv_merge.specs.declared.merging.MergeFault.{MergeFault}
use Rattle.gv_merge.specs.declared.merging.MergeFault.TheVariants as merges
use Rattle.gv_ending.specs.declared.refusal.Refusal.{Refusal}
use Rattle.gv_ending.specs.declared.refusal.Refusal.TheVariants.{TreeFailed, Spent, NoMemory, NotARepository, Limit, Lacks}
use Rattle.gv_run.specs.Naming.{name_text}

-- a fault of loading, or of judging a repository, as a refusal
abbrev pub HandsLoad : LoadFault → Refusal → Type 0
HandsLoad (loads.Tree path) refusal = refusal ≡ TreeFailed path
HandsLoad (loads.NotARepository path) refusal = refusal ≡ NotARepository path
HandsLoad (loads.Limit place number) refusal = refusal ≡ Limit place number
HandsLoad loads.NoMemory refusal = refusal ≡ NoMemory

abbrev pub HandsOverlay : OverlayFault → Refusal → Type 0
HandsOverlay (overlays.Tree path) refusal = refusal ≡ TreeFailed path
HandsOverlay (overlays.NotARepository path) refusal = refusal ≡ NotARepository path
HandsOverlay (overlays.Limit place number) refusal = refusal ≡ Limit place number
HandsOverlay overlays.NoMemory refusal = refusal ≡ NoMemory

abbrev pub HandsJudge : Repo → JudgeFault → Refusal → Type 0
HandsJudge repo (judges.Spent name sets) refusal = (refusal ≡ Spent (name_text repo name)) ⊎ (refusal ≡ NoMemory)
HandsJudge repo (judges.Limit place number) refusal = refusal ≡ Limit place number
HandsJudge repo judges.NoMemory refusal = refusal ≡ NoMemory

-- or of merging records of so many parts
abbrev pub HandsMerge : (parts : ℕ) → MergeFault → Refusal → Type 0
HandsMerge parts (merges.NotBacked query part) refusal = refusal ≡ Lacks part parts query
HandsMerge parts (merges.Limit place number) refusal = refusal ≡ Limit place number
HandsMerge parts merges.NoMemory refusal = refusal ≡ NoMemory
