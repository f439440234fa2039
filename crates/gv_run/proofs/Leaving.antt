-- From the store and the output to what is left.
use Rattle.std.proofs.Common.{◌≡◌, ℕ, List, refl, inl, inr}
use Rattle.std.specs.Prelude.{Option}
use Rattle.std.specs.FinMap as map
use Rattle.std.specs.Option.{option_map}
use Rattle.gv_base.specs.Causes.{Rose}
use Rattle.gv_base.specs.FileMap.{FileMap}
use Rattle.gv_run.specs.declared.answering.Answers.{Answers}
use Rattle.gv_ending.specs.declared.refusal.Refusal.{Refusal}
use Rattle.gv_ending.specs.Causes.{FailsAt, Why, of_output, of_store}
use Rattle.gv_ending.specs.Endings.{GainsFront}
use Rattle.gv_run.specs.ScanSteps.{IsKept, IsUnkept, leave_causes, writing}
use Rattle.gv_run.proofs.Whys.{from_output, from_store}

module _ (path : List ℕ) (answers : Answers) (k k' : Option FileMap) (kb kn : ℕ) where
  module _ (o : Option (List ℕ)) (ob : ℕ) (others : option_map (λ (files : FileMap). map.remove files path) k' ≡ option_map (λ (files : FileMap). map.remove files path) k) where
    left : IsUnkept path (writing k k' kb kn o o ob ob)
    left = record { others = others; out = refl; out_calm = refl }

    pub unkept : (refusal : Refusal) → Why (of_store (FailsAt path kb kn)) refusal → Why (leave_causes path answers (writing k k' kb kn o o ob ob)) refusal
    unkept = from_store (FailsAt path kb kn) (leave_causes path answers (writing k k' kb kn o o ob ob)) (λ place fails. (fails, left)) (inl left)

  module _ (o o' : Option (List ℕ)) (ob on : ℕ) (kept : k' ≡ option_map (λ (files : FileMap). map.insert files path answers.file) k) (calm : kn ≡ kb) (front : GainsFront o o' answers.text) where
    stays : IsKept path answers.file (writing k k' kb kn o o' ob on)
    stays = record { kept = kept; calm = calm }

    pub unwritten : (refusal : Refusal) → Why (of_output (Rose ob on)) refusal → Why (leave_causes path answers (writing k k' kb kn o o' ob on)) refusal
    unwritten = from_output (Rose ob on) (leave_causes path answers (writing k k' kb kn o o' ob on)) (λ rose. (rose, (stays, front))) (inr (stays, front))
