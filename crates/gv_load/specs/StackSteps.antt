-- Lemmas, no rule, for this crate and those above: the steps of the stacks, by what folding them came to.
use Rattle.std.proofs.Common.{◌≡◌, ℕ, List, [], ◌∷◌, Some, None, refl}
use Rattle.std.specs.Option.{option_or}
use Rattle.std.specs.Prelude.{Option, Ok, Err}
use Rattle.gv_profile.specs.Walking.{Look, most_visits, stack_fault}
use Rattle.gv_profile.specs.declared.desc.DescLine.{DescLine}
use Rattle.gv_profile.specs.declared.faults.ProfileFault.{ProfileFault}
use Rattle.gv_profile.specs.declared.faults.ProfileFault.TheVariants.{Cycle, MissingParent, MissingProfile, BadEapi, TooMany, NoMemory}
use Rattle.gv_reading.specs.declared.faults.LoadFault.TheVariants.{Limit}
use Rattle.gv_reading.specs.Reader.{Seen}
use Rattle.gv_reading.specs.Look as looks
use Rattle.gv_load.specs.Order.{is_too_many, stack_steps}
use Rattle.gv_load.specs.Paths.{stack_place}
use Rattle.gv_reading.specs.Reading.{bound, passed}
use Rattle.gv_load.specs.StackLimits.{limit_of, first_limit}

-- the steps of the stacks are taken unless a line has too many visits
pub stacks_pass : (look : looks.Look) (seen : Seen) (dirs : Look) (lines : List DescLine) → first_limit dirs lines ≡ None → passed look seen (stack_steps dirs lines) ≡ Ok seen
stacks_pass look seen dirs [] none = refl
stacks_pass look seen dirs (line ∷ lines) none = by (stack_fault dirs line) none (stacks_pass look seen dirs lines)
  where
    by : (f : Option ProfileFault) → option_or (limit_of line f) (first_limit dirs lines) ≡ None → (first_limit dirs lines ≡ None → passed look seen (stack_steps dirs lines) ≡ Ok seen) →
        passed look seen (bound (stack_place line.path) most_visits (is_too_many f) ∷ stack_steps dirs lines) ≡ Ok seen
    by None is rest = rest is
    by (Some (Cycle path n)) is rest = rest is
    by (Some (MissingParent path n)) is rest = rest is
    by (Some (MissingProfile n)) is rest = rest is
    by (Some (BadEapi path)) is rest = rest is
    by (Some NoMemory) is rest = rest is
    by (Some TooMany) is rest = cc

pub stacks_refused : (look : looks.Look) (seen : Seen) (dirs : Look) (lines : List DescLine) (place : List ℕ) → first_limit dirs lines ≡ Some place → passed look seen (stack_steps dirs lines) ≡ Err (Limit place most_visits)
stacks_refused look seen dirs [] place some = cc
stacks_refused look seen dirs (line ∷ lines) place some = by (stack_fault dirs line) some (stacks_refused look seen dirs lines place)
  where
    by : (f : Option ProfileFault) → option_or (limit_of line f) (first_limit dirs lines) ≡ Some place → (first_limit dirs lines ≡ Some place → passed look seen (stack_steps dirs lines) ≡ Err (Limit place most_visits)) →
        passed look seen (bound (stack_place line.path) most_visits (is_too_many f) ∷ stack_steps dirs lines) ≡ Err (Limit place most_visits)
    by None is rest = rest is
    by (Some (Cycle path n)) is rest = rest is
    by (Some (MissingParent path n)) is rest = rest is
    by (Some (MissingProfile n)) is rest = rest is
    by (Some (BadEapi path)) is rest = rest is
    by (Some NoMemory) is rest = rest is
    by (Some TooMany) is rest = cc
