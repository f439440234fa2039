-- Words of private contracts alone, no rule: the first line whose stack has too many visits.
use Rattle.std.specs.Prelude.{◌≡◌, ℕ, Bool, true, false, List, [], ◌∷◌, Option, Some, None}
use Rattle.std.specs.Option.{option_or}
use Rattle.gv_profile.specs.Walking.{Look, most_visits, stack_fault}
use Rattle.gv_profile.specs.declared.desc.DescLine.{DescLine}
use Rattle.gv_profile.specs.declared.faults.ProfileFault.{ProfileFault}
use Rattle.gv_profile.specs.declared.faults.ProfileFault.TheVariants.{Cycle, MissingParent, MissingProfile, BadEapi, TooMany, NoMemory}
use Rattle.gv_reading.specs.declared.faults.LoadFault.{LoadFault}
use Rattle.gv_reading.specs.declared.faults.LoadFault.TheVariants as faults
use Rattle.gv_load.specs.Paths.{stack_place}

abbrev pub is_no_memory : ProfileFault → Bool
is_no_memory (Cycle path line) = false
is_no_memory (MissingParent path line) = false
is_no_memory (MissingProfile line) = false
is_no_memory (BadEapi path) = false
is_no_memory TooMany = false
is_no_memory NoMemory = true

-- the place of a line with too many visits
abbrev pub limit_of : DescLine → Option ProfileFault → Option (List ℕ)
limit_of line (Some TooMany) = Some (stack_place line.path)
limit_of line (Some (Cycle path number)) = None
limit_of line (Some (MissingParent path number)) = None
limit_of line (Some (MissingProfile number)) = None
limit_of line (Some (BadEapi path)) = None
limit_of line (Some NoMemory) = None
limit_of line None = None

abbrev pub limit_at : Look → DescLine → Option (List ℕ)
limit_at dirs line = limit_of line (stack_fault dirs line)

-- that of the first such line
abbrev pub first_limit : Look → List DescLine → Option (List ℕ)
first_limit dirs [] = None
first_limit dirs (line ∷ lines) = option_or (limit_at dirs line) (first_limit dirs lines)

-- the fault is the first limit; want of memory says nothing
abbrev pub LimitIs : Option (List ℕ) → LoadFault → Type 0
LimitIs first faults.NoMemory = Unit {0}
LimitIs first (faults.Limit place number) = (first ≡ Some place) × (number ≡ most_visits)
LimitIs first (faults.Tree path) = ⊥
LimitIs first (faults.NotARepository path) = ⊥
