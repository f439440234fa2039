-- What is noted of a stack's fault.
use Rattle.std.proofs.Common.{◌≡◌, List, ◌++◌, false, Some, None, sym, ◌∙◌, append-nil}
use Rattle.std.specs.Prelude.{Option, option_to_list}
use Rattle.gv_facts.specs.declared.profile.Profile.{Profile}
use Rattle.gv_profile.specs.Faults.{FaultIs}
use Rattle.gv_profile.specs.declared.desc.DescLine.{DescLine}
use Rattle.gv_profile.specs.declared.faults.ProfileFault.{ProfileFault}
use Rattle.gv_profile.specs.declared.faults.ProfileFault.TheVariants.{Cycle, MissingParent, MissingProfile, BadEapi, TooMany, NoMemory}
use Rattle.gv_profile.specs.declared.notes.PlaceNote.{PlaceNote}
use Rattle.gv_load.specs.Stacks.{error_of, error_in, unless}
use Rattle.gv_load.specs.StackLimits.{is_no_memory, limit_of}

pub first_is : (first : Option ProfileFault) (fault : ProfileFault) → FaultIs first fault → is_no_memory fault ≡ false → first ≡ Some fault
first_is first (Cycle path line) is told = is
first_is first (MissingParent path line) is told = is
first_is first (MissingProfile line) is told = is
first_is first (BadEapi path) is told = is
first_is first TooMany is told = is
first_is first NoMemory is told = cc

pub no_profile : (first : Option ProfileFault) (fault : ProfileFault) (p : Profile) (xs ys : List Profile) → first ≡ Some fault → xs ≡ ys → xs ≡ ys ++ option_to_list (unless first p)
no_profile first fault p xs ys is same = rw is (same ∙ sym (append-nil ys))

pub noted : (first : Option ProfileFault) (fault : ProfileFault) (xs ys : List PlaceNote) → first ≡ Some fault → xs ≡ ys ++ option_to_list (error_of fault) → xs ≡ ys ++ option_to_list (error_in first)
noted first fault xs ys is same = rw is same

pub no_limit : (line : DescLine) (first : Option ProfileFault) (fault : ProfileFault) → first ≡ Some fault → limit_of line (Some fault) ≡ None → limit_of line first ≡ None
no_limit line first fault is none = rw is none
