-- Which packages an atom matches (PMS chapter 8): category, name, operator and slot part. Block and items play no part.
use Rattle.std.specs.Prelude.{ℕ, Bool, true, false, ◌&&◌, List, Option, Some}
use Rattle.std.specs.Str.{bytes_eq}
use Rattle.std.specs.Ordering.{is_lt, is_le, is_eq, is_ge, is_gt}
use Rattle.gv_version.specs.Order.{compare, same_but_revision}
use Rattle.gv_version.specs.Pieces.{begins}
use Rattle.gv_atom.specs.declared.atom.Atom.{Atom}
use Rattle.gv_atom.specs.declared.atom.CompareOp.{CompareOp}
use Rattle.gv_atom.specs.declared.atom.CompareOp.TheVariants as ops
use Rattle.gv_atom.specs.declared.atom.SlotNeed.{SlotNeed}
use Rattle.gv_atom.specs.declared.atom.SlotNeed.TheVariants.{Any, Slot, Both}

-- what the operator says of a version, where `wanted` is the atom's
abbrev pub op_holds : CompareOp → (star : Bool) → (wanted version : List ℕ) → Bool
op_holds ops.Less star wanted version = is_lt (compare version wanted)
op_holds ops.LessEqual star wanted version = is_le (compare version wanted)
op_holds ops.Equal true wanted version = begins wanted version
op_holds ops.Equal false wanted version = is_eq (compare version wanted)
op_holds ops.Same star wanted version = same_but_revision version wanted
op_holds ops.GreaterEqual star wanted version = is_ge (compare version wanted)
op_holds ops.Greater star wanted version = is_gt (compare version wanted)

-- an atom has an operator and a version, or neither
abbrev pub version_holds : Option CompareOp → Option (List ℕ) → Bool → List ℕ → Bool
version_holds (Some op) (Some wanted) star version = op_holds op star wanted version
version_holds op wanted star version = true

abbrev pub slot_holds : SlotNeed → (slot sub : List ℕ) → Bool
slot_holds Any slot sub = true
slot_holds (Slot wanted) slot sub = bytes_eq wanted slot
slot_holds (Both wanted wanted_sub) slot sub = bytes_eq wanted slot && bytes_eq wanted_sub sub

-- of a package that has the atom's category and name
abbrev pub matches_named : Atom → (version slot sub : List ℕ) → Bool
matches_named a version slot sub = version_holds a.op a.version a.star version && slot_holds a.slot slot sub

abbrev pub matches : Atom → (category name version slot sub : List ℕ) → Bool
matches a category name version slot sub = bytes_eq a.category category && (bytes_eq a.name name && matches_named a version slot sub)
