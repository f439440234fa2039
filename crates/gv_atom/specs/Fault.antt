-- What a reader of atoms answers.
use Rattle.std.specs.Prelude.{◌≡◌, ℕ, List, Some, Result, Ok, Err}
use Rattle.gv_atom.specs.declared.atom.Atom.{Atom}
use Rattle.gv_atom.specs.declared.fault.AtomFault.{AtomFault}
use Rattle.gv_atom.specs.declared.fault.AtomFault.TheVariants.{Bad, NoMemory}
use Rattle.gv_atom.specs.Reading.{atom_fault}

-- the first bad part of the bytes and its place
abbrev pub IsFaultOf : List ℕ → AtomFault → Type 0
IsFaultOf bytes (Bad kind at) = atom_fault bytes ≡ Some (kind, at)
IsFaultOf bytes NoMemory = Unit {0}

-- this atom was read, or memory ran out
abbrev pub GivesAtom : Result Atom AtomFault → Atom → Type 0
GivesAtom (Ok read) a = read ≡ a
GivesAtom (Err (Bad kind at)) a = ⊥
GivesAtom (Err NoMemory) a = Unit {0}
