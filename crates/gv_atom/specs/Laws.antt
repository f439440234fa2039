-- What a reader may rely on of the definitions of atoms; over all texts and atoms.
use Rattle.std.specs.Prelude.{◌≡◌, ℕ, List, Some, None}
use Rattle.gv_atom.specs.declared.atom.Atom.{Atom}
use Rattle.gv_atom.specs.Grammar.{atom_text, IsAtomOf}
use Rattle.gv_atom.specs.Reading.{atom_fault, read_atom}

-- the bytes are read as an atom, and are that atom's text
pub record IsRead (bytes : List ℕ) : Type 0 where
  pub atom : Atom
  pub read : read_atom bytes ≡ Some atom
  pub of : IsAtomOf bytes atom

-- the atom's text has no fault, and is read as the atom
pub record IsWritten (a : Atom) : Type 0 where
  pub fault : atom_fault (atom_text a) ≡ None
  pub read : read_atom (atom_text a) ≡ Some a
