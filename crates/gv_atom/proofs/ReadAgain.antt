-- What a reader answers is the atom of the bytes, and no atom's text is refused.
use Rattle.std.proofs.Common.{◌≡◌, ℕ, List, refl, ap, sym, ◌∙◌, subst, Option, Some, None, Err, if◌then◌else◌}
use Rattle.std.specs.Prelude.{is_none}
use Rattle.gv_version.specs.Laws.{IsDivided}
use Rattle.gv_atom.specs.declared.atom.Atom.{Atom}
use Rattle.gv_atom.specs.declared.fault.AtomFault.{AtomFault}
use Rattle.gv_atom.specs.declared.fault.AtomFault.TheVariants.{Bad, NoMemory}
use Rattle.gv_atom.specs.Fault.{IsFaultOf, GivesAtom}
use Rattle.gv_atom.specs.Reading.{Fault, divided, atom_fault, atom_in, read_atom}
use Rattle.gv_atom.specs.Grammar.{IsAtomOf}
use Rattle.gv_atom.proofs.AtomLaw.{read_is_written}
use Rattle.gv_atom.proofs.Pieces.{some_is, not_none}
use Rattle.gv_atom.proofs.WrittenLaw.{written_again}

pub read_is : (bytes : List ℕ) (a : Atom) → ((text : List ℕ) → IsDivided text) → read_atom bytes ≡ Some a → IsAtomOf bytes a
read_is bytes a law h = by (atom_fault bytes) refl h
  where
    found : (b : Atom) → read_atom bytes ≡ Some b → IsAtomOf bytes b → IsAtomOf bytes a
    found b e of = subst (λ (x : Atom). IsAtomOf bytes x) (some_is b a (sym e ∙ h)) of

    by : (fault : Option Fault) → atom_fault bytes ≡ fault → (if is_none fault then atom_in (divided bytes) else None) ≡ Some a → IsAtomOf bytes a
    by (Some fault) e k = absurd (not_none a k)
    by None e k = let r = read_is_written law bytes e in found r.0 r.1 r.2

written_of : (bytes : List ℕ) (a : Atom) → ((text : List ℕ) → IsDivided text) → IsAtomOf bytes a → (atom_fault bytes ≡ None) × (read_atom bytes ≡ Some a)
written_of bytes a law is =
    let w = written_again a law is.good in
    (ap atom_fault (sym is.written) ∙ w.fault, ap read_atom (sym is.written) ∙ w.read)

pub same_atom : (bytes : List ℕ) (found a : Atom) → ((text : List ℕ) → IsDivided text) → read_atom bytes ≡ Some found → IsAtomOf bytes a → found ≡ a
same_atom bytes found a law h is = some_is found a (sym h ∙ (written_of bytes a law is).1)

pub never_refused : (bytes : List ℕ) (fault : AtomFault) (a : Atom) → ((text : List ℕ) → IsDivided text) → IsFaultOf bytes fault → IsAtomOf bytes a → GivesAtom (Err fault) a
never_refused bytes (Bad kind at) a law refused is = not_none (kind, at) (sym (written_of bytes a law is).0 ∙ refused)
never_refused bytes NoMemory a law refused is = tt
