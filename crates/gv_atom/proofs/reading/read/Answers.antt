use Rattle.std.proofs.Common.{◌≡◌, ℕ, List, subst}
use Rattle.std.proofs.lemmas.Result.{IfErr-weaker}
use Rattle.gv_atom.specs.declared.fault.AtomFault.{AtomFault}
use Rattle.gv_atom.specs.declared.fault.AtomFault.TheVariants.{Bad, NoMemory}
use Rattle.gv_atom.specs.Fault.{IsFaultOf}
use Rattle.gv_atom.specs.Reading.{Division, divided, division_fault}
use Rattle.gv_atom.specs.Parts.{IsPartFault, shown}
use Rattle.gv_atom.proofs.reading.read.Goals as goal

whole_fault : (bytes : List ℕ) (fault : AtomFault) → IsPartFault (division_fault (divided bytes)) fault → IsFaultOf bytes fault
whole_fault bytes (Bad kind at) h = h
whole_fault bytes NoMemory h = tt

divided_fault : (bytes : List ℕ) (fault : AtomFault) (d : Division) → d ≡ divided bytes → IsPartFault (division_fault d) fault → IsFaultOf bytes fault
divided_fault bytes fault d e h = whole_fault bytes fault (subst (λ (x : Division). IsPartFault (division_fault x) fault) e h)

pub returns-clause-bad : goal.returns-clause-bad
returns-clause-bad c =
    IfErr-weaker c.read_division.result (IsPartFault (division_fault (shown c.divide.result))) (IsFaultOf c.args.bytes.now)
    (λ fault h. divided_fault c.args.bytes.now fault (shown c.divide.result) c.divide.ensures.parts h) c.read_division.ensures.bad
