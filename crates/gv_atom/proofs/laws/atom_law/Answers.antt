use Rattle.gv_atom.proofs.AtomLaw.{read_is_written}
use Rattle.gv_atom.proofs.WrittenLaw.{written_again}
use Rattle.gv_atom.proofs.laws.atom_law.Goals as goal

pub returns-clause-read : goal.returns-clause-read
returns-clause-read c = λ bytes h. let found = read_is_written c.split_pf_law.ensures bytes h in record { atom = found.0; read = found.1; of = found.2 }

pub returns-clause-written : goal.returns-clause-written
returns-clause-written c = λ a h. written_again a c.split_pf_law.ensures h
