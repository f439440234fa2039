use Rattle.gv_atom.proofs.PfLaw.{hyphen_within, pf_parts}
use Rattle.gv_atom.proofs.naming.read_pf.Goals as goal

pub split_hyphen-requires : goal.split_hyphen-requires
split_hyphen-requires c = hyphen_within c.args.pf.now c.in-Some.hyphen (c.split_pf_law.ensures c.args.pf.now) (c.in-Some.ensures.some)

pub of-requires-in-Some : goal.of-requires-in-Some
of-requires-in-Some c =
    rw c.split_hyphen.ensures.version (pf_parts c.args.pf.now c.in-Some.hyphen (c.split_pf_law.ensures c.args.pf.now) (c.in-Some.ensures.some)).version
