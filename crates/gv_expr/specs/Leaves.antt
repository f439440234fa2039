-- Whether each leaf of an expression is an atom, or a flag: for the contracts of private functions.
use Rattle.std.specs.Prelude.{Bool, true, ◌&&◌}
use Rattle.gv_version.specs.Names.{is_flag}
use Rattle.gv_atom.specs.Grammar.{is_atom}
use Rattle.gv_expr.specs.Dep as dep
use Rattle.gv_expr.specs.Dep.{Deps}
use Rattle.gv_expr.specs.Required as req
use Rattle.gv_expr.specs.Required.{Reqs}

abbrev pub are_atoms : Deps → Bool
are_atoms dep.end = true
are_atoms (dep.more (dep.leaf atom) rest) = is_atom atom && are_atoms rest
are_atoms (dep.more (dep.all items) rest) = are_atoms items && are_atoms rest
are_atoms (dep.more (dep.any items) rest) = are_atoms items && are_atoms rest
are_atoms (dep.more (dep.when flag negated items) rest) = are_atoms items && are_atoms rest

abbrev pub are_flags : Reqs → Bool
are_flags req.end = true
are_flags (req.more (req.leaf flag negated) rest) = is_flag flag && are_flags rest
are_flags (req.more (req.all items) rest) = are_flags items && are_flags rest
are_flags (req.more (req.any items) rest) = are_flags items && are_flags rest
are_flags (req.more (req.one items) rest) = are_flags items && are_flags rest
are_flags (req.more (req.most items) rest) = are_flags items && are_flags rest
are_flags (req.more (req.when flag negated items) rest) = are_flags items && are_flags rest
