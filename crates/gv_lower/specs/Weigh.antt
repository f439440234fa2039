-- Weights as they are told, and that of a class.
use Rattle.std.specs.Prelude.{ℕ, ◌+◌, ◌-◌, ◌^◌, min, length, filter, sum_by}
use Rattle.gv_atom.specs.declared.atom.Atom.{Atom}
use Rattle.gv_expr.specs.Dep.{Deps}
use Rattle.gv_expr.specs.DepGrammar.{dep_tokens}
use Rattle.gv_expr.specs.Mentions.{wanted_atoms}
use Rattle.gv_facts.specs.Places.{is_pkg_of}
use Rattle.gv_facts.specs.declared.pkg.Pkg.{Pkg}
use Rattle.gv_entry.specs.Allowed.{Parent}
use Rattle.gv_entry.specs.Weight.{atom_weight}
use Rattle.gv_lower.specs.declared.weigh.Counted.{Counted}
use Rattle.gv_lower.specs.declared.weigh.Counted.TheVariants.{Every, Named, Shown}

-- a number past the last of 64 bits is told as that one
abbrev pub capped : ℕ → ℕ
capped n = min n (2 ^ 64 - 1)

-- one and the atom's items, for each package, or for each of its name, or for each that it matches and that is visible
abbrev pub packages_weight : Counted → Parent → Atom → ℕ
packages_weight Every c atom = sum_by (λ (p : Pkg). 1 + length atom.items) c.among
packages_weight Named c atom = sum_by (λ (p : Pkg). 1 + length atom.items) (filter (is_pkg_of atom.category atom.name) c.among)
packages_weight Shown c atom = atom_weight c atom

-- tokens, and for each atom that is no blocker what its packages weigh
abbrev pub class_weight : Counted → Parent → Deps → ℕ
class_weight counted c ts = length (dep_tokens ts) + sum_by (packages_weight counted c) (wanted_atoms ts)
