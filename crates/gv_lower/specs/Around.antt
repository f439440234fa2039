-- A package among candidates.
use Rattle.std.specs.Prelude.{List, [], map, filter}
use Rattle.gv_facts.specs.declared.pkg.Pkg.{Pkg}
use Rattle.gv_facts.specs.declared.kinds.Level.{Level}
use Rattle.gv_facts.specs.declared.profile.Profile.{Profile}
use Rattle.gv_facts.specs.States.{state}
use Rattle.gv_logic.specs.declared.gates.Op.TheVariants.{Or}
use Rattle.gv_atom.specs.declared.atom.Atom.{Atom}
use Rattle.gv_lower.specs.Asks.{FlagAsks, asks_plan}
use Rattle.gv_lower.specs.Plans.{Plan, built_on, gate_over}
use Rattle.gv_visible.specs.VisiblePkgs.{shows}
use Rattle.gv_entry.specs.Allowed.{Parent}
use Rattle.gv_visible.specs.Candidates.{Candidates, level_of, pkgs_of, profile_of}

-- the package in the profile, at the level and among the packages of the candidates
abbrev pub parent_of : {F : Type 0} → Candidates F → Pkg → Parent
parent_of candidates pkg = record { pkg = pkg; profile = profile_of candidates; level = level_of candidates; among = pkgs_of candidates }

-- the plan of an atom that is no blocker, from what its items ask
abbrev pub wanted_plan : {F : Type 0} → Candidates F → Atom → List FlagAsks → Plan
wanted_plan candidates atom asks =
    built_on (gate_over Or) (map (λ p. asks_plan (state p (profile_of candidates) (level_of candidates)) asks) (filter (shows (profile_of candidates) (level_of candidates) atom) (pkgs_of candidates)))

-- a package for which no others count
abbrev pub alone : Pkg → Profile → Level → Parent
alone pkg profile level = record { pkg = pkg; profile = profile; level = level; among = [] }
