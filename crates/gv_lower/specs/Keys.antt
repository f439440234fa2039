-- Keys of queries: all that the gates, the flags and the weight of a query rest on, besides the package, which prefers values of its
-- flags, and the expressions.
use Rattle.std.specs.Prelude.{◌≡◌, ℕ, List, [], ◌∷◌, ◌++◌, map, flat_map}
use Rattle.gv_atom.specs.declared.atom.Atom.{Atom}
use Rattle.gv_atom.specs.declared.items.UseItem.{UseItem}
use Rattle.gv_expr.specs.Dep.{Dep, deps}
use Rattle.gv_expr.specs.Mentions.{dep_mentions, req_mentions, wanted_atoms}
use Rattle.gv_expr.specs.Required.{Req, reqs}
use Rattle.gv_facts.specs.Preferred.{preferred}
use Rattle.gv_facts.specs.States.{state}
use Rattle.gv_facts.specs.declared.kinds.FlagState.{FlagState}
use Rattle.gv_facts.specs.declared.kinds.FlagState.TheVariants.{Absent, Off, On, Free}
use Rattle.gv_entry.specs.Allowed.{Parent, parent_state}
use Rattle.gv_entry.specs.Queries.{class_flags, required_flags}
use Rattle.gv_entry.specs.Weight.{candidates, weight}
use Rattle.gv_lower.specs.QueryGates.{allowed_gates, failing_gates, failing_items}

-- of the parent's flags counts whether they are free, on, or neither
abbrev pub own_key : FlagState → ℕ
own_key Absent = 0
own_key Off = 0
own_key On = 1
own_key Free = 2

-- of a candidate's each state
abbrev pub other_key : FlagState → ℕ
other_key Absent = 0
other_key Off = 1
other_key On = 2
other_key Free = 3

abbrev pub flags_key : Parent → List (List ℕ) → List ℕ
flags_key c flags = map (λ flag. own_key (parent_state c flag)) flags

-- a visible package that an atom matches: a mark that there is one, then the states of the flags that the items name
abbrev pub candidate_key : (states : List ℕ → FlagState) → List UseItem → List ℕ
candidate_key states items = 1 ∷ map (λ i. other_key (states i.flag)) items

-- each of them, and a mark at the end
abbrev pub atom_key : Parent → Atom → List ℕ
atom_key c atom = flat_map (λ p. candidate_key (state p c.profile c.level) atom.items) (candidates c atom) ++ 0 ∷ []

-- REQUIRED_USE: the states of the flags that it mentions, as they stand there
abbrev pub required_key : Parent → List Req → List ℕ
required_key c required = flags_key c (req_mentions (reqs required))

-- a class: the states of the flags that it mentions, then its atoms that are no blockers
abbrev pub class_key : Parent → List Dep → List ℕ
class_key c class = flags_key c (dep_mentions (deps class)) ++ flat_map (atom_key c) (wanted_atoms (deps class))

abbrev pub query_key : Parent → List Req → List Dep → List ℕ
query_key c required class = required_key c required ++ class_key c class

-- The queries of two parents about REQUIRED_USE alone are one and the same.
pub record HaveSameAllowed (c d : Parent) (required : List Req) : Type 0 where
  pub flags : required_flags c required ≡ required_flags d required
  pub values : preferred c.pkg (required_flags c required) ≡ preferred d.pkg (required_flags d required)
  pub gates : allowed_gates c required (required_flags c required) ≡ allowed_gates d required (required_flags d required)
  pub weight : weight c required [] ≡ weight d required []

-- Those about a class are.
pub record HaveSameFailing (c d : Parent) (required : List Req) (class : List Dep) : Type 0 where
  pub flags : class_flags c required class ≡ class_flags d required class
  pub values : preferred c.pkg (class_flags c required class) ≡ preferred d.pkg (class_flags d required class)
  pub gates : failing_gates c required class (class_flags c required class) ≡ failing_gates d required class (class_flags d required class)
  pub items : failing_items c required class (class_flags c required class) ≡ failing_items d required class (class_flags d required class)
  pub weight : weight c required class ≡ weight d required class
