-- What a query asks: for an allowed assignment, or for one that is failing for a class; the least, if there is one.
use Rattle.std.specs.Prelude.{ℕ, Bool, List, [], length, Option, None, Some}
use Rattle.gv_expr.specs.Dep.{Dep}
use Rattle.gv_expr.specs.Required.{Req}
use Rattle.gv_facts.specs.Preferred.{preferred}
use Rattle.gv_entry.specs.Allowed.{Parent, is_allowed, is_failing}
use Rattle.gv_entry.specs.Least.{least}
use Rattle.gv_entry.specs.LeastAssignments.{IsLeastAllowed, IsLeastFailing, NoneAllowed, NoneFailing}
use Rattle.gv_entry.specs.Queries.{class_flags, required_flags}
use Rattle.gv_entry.specs.Weight.{weight}
use Rattle.gv_logic.specs.Circuits.{Circuit}
use Rattle.gv_cert.specs.declared.claim.Claim.{Claim}
use Rattle.gv_cert.specs.declared.claim.Claim.TheVariants.{Refuted, Found}
use Rattle.gv_lower.specs.QueryGates.{allowed_gates, failing_gates, failing_items}

-- the flags of the query: the free ones that are mentioned, in byte order
abbrev pub asked_flags : Parent → List Req → Option (List Dep) → List (List ℕ)
asked_flags c required None = required_flags c required
asked_flags c required (Some class) = class_flags c required class

-- of each whether the package prefers it on
abbrev pub asked_preferred : Parent → List Req → Option (List Dep) → List Bool
asked_preferred c required class = preferred c.pkg (asked_flags c required class)

-- the test of bits of these flags, which say that a flag hasn't its preferred value: without a class those that are allowed, else those that are failing for it
abbrev pub asks : Parent → List Req → Option (List Dep) → List Bool → Bool
asks c required None bits = is_allowed c required (required_flags c required) bits
asks c required (Some class) bits = is_failing c required class (class_flags c required class) bits

-- the gates of the query
abbrev pub asked_gates : Parent → List Req → Option (List Dep) → Circuit
asked_gates c required None = allowed_gates c required (required_flags c required)
asked_gates c required (Some class) = failing_gates c required class (class_flags c required class)

-- the literals of the top items of the class
abbrev pub asked_items : Parent → List Req → Option (List Dep) → List ℕ
asked_items c required None = []
asked_items c required (Some class) = failing_items c required class (class_flags c required class)

-- what the query weighs
abbrev pub asked_weight : Parent → List Req → Option (List Dep) → ℕ
asked_weight c required None = weight c required []
asked_weight c required (Some class) = weight c required class

-- the least bits that are asked for, if there are any
abbrev pub least_asked : Parent → List Req → Option (List Dep) → Option (List Bool)
least_asked c required class = least (asks c required class) (length (asked_flags c required class))

-- The same among all assignments of all flags: no assignment is allowed, or none failing;
abbrev pub NoneAsked : Parent → List Req → Option (List Dep) → Type 0
NoneAsked c required None = NoneAllowed c required
NoneAsked c required (Some class) = NoneFailing c required class

-- these bits are the least allowed assignment, or the least failing one.
abbrev pub IsLeastAsked : Parent → List Req → Option (List Dep) → List Bool → Type 0
IsLeastAsked c required None bits = IsLeastAllowed c required bits
IsLeastAsked c required (Some class) bits = IsLeastFailing c required class bits

-- the bits that a claim about gates has found
abbrev pub found_bits : Claim → Option (List Bool)
found_bits (Refuted log) = None
found_bits (Found bits log) = Some bits
