-- For the contracts of private functions: what one rule makes of an effect, where it is known whether stable restrictions
-- apply.
use Rattle.std.specs.Prelude.{ℕ, Bool, true, ◌&&◌, ◌||◌, not, if◌then◌else◌, List, slice_get}
use Rattle.std.specs.Option.{option_map_or}
use Rattle.gv_facts.specs.declared.pkg.Pkg.{Pkg}
use Rattle.gv_facts.specs.declared.rules.Effect.{Effect}
use Rattle.gv_facts.specs.declared.rules.Rule.{Rule}
use Rattle.gv_facts.specs.States.{is_same}
use Rattle.gv_facts.specs.Visible.{matches_pkg}

-- the rule is for the effect, and applies
abbrev pub counts : Effect → Pkg → (restricted : Bool) → Rule → Bool
counts effect p restricted r = is_same effect r.effect && ((not r.stable || restricted) && option_map_or (λ a. matches_pkg a p) r.atom true)

-- whether the effect is on behind the rule
abbrev pub behind : Effect → Pkg → (restricted : Bool) → Bool → Rule → Bool
behind effect p restricted on r = if counts effect p restricted r then r.on else on

-- and behind the rule at a place
abbrev pub behind_at : Effect → Pkg → (restricted : Bool) → List Rule → Bool → ℕ → Bool
behind_at effect p restricted rules on place = option_map_or (behind effect p restricted on) (slice_get rules place) on
