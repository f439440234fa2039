-- Words of private contracts alone, no rule: the words that name a flag, by their places.
use Rattle.std.specs.Prelude.{ℕ, Bool, true, if◌then◌else◌, List, Option, Some, None, slice_get}
use Rattle.std.specs.Borrow.{Bor}
use Rattle.std.specs.Option.{option_map_or}
use Rattle.gv_facts.specs.Visible.{matches_pkg}
use Rattle.gv_facts.specs.declared.pkg.Pkg.{Pkg}
use Rattle.gv_facts.specs.declared.rules.Rule.{Rule}

abbrev pub applies : Pkg → Rule → Bool
applies p rule = option_map_or (λ a. matches_pkg a p) rule.atom true

-- what is said behind a rule that names the flag, and behind the one at a place
abbrev pub behind : Pkg → Option Bool → Rule → Option Bool
behind p said rule = if applies p rule then Some rule.on else said

abbrev pub behind_at : Pkg → List Rule → Option Bool → ℕ → Option Bool
behind_at p rules said place = option_map_or (behind p said) (slice_get rules place) said

abbrev pub seen : Bor (List ℕ) → List ℕ
seen bytes = bytes.now
