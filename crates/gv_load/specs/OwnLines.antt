-- That profiles have lines of their own, so that a line names one.
use Rattle.std.specs.Prelude.{◌≡◌, ℕ, ◌<◌, ◌≤◌, List, [], ◌∷◌, slice_get, Some}
use Rattle.gv_facts.specs.declared.profile.Profile.{Profile}
use Rattle.gv_profile.specs.declared.desc.DescLine.{DescLine}

-- profiles with one line are one profile
abbrev pub HaveOwnLines : List Profile → Type 0
HaveOwnLines profiles = (i j : ℕ) (one two : Profile) → slice_get profiles i ≡ Some one → slice_get profiles j ≡ Some two → one.line ≡ two.line → one ≡ two

-- For private contracts: each number is greater than the one before, the first than this one, and none is greater than the last one.
abbrev pub Rise : ℕ → List DescLine → ℕ → Type 0
Rise low [] high = low ≤ high
Rise low (line ∷ lines) high = (low < line.number) × Rise line.number lines high

abbrev pub AreNumbered : List DescLine → Type 0
AreNumbered lines = (high : ℕ) × Rise 0 lines high
