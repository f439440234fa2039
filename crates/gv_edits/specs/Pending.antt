-- Bytes that come in, of which some were taken from a source and not read yet.
use Rattle.std.specs.Prelude.{ℕ, List, ◌++◌, Option}
use Rattle.std.specs.Option.{option_map}

-- the bytes that were taken, and then those that are left, where these are told
abbrev pub whole : List ℕ → Option (List ℕ) → Option (List ℕ)
whole taken left = option_map (λ bytes. taken ++ bytes) left
