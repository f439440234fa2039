-- The words of a `parent` file.
use Rattle.std.specs.Prelude.{ℕ, ◌==◌, Bool, not, ◌&&◌, List}
use Rattle.std.specs.List.{list_any}
use Rattle.std.specs.Str.{byte}
use Rattle.gv_profile.specs.Paths.{is_relative}

-- a relative path without a colon, which would name another repository
abbrev pub is_parent : List ℕ → Bool
is_parent word = is_relative word && not (list_any (λ b. b == byte ":") word)
