-- Paths relative to a folder.
use Rattle.std.specs.Prelude.{ℕ, nat_eq, Bool, not, ◌&&◌, if◌then◌else◌, List, [], ◌∷◌, ◌++◌, ◌-◌, Option, Some, None, fold, take, length, codes}
use Rattle.std.specs.List.{list_all, ends_with}
use Rattle.std.specs.Str.{bytes_eq}
use Rattle.gv_base.specs.Paths.{has_plain_bytes}
use Rattle.gv_base.specs.declared.pieces.Cut.TheVariants.{Parts}
use Rattle.gv_base.specs.Pieces.{pieces}

abbrev pub is_relative_part : List ℕ → Bool
is_relative_part part = not (nat_eq (length part) 0) && has_plain_bytes part

-- a slash at the end is dropped
abbrev pub without_slash : List ℕ → List ℕ
without_slash path = if ends_with nat_eq path (codes "/") then take (length path - 1) path else path

-- one or more parts joined by slashes, none of them empty; they may be `.` and `..`
abbrev pub is_relative : List ℕ → Bool
is_relative path = list_all is_relative_part (pieces Parts (without_slash path))

-- the parts of the way to a place; none behind the root
abbrev pub Place : Type 0
Place = Option (List (List ℕ))

abbrev pub above : List (List ℕ) → Place
above place = if nat_eq (length place) 0 then None else Some (take (length place - 1) place)

-- `.` stays, `..` goes up, another part goes down; a way that left the root has left it
abbrev pub place_after : Place → List ℕ → Place
place_after None part = None
place_after (Some place) part =
    if bytes_eq part (codes ".") then Some place
    else (if bytes_eq part (codes "..") then above place else Some (place ++ part ∷ []))

-- each part behind a slash
abbrev pub tail_of : List (List ℕ) → List ℕ
tail_of [] = []
tail_of (part ∷ parts) = codes "/" ++ (part ++ tail_of parts)

abbrev pub path_of : Place → Option (List ℕ)
path_of None = None
path_of (Some []) = None
path_of (Some (part ∷ parts)) = Some (part ++ tail_of parts)

-- the path from a folder; none where it leaves the root or is the root
abbrev pub resolved : List ℕ → List ℕ → Option (List ℕ)
resolved dir path = path_of (fold place_after (Some (pieces Parts dir)) (pieces Parts (without_slash path)))
