-- The directories on the way to where a walk is, and their index: for a path a place on the way, at which a directory of
-- that path may stand.
use Rattle.std.specs.Prelude.{◌≡◌, ℕ, List, map, ◌++◌, Bool, false, Option, Some, None, slice_get}
use Rattle.std.specs.FinMap.{get}
use Rattle.std.specs.List.{list_any}
use Rattle.std.specs.Str.{bytes_eq}
use Rattle.gv_base.specs.ByteMap.{ByteMap}
use Rattle.gv_profile.specs.declared.frames.Frame.{Frame}

-- their paths
abbrev pub family_of : List Frame → List (List ℕ)
family_of frames = map (λ f. f.dir) frames

-- whether one of the directories has this path
abbrev pub is_among : List Frame → List ℕ → Bool
is_among frames dir = list_any (bytes_eq dir) (family_of frames)

abbrev pub has_path : Option Frame → List ℕ → Bool
has_path None dir = false
has_path (Some frame) dir = bytes_eq dir frame.dir

-- whether it stands at that place, if there is one
abbrev pub stands_at : List Frame → Option ℕ → List ℕ → Bool
stands_at frames None dir = false
stands_at frames (Some place) dir = has_path (slice_get frames place) dir

-- in each front of the way the index finds exactly the directories that are there
abbrev pub FindsAll : List Frame → ByteMap ℕ → Type 0
FindsAll frames places = (front back : List Frame) → frames ≡ front ++ back → (dir : List ℕ) → is_among front dir ≡ stands_at front (get places dir) dir
