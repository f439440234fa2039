-- Words of private contracts alone, no rule: sets and indexes that are kept beside lists.
use Rattle.std.specs.Prelude.{◌≡◌, ℕ, map, List, if◌then◌else◌, length}
use Rattle.std.specs.FinMap.{get, insert}
use Rattle.std.specs.Option.{is_some}
use Rattle.std.specs.List.{list_any}
use Rattle.gv_base.specs.FileMap.{FileMap}
use Rattle.std.specs.Str.{bytes_eq}
use Rattle.gv_profile.specs.declared.desc.DescLine.{DescLine}
use Rattle.gv_profile.specs.Desc.{line_key}
use Rattle.gv_base.specs.ByteMap.{ByteMap}
use Rattle.gv_profile.specs.declared.frames.Frame.{Frame}
use Rattle.gv_profile.specs.FrameIndex.{stands_at}

-- the index with a directory that comes behind those that are there
abbrev pub with_place : List Frame → ByteMap ℕ → List ℕ → ByteMap ℕ
with_place frames places dir = if stands_at frames (get places dir) dir then places else insert places dir (length frames)

-- the keys of these lines are kept
unfoldable pub Keeps : FileMap → List DescLine → Type 0
Keeps keys lines = (key : List ℕ) → is_some (get keys key) ≡ list_any (bytes_eq key) (map line_key lines)
