-- Words of private contracts alone, no rule: what is left of a list of eclasses while it is read.
use Rattle.std.specs.Prelude.{ℕ, List, [], Option, None, Some}
use Rattle.std.specs.Borrow.{Bor}
use Rattle.gv_entry.specs.Digests.{between_tabs}

-- the texts of what is left, if anything is
abbrev pub fields_left : Option (Bor (List ℕ)) → List (List ℕ)
fields_left None = []
fields_left (Some bytes) = between_tabs bytes.now
