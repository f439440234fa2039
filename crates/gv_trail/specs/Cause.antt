-- The entries that literals and the causes of their variables make: words of the trail's own fields.
use Rattle.std.specs.Prelude.{ℕ, ◌/◌, None, List, map, slice_index_or}
use Rattle.gv_trail.specs.declared.cause.Cause.{Cause}
use Rattle.gv_trail.specs.Entries.{Entry}

abbrev pub cause_at : List Cause → ℕ → Cause
cause_at causes variable = slice_index_or causes variable (record { reason = None; level = 0 })

abbrev pub entry_of : List Cause → ℕ → Entry
entry_of causes lit = record { lit = lit; reason = (cause_at causes (lit / 2)).reason; level = (cause_at causes (lit / 2)).level }

abbrev pub entries_of : List Cause → List ℕ → List Entry
entries_of causes lits = map (entry_of causes) lits
