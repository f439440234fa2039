use Rattle.std.proofs.Common.{◌≡◌, ◌++◌, length}
use Rattle.gv_base.specs.ByteMap.{map_of}
use Rattle.gv_defaults.specs.Reads.{stands_for}
use Rattle.gv_defaults.specs.Meaning.{meaning, meaning_of}
use Rattle.gv_defaults.proofs.meaning.meaning.Given as goal

abbrev pub invariant-loop-step : goal.invariant-loop-step
invariant-loop-step l =
    l.value ++ meaning (stands_for (map_of l.values.entries) l.before) l.quotes 0 l.rest ≡ meaning_of (stands_for (map_of l.values.entries) l.before) l.text

abbrev pub decreases-loop-step : goal.decreases-loop-step
decreases-loop-step l = length l.rest
