use Rattle.std.proofs.Common.{◌≡◌, ◌-◌, ◌≤◌, ◌==◌, ◌++◌, length}
use Rattle.std.specs.Prelude.{filter_map}
use Rattle.std.specs.List.{slice_split}
use Rattle.std.specs.Str.{byte}
use Rattle.gv_atom.specs.Reading.{bad_item, item_of}
use Rattle.gv_atom.proofs.items_reading.read_texts.Given as goal

abbrev pub invariant-texts : goal.invariant-texts
invariant-texts l = record {
  within : length l.rest ≤ l.end;
  places : bad_item (l.end - length l.rest) (slice_split (λ b. b == byte ",") l.rest) ≡ bad_item l.at (slice_split (λ b. b == byte ",") l.inner);
  items : l.items ++ filter_map item_of (slice_split (λ b. b == byte ",") l.rest) ≡ filter_map item_of (slice_split (λ b. b == byte ",") l.inner);
}

abbrev pub decreases-texts : goal.decreases-texts
decreases-texts l = length l.rest
