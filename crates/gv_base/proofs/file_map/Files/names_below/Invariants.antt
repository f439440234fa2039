use Rattle.std.proofs.Common.{◌≡◌}
use Rattle.std.specs.Prelude.{fold}
use Rattle.std.specs.List.{filter_map}
use Rattle.std.specs.BTreeSet.{insert_key}
use Rattle.gv_base.specs.Order.{byte_cmp}
use Rattle.gv_base.specs.Listing.{next_part, names_below}
use Rattle.gv_base.proofs.file_map.Files.names_below.Given as goal

abbrev pub invariant-loop-key : goal.invariant-loop-key
invariant-loop-key l = fold (insert_key byte_cmp) l.names.keys (filter_map (λ e. next_part l.path e.0.items) l.key-iterator) ≡ names_below l.self l.path
