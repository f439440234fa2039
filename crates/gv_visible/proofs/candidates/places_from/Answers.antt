use Rattle.std.proofs.Common.{nat_lt, rules}
use Rattle.std.proofs.lemmas.List.Sorted.{IsPartitionPoint-from_clause}
use Rattle.gv_visible.proofs.NextPlaces.{cut}
use Rattle.gv_visible.proofs.candidates.places_from.Goals as goal

pub returns : goal.returns
returns c =
    let point = IsPartitionPoint-from_clause (λ n. nat_lt n c.args.from) c.args.places.now c.partition_point-first.result c.partition_point-first.ensures.partitioned c.requires (λ a r f' k. search rules) in
    cut (λ n. nat_lt n c.args.from) c.args.places.now c.partition_point-first.result point.0 point.1
