use Rattle.std.proofs.Common.{map, rules}
use Rattle.std.proofs.lemmas.List.Sorted.{IsPartitionPoint-from_clause}
use Rattle.gv_renew.specs.Exchanging.{is_ahead}
use Rattle.gv_renew.proofs.WindowLemmas.{ahead_closed, dropped, parted, taken}
use Rattle.gv_renew.proofs.exchanging.count_ahead.Goals as goal

pub returns-clause-front : goal.returns-clause-front
returns-clause-front c =
    let test = is_ahead (map (λ r. r.now) c.args.stale.now) c.args.fresh.now in
    let reports = c.args.reports.now in
    let closed = ahead_closed (map (λ r. r.now) c.args.stale.now) c.args.fresh.now in
    let point = IsPartitionPoint-from_clause test reports c.partition_point.result c.partition_point.ensures.partitioned
    (parted test reports closed c.requires) (λ a b f k. search rules) in
    taken test reports c.partition_point.result point.0 point.1

pub returns-clause-rest : goal.returns-clause-rest
returns-clause-rest c =
    let test = is_ahead (map (λ r. r.now) c.args.stale.now) c.args.fresh.now in
    let reports = c.args.reports.now in
    let closed = ahead_closed (map (λ r. r.now) c.args.stale.now) c.args.fresh.now in
    let point = IsPartitionPoint-from_clause test reports c.partition_point.result c.partition_point.ensures.partitioned
    (parted test reports closed c.requires) (λ a b f k. search rules) in
    dropped test reports c.partition_point.result point.0 point.1
