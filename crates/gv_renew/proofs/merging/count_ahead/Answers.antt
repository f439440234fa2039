use Rattle.std.proofs.Common.{rules}
use Rattle.std.proofs.lemmas.List.Sorted.{IsPartitionPoint-from_clause}
use Rattle.gv_report.specs.Distinct.{is_before}
use Rattle.gv_renew.proofs.Weaving.{dropped, parted, taken}
use Rattle.gv_renew.proofs.merging.count_ahead.Goals as goal

pub returns-clause-ahead : goal.returns-clause-ahead
returns-clause-ahead c =
    let r = c.args.report.now in
    let rest = c.args.rest.now.items in
    let i = c.partition_point.result in
    let point = IsPartitionPoint-from_clause (λ k. is_before k r) rest i c.partition_point.ensures.partitioned (parted r rest c.requires) (λ a b f k. search rules) in
    taken r rest i point.0 point.1

pub returns-clause-left : goal.returns-clause-left
returns-clause-left c =
    let r = c.args.report.now in
    let rest = c.args.rest.now.items in
    let i = c.partition_point.result in
    let point = IsPartitionPoint-from_clause (λ k. is_before k r) rest i c.partition_point.ensures.partitioned (parted r rest c.requires) (λ a b f k. search rules) in
    dropped r rest i point.0 point.1
