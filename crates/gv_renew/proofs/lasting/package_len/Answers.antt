use Rattle.std.proofs.Common.{rules}
use Rattle.std.proofs.lemmas.List.Sorted.{IsPartitionPoint-from_clause}
use Rattle.gv_reload.specs.EntryEdits.{is_about}
use Rattle.gv_renew.proofs.lasting.package_len.Goals as goal

pub returns-clause-point : goal.returns-clause-point
returns-clause-point c =
    let test = is_about c.args.subject.now in
    IsPartitionPoint-from_clause test c.args.rest.now c.partition_point.result c.partition_point.ensures.partitioned c.requires (λ a r f' k. search rules)
