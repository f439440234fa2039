use Rattle.std.proofs.Common.{◌∙◌, rules}
use Rattle.std.proofs.lemmas.List.Sorted.{IsPartitionPoint-from_clause}
use Rattle.gv_report.specs.Distinct.{is_before}
use Rattle.gv_renew.proofs.Weaving.{dropped, parted, whole_rest}
use Rattle.gv_renew.proofs.merging.left.Goals as goal

pub returns : goal.returns
returns c =
    let r = c.args.report.now in
    let kept = c.args.kept.now in
    let i = c.partition_point-first.result in
    let point = IsPartitionPoint-from_clause (λ k. is_before k r) kept i c.partition_point-first.ensures.partitioned (parted r kept c.requires) (λ a b f k. search rules) in
    whole_rest kept i ∙ dropped r kept i point.0 point.1
