use Rattle.std.proofs.Common.{◌≡◌, ◌≤◌, false, sym, subst, ◌∙◌, arith}
use Rattle.std.specs.List.{AllByRecursion}
use Rattle.gv_report.specs.declared.report.Report.{Report}
use Rattle.gv_renew.specs.Lasting.{are_together, is_near}
use Rattle.gv_renew.proofs.LastingLemmas.{near_same}
use Rattle.gv_renew.proofs.RunLemmas.{all_far, categories_parted, category_itself, some_here}
use Rattle.gv_renew.proofs.lasting.next_category.Goals as goal

pub category_len-requires : goal.category_len-requires
category_len-requires c = categories_parted c.first-item.result c.args.rest.now c.first-item.is c.requires

pub returns : goal.returns
returns c =
    let first = c.first-item.result in
    let rest = c.args.rest.now in
    let count = c.category_len.result in
    let point = c.category_len.ensures.point in
    let near = is_near c.args.edits.now c.args.categories.now in
    let some : 1 ≤ count = some_here are_together category_itself first rest count c.first-item.is c.in-len1-up.len_at_least point.1 in
    let here = c.split_at.ensures.front_len in
    record {
      parts = c.split_at.ensures.by_index.0;
      some = omega (arith, some, here);
      far = λ e. subst (AllByRecursion (λ (r : Report). near r.subject ≡ false)) (sym c.split_at.ensures.front)
          (all_far are_together near (near_same c.args.edits.now c.args.categories.now) first.subject count rest (sym c.is_near-near.ensures ∙ e) point.0);
    }
