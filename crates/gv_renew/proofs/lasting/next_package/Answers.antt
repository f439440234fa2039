use Rattle.std.proofs.Common.{◌≡◌, ◌≤◌, false, sym, subst, ◌∙◌, arith}
use Rattle.std.specs.List.{AllByRecursion}
use Rattle.std.specs.Ordering.{eq_by_cmp}
use Rattle.gv_report.specs.Order.{subject_cmp}
use Rattle.gv_report.specs.declared.report.Report.{Report}
use Rattle.gv_renew.specs.Lasting.{may_be_stale}
use Rattle.gv_renew.proofs.LastingLemmas.{may_same}
use Rattle.gv_renew.proofs.RunLemmas.{all_far, package_itself, packages_parted, some_here}
use Rattle.gv_renew.proofs.lasting.next_package.Goals as goal

pub package_len-requires : goal.package_len-requires
package_len-requires c = packages_parted c.first-item.result c.args.rest.now c.first-item.is c.requires.order

pub returns : goal.returns
returns c =
    let first = c.first-item.result in
    let rest = c.args.rest.now in
    let count = c.package_len.result in
    let point = c.package_len.ensures.point in
    let may = may_be_stale c.args.edits.now c.args.touched.now in
    let some : 1 ≤ count = some_here (eq_by_cmp subject_cmp) package_itself first rest count c.first-item.is c.in-len1-up.len_at_least point.1 in
    let here = c.split_at.ensures.front_len in
    record {
      parts = c.split_at.ensures.by_index.0;
      some = omega (arith, some, here);
      far = λ e. subst (AllByRecursion (λ (r : Report). may r.subject ≡ false)) (sym c.split_at.ensures.front)
          (all_far (eq_by_cmp subject_cmp) may (may_same c.args.edits.now c.args.touched.now) first.subject count rest (sym c.may_be_stale-near.ensures ∙ e) point.0);
    }
