-- A proof that the comparisons of members take, and no rule: package order is total.
use Rattle.std.specs.Cmp.{IsTotalOrder}
use Rattle.std.proofs.lemmas.Cmp.{on_total}
use Rattle.gv_report.specs.OrderTotal.{subject_total}
use Rattle.gv_load.specs.Repository.{member_cmp, pkg_of, subject_of}

pub member_total : IsTotalOrder member_cmp
member_total = on_total pkg_of (on_total subject_of subject_total)
