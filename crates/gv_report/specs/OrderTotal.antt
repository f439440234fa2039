-- A proof that the comparisons of reports take, and no rule: the orders of subjects and of reports are total preorders, in
-- which any two compare, and what ties is alike against every third.
use Rattle.std.specs.Prelude.{◌≡◌, ℕ, List, option_map, refl}
use Rattle.std.specs.declared.cmp.Ordering.{Ordering}
use Rattle.std.specs.declared.cmp.Ordering.TheVariants.{Less, Equal}
use Rattle.std.specs.Cmp.{IsTotalOrder}
use Rattle.std.specs.Cmp.Lexicographic.{nat_list_cmp_total, options_total}
use Rattle.std.specs.Ordering.{nat_cmp, on, ordering_reverse, then_cmp}
use Rattle.std.proofs.lemmas.Cmp.{then_total, on_total, nat_cmp_total}
use Rattle.gv_base.specs.Order.{byte_cmp}
use Rattle.gv_version.specs.Order.{compare}
use Rattle.gv_version.specs.Total.{version_total}
use Rattle.gv_report.specs.declared.report.Subject.{Subject}
use Rattle.gv_report.specs.declared.report.Subject.TheVariants.{Place, Package}
use Rattle.gv_report.specs.Keyword.{keyword_number}
use Rattle.gv_report.specs.Order.{class_number, class_part, line_part, level_number, version_text, subject_cmp, context_cmp, kind_cmp, report_cmp, rest_cmp, whole_cmp}

abbrev place_cmp : List ℕ × ℕ → List ℕ × ℕ → Ordering
place_cmp = then_cmp (on (λ k. k.0) byte_cmp) (on (λ k. k.1) nat_cmp)

place_total : IsTotalOrder place_cmp
place_total = then_total (on_total (λ k. k.0) nat_list_cmp_total) (on_total (λ k. k.1) nat_cmp_total)

abbrev package_cmp : List ℕ × List ℕ × List ℕ × List ℕ → List ℕ × List ℕ × List ℕ × List ℕ → Ordering
package_cmp = then_cmp (on (λ k. k.0) byte_cmp) (then_cmp (on (λ k. k.1) byte_cmp) (then_cmp (on (λ k. k.2) compare) (on (λ k. k.3) byte_cmp)))

package_total : IsTotalOrder package_cmp
package_total = then_total (on_total (λ k. k.0) nat_list_cmp_total) (then_total (on_total (λ k. k.1) nat_list_cmp_total)
    (then_total (on_total (λ k. k.2) version_total) (on_total (λ k. k.3) nat_list_cmp_total)))

antisymm : (x y : Subject) → subject_cmp x y ≡ ordering_reverse (subject_cmp y x)
antisymm (Place p l) (Place q m) = place_total.antisymm (p, l) (q, m)
antisymm (Place p l) (Package d m w g) = refl
antisymm (Package c n v f) (Place q m) = refl
antisymm (Package c n v f) (Package d m w g) = package_total.antisymm (c, n, v, f) (d, m, w, g)

trans : (x y z : Subject) → subject_cmp x y ≡ Less → subject_cmp y z ≡ Less → subject_cmp x z ≡ Less
trans (Place p l) (Place q m) (Place r n) a b = place_total.trans (p, l) (q, m) (r, n) a b
trans (Place p l) (Place q m) (Package e o x h) a b = refl
trans (Place p l) (Package d m w g) (Place r n) a b = cc
trans (Place p l) (Package d m w g) (Package e o x h) a b = refl
trans (Package c n v f) (Place q m) (Place r o) a b = cc
trans (Package c n v f) (Place q m) (Package e o x h) a b = cc
trans (Package c n v f) (Package d m w g) (Place r o) a b = cc
trans (Package c n v f) (Package d m w g) (Package e o x h) a b = package_total.trans (c, n, v, f) (d, m, w, g) (e, o, x, h) a b

congr : (x y z : Subject) → subject_cmp x y ≡ Equal → subject_cmp x z ≡ subject_cmp y z
congr (Place p l) (Place q m) (Place r n) a = place_total.congr (p, l) (q, m) (r, n) a
congr (Place p l) (Place q m) (Package e o x h) a = refl
congr (Place p l) (Package d m w g) (Place r n) a = cc
congr (Place p l) (Package d m w g) (Package e o x h) a = cc
congr (Package c n v f) (Place q m) (Place r o) a = cc
congr (Package c n v f) (Place q m) (Package e o x h) a = cc
congr (Package c n v f) (Package d m w g) (Place r o) a = refl
congr (Package c n v f) (Package d m w g) (Package e o x h) a = package_total.congr (c, n, v, f) (d, m, w, g) (e, o, x, h) a

pub subject_total : IsTotalOrder subject_cmp
subject_total = record { antisymm = antisymm; trans = trans; congr = congr }

kind_total : IsTotalOrder kind_cmp
kind_total = then_total (on_total (λ r. keyword_number r.keyword) nat_cmp_total) (then_total (on_total class_part (options_total nat_cmp_total))
    (then_total (on_total line_part (options_total nat_cmp_total)) (on_total (λ r. r.detail) (options_total nat_list_cmp_total))))

pub report_total : IsTotalOrder report_cmp
report_total = then_total (on_total (λ r. r.subject) subject_total) kind_total

context_total : IsTotalOrder context_cmp
context_total = then_total (on_total (λ c. c.line) nat_cmp_total) (then_total (on_total (λ c. c.arch) nat_list_cmp_total)
    (then_total (on_total (λ c. c.path) nat_list_cmp_total) (on_total (λ c. level_number c.level) nat_cmp_total)))

rest_total : IsTotalOrder rest_cmp
rest_total = then_total (on_total (λ r. version_text r.subject) nat_list_cmp_total) (then_total (on_total (λ r. option_map class_number r.class) (options_total nat_cmp_total))
    (then_total (on_total (λ r. r.context) (options_total context_total)) (on_total (λ r. r.witness) (options_total nat_list_cmp_total))))

pub whole_total : IsTotalOrder whole_cmp
whole_total = then_total report_total rest_total
