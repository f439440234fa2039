-- The order of reports (a format of this project). Package order is the order of subjects.
use Rattle.std.specs.Prelude.{ℕ, List, [], Option, None, option_map}
use Rattle.std.specs.declared.cmp.Ordering.{Ordering}
use Rattle.std.specs.declared.cmp.Ordering.TheVariants.{Less, Greater}
use Rattle.std.specs.Option.{option_cmp}
use Rattle.std.specs.Ordering.{nat_cmp, on, then_cmp, ordering_then}
use Rattle.gv_base.specs.Order.{byte_cmp}
use Rattle.gv_version.specs.Order.{compare}
use Rattle.gv_facts.specs.declared.kinds.Class.{Class}
use Rattle.gv_facts.specs.declared.kinds.Class.TheVariants as classes
use Rattle.gv_facts.specs.declared.kinds.Level.{Level}
use Rattle.gv_facts.specs.declared.kinds.Level.TheVariants.{Stable, Testing}
use Rattle.gv_report.specs.Keyword.{keyword_number}
use Rattle.gv_report.specs.declared.report.Subject.{Subject}
use Rattle.gv_report.specs.declared.report.Subject.TheVariants.{Place, Package}
use Rattle.gv_report.specs.declared.report.ContextName.{ContextName}
use Rattle.gv_report.specs.declared.report.Report.{Report}

abbrev pub class_number : Class → ℕ
class_number classes.Required = 1
class_number classes.Depend = 2
class_number classes.Bdepend = 3
class_number classes.Rdepend = 4
class_number classes.Pdepend = 5
class_number classes.Idepend = 6

-- places come before packages; places by path and line, packages by category, name, version and PF
abbrev pub subject_cmp : Subject → Subject → Ordering
subject_cmp (Place p l) (Place q m) = ordering_then (byte_cmp p q) (nat_cmp l m)
subject_cmp (Place p l) (Package c n v f) = Less
subject_cmp (Package c n v f) (Place p l) = Greater
subject_cmp (Package c n v f) (Package d m w g) =
    ordering_then (byte_cmp c d) (ordering_then (byte_cmp n m) (ordering_then (compare v w) (byte_cmp f g)))

-- a part that counts in reports of packages alone
abbrev pub of_package : Subject → Option ℕ → Option ℕ
of_package (Place p l) part = None
of_package (Package c n v f) part = part

-- the number of a package's class
abbrev pub class_part : Report → Option ℕ
class_part r = of_package r.subject (option_map class_number r.class)

-- the line of a package's profile
abbrev pub line_part : Report → Option ℕ
line_part r = of_package r.subject (option_map (λ (c : ContextName). c.line) r.context)

-- by keyword, class, line of the profile and detail; where a part isn't there, that is first
abbrev pub kind_cmp : Report → Report → Ordering
kind_cmp = then_cmp (on (λ r. keyword_number r.keyword) nat_cmp)
    (then_cmp (on class_part (option_cmp nat_cmp)) (then_cmp (on line_part (option_cmp nat_cmp)) (on (λ r. r.detail) (option_cmp byte_cmp))))

-- by subject before all else
abbrev pub report_cmp : Report → Report → Ordering
report_cmp = then_cmp (on (λ r. r.subject) subject_cmp) kind_cmp

-- The rest of a report, by which reports that this order doesn't tell apart are told apart: equal is what is equal in both.
abbrev pub level_number : Level → ℕ
level_number Stable = 0
level_number Testing = 1

-- the text of a package's version: versions of different texts can be equal in the version order
abbrev pub version_text : Subject → List ℕ
version_text (Place p l) = []
version_text (Package c n v f) = v

-- line, arch, path, level
abbrev pub context_cmp : ContextName → ContextName → Ordering
context_cmp = then_cmp (on (λ c. c.line) nat_cmp) (then_cmp (on (λ c. c.arch) byte_cmp)
    (then_cmp (on (λ c. c.path) byte_cmp) (on (λ c. level_number c.level) nat_cmp)))

abbrev pub rest_cmp : Report → Report → Ordering
rest_cmp = then_cmp (on (λ r. version_text r.subject) byte_cmp) (then_cmp (on (λ r. option_map class_number r.class) (option_cmp nat_cmp))
    (then_cmp (on (λ r. r.context) (option_cmp context_cmp)) (on (λ r. r.witness) (option_cmp byte_cmp))))

-- the order of reports, and then the rest
abbrev pub whole_cmp : Report → Report → Ordering
whole_cmp = then_cmp report_cmp rest_cmp
