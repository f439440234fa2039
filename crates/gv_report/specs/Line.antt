-- The line of a report (a format of this project).
use Rattle.std.specs.Prelude.{ℕ, List, [], ◌++◌, Option, None, Some, option_map, codes, decimal}
use Rattle.gv_facts.specs.Classes.{class_text}
use Rattle.gv_facts.specs.declared.kinds.Level.{Level}
use Rattle.gv_facts.specs.declared.kinds.Level.TheVariants.{Stable, Testing}
use Rattle.gv_report.specs.declared.report.Subject.{Subject}
use Rattle.gv_report.specs.declared.report.Subject.TheVariants.{Place, Package}
use Rattle.gv_report.specs.declared.report.ContextName.{ContextName}
use Rattle.gv_report.specs.declared.report.Report.{Report}
use Rattle.gv_report.specs.Keyword.{keyword_text}

abbrev pub level_text : Level → List ℕ
level_text Stable = codes "stable"
level_text Testing = codes "testing"

-- CATEGORY/PF
abbrev pub package_text : (category pf : List ℕ) → List ℕ
package_text category pf = category ++ (codes "/" ++ pf)

-- PATH:LINE, or CATEGORY/PF
abbrev pub subject_text : Subject → List ℕ
subject_text (Place path line) = path ++ (codes ":" ++ decimal line)
subject_text (Package category name version pf) = package_text category pf

-- ARCH PATH LEVEL
abbrev pub context_text : ContextName → List ℕ
context_text c = c.arch ++ (codes " " ++ (c.path ++ (codes " " ++ level_text c.level)))

-- USE="WITNESS"
abbrev pub use_text : List ℕ → List ℕ
use_text witness = codes "USE=\"" ++ (witness ++ codes "\"")

-- a part of the line, where the report has it
abbrev pub part_text : Option (List ℕ) → List ℕ
part_text None = []
part_text (Some part) = codes ": " ++ part

-- subject, keyword, and class, context, witness and detail where the report has them
abbrev pub report_line : Report → List ℕ
report_line r = subject_text r.subject ++ (part_text (Some (keyword_text r.keyword)) ++ (part_text (option_map class_text r.class) ++ (part_text (option_map context_text r.context)
    ++ (part_text (option_map use_text r.witness) ++ (part_text r.detail ++ codes "\n")))))
