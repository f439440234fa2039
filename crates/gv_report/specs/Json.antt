-- A report as a JSON object (RFC 8259): compact, on a line of its own, with keys in byte order.
use Rattle.std.specs.Prelude.{ℕ, Bool, true, ◌==◌, ◌||◌, ◌&&◌, if◌then◌else◌, List, [], ◌∷◌, ◌++◌, Option, None, Some, option_map, codes, decimal, flat_map, map}
use Rattle.std.specs.List.{list_all}
use Rattle.std.specs.Ordering.{is_lt}
use Rattle.std.specs.Str.{byte}
use Rattle.gv_base.specs.Order.{byte_cmp}
use Rattle.gv_facts.specs.Classes.{class_text}
use Rattle.gv_report.specs.declared.report.Subject.{Subject}
use Rattle.gv_report.specs.declared.report.Subject.TheVariants.{Place, Package}
use Rattle.gv_report.specs.declared.report.ContextName.{ContextName}
use Rattle.gv_report.specs.declared.report.Report.{Report}
use Rattle.gv_report.specs.Keyword.{keyword_text}
use Rattle.gv_report.specs.Line.{level_text, package_text}
use Rattle.gv_report.specs.Printable.{shown}

-- `"` and `\` have a `\` before them
abbrev pub escaped : ℕ → List ℕ
escaped b = if (b == byte "\"") || (b == byte "\\") then byte "\\" ∷ b ∷ [] else b ∷ []

abbrev pub quoted : List ℕ → List ℕ
quoted text = codes "\"" ++ (flat_map escaped text ++ codes "\"")

-- a member of an object: its key, and its value as JSON
abbrev pub Field : Type 0
Field = List ℕ × List ℕ

abbrev pub field_text : Field → List ℕ
field_text f = quoted f.0 ++ (codes ":" ++ f.1)

-- with a comma between them
abbrev pub fields_text : List Field → List ℕ
fields_text [] = []
fields_text (f ∷ []) = field_text f
fields_text (f ∷ g ∷ fs) = field_text f ++ (codes "," ++ fields_text (g ∷ fs))

abbrev pub object_text : List Field → List ℕ
object_text fs = codes "{" ++ (fields_text fs ++ codes "}")

-- a part of the report, where it is there: a text of this project's own, any text, or a number
abbrev pub text_field : List ℕ → Option (List ℕ) → List Field
text_field key None = []
text_field key (Some text) = (key, quoted text) ∷ []

abbrev pub shown_field : List ℕ → Option (List ℕ) → List Field
shown_field key text = text_field key (option_map shown text)

abbrev pub number_field : List ℕ → Option ℕ → List Field
number_field key None = []
number_field key (Some number) = (key, decimal number) ∷ []

abbrev pub line_of : Subject → Option ℕ
line_of (Place path line) = Some line
line_of (Package category name version pf) = None

abbrev pub path_of : Subject → Option (List ℕ)
path_of (Place path line) = Some path
path_of (Package category name version pf) = None

abbrev pub package_of : Subject → Option (List ℕ)
package_of (Place path line) = None
package_of (Package category name version pf) = Some (package_text category pf)

abbrev pub report_fields : Report → List Field
report_fields r =
    shown_field (codes "arch") (option_map (λ (c : ContextName). c.arch) r.context)
    ++ text_field (codes "class") (option_map class_text r.class)
    ++ shown_field (codes "detail") r.detail
    ++ text_field (codes "keyword") (Some (keyword_text r.keyword))
    ++ text_field (codes "level") (option_map (λ (c : ContextName). level_text c.level) r.context)
    ++ number_field (codes "line") (line_of r.subject)
    ++ shown_field (codes "package") (package_of r.subject)
    ++ shown_field (codes "path") (path_of r.subject)
    ++ shown_field (codes "profile") (option_map (λ (c : ContextName). c.path) r.context)
    ++ shown_field (codes "use") r.witness

abbrev pub report_json : Report → List ℕ
report_json r = object_text (report_fields r) ++ codes "\n"

-- each key is below all that follow it, so none stands twice
abbrev pub are_rising : List (List ℕ) → Bool
are_rising [] = true
are_rising (k ∷ ks) = list_all (λ l. is_lt (byte_cmp k l)) ks && are_rising ks

abbrev pub keys_of : Report → List (List ℕ)
keys_of r = map (λ (f : Field). f.0) (report_fields r)
