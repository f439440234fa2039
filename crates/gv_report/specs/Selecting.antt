-- The reports that options select.
use Rattle.std.specs.Prelude.{ℕ, Bool, true, ◌&&◌, List, Option, None, Some}
use Rattle.gv_base.specs.Order.{has_text}
use Rattle.gv_report.specs.declared.options.Options.{Options}
use Rattle.gv_report.specs.declared.report.ContextName.{ContextName}
use Rattle.gv_report.specs.declared.report.Report.{Report}
use Rattle.gv_report.specs.Keyword.{has_keyword}

-- no paths are given, or the profile's path is one of them; what has no context is of no profile
abbrev pub in_profiles : Option (List (List ℕ)) → Option ContextName → Bool
in_profiles None context = true
in_profiles (Some paths) None = true
in_profiles (Some paths) (Some context) = has_text paths context.path

abbrev pub selected : Options → Report → Bool
selected options report = has_keyword options.keywords report.keyword && in_profiles options.profiles report.context
