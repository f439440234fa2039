-- What contracts see of an emitter.
use Rattle.gv_report.specs.declared.options.Options.{Options}

-- options, and a test of reports
pub record Emitter (F : Type 0) : Type 0 where
  pub options : Options
  pub test : F

abbrev pub options_of : {F : Type 0} → Emitter F → Options
options_of e = e.options

abbrev pub test_of : {F : Type 0} → Emitter F → F
test_of e = e.test
