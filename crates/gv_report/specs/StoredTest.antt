-- What is known of a stored test.
use Rattle.std.specs.Prelude.{◌≡◌, Bool}
use Rattle.std.specs.Borrow.{Bor}
use Rattle.gv_report.specs.declared.options.Options.{Options}
use Rattle.gv_report.specs.declared.report.Report.{Report}
use Rattle.gv_report.specs.Selecting.{selected}
use Rattle.gv_report.specs.Values.{IsReportValue}

-- it may be asked of every report that is a value
abbrev pub MayAsk : (Bor Report → Type 0) → Type 0
MayAsk pre = (r : Bor Report) → IsReportValue r.now → pre r

-- what it answers there is whether the options select the report
abbrev pub Tells : (Bor Report → Bool → Type 0) → Options → Type 0
Tells post options = (r : Bor Report) (answer : Bool) → IsReportValue r.now → post r answer → answer ≡ selected options r.now

pub record AnswersSelected (pre : Bor Report → Type 0) (post : Bor Report → Bool → Type 0) (options : Options) : Type 0 where
  pub asked : MayAsk pre
  pub tells : Tells post options
