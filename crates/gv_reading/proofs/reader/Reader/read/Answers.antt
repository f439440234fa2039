use Rattle.std.proofs.Common.{refl}
use Rattle.gv_reading.specs.Passing.{faulted, path_of_one, same_cause}
use Rattle.gv_reading.specs.Reading.{read}
use Rattle.gv_reading.proofs.reader.Reader.read.Goals as goal

pub returns-in_err-learn : goal.returns-in_err-learn
returns-in_err-learn g c =
    let said = c.in_err-learn.ensures in
    rw (faulted c.from_residual.result c.from_residual.ensures.1) (record {
      told = said.files;
      around = said.around;
      later = said.later;
      cause = same_cause _ _ _ _ _ _ (λ t f at. rw at refl) said.cause;
      asked = path_of_one _ c.args.self.now (read c.args.path.now) _ said.asked;
      here = said.here;
    })
