use Rattle.std.proofs.Common.{◌∷◌, [], refl, ◌∙◌}
use Rattle.gv_load.specs.Categories.{name_of}
use Rattle.gv_load.specs.Paths.{ebuild_path}
use Rattle.gv_reading.specs.Reading.{once}
use Rattle.gv_reading.specs.Passing.{ended_first, ended_then, faulted, no_memory, read_then}
use Rattle.gv_load.proofs.entries.read_pf.Goals as goal

pub returns-in_err-entry : goal.returns-in_err-entry
returns-in_err-entry g c = rw (faulted c.from_residual.result c.from_residual.ensures.1) (ended_first (λ look. once (ebuild_path c.args.category.now (name_of c.args.pf.now) c.args.pf.now) ∷ []) c.in_err-entry.ensures (λ look. refl))

pub returns-in-Err : goal.returns-in-Err
returns-in-Err g c = ended_then c.in_ok-entry.ensures c.in-Err.ensures (λ look is. refl)

pub returns-in_err-pf_read : goal.returns-in_err-pf_read
returns-in_err-pf_read g c = rw (faulted c.from_residual-in_err-pf_read.result c.from_residual-in_err-pf_read.ensures.1) (no_memory (c.in-Ok.ensures.same ∙ c.in_ok-entry.ensures.same))

pub returns : goal.returns
returns g c = read_then c.in_ok-entry.ensures c.in-Ok.ensures (λ look entry ebuild. refl) (λ look entry ebuild. c.in_ok-pf_read.ensures ∙ rw (entry, ebuild) refl)
