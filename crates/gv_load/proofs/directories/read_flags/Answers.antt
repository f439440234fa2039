use Rattle.std.proofs.Common.{◌++◌, ℕ, List, refl, sym, ap}
use Rattle.gv_load.specs.Directories.{pair_steps}
use Rattle.gv_reading.specs.Look.{Look}
use Rattle.gv_reading.specs.Reading.{Step}
use Rattle.gv_load.specs.declared.layout.Layout.{Layout}
use Rattle.gv_reading.specs.Passing.{ended_first, ended_then, faulted, read_then}
use Rattle.gv_load.proofs.directories.read_flags.Goals as goal

abbrev steps : Look → List ℕ → Layout → List Step
steps look dir names = pair_steps look dir names.use_mask names.use_force ++ pair_steps look dir names.use_stable_mask names.use_stable_force

pub returns-in_err-plain : goal.returns-in_err-plain
returns-in_err-plain g c = rw (faulted c.from_residual.result c.from_residual.ensures.1) (ended_first (λ look. pair_steps look c.args.dir.now c.args.names.now.use_stable_mask c.args.names.now.use_stable_force) c.in_err-plain.ensures (λ look. ap (steps look c.args.dir.now) (sym c.requires.names)))

pub returns-in_err-stable : goal.returns-in_err-stable
returns-in_err-stable g c = rw (faulted c.from_residual-in_err-stable.result c.from_residual-in_err-stable.ensures.1) (ended_then c.in_ok-plain.ensures c.in_err-stable.ensures (λ look is. ap (steps look c.args.dir.now) (sym c.requires.names)))

pub returns : goal.returns
returns g c = read_then c.in_ok-plain.ensures c.in_ok-stable.ensures (λ look plain stable. ap (steps look c.args.dir.now) (sym c.requires.names)) (λ look plain stable. rw (plain, stable, c.requires.names) refl)
