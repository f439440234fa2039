use Rattle.std.proofs.Common.{◌++◌, ℕ, List, refl, sym, ap}
use Rattle.gv_reading.specs.Paths.{within}
use Rattle.gv_reading.specs.NamedFiles.{file_steps}
use Rattle.gv_load.specs.Directories.{pair_steps}
use Rattle.gv_reading.specs.Look.{Look}
use Rattle.gv_reading.specs.Reading.{Step}
use Rattle.gv_load.specs.declared.layout.Layout.{Layout}
use Rattle.gv_reading.specs.Passing.{ended_behind, ended_first, ended_front, ended_then, faulted, read_both, read_then}
use Rattle.gv_load.proofs.directories.read_packages.Goals as goal

abbrev steps : Look → List ℕ → Layout → List Step
steps look dir names =
    file_steps look (within dir names.package_mask)
    ++ (pair_steps look dir names.package_use_mask names.package_use_force ++ pair_steps look dir names.package_use_stable_mask names.package_use_stable_force)

pub returns-in_err-mask : goal.returns-in_err-mask
returns-in_err-mask g c =
    let names = c.args.names.now in
    rw (faulted c.from_residual.result c.from_residual.ensures.1) (ended_first (λ look. pair_steps look c.args.dir.now names.package_use_mask names.package_use_force ++ pair_steps look c.args.dir.now names.package_use_stable_mask names.package_use_stable_force) c.in_err-mask.ensures (λ look. ap (steps look c.args.dir.now) (sym c.requires.names)))

pub returns-in_err-plain : goal.returns-in_err-plain
returns-in_err-plain g c =
    let names = c.args.names.now in
    let rest = ended_front (λ look. pair_steps look c.args.dir.now names.package_use_stable_mask names.package_use_stable_force) c.in_err-plain.ensures in
    rw (faulted c.from_residual-in_err-plain.result c.from_residual-in_err-plain.ensures.1) (ended_then c.in_ok-mask.ensures rest (λ look is. ap (steps look c.args.dir.now) (sym c.requires.names)))

pub returns-in_err-stable : goal.returns-in_err-stable
returns-in_err-stable g c =
    let rest = ended_behind c.in_ok-plain.ensures c.in_err-stable.ensures in
    rw (faulted c.from_residual-in_err-stable.result c.from_residual-in_err-stable.ensures.1) (ended_then c.in_ok-mask.ensures rest (λ look is. ap (steps look c.args.dir.now) (sym c.requires.names)))

pub returns : goal.returns
returns g c =
    let rest = read_both c.in_ok-plain.ensures c.in_ok-stable.ensures in
    read_then c.in_ok-mask.ensures rest (λ look mask more. ap (steps look c.args.dir.now) (sym c.requires.names)) (λ look mask more. rw (mask, more.0, more.1, c.requires.names) refl)
