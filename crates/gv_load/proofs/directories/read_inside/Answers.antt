use Rattle.std.proofs.Common.{◌++◌, refl}
use Rattle.gv_load.specs.Directories.{flag_steps, package_steps}
use Rattle.gv_reading.specs.Passing.{ended_behind, ended_first, ended_front, ended_then, faulted, read_both, read_then}
use Rattle.gv_load.proofs.directories.read_inside.Goals as goal

pub returns-in_err-head : goal.returns-in_err-head
returns-in_err-head g c = rw (faulted c.from_residual.result c.from_residual.ensures.1) (ended_first (λ look. flag_steps look c.args.dir.now ++ package_steps look c.args.dir.now) c.in_err-head.ensures (λ look. refl))

pub returns-in_err-flags : goal.returns-in_err-flags
returns-in_err-flags g c =
    let rest = ended_front (λ look. package_steps look c.args.dir.now) c.in_err-flags.ensures in
    rw (faulted c.from_residual-in_err-flags.result c.from_residual-in_err-flags.ensures.1) (ended_then c.in_ok-head.ensures rest (λ look is. refl))

pub returns-in_err-packages : goal.returns-in_err-packages
returns-in_err-packages g c =
    let rest = ended_behind c.in_ok-flags.ensures c.in_err-packages.ensures in
    rw (faulted c.from_residual-in_err-packages.result c.from_residual-in_err-packages.ensures.1) (ended_then c.in_ok-head.ensures rest (λ look is. refl))

pub returns : goal.returns
returns g c =
    let rest = read_both c.in_ok-flags.ensures c.in_ok-packages.ensures in
    read_then c.in_ok-head.ensures rest (λ look head more. refl) (λ look head more. rw (c.all_files.ensures, head, more.0, more.1) refl)
