use Rattle.std.proofs.Common.{◌++◌, List, ap, ◌∙◌}
use Rattle.gv_load.specs.declared.entries.PfRead.{PfRead}
use Rattle.gv_load.proofs.GivenReading.{reads_in, steps_are}
use Rattle.gv_reading.specs.Passing.{ended_as, faulted, read_as}
use Rattle.gv_load.proofs.given.read_category.Goals as goal

pub returns-in_err-read_pfs : goal.returns-in_err-read_pfs
returns-in_err-read_pfs g c =
    rw (faulted c.from_residual-in_err-read_pfs.result c.from_residual-in_err-read_pfs.ensures.1) (ended_as c.in_err-read_pfs.ensures
    (λ look. steps_are c.args.given.now c.in_ok-listed.listed.keys c.in_ok-pfs.pfs c.in_ok-listed.ensures c.in_ok-pfs.ensures.value))

pub returns : goal.returns
returns g c =
    let given = c.args.given.now in
    let keys = c.in_ok-listed.listed.keys in
    let pfs = c.in_ok-pfs.pfs in
    read_as c.in_ok-read_pfs.ensures (λ look is. steps_are given keys pfs c.in_ok-listed.ensures c.in_ok-pfs.ensures.value)
    (λ look is. is ∙ ap (λ (rs : List PfRead). c.args.reads.now ++ rs) (reads_in given keys pfs c.in_ok-listed.ensures c.in_ok-pfs.ensures.value look))
