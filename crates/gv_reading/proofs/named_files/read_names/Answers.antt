use Rattle.std.proofs.Common.{◌≡◌, ◌∷◌, ◌+◌, drop, refl, ap, arith}
use Rattle.gv_reading.specs.NamedFiles.{folder_files, name_steps, plain_file}
use Rattle.gv_reading.specs.Passing.{amid_ended, amid_next, faulted, more_values, next_item}
use Rattle.gv_reading.specs.Paths.{within}
use Rattle.gv_reading.proofs.named_files.read_names.Goals as goal

pub returns-in_err-read_name : goal.returns-in_err-read_name
returns-in_err-read_name g c =
    let names = c.args.names.now in
    let dir = c.args.dir.now in
    let i = c.loop-name.name-index in
    let next : drop i names ≡ c.name-item.result ∷ drop (i + 1) names = rw c.items-name-items.ensures at (next_item c.items-name-items.result.now i c.name-item.result (omega arith) c.name-item.is) in
    rw (faulted c.from_residual.result c.from_residual.ensures.1) (amid_ended (λ look. name_steps dir (drop (i + 1) names)) c.loop-name.invariant c.in_err-read_name.ensures (λ look. ap (name_steps dir) next))

pub loop-name-preserved : goal.loop-name-preserved
loop-name-preserved g c =
    let names = c.args.names.now in
    let dir = c.args.dir.now in
    let i = c.loop-name.name-index in
    let name = c.name-item.result in
    let next : drop i names ≡ name ∷ drop (i + 1) names = rw c.items-name-items.ensures at (next_item c.items-name-items.result.now i name (omega arith) c.name-item.is) in
    amid_next c.loop-name.invariant c.in_ok-read_name.ensures (λ look. ap (name_steps dir) next)
    (λ look so_far here. more_values (λ n. plain_file (within dir n) (look.found (within dir n))) (folder_files look dir) c.loop-name.files c.read_name.new.files _ (drop i names) (drop (i + 1) names) name (λ y ys. refl) next so_far here)
