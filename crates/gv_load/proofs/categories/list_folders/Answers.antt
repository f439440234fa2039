use Rattle.std.proofs.Common.{◌≡◌, ◌∷◌, ◌+◌, drop, refl, ap, arith}
use Rattle.std.specs.Prelude.{flat_map}
use Rattle.gv_load.specs.Categories.{ebuilds_in}
use Rattle.gv_load.specs.Order.{folder_lists}
use Rattle.gv_reading.specs.Passing.{amid_ended, amid_next, faulted, more_values, next_item}
use Rattle.gv_load.proofs.categories.list_folders.Goals as goal

pub returns-in_err-list_ebuilds : goal.returns-in_err-list_ebuilds
returns-in_err-list_ebuilds g c =
    let names = c.args.names.now in
    let category = c.args.category.now in
    let i = c.loop-name.name-index in
    let next : drop i names ≡ c.name-item.result ∷ drop (i + 1) names = rw c.items-name-items.ensures at (next_item c.items-name-items.result.now i c.name-item.result (omega arith) c.name-item.is) in
    rw (faulted c.from_residual.result c.from_residual.ensures.1) (amid_ended (λ look. folder_lists category (drop (i + 1) names)) c.loop-name.invariant c.in_err-list_ebuilds.ensures (λ look. ap (folder_lists category) next))

pub loop-name-preserved : goal.loop-name-preserved
loop-name-preserved g c =
    let names = c.args.names.now in
    let category = c.args.category.now in
    let i = c.loop-name.name-index in
    let name = c.name-item.result in
    let next : drop i names ≡ name ∷ drop (i + 1) names = rw c.items-name-items.ensures at (next_item c.items-name-items.result.now i name (omega arith) c.name-item.is) in
    amid_next c.loop-name.invariant c.in_ok-list_ebuilds.ensures (λ look. ap (folder_lists category) next)
    (λ look so_far here. more_values (ebuilds_in look category) (flat_map (ebuilds_in look category)) c.loop-name.pfs c.list_ebuilds.new.pfs _ (drop i names) (drop (i + 1) names) name (λ y ys. refl) next so_far here)
