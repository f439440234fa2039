use Rattle.std.proofs.Common.{◌≡◌, ◌∷◌, [], ◌+◌, ◌≤◌, drop, length, refl, ap, arith}
use Rattle.gv_load.specs.Entries.{reads_of, all_reads}
use Rattle.gv_load.specs.Order.{categories_steps}
use Rattle.gv_reading.specs.Passing.{all_gone, amid_end, amid_ended, amid_next, faulted, last_values, more_values, next_item}
use Rattle.gv_load.proofs.entries.read_categories.Goals as goal

pub returns-in_err-read_category : goal.returns-in_err-read_category
returns-in_err-read_category g c =
    let all = c.args.categories.now in
    let i = c.loop-category.category-index in
    let next : drop i all ≡ c.category-item.result ∷ drop (i + 1) all = rw c.items-category-items.ensures at (next_item c.items-category-items.result.now i c.category-item.result (omega arith) c.category-item.is) in
    rw (faulted c.from_residual.result c.from_residual.ensures.1) (amid_ended (λ look. categories_steps look (drop (i + 1) all)) c.loop-category.invariant c.in_err-read_category.ensures (λ look. ap (categories_steps look) next))

pub loop-category-preserved : goal.loop-category-preserved
loop-category-preserved g c =
    let all = c.args.categories.now in
    let i = c.loop-category.category-index in
    let next : drop i all ≡ c.category-item.result ∷ drop (i + 1) all = rw c.items-category-items.ensures at (next_item c.items-category-items.result.now i c.category-item.result (omega arith) c.category-item.is) in
    amid_next c.loop-category.invariant c.in_ok-read_category.ensures (λ look. ap (categories_steps look) next) (λ look so_far here. more_values (reads_of look) (all_reads look) c.loop-category.reads c.read_category.new.reads _ (drop i all) (drop (i + 1) all) c.category-item.result (λ y ys. refl) next so_far here)

pub returns : goal.returns
returns g c =
    let all = c.args.categories.now in
    let i = c.loop-category.category-index in
    let past : length c.items-category-items.result.now ≤ i = omega arith in
    let gone : drop i all ≡ [] = all_gone c.items-category-items.result.now all i c.items-category-items.ensures past in
    amid_end c.loop-category.invariant (λ look. ap (categories_steps look) gone) (λ look so_far. last_values (all_reads look) c.loop-category.reads _ (drop i all) refl gone so_far)
