use Rattle.std.proofs.Common.{◌≡◌, ◌∷◌, [], ◌+◌, ◌≤◌, drop, length, refl, ap, arith}
use Rattle.gv_load.specs.Given.{given_in, given_reads, pf_steps}
use Rattle.gv_reading.specs.Passing.{all_gone, amid_end, amid_ended, amid_next, faulted, last_values, more_values, next_item}
use Rattle.gv_load.proofs.given.read_all.Goals as goal

pub returns-in_err-read_category : goal.returns-in_err-read_category
returns-in_err-read_category g c =
    let all = c.args.given.now in
    let i = c.loop-one.one-index in
    let next : drop i all ≡ c.one-item.result ∷ drop (i + 1) all = next_item all i c.one-item.result (omega arith) c.one-item.is in
    rw (faulted c.from_residual.result c.from_residual.ensures.1) (amid_ended (λ look. pf_steps (drop (i + 1) all)) c.loop-one.invariant c.in_err-read_category.ensures (λ look. ap (pf_steps) next))

pub loop-one-preserved : goal.loop-one-preserved
loop-one-preserved g c =
    let all = c.args.given.now in
    let i = c.loop-one.one-index in
    let next : drop i all ≡ c.one-item.result ∷ drop (i + 1) all = next_item all i c.one-item.result (omega arith) c.one-item.is in
    amid_next c.loop-one.invariant c.in_ok-read_category.ensures (λ look. ap (pf_steps) next) (λ look so_far here. more_values (given_in look) (given_reads look) c.loop-one.reads c.read_category.new.reads _ (drop i all) (drop (i + 1) all) c.one-item.result (λ y ys. refl) next so_far here)

pub returns : goal.returns
returns g c =
    let all = c.args.given.now in
    let i = c.loop-one.one-index in
    let past : length all ≤ i = omega arith in
    let gone : drop i all ≡ [] = all_gone all all i refl past in
    amid_end c.loop-one.invariant (λ look. ap (pf_steps) gone) (λ look so_far. last_values (given_reads look) c.loop-one.reads _ (drop i all) refl gone so_far)
