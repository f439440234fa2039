use Rattle.std.proofs.Common.{◌≡◌, ◌∷◌, [], ◌++◌, ◌+◌, ◌≤◌, List, ℕ, drop, take, length, ap, subst, arith, ◌∙◌, sym}
use Rattle.std.proofs.lemmas.List.{take_all}
use Rattle.gv_load.specs.DigestWords.{KeepsDigests}
use Rattle.gv_load.specs.Order.{eclass_steps}
use Rattle.gv_load.proofs.EclassLemmas.{taken, keeps_more, keeps_nothing}
use Rattle.gv_reading.specs.Passing.{all_gone, amid_end, amid_ended, amid_next, amid_start, faulted, next_item}
use Rattle.gv_load.proofs.eclasses.read_eclasses.Goals as goal

pub loop-name-init : goal.loop-name-init
loop-name-init g c = amid_start c.requires.knows (λ look. keeps_nothing look c.new-digests.result c.new-digests.ensures)

pub returns-in_err-read_eclass : goal.returns-in_err-read_eclass
returns-in_err-read_eclass g c =
    let names = c.args.names.now in
    let i = c.loop-name.name-index in
    let next : drop i names ≡ c.name-item.result ∷ drop (i + 1) names = rw c.items-name-items.ensures at (next_item c.items-name-items.result.now i c.name-item.result (omega arith) c.name-item.is) in
    rw (faulted c.from_residual.result c.from_residual.ensures.1) (amid_ended (λ look. eclass_steps (drop (i + 1) names)) c.loop-name.invariant c.in_err-read_eclass.ensures (λ look. ap eclass_steps next))

pub loop-name-preserved : goal.loop-name-preserved
loop-name-preserved g c =
    let names = c.args.names.now in
    let i = c.loop-name.name-index in
    let name = c.name-item.result in
    let next : drop i names ≡ name ∷ drop (i + 1) names = rw c.items-name-items.ensures at (next_item c.items-name-items.result.now i name (omega arith) c.name-item.is) in
    let more : take (i + 1) names ≡ take i names ++ name ∷ [] = rw c.items-name-items.ensures at (taken c.items-name-items.result.now i name (omega arith) c.name-item.is) in
    amid_next c.loop-name.invariant c.in_ok-read_eclass.ensures (λ look. ap eclass_steps next) (λ look keeps here. keeps_more look _ _ c.loop-name.digests c.read_eclass.new.digests name more here keeps)

pub returns : goal.returns
returns g c =
    let names = c.args.names.now in
    let i = c.loop-name.name-index in
    let past : length c.items-name-items.result.now ≤ i = omega arith in
    let gone : drop i names ≡ [] = all_gone c.items-name-items.result.now names i c.items-name-items.ensures past in
    let all : take i names ≡ names = ap (λ (ns : List (List ℕ)). take i ns) (sym c.items-name-items.ensures) ∙ take_all i c.items-name-items.result.now past ∙ c.items-name-items.ensures in
    amid_end c.loop-name.invariant (λ look. ap eclass_steps gone) (λ look keeps. subst (λ (ns : List (List ℕ)). KeepsDigests look ns c.loop-name.digests) all keeps)
