use Rattle.std.proofs.Common.{rules, length, ap, arith}
use Rattle.gv_logic.proofs.LitLists.{under_ends, nth_cut}
use Rattle.gv_logic.proofs.lit_lists.LitLists.at.Goals as goal

pub start-from-requires : goal.start-from-requires
start-from-requires c =
    let under = under_ends c.self.inside.ends.items c.self.inside.lits.items c.self.view_is c.requires in
    omega (arith, under, ap length c.deref.ensures.value)

pub index-requires : goal.index-requires
index-requires c =
    let under = under_ends c.self.inside.ends.items c.self.inside.lits.items c.self.view_is c.requires in
    omega (arith, under, c.self.inside.ends.ok.0)

pub offset_bounds-deref-from : goal.offset_bounds-deref-from
offset_bounds-deref-from c =
    let nth = nth_cut c.self.view_is c.self.invariant c.requires c.deref.ensures.value c.start-from.ensures c.index.ensures c.deref-2.ensures.value in
    omega (arith, nth.rises, nth.below, c.deref-2.type_inv)

pub slice_bounds-result-count : goal.slice_bounds-result-count
slice_bounds-result-count c =
    (nth_cut c.self.view_is c.self.invariant c.requires c.deref.ensures.value c.start-from.ensures c.index.ensures c.deref-2.ensures.value).rises

pub slice_bounds-result-start : goal.slice_bounds-result-start
slice_bounds-result-start c =
    let nth = nth_cut c.self.view_is c.self.invariant c.requires c.deref.ensures.value c.start-from.ensures c.index.ensures c.deref-2.ensures.value in
    let rises = nth.rises in
    let below = nth.below in
    search rules

pub slice_bounds-result-end : goal.slice_bounds-result-end
slice_bounds-result-end c =
    let nth = nth_cut c.self.view_is c.self.invariant c.requires c.deref.ensures.value c.start-from.ensures c.index.ensures c.deref-2.ensures.value in
    let rises = nth.rises in
    let below = nth.below in
    search rules

pub returns-clause-list : goal.returns-clause-list
returns-clause-list c = (nth_cut c.self.view_is c.self.invariant c.requires c.deref.ensures.value c.start-from.ensures c.index.ensures c.deref-2.ensures.value).part
