use Rattle.std.proofs.Common.{◌∙◌, ◌+◌, ◌<◌, ◌^◌, ◌++◌, ◌∷◌, [], length, ap, arith, length-append}
use Rattle.gv_logic.proofs.LitLists.{cut_grown, length_cut, lists_grown}
use Rattle.gv_logic.proofs.lit_lists.LitLists.add.Goals as goal

pub invariant_of-self-2 : goal.invariant_of-self-2
invariant_of-self-2 c =
    let ends = c.push_reserved.ensures.items ∙ ap (λ xs. xs ++ c.len-3.result ∷ []) c.in_ok-reserve.ensures.items in
    let count : length c.self.inside.ends.items + 1 < 2 ^ 32 = omega (arith, c.if-len.false, c.len.ensures) in
    let below : c.len-3.result < 2 ^ 32 = omega (
      arith,
      c.if-lits-len.false,
      c.len-2.ensures,
      c.len-3.ensures,
      c.extend_from_slice.new.self.ok.0,
      c.self.invariant.short,
      ap length c.in_ok-extend_from_slice.ensures.items,
      length-append c.self.inside.lits.items c.args.lits.now,
    ) in
    cut_grown c.self.inside.ends.items c.push_reserved.new.self.items c.self.inside.lits.items c.extend_from_slice.new.self.items c.args.lits.now c.len-3.result
    ends c.in_ok-extend_from_slice.ensures.items (c.len-3.ensures ∙ c.extend_from_slice.new.self.ok.0) c.self.invariant count below

pub returns-clause-ok : goal.returns-clause-ok
returns-clause-ok c =
    let ends = c.push_reserved.ensures.items ∙ ap (λ xs. xs ++ c.len-3.result ∷ []) c.in_ok-reserve.ensures.items in
    lists_grown c.self.inside.ends.items c.push_reserved.new.self.items c.self.inside.lits.items c.extend_from_slice.new.self.items c.args.lits.now c.len-3.result
    ends c.in_ok-extend_from_slice.ensures.items (c.len-3.ensures ∙ c.extend_from_slice.new.self.ok.0) c.self.invariant c.args.self.now c.self.view_is

pub returns-clause-few : goal.returns-clause-few
returns-clause-few c =
    let ends = c.push_reserved.ensures.items ∙ ap (λ xs. xs ++ c.len-3.result ∷ []) c.in_ok-reserve.ensures.items in
    omega (
      arith,
      c.if-len.false,
      c.len.ensures,
      ap length ends,
      length-append c.self.inside.ends.items (c.len-3.result ∷ []),
      length_cut 0 c.push_reserved.new.self.items c.extend_from_slice.new.self.items,
    )
