use Rattle.std.proofs.Common.{◌≡◌, ◌≤◌, ◌<◌, ◌==◌, ◌+◌, ◌++◌, ◌∷◌, [], ℕ, List, false, length, Some, ap, subst, sym, ◌∙◌, length-append, arith}
use Rattle.std.specs.List.{list_any}
use Rattle.gv_edits.specs.Pending.{whole}
use Rattle.gv_edits.specs.Reading.{led_by}
use Rattle.gv_edits.proofs.Bytes.{line_at_feed, line_too_long, none_one_more}
use Rattle.gv_edits.proofs.Heads.{line_found, line_on, whole_on}
use Rattle.gv_edits.proofs.line.read_line.Goals as goal

pub returns-in-Ok-Some-eq10-clause-line : goal.returns-in-Ok-Some-eq10-clause-line
returns-in-Ok-Some-eq10-clause-line g c =
    let old = whole c.args.pending.now (g.I.Source.left c.args.input.now) in
    let new = whole c.next_byte.new.self (g.I.Source.left c.next_byte.new.input) in
    let ten : c.in-Ok-Some-eq10.field-0-0 ≡ 10 = c.in-Ok-Some-eq10.field-0-0-test in
    let byte : whole c.loop-taken.pending (g.I.Source.left c.loop-taken.input) ≡ led_by (Some 10) new = rw (c.in-Ok-Some-eq10.field-0-is, ten) at c.in-Ok-Some-eq10.ensures.byte in
    let few : length c.loop-taken.line ≤ 4200 = omega (arith, c.loop-taken.invariant.size, c.loop-taken-test.true) in
    line_at_feed old new c.loop-taken.line (c.loop-taken.invariant.whole ∙ ap (whole c.loop-taken.line) byte) c.loop-taken.invariant.none few

pub returns-clause-line : goal.returns-clause-line
returns-clause-line g c =
    let old = whole c.args.pending.now (g.I.Source.left c.args.input.now) in
    let new = whole c.loop-taken.pending (g.I.Source.left c.loop-taken.input) in
    let long : 4200 < length c.loop-taken.line = omega (arith, c.loop-taken.invariant.size, c.loop-taken-test.false) in
    line_too_long old new c.loop-taken.line c.loop-taken.invariant.whole c.loop-taken.invariant.none long

pub returns-in-Ok-Some-eq10-clause-finds : goal.returns-in-Ok-Some-eq10-clause-finds
returns-in-Ok-Some-eq10-clause-finds g c =
    let ten : c.in-Ok-Some-eq10.field-0-0 ≡ 10 = c.in-Ok-Some-eq10.field-0-0-test in
    let few : length c.loop-taken.line ≤ 4200 = omega (arith, c.loop-taken.invariant.size, c.loop-taken-test.true) in
    line_found _ _ _ _ _ _ c.loop-taken.line c.loop-taken.invariant.reads (rw (c.in-Ok-Some-eq10.field-0-is, ten) at c.in-Ok-Some-eq10.ensures.reads) c.loop-taken.invariant.none few

pub loop-taken-preserved : goal.loop-taken-preserved
loop-taken-preserved g c =
    let made : c.append.new.self ≡ c.loop-taken.line ++ c.in-Ok-Some.byte ∷ [] = c.in_ok-append-in-Ok-Some.ensures.ok in
    let other : (c.in-Ok-Some.byte == 10) ≡ false = grind (arith, c.in-Ok-Some.byte-test) in
    let more : length c.append.new.self ≡ length c.loop-taken.line + 1 = ap length made ∙ length-append c.loop-taken.line (c.in-Ok-Some.byte ∷ []) in
    record {
      whole = whole_on c.loop-taken.line c.append.new.self c.in-Ok-Some.byte c.in-Ok-Some.field-0 _ _ _ c.loop-taken.invariant.whole c.in-Ok-Some.ensures.byte c.in-Ok-Some.field-0-is made;
      reads = line_on _ _ _ _ _ _ _ _ c.in-Ok-Some.byte c.in-Ok-Some.field-0 c.loop-taken.invariant.reads c.in-Ok-Some.ensures.reads c.in-Ok-Some.field-0-is made;
      none = subst (λ (xs : List ℕ). list_any (λ b. b == 10) xs ≡ false) (sym made) (none_one_more c.loop-taken.line c.in-Ok-Some.byte c.loop-taken.invariant.none other);
      size = omega (arith, c.loop-taken.invariant.size, more);
      calm = c.in-Ok-Some.ensures.calm ∙ c.loop-taken.invariant.calm;
    }
