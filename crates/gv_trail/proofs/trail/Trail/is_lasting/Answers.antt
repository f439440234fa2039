use Rattle.std.proofs.Common.{◌≡◌, ◌∙◌, true, Some, sym, ap, subst, arith}
use Rattle.gv_logic.specs.Partial.{is_true, Has}
use Rattle.gv_trail.specs.Entries.{assignment, level_of}
use Rattle.gv_trail.proofs.Following.{lasting_lit}
use Rattle.gv_trail.proofs.Picks.{has_at}
use Rattle.gv_trail.proofs.trail.Trail.is_lasting.Goals as goal

pub returns-in-Some-eq0 : goal.returns-in-Some-eq0
returns-in-Some-eq0 c e =
    let on : is_true (assignment c.args.self.now) c.lit-item.result ≡ true = sym c.is_on.ensures ∙ c.if-is_on.true in
    let level : level_of c.lit-item.result c.args.self.now.entries ≡ Some 0 = sym c.level_of.ensures ∙ c.in-Some-eq0.is ∙ ap Some c.in-Some-eq0.field-0-test in
    let d = lasting_lit c.args.clauses.now c.args.self.now c.lit-item.result c.requires on level in
    record { entry = d.0; there = d.1; level = d.2; has = subst (λ l. Has l c.args.lits.now) (sym d.3) (subst (λ l. Has l c.args.lits.now) (sym c.lit-item.is) (has_at c.args.lits.now c.loop-lit.lit-index c.lit-item.result (omega (arith, c.loop-lit-test.true, c.loop-lit.auto.lit-index-end)))) }
