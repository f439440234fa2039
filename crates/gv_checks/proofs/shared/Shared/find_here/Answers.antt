use Rattle.std.proofs.Common.{◌≡◌, get_or, rules}
use Rattle.gv_facts.specs.declared.kinds.Class.TheVariants.{Required}
use Rattle.gv_checks.proofs.SharedLemmas.{placed_at}
use Rattle.gv_checks.proofs.shared.Shared.find_here.Goals as goal

pub returns-then-eq : goal.returns-then-eq
returns-then-eq c = λ k all.
    let same : (get_or c.deref-placed-items.result.now c.loop-placed.placed-index (record { class = Required; at = 0 })).class ≡ c.args.class = search rules in
    placed_at k c.args.self.now.queries.items c.args.self.now.here.items c.deref-placed-items.result.now c.args.class c.loop-placed.placed-index (record { class = Required; at = 0 })
    c.deref-placed-items.ensures.value c.loop-placed-test.true same all
