use Rattle.std.proofs.Common.{◌≡◌, true, false, not, take, drop, subst}
use Rattle.std.specs.List.{list_any}
use Rattle.std.specs.Str.{bytes_eq}
use Rattle.gv_lower.specs.AtomGates.{asked_by, naming}
use Rattle.gv_lower.specs.Asks.{ask_from}
use Rattle.gv_lower.specs.Parent.{base_at}
use Rattle.gv_lower.proofs.Grouping.{asks_known, asks_new, was_named, was_not}
use Rattle.gv_lower.proofs.asks.asks_of.Goals as goal

pub loop-i-preserved-then-not-is_first : goal.loop-i-preserved-then-not-is_first
loop-i-preserved-then-not-is_first c =
    asks_known (base_at c.args.parent.now) c.args.items.now c.loop-i.asks.items c.loop-i.i c.index-items-i.result c.loop-i-test.true c.index-items-i.is
    (was_named (list_any (λ x. bytes_eq c.index-items-i.result.flag x.flag) (take c.loop-i.i c.args.items.now))
    (subst (λ xs. false ≡ not (list_any (λ x. bytes_eq c.index-items-i.result.flag x.flag) (take c.loop-i.i xs))) c.in_ok-chains.ensures c.if-not-is_first.ensures))
    c.loop-i.invariant

pub loop-i-preserved : goal.loop-i-preserved
loop-i-preserved c =
    asks_new (base_at c.args.parent.now) c.args.items.now c.loop-i.asks.items c.loop-i.i c.index-items-i.result c.loop-i-test.true c.index-items-i.is c.in_ok-ask.ask c.push.new.self.items
    (was_not (list_any (λ x. bytes_eq c.index-items-i.result.flag x.flag) (take c.loop-i.i c.args.items.now))
    (subst (λ xs. true ≡ not (list_any (λ x. bytes_eq c.index-items-i.result.flag x.flag) (take c.loop-i.i xs))) c.in_ok-chains.ensures c.if-not-is_first.ensures))
    (subst (λ xs. c.in_ok-ask.ask ≡ ask_from c.index-items-i.result.flag (asked_by (base_at c.args.parent.now) (naming c.index-items-i.result.flag (drop c.loop-i.i xs)))) c.in_ok-chains.ensures c.in_ok-ask.ensures)
    c.in_ok-push.ensures.items c.loop-i.invariant
