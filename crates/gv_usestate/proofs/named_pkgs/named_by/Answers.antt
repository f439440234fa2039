use Rattle.std.proofs.Common.{◌<◌, ◌≡◌, length, get_or}
use Rattle.std.specs.List.{list_any}
use Rattle.gv_usestate.specs.NamedPkgs.{has_key, names_pkg}
use Rattle.gv_usestate.proofs.FlagSetLemmas.{any_further}
use Rattle.gv_usestate.proofs.named_pkgs.named_by.Goals as goal

pub loop-rule-preserved : goal.loop-rule-preserved
loop-rule-preserved c =
    let rules = c.args.rules.now in
    let r = c.rule-item.result in
    let lt : c.loop-rule.rule-index < length rules = rw c.items-rule-items.ensures at c.loop-rule-test.true in
    let is : r ≡ get_or rules c.loop-rule.rule-index r = rw c.items-rule-items.ensures at c.rule-item.is in
    λ category name. any_further (names_pkg category name) (has_key c.loop-rule.keys.keys category name) (has_key c.add_named.new.keys.keys category name) rules c.loop-rule.rule-index r
    lt is (c.in_ok-add_named.ensures category name) (list_any (names_pkg category name) rules) (c.loop-rule.invariant category name)
