use Rattle.std.proofs.Common.{◌≡◌, [], ◌≤◌, drop, length, filter, refl, ap, ◌∙◌, arith}
use Rattle.std.specs.List.{list_all}
use Rattle.gv_load.specs.Categories.{is_pf}
use Rattle.gv_load.specs.ListLemmas.{all_pass}
use Rattle.gv_reading.specs.Passing.{all_gone, last_values}
use Rattle.gv_load.proofs.categories.pfs_among.Goals as goal

pub returns-clause-pfs : goal.returns-clause-pfs
returns-clause-pfs c =
    let names = c.args.names.now in
    let past : length c.items-name-items.result.now ≤ c.loop-name.name-index = omega arith in
    let gone : drop c.loop-name.name-index names ≡ [] = all_gone c.items-name-items.result.now names c.loop-name.name-index c.items-name-items.ensures past in
    ap (list_all is_pf) (last_values (filter is_pf) c.loop-name.pfs (filter is_pf names) (drop c.loop-name.name-index names) refl gone c.loop-name.invariant) ∙ all_pass is_pf names
