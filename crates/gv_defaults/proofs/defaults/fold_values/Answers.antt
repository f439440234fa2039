use Rattle.std.proofs.Common.{◌≡◌, [], map, ap, sym, ◌∙◌}
use Rattle.std.specs.FinMap.{get}
use Rattle.gv_base.specs.ByteMap.{seen_entry}
use Rattle.gv_defaults.proofs.SetLemmas.{set_each, set_entries}
use Rattle.gv_defaults.proofs.defaults.fold_values.Goals as goal

pub returns : goal.returns
returns c = λ name.
    let before = c.args.before.now in
    let done : c.loop-name.name-iterator ≡ [] = c.in-None.ensures.steps.0 in
    ap (λ m. get m name) (ap (λ es. set_each before c.loop-name.vars (map seen_entry es)) (sym done) ∙ c.loop-name.invariant)
    ∙ set_entries c.map_law.ensures before c.args.values.entries c.into_iter-name-iterator.ensures.into_iter_gives.5 name
