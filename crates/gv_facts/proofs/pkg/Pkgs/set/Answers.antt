use Rattle.std.proofs.Common.{ap, false, sym, ◌∙◌}
use Rattle.std.specs.Prelude.{slice_get}
use Rattle.std.specs.Option.{option_map_or}
use Rattle.gv_facts.specs.Places.{is_pkg_of}
use Rattle.gv_facts.proofs.PlacesLemmas.{same_places}
use Rattle.gv_facts.proofs.pkg.Pkgs.set.Goals as goal

pub invariant_of-self : goal.invariant_of-self
invariant_of-self c = λ category name.
    let item = c.args.item in
    let there = ap (λ pkgs. option_map_or (is_pkg_of item.category item.name) (slice_get pkgs c.args.place) false) c.self.view_is ∙ c.requires in
    c.self.invariant category name ∙ sym (same_places c.self.inside.items.items c.args.place item there category name)
