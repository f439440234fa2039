use Rattle.std.proofs.Common.{◌≡◌, [], ◌∷◌, ◌++◌, ap, length, sym, ◌∙◌, subst}
use Rattle.std.specs.Prelude.{if◌then◌else◌}
use Rattle.gv_facts.specs.Index.{places_at}
use Rattle.gv_facts.specs.Places.{names_flag, places_of}
use Rattle.std.specs.Str.{bytes_eq}
use Rattle.gv_facts.proofs.PlacesLemmas.{one_more, turned}
use Rattle.gv_facts.proofs.rules.Rules.add.Goals as goal

pub invariant_of-self-2 : goal.invariant_of-self-2
invariant_of-self-2 c = λ flag.
    let items = c.self.inside.items.items in
    let old = places_at c.self.inside.by_flag flag in
    let place : c.in_ok-place.place ≡ length items = c.in_ok-place.ensures ∙ c.len.ensures ∙ c.reserve.new.self.ok.0 ∙ ap length c.reserve.ensures.items in
    let added = c.in_ok-add.ensures.ok flag ∙ ap (λ key. if bytes_eq flag key then old ++ c.in_ok-place.place ∷ [] else old) c.bytes.ensures in
    let whole = c.push_reserved.ensures.items ∙ ap (λ xs. xs ++ c.args.item ∷ []) c.reserve.ensures.items in
    subst (λ xs. places_at c.add.new.self flag ≡ places_of (names_flag flag) xs) (sym whole)
    (one_more (names_flag flag) c.args.item items old (places_at c.add.new.self flag) c.in_ok-place.place (bytes_eq flag c.args.item.flag)
    (turned flag c.args.item.flag) place (c.self.invariant flag) added)
