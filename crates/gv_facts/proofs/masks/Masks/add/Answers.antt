use Rattle.std.proofs.Common.{◌≡◌, ◌&&◌, [], ◌∷◌, ◌++◌, ap, length, refl, sym, ◌∙◌, subst}
use Rattle.gv_facts.specs.Index.{pair_places}
use Rattle.gv_facts.specs.Places.{is_mask_of, places_of}
use Rattle.std.specs.Str.{bytes_eq}
use Rattle.gv_facts.proofs.PlacesLemmas.{one_more, turned}
use Rattle.gv_facts.proofs.masks.Masks.add.Goals as goal

pub invariant_of-self-2 : goal.invariant_of-self-2
invariant_of-self-2 c = λ category name.
    let items = c.self.inside.items.items in
    let old = pair_places c.self.inside.by_name category name in
    let place : c.in_ok-place.place ≡ length items = c.in_ok-place.ensures ∙ c.len.ensures ∙ c.reserve.new.self.ok.0 ∙ ap length c.reserve.ensures.items in
    let added = c.in_ok-add.ensures.ok category name
    ∙ rw (c.bytes.ensures, c.bytes-2.ensures) refl in
    let whole = c.push_reserved.ensures.items ∙ ap (λ xs. xs ++ c.args.item ∷ []) c.reserve.ensures.items in
    subst (λ xs. pair_places c.add.new.self category name ≡ places_of (is_mask_of category name) xs) (sym whole)
    (one_more (is_mask_of category name) c.args.item items old (pair_places c.add.new.self category name) c.in_ok-place.place (bytes_eq category c.args.item.atom.category && bytes_eq name c.args.item.atom.name)
    (rw (turned category c.args.item.atom.category, turned name c.args.item.atom.name) refl) place (c.self.invariant category name) added)
