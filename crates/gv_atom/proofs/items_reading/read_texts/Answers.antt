use Rattle.std.proofs.Common.{◌≡◌, ℕ, ◌+◌, ◌==◌, ◌≤◌, ◌-◌, List, [], ◌∷◌, ◌++◌, length, refl, sym, ap, ◌∙◌, append_assoc, arith, Some}
use Rattle.std.specs.Prelude.{filter_map}
use Rattle.std.specs.List.{slice_split}
use Rattle.std.specs.Str.{byte}
use Rattle.gv_atom.specs.declared.items.UseItem.{UseItem}
use Rattle.gv_atom.specs.Reading.{bad_item, item_of}
use Rattle.gv_atom.proofs.items_reading.read_texts.Goals as goal

next_place : (place next : ℕ) (text : List ℕ) (more : List (List ℕ)) (item : UseItem) → item_of text ≡ Some item → place + length text + 1 ≡ next
    → bad_item next more ≡ bad_item place (text ∷ more)
next_place place next text more item e p = rw (e, p) refl

next_item : (items : List UseItem) (text : List ℕ) (more : List (List ℕ)) (item : UseItem) → item_of text ≡ Some item
    → (items ++ item ∷ []) ++ filter_map item_of more ≡ items ++ filter_map item_of (text ∷ more)
next_item items text more item e = rw e (append_assoc items (item ∷ []) (filter_map item_of more))

pub texts-preserved : goal.texts-preserved
texts-preserved c =
    let text : List ℕ = c.split_first.result.0.now in
    let more : List (List ℕ) = slice_split (λ b. b == byte ",") c.in-Some-behind.behind.now in
    let texts : slice_split (λ b. b == byte ",") c.texts.rest.now ≡ text ∷ more = rw c.in-Some-behind.is at c.split_first.ensures.texts in
    let lengths : length c.split_first.result.0.now + length c.in-Some-behind.behind.now + 1 ≡ length c.texts.rest.now = rw c.in-Some-behind.is at c.split_first.ensures.lengths in
    let e : item_of c.split_first.result.0.now ≡ Some c.in-Some.item = sym c.in_ok-item.ensures ∙ c.in-Some.is in
    let whole : ℕ = c.args.at + length c.args.inner.now in
    let within : length c.texts.rest.now ≤ whole = c.texts.invariant.within in
    record {
      within = omega arith;
      places = next_place (whole - length c.texts.rest.now) (whole - length c.in-Some-behind.behind.now) text more c.in-Some.item e (omega arith)
          ∙ (ap (bad_item (whole - length c.texts.rest.now)) (sym texts) ∙ c.texts.invariant.places);
      items = ap (λ x. x ++ filter_map item_of more) c.in_ok-add-in-Some.ensures.ok
          ∙ (next_item c.texts.items text more c.in-Some.item e ∙ (ap (λ x. c.texts.items ++ filter_map item_of x) (sym texts) ∙ c.texts.invariant.items));
    }
