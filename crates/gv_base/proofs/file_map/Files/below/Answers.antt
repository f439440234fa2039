use Rattle.std.proofs.Common.{◌≡◌, ◌∷◌, ◌++◌, [], ap, sym, map, ◌∙◌}
use Rattle.std.specs.Prelude.{filter}
use Rattle.std.specs.Option.{is_some}
use Rattle.gv_base.specs.ByteMap.{seen_entry}
use Rattle.gv_base.specs.FileMap.{FileMap}
use Rattle.gv_base.specs.Listing.{below}
use Rattle.gv_base.specs.PrivateWords.{files_below}
use Rattle.gv_base.proofs.ByteMaps.{entries-map_of}
use Rattle.gv_base.proofs.Ranges.{between_seen, forward}
use Rattle.gv_base.proofs.file_map.Files.below.Goals as goal

pub range-requires : goal.range-requires
range-requires c =
    let path = c.args.path.now in
    let from : c.push.new.self.items ≡ path ++ 47 ∷ [] = c.in_ok-push.ensures.items ∙ ap (λ p. p ++ 47 ∷ []) c.in_ok-from.ensures.items in
    let to : c.push-2.new.self.items ≡ path ++ 48 ∷ [] = c.in_ok-push-2.ensures.items ∙ ap (λ p. p ++ 48 ∷ []) c.in_ok-to.ensures.items in
    rw (from, to) (forward path)

pub returns : goal.returns
returns c =
    let path = c.args.path.now in
    let from : c.push.new.self.items ≡ path ++ 47 ∷ [] = c.in_ok-push.ensures.items ∙ ap (λ p. p ++ 47 ∷ []) c.in_ok-from.ensures.items in
    let to : c.push-2.new.self.items ≡ path ++ 48 ∷ [] = c.in_ok-push-2.ensures.items ∙ ap (λ p. p ++ 48 ∷ []) c.in_ok-to.ensures.items in
    let es = c.self.inside.map.entries in
    ap (map seen_entry) (c.range.ensures.between tt)
    ∙ between_seen path c.push.new.self c.push-2.new.self es from to
    ∙ ap (filter (λ e. is_some (below path e.0))) (sym (entries-map_of es c.range.ensures.ordered))
    ∙ ap (λ (m : FileMap). files_below m path) c.self.view_is
