use Rattle.std.proofs.Common.{List, ℕ, ap, ◌∙◌}
use Rattle.std.specs.Prelude.{◌||◌}
use Rattle.std.specs.Str.{bytes_eq}
use Rattle.gv_base.specs.ByteMap.{map_of}
use Rattle.gv_base.specs.Order.{has_text}
use Rattle.gv_reload.proofs.JoinedLemmas.{pair_added}
use Rattle.gv_reload.proofs.joined.add_pair.Goals as goal

pub returns : goal.returns
returns c = pair_added (map_of c.args.map.now.entries) (map_of c.taken-firsts.new.map.entries) (map_of c.put.new.map.entries) c.args.first.now c.args.second.now
    c.taken-firsts.result c.add_key.new.set c.taken-firsts.ensures.these c.taken-firsts.ensures.others
    (λ f. c.in_ok-add_key.ensures f ∙ ap (λ (t : List ℕ). bytes_eq f t || has_text c.taken-firsts.result.keys f) c.in_ok-of.ensures)
    c.in_ok-put.ensures
