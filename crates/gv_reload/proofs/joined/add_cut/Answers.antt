use Rattle.std.proofs.Common.{◌≡◌, ◌<◌, ◌≤◌, ◌+◌, ◌&&◌, ◌||◌, List, ℕ, length, drop, ap, sym, subst, ◌∙◌}
use Rattle.std.specs.Str.{bytes_eq}
use Rattle.gv_base.specs.ByteMap.{map_of}
use Rattle.gv_base.specs.Cut.{up_to_first}
use Rattle.gv_reload.specs.Joined.{has_pair}
use Rattle.gv_reload.proofs.JoinedLemmas.{cut_none, cut_there}
use Rattle.gv_reload.proofs.joined.add_cut.Goals as goal

pub returns-in_ok-add_pair : goal.returns-in_ok-add_pair
returns-in_ok-add_pair c =
    let text = c.args.text.now in
    let front : c.parts_behind.result.0.now ≡ up_to_first 47 text = c.parts_behind.ensures.first in
    let less : length (up_to_first 47 text) < length text = subst (λ (t : List ℕ). length t < length text) front c.if-first-text.true in
    let rest : c.parts_behind.result.1.now ≡ drop (length (up_to_first 47 text) + 1) text = c.parts_behind.ensures.second in
    λ f s plain. c.in_ok-add_pair.ensures f s
    ∙ ap (λ b. b || has_pair (map_of c.args.map.now.entries) f s)
    (ap (λ (t : List ℕ). bytes_eq f t && bytes_eq s c.parts_behind.result.1.now) front ∙ ap (λ (t : List ℕ). bytes_eq f (up_to_first 47 text) && bytes_eq s t) rest ∙ sym (cut_there text less f s plain))

pub returns-else-first-text : goal.returns-else-first-text
returns-else-first-text c =
    let text = c.args.text.now in
    let most : length text ≤ length (up_to_first 47 text) = subst (λ (t : List ℕ). length text ≤ length t) c.parts_behind.ensures.first c.if-first-text.false in
    λ f s plain. sym (ap (λ b. b || has_pair (map_of c.args.map.now.entries) f s) (cut_none text most f s))
