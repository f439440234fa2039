use Rattle.std.proofs.Common.{◌≡◌, ◌==◌, true, false, ◌∷◌, sym, ap, ◌∙◌}
use Rattle.std.specs.List.{slice_split}
use Rattle.std.specs.Str.{byte}
use Rattle.gv_version.specs.Names.{is_slot}
use Rattle.gv_atom.specs.Reading.{need_of}
use Rattle.gv_atom.proofs.Splitting.{with_sub, no_sub}
use Rattle.gv_atom.proofs.slots.need_of.Goals as goal

pub returns-in_ok-of-in-Some-2 : goal.returns-in_ok-of-in-Some-2
returns-in_ok-of-in-Some-2 c =
    let texts : slice_split (λ b. b == byte "/") c.args.text.now ≡ c.split_first.result.0.now ∷ slice_split (λ b. b == byte "/") c.in-Some.sub.now = rw c.in-Some.is at c.split_first.ensures.texts in
    let slot : is_slot c.split_first.result.0.now ≡ true = cc in
    let sub : is_slot c.in-Some.sub.now ≡ true = cc in
    let need = ap need_of texts ∙ with_sub c.split_first.result.0.now c.in-Some.sub.now slot sub in
    rw (need, c.in_ok-of-in-Some.ensures, c.in_ok-of-in-Some-2.ensures)

pub returns-in-Some-2 : goal.returns-in-Some-2
returns-in-Some-2 c =
    let texts : slice_split (λ b. b == byte "/") c.args.text.now ≡ c.split_first.result.0.now ∷ slice_split (λ b. b == byte "/") c.in-Some.sub.now = rw c.in-Some.is at c.split_first.ensures.texts in
    let sub : is_slot c.in-Some.sub.now ≡ false = cc in
    sym (ap need_of texts ∙ no_sub c.split_first.result.0.now c.in-Some.sub.now sub)
