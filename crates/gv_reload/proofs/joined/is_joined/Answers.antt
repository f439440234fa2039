use Rattle.std.proofs.Common.{◌∷◌, sym, ◌∙◌}
use Rattle.gv_reload.proofs.JoinedLemmas.{begins_not, joined_behind}
use Rattle.gv_reload.proofs.joined.is_joined.Goals as goal

pub returns-in-Some : goal.returns-in-Some
returns-in-Some c = c.is_behind_slash.ensures ∙ sym (joined_behind c.args.first.now c.args.second.now c.in-Some.rest.now c.args.text.now c.in-Some.ensures.cut)

pub returns-in-None : goal.returns-in-None
returns-in-None c = sym (begins_not c.args.first.now (47 ∷ c.args.second.now) c.args.text.now c.in-None.ensures.cut)
