use Rattle.std.proofs.Common.{◌++◌, ◌+◌, ◌∷◌, [], ap, append_assoc, sym, ◌∙◌}
use Rattle.gv_renew.specs.Exchanging.{without}
use Rattle.gv_renew.proofs.PlaceLemmas.{not_there}
use Rattle.gv_renew.proofs.exchanging.add_unless_there.Goals as goal

pub returns-in_ok-push-in-None : goal.returns-in_ok-push-in-None
returns-in_ok-push-in-None c = λ rs.
    ap (λ l. l ++ without (c.args.place + 1) c.args.places.now rs) c.in_ok-push-in-None.ensures.items
    ∙ append_assoc c.args.kept.now.items (c.args.report ∷ []) (without (c.args.place + 1) c.args.places.now rs)
    ∙ ap (λ l. c.args.kept.now.items ++ l) (sym (not_there c.args.place c.args.places.now c.args.report rs c.in-None.ensures))
