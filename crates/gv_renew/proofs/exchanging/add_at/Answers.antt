use Rattle.std.proofs.Common.{◌++◌, [], ap, map, sym, append-nil, ◌∙◌}
use Rattle.std.proofs.lemmas.Bool.{ltb-false, ltb-true}
use Rattle.std.proofs.lemmas.List.{map-append}
use Rattle.std.specs.List.{cons_option}
use Rattle.gv_renew.proofs.PlaceLemmas.{no_slot, slot}
use Rattle.gv_renew.proofs.exchanging.add_at.Goals as goal

pub returns-in_ok-push : goal.returns-in_ok-push
returns-in_ok-push c =
    ap (map (λ r. r.now)) c.in_ok-push.ensures.items ∙ map-append (λ r. r.now) c.args.found.now.items _
    ∙ ap (λ o. map (λ r. r.now) c.args.found.now.items ++ cons_option o [])
    (sym (slot c.args.reports.now c.args.place c.in-Some.report.now (ltb-true _ _ (sym c.in-Some.ensures.lookup.0)) c.in-Some.ensures.lookup.1))

pub returns-in_default : goal.returns-in_default
returns-in_default c =
    let found = map (λ r. r.now) c.args.found.now.items in
    sym (ap (λ o. found ++ cons_option o []) (no_slot c.args.reports.now c.args.place (ltb-false _ _ (sym c.in_default.ensures.lookup.0))) ∙ append-nil found)
