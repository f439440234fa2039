use Rattle.std.proofs.Common.{◌-◌, ap, drop, length, map, refl, subst, sym, take, ◌∙◌}
use Rattle.std.proofs.lemmas.List.{drop-map, take-map, take_rest}
use Rattle.gv_report.specs.Distinct.{is_before}
use Rattle.gv_report.specs.Sorting.{AreAscending}
use Rattle.gv_renew.proofs.WindowLemmas.{ascending_rest, is_window}
use Rattle.gv_renew.proofs.exchanging.window_of.Goals as goal

pub count_early-requires : goal.count_early-requires
count_early-requires c =
    subst (AreAscending is_before) (sym (take_rest c.args.before.now c.count_ahead-first.result)) (ascending_rest c.count_ahead-first.result c.args.before.now c.requires.before)

pub count_early-requires-2 : goal.count_early-requires-2
count_early-requires-2 c =
    subst (AreAscending is_before) (sym (take_rest c.args.fresh.now c.count_ahead-fresh_first.result)) (ascending_rest c.count_ahead-fresh_first.result c.args.fresh.now c.requires.fresh)

pub returns-clause-window : goal.returns-clause-window
returns-clause-window c =
    let before = c.args.before.now in
    let stale = c.args.stale.now in
    let fresh = c.args.fresh.now in
    let n = c.count_alike-alike.result in
    let k = length stale - c.count_alike_last-alike.result in
    let m = length fresh - c.count_alike_last-alike.result in
    let first = c.count_ahead-first.result in
    let fresh_first = c.count_ahead-fresh_first.result in
    is_window before (map (λ r. r.now) stale) fresh (take (length before - first) (drop first before)) (take (length fresh - fresh_first) (drop fresh_first fresh)) c.requires.stale c.requires.fresh
    n k m first c.count_early.result fresh_first c.count_early-2.result c.count_alike-alike.ensures.alike c.count_alike_last-alike.ensures.alike
    (map (λ r. r.now) (take (length stale - n) (drop n stale))) (take (length fresh - n) (drop n fresh)) (map (λ r. r.now) (take k stale)) (take m fresh)
    (ap (map (λ r. r.now)) (take_rest stale n) ∙ sym (drop-map (λ r. r.now) n stale)) (take_rest fresh n) (sym (take-map (λ r. r.now) k stale)) refl
    (take_rest before first) (take_rest fresh fresh_first)
    c.count_ahead-first.ensures.front c.count_ahead-first.ensures.rest c.count_early.ensures.front c.count_early.ensures.rest c.count_ahead-fresh_first.ensures.rest c.count_early-2.ensures.front
