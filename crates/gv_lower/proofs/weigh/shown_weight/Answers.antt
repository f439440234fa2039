use Rattle.std.proofs.Common.{◌≡◌, ◌+◌, length, filter, drop, arith, refl, sym, subst, ap, ◌∙◌}
use Rattle.std.specs.Prelude.{sum_by}
use Rattle.std.proofs.lemmas.List.Sums.{sum_by-cons}
use Rattle.gv_facts.specs.declared.pkg.Pkg.{Pkg}
use Rattle.gv_lower.specs.Weigh.{capped}
use Rattle.gv_lower.proofs.Walk.{next_found, nothing_left}
use Rattle.gv_lower.proofs.Weighing.{SumsOn, sums_last, sums_next}
use Rattle.gv_visible.specs.VisiblePkgs.{shows}
use Rattle.gv_visible.specs.Candidates.{level_of, pkgs_of, profile_of}
use Rattle.gv_lower.proofs.weigh.shown_weight.Goals as goal

pub loop-n-smaller : goal.loop-n-smaller
loop-n-smaller g c =
    let found = next_found (shows (profile_of c.args.candidates.now) (level_of c.args.candidates.now) c.args.atom.now) c.loop-n.from (pkgs_of c.args.candidates.now) c.in-Some.n c.in-Some.ensures.first in
    omega (arith, found.least, found.within, c.in_ok-from.ensures)

pub loop-n-preserved : goal.loop-n-preserved
loop-n-preserved g c =
    let found = next_found (shows (profile_of c.args.candidates.now) (level_of c.args.candidates.now) c.args.atom.now) c.loop-n.from (pkgs_of c.args.candidates.now) c.in-Some.n c.in-Some.ensures.first in
    let many : length c.items.result.now ≡ length c.args.atom.now.items = ap (λ xs. length xs) c.items.ensures in
    let each : c.plus-each.result ≡ capped (1 + length c.args.atom.now.items) = c.plus-each.ensures 1 (length c.args.atom.now.items) refl (c.count.ensures ∙ ap capped many) in
    subst (λ m. SumsOn c.plus-weight.result (sum_by (λ (p : Pkg). 1 + length c.args.atom.now.items) (filter (shows (profile_of c.args.candidates.now) (level_of c.args.candidates.now) c.args.atom.now) (drop m (pkgs_of c.args.candidates.now))))
    (sum_by (λ (p : Pkg). 1 + length c.args.atom.now.items) (filter (shows (profile_of c.args.candidates.now) (level_of c.args.candidates.now) c.args.atom.now) (pkgs_of c.args.candidates.now)))) (sym c.in_ok-from.ensures)
    (sums_next c.loop-n.weight c.plus-each.result c.plus-weight.result (1 + length c.args.atom.now.items) _ _ _ c.loop-n.invariant each
    (ap (sum_by (λ (p : Pkg). 1 + length c.args.atom.now.items)) found.same ∙ sum_by-cons (λ (p : Pkg). 1 + length c.args.atom.now.items) found.item
    (filter (shows (profile_of c.args.candidates.now) (level_of c.args.candidates.now) c.args.atom.now) (drop (c.in-Some.n + 1) (pkgs_of c.args.candidates.now))))
    c.plus-weight.ensures)

pub returns : goal.returns
returns g c =
    sums_last c.loop-n.weight _ _
    (ap (sum_by (λ (p : Pkg). 1 + length c.args.atom.now.items)) (nothing_left (shows (profile_of c.args.candidates.now) (level_of c.args.candidates.now) c.args.atom.now) c.loop-n.from (pkgs_of c.args.candidates.now) c.in_default.ensures.first))
    c.loop-n.invariant
