use Rattle.std.proofs.Common.{◌≡◌, ◌∷◌, length, drop, sym, ap, ◌∙◌, arith}
use Rattle.std.specs.Vec.Iter.{into_iter_items}
use Rattle.gv_renew.specs.Mentioned.{other_bodies}
use Rattle.gv_renew.proofs.MentionedLemmas.{kept_end, kept_some, one_kept, one_left, rest_next}
use Rattle.gv_renew.proofs.mentioned.Mentioned.without.Goals as goal
use Rattle.gv_renew.proofs.mentioned.Mentioned.without.Goals.{then-not-is_edited+in_ok-push, else-not-is_edited}

pub loop-pkg-preserved : goal.loop-pkg-preserved
loop-pkg-preserved c =
    let pkgs = c.items-pkg-items.result.now in
    let bodies = c.args.repo.now.bodies in
    let paths = c.args.edits.now in
    let whole = other_bodies paths c.args.repo.now in
    let old = c.loop-pkg.packages.items in
    let i = c.loop-pkg.pkg-index in
    let rest = into_iter_items c.next.new.self in
    let cut : c.in-Some.names ∷ rest ≡ drop i bodies = sym c.in-Some.ensures.items ∙ c.loop-pkg.invariant.rest in
    record {
      count = omega (arith, c.in-Some.ensures.len, c.loop-pkg.invariant.count, ap length c.in-Some.ensures.items);
      rest = rest_next bodies i c.in-Some.names rest cut;
      kept = elim c.if-not-is_edited.branch [
        | then-not-is_edited+in_ok-push w ↦ one_kept paths pkgs bodies whole old i c.pkg-item.result c.loop-pkg-test.true c.pkg-item.is c.in-Some.names rest cut c.loop-pkg.invariant.kept
            (sym c.is_edited.ensures ∙ w.if-not-is_edited.true) c.if-not-is_edited.packages.items (ap (λ v. v.items) w.packages-is ∙ w.in_ok-push.ensures.items)
        | else-not-is_edited w ↦ rw w.packages-is (one_left paths pkgs bodies whole old i c.pkg-item.result c.loop-pkg-test.true c.pkg-item.is c.in-Some.names rest cut c.loop-pkg.invariant.kept
            (sym c.is_edited.ensures ∙ w.if-not-is_edited.false))
      ];
    }

pub returns : goal.returns
returns c = kept_end c.args.edits.now c.items-pkg-items.result.now c.args.repo.now.bodies (other_bodies c.args.edits.now c.args.repo.now) c.loop-pkg.packages.items c.loop-pkg.pkg-index c.loop-pkg.invariant.kept c.loop-pkg-test.false

pub returns-in_default : goal.returns-in_default
returns-in_default c = kept_some c.args.edits.now c.items-pkg-items.result.now c.args.repo.now.bodies (other_bodies c.args.edits.now c.args.repo.now) c.loop-pkg.packages.items c.loop-pkg.pkg-index c.loop-pkg.invariant.kept
    (into_iter_items c.loop-pkg.all) _ c.loop-pkg.invariant.rest c.loop-pkg.invariant.count c.in_default.ensures.variant.1
