use Rattle.std.proofs.Common.{◌≡◌, ◌∷◌, ◌+◌, length, map, filter, drop, sym, ap, ◌∙◌, arith, rules}
use Rattle.std.specs.Vec.Iter.{into_iter_items}
use Rattle.gv_reload.specs.EntryEdits.{is_other, together}
use Rattle.gv_renew.proofs.MentionedLemmas.{never_short, one_made, rest_begins, rest_behind, same_first, same_rest}
use Rattle.gv_renew.specs.Mentioned.{member_body}
use Rattle.gv_renew.proofs.mentioned.Mentioned.with.Goals as goal
use Rattle.gv_renew.proofs.mentioned.Mentioned.with.Goals.{then-is_edited+in_ok-names, else-is_edited+in-Some}

pub loop-i-preserved : goal.loop-i-preserved
loop-i-preserved c =
    let pkgs = c.args.repo.now.pkgs in
    let bodies = c.args.repo.now.bodies in
    let paths = c.args.edits.now in
    let i = c.loop-i.i in
    let pkg = c.index-pkgs-i.result in
    let body = c.body-item.result in
    let n = c.if-is_edited.names in
    let old = c.loop-i.packages.items in
    let new = c.push.new.self.items in
    elim c.if-is_edited.branch [
      | then-is_edited+in_ok-names w ↦ rw w.kept-is (record {
        count = c.loop-i.invariant.count;
        rest = c.loop-i.invariant.rest ∙ rest_behind paths pkgs bodies i pkg body (search rules) (search rules) (search rules) (search rules) (sym c.is_edited.ensures ∙ w.if-is_edited.true);
        made = one_made paths pkgs bodies i pkg body (search rules) (search rules) (search rules) (search rules) bodies old new n (w.names-is ∙ w.in_ok-names.ensures) c.in_ok-push.ensures.items c.loop-i.invariant.made;
      })
      | else-is_edited+in-Some w ↦
          let begins : w.in-Some.names ∷ into_iter_items w.next.new.self ≡ body ∷ map member_body (filter (is_other paths) (together (drop (i + 1) pkgs) (drop (i + 1) bodies))) =
          sym w.in-Some.ensures.items ∙ (c.loop-i.invariant.rest ∙ rest_begins paths pkgs bodies i pkg body (search rules) (search rules) (search rules) (search rules) (sym c.is_edited.ensures ∙ w.if-is_edited.false)) in
          rw w.kept-is (record {
            count = omega (arith, w.in-Some.ensures.len, c.loop-i.invariant.count, ap length w.in-Some.ensures.items);
            rest = same_rest _ _ _ _ begins;
            made = one_made paths pkgs bodies i pkg body (search rules) (search rules) (search rules) (search rules) bodies old new n (w.names-is ∙ same_first _ _ _ _ begins) c.in_ok-push.ensures.items c.loop-i.invariant.made;
          })
    ]

pub unreachable-requires : goal.unreachable-requires
unreachable-requires c = never_short c.args.edits.now c.args.repo.now.pkgs c.args.repo.now.bodies c.loop-i.i c.index-pkgs-i.result c.body-item.result (search rules) (search rules) (search rules) (search rules)
    (sym c.is_edited.ensures ∙ c.if-is_edited.false) (into_iter_items c.loop-i.kept) _ c.loop-i.invariant.rest c.loop-i.invariant.count c.in_default.ensures.variant.1
