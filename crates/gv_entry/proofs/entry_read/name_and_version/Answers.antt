use Rattle.std.proofs.Common.{◌≡◌, length, drop, arith, ap, length-drop, subst, sym, true, ◌∙◌, ◌+◌}
use Rattle.std.specs.Prelude.{unwrap_or}
use Rattle.gv_version.specs.Form.{is_version}
use Rattle.gv_entry.proofs.Hyphens.{behind_hyphen, within}
use Rattle.gv_entry.proofs.entry_read.name_and_version.Goals as goal

pub split_at-requires : goal.split_at-requires
split_at-requires c =
    let inside = within c.args.pf.now c.in-Some.hyphen ((c.split_pf_law.ensures c.args.pf.now).there c.in-Some.hyphen c.in-Some.ensures.some).0 in
    omega (arith, inside)

pub unreachable-requires : goal.unreachable-requires
unreachable-requires c =
    let inside = within c.args.pf.now c.in-Some.hyphen ((c.split_pf_law.ensures c.args.pf.now).there c.in-Some.hyphen c.in-Some.ensures.some).0 in
    let behind = ap length c.split_at.ensures.back in
    omega (arith, inside, behind, c.in_default-behind.len_below, length-drop c.in-Some.hyphen c.args.pf.now)

pub of-requires-2 : goal.of-requires-2
of-requires-2 c =
    let there = ((c.split_pf_law.ensures c.args.pf.now).there c.in-Some.hyphen c.in-Some.ensures.some).1 in
    rw c.split_at.ensures.back (subst (λ v. is_version v ≡ true) (sym (behind_hyphen c.args.pf.now c.in-Some.hyphen)) there)

pub returns-clause-version : goal.returns-clause-version
returns-clause-version c = c.in_ok-version.ensures ∙ rw c.split_at.ensures.back (behind_hyphen c.args.pf.now c.in-Some.hyphen)
    ∙ ap (λ o. drop (unwrap_or o 0 + 1) c.args.pf.now) (sym c.in-Some.ensures.some)
