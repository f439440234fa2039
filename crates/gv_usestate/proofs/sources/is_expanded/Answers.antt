use Rattle.std.proofs.Common.{◌≡◌, true, false, ℕ, List, sym, subst, ◌∙◌}
use Rattle.std.specs.Str.{bytes_eq}
use Rattle.gv_base.specs.Order.{has_text}
use Rattle.gv_facts.specs.Effective.{prefixed, values_of}
use Rattle.gv_usestate.proofs.Expanded.{behind_name, no_more, not_behind}
use Rattle.gv_usestate.proofs.sources.is_expanded.Goals as goal

pub returns-then-has : goal.returns-then-has
returns-then-has c =
    let flag = c.args.flag.now in
    let name = c.args.name.now in
    let rest = c.in-Some.word.now in
    let same = λ (word : List ℕ). subst (λ n. bytes_eq flag (prefixed n word) ≡ bytes_eq rest word) c.bytes.ensures (c.in-Some.ensures word) in
    let implicit : has_text c.args.profile.now.expand_implicit name ≡ true = subst (λ n. has_text c.args.profile.now.expand_implicit n ≡ true) c.bytes-in-Some.ensures (sym c.has.ensures ∙ c.if-has.true) in
    rw (implicit, behind_name name flag rest same (values_of c.args.profile.now.values name)) c.has_value.ensures

pub returns-in-None : goal.returns-in-None
returns-in-None c =
    let flag = c.args.flag.now in
    let name = c.args.name.now in
    let other = λ (word : List ℕ). subst (λ n. bytes_eq flag (prefixed n word) ≡ false) c.bytes.ensures (c.in-None.ensures word) in
    rw (not_behind name flag other (values_of c.args.profile.now.values name)) (no_more (has_text c.args.profile.now.expand_implicit name))
