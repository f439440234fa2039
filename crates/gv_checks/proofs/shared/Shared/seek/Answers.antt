use Rattle.std.proofs.Common.{◌≡◌, ap, rules, subst, sym, ◌∙◌}
use Rattle.gv_plain.specs.Context.{case_of}
use Rattle.gv_checks.specs.Keys.{ArePartsOf}
use Rattle.gv_checks.specs.Queries.{query_of}
use Rattle.gv_checks.specs.Shared.{key_of}
use Rattle.gv_checks.proofs.SharedLemmas.{first_same, found_at}
use Rattle.gv_checks.proofs.shared.Shared.seek.Goals as goal

pub add_key-requires-clause-parts : goal.add_key-requires-clause-parts
add_key-requires-clause-parts g c =
    subst (ArePartsOf c.args.spot.now.judged c.states.result.now c.args.spot.now.sites.now) (sym c.deref.ensures.value)
    (subst (λ states. ArePartsOf c.args.spot.now.judged states c.args.spot.now.sites.now c.args.self.now.required.items) (sym (c.states.ensures ∙ ap (λ v. v.profile) c.requires.view)) c.requires.parts)

pub returns-in-Some-clause-at : goal.returns-in-Some-clause-at
returns-in-Some-clause-at g c =
    let is : c.add_key.new.key.items ≡ key_of (query_of (case_of c.args.spot.now.judged) c.args.class) = search rules in
    found_at (record { allowed = c.key_law.ensures.allowed; failing = c.key_law.ensures.failing }) (query_of (case_of c.args.spot.now.judged) c.args.class) c.first-first.result c.args.self.now.queries.items c.add_key.new.key.items c.in-Some.place
    (first_same c.args.spot.now.judged c.args.spot.now.judged.profile.now c.args.spot.now.sites.now c.args.self.now.required.items c.requires.parts c.args.class c.first-first.result c.first-first.ensures)
    c.requires.here.shared is c.in-Some.ensures

pub lower-requires-clause-first : goal.lower-requires-clause-first
lower-requires-clause-first g c = first_same c.args.spot.now.judged c.args.spot.now.judged.profile.now c.args.spot.now.sites.now c.args.self.now.required.items c.requires.parts c.args.class c.first-first.result c.first-first.ensures
