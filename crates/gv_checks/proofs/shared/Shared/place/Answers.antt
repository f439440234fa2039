use Rattle.std.proofs.Common.{subst, sym}
use Rattle.gv_plain.specs.Context.{case_of}
use Rattle.gv_checks.specs.Shared.{AreNoted}
use Rattle.gv_checks.proofs.SharedLemmas.{as_place, first_same, here_more}
use Rattle.gv_checks.proofs.shared.Shared.place.Goals as goal

pub returns-in-Some-clause-at : goal.returns-in-Some-clause-at
returns-in-Some-clause-at g c =
    as_place (case_of c.args.spot.now.judged) c.first-first.result c.args.class c.args.self.now.queries.items c.in-Some.at
    (first_same c.args.spot.now.judged c.args.spot.now.judged.profile.now c.args.spot.now.sites.now c.args.self.now.required.items c.requires.parts c.args.class c.first-first.result c.first-first.ensures)
    (c.in-Some.ensures (case_of c.args.spot.now.judged) c.requires.here.placed)

pub returns-in-Ok-add_here-clause-noted : goal.returns-in-Ok-add_here-clause-noted
returns-in-Ok-add_here-clause-noted g c = λ certs all. subst (AreNoted certs) (sym c.add_here.ensures.queries) (c.in-Ok.ensures.noted certs all)

pub returns-in-Ok-add_here-clause-here : goal.returns-in-Ok-add_here-clause-here
returns-in-Ok-add_here-clause-here g c =
    here_more c.args.spot.now.judged c.seek.new.self c.add_here.new.self c.args.class c.first-first.result c.in-Ok.at c.add_here.ensures.queries c.in-Ok-add_here.ensures.here
    (first_same c.args.spot.now.judged c.args.spot.now.judged.profile.now c.args.spot.now.sites.now c.args.self.now.required.items c.requires.parts c.args.class c.first-first.result c.first-first.ensures)
    c.in-Ok.ensures.at c.in-Ok.ensures.here
