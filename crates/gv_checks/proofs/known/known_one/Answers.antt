use Rattle.gv_plain.specs.Context.{case_of}
use Rattle.gv_checks.specs.Queries.{query_of}
use Rattle.gv_checks.proofs.KnownLemmas.{knows_named}
use Rattle.gv_checks.proofs.known.known_one.Goals as goal

pub returns-clause-knows : goal.returns-clause-knows
returns-clause-knows g c =
    knows_named c.args.options.now c.args.certs.now c.args.repo.now c.args.name.now (query_of (case_of c.find_named-judged.result) c.args.name.now.class) c.known_case.result c.find_named-judged.ensures.named c.known_case.ensures.knows
