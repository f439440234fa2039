use Rattle.gv_plain.specs.Context.{case_of}
use Rattle.gv_checks.specs.Queries.{query_of}
use Rattle.gv_checks.proofs.NamedLemmas.{answers_named}
use Rattle.gv_checks.proofs.one.ask_one.Goals as goal

pub returns-clause-answers : goal.returns-clause-answers
returns-clause-answers g c =
    answers_named c.args.options.now c.args.certs.now c.args.repo.now c.args.name.now (query_of (case_of c.find_named-judged.result) c.args.name.now.class) c.answer_case.result c.find_named-judged.ensures.named c.answer_case.ensures.answers
