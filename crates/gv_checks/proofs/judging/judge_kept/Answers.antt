use Rattle.gv_plain.specs.Context.{case_of}
use Rattle.gv_checks.specs.Queries.{query_of}
use Rattle.gv_checks.proofs.JudgeLemmas.{found_least}
use Rattle.gv_checks.proofs.judging.judge_kept.Goals as goal

pub report_of-requires-clause-found : goal.report_of-requires-clause-found
report_of-requires-clause-found g c =
    found_least c.gates_law.ensures (query_of (case_of c.args.judged.now) c.args.class) c.args.kept.now.query.gates c.place_near.new.self c.in-Ok.place c.index-found.result.now c.index-found.result.now c.requires.kept.query_is.gates c.in-Ok.ensures.uses.1 c.index-found.ensures
