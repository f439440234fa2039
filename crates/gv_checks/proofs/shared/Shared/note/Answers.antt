use Rattle.std.proofs.Common.{◌<◌, length, refl, rules}
use Rattle.gv_checks.proofs.SharedLemmas.{ready_noted, there_at}
use Rattle.gv_checks.proofs.shared.Shared.note.Goals as goal

pub returns-in-Some-clause-notes : goal.returns-in-Some-clause-notes
returns-in-Some-clause-notes c = λ j certs ready answered.
    let lt : c.args.at < length c.args.self.now.queries.items = search rules in
    ready_noted j certs c.args.self.now _ c.args.at c.args.place c.in-Some.kept.now (there_at c.args.self.now.queries.items c.args.at c.in-Some.kept.now lt c.in-Some.ensures.value) refl refl ready answered
