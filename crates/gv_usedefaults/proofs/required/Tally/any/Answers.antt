use Rattle.gv_usedefaults.proofs.Members.{any_by_numbers}
use Rattle.gv_usedefaults.proofs.required.Tally.any.Goals as goal

pub returns-else-self-eq0 : goal.returns-else-self-eq0
returns-else-self-eq0 c = λ bs members holding. any_by_numbers c.args.empty c.args.self.members c.args.self.holding bs members holding c.if-self-eq0.false
