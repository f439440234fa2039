use Rattle.std.proofs.Common.{Some, ap, sym, ◌∙◌}
use Rattle.gv_defaults.proofs.meaning.value_in.Goals as goal

pub returns-in-Some : goal.returns-in-Some
returns-in-Some c = ap Some c.bytes.ensures ∙ c.in-Some.ensures.value ∙ sym (c.map_law.ensures.get c.args.values.now.entries c.args.name.now)

pub returns-in-None : goal.returns-in-None
returns-in-None c = c.in-None.ensures.value ∙ sym (c.map_law.ensures.get c.args.values.now.entries c.args.name.now)
