use Rattle.std.proofs.Common.{◌≡◌, ◌++◌, ap, ◌∙◌}
use Rattle.gv_system.proofs.beside.is_new_of.Goals as goal

pub returns-in-Some-behind : goal.returns-in-Some-behind
returns-in-Some-behind c = λ _. (c.in-Some-behind.number.now, c.in-Some.ensures ∙ ap (λ rest. c.args.file.now ++ rest) c.in-Some-behind.ensures)
