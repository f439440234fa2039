use Rattle.std.proofs.Common.{refl, sym, ap, ◌∙◌}
use Rattle.gv_load.specs.Reaching.{from_line}
use Rattle.gv_load.proofs.Going.{line_gone, line_stopped, stays, wants}
use Rattle.gv_load.proofs.reaching.read_line.Goals as goal
use Rattle.gv_profile.specs.Walking.{line_dir}

pub returns-in-Ok : goal.returns-in-Ok
returns-in-Ok g c = line_gone (line_dir c.args.line.now) c.in-Ok-Some.dir (sym c.in-Ok-Some.ensures ∙ c.in-Ok-Some.field-0-is) c.in-Ok.ensures

pub returns-in-Err-read_from : goal.returns-in-Err-read_from
returns-in-Err-read_from g c = line_stopped (line_dir c.args.line.now) c.in-Ok-Some.dir (sym c.in-Ok-Some.ensures ∙ c.in-Ok-Some.field-0-is) c.in-Err-read_from.ensures

pub returns-in-Ok-None : goal.returns-in-Ok-None
returns-in-Ok-None g c = stays c.args.reached _ _ _ c.requires.knows c.requires.indexed (λ dirs. sym (ap (from_line dirs c.args.reached.order) (sym c.in-Ok-None.ensures ∙ c.in-Ok-None.field-0-is))) (λ dirs closed. closed)

pub returns-in-Err : goal.returns-in-Err
returns-in-Err g c = wants c.args.reached _ refl
