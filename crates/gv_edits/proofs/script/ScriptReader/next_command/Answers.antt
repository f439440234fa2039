use Rattle.std.proofs.Common.{◌≡◌, ◌<◌, sym, ap, subst, ◌∙◌, arith, ◌+◌, ◌++◌, []}
use Rattle.std.specs.Prelude.{IfSome}
use Rattle.gv_edits.specs.Pending.{whole}
use Rattle.gv_edits.specs.Script.{Lacks, Leads, Reading, Broken, script_left, without_commands}
use Rattle.gv_edits.proofs.Bounds.{bounded}
use Rattle.gv_edits.proofs.Commands.{script_step, script_broken}
use Rattle.gv_edits.proofs.Heads.{lacks_by, leads_by}
use Rattle.gv_edits.proofs.script.ScriptReader.next_command.Goals as goal

pub returns-in-Some-clause-command : goal.returns-in-Some-clause-command
returns-in-Some-clause-command g c =
    let few : c.self.inside.read < 1000000 = grind (arith, c.self.invariant, c.if-self-eq-MAX_COMMANDS.false) in
    ap (λ (r : Reading). script_left r (g.I.Source.left c.args.input.now)) (sym c.self.view_is)
    ∙ script_step c.self.inside.pending c.read_command.new.pending (g.I.Source.left c.args.input.now) (g.I.Source.left c.read_command.new.input) c.self.inside.read c.in-Some.command few
    (rw c.in-Some.is at c.in_ok-command.ensures.command)

pub returns-in-None-clause-bad : goal.returns-in-None-clause-bad
returns-in-None-clause-bad g c = λ number _.
    let few : c.self.inside.read < 1000000 = grind (arith, c.self.invariant, c.if-self-eq-MAX_COMMANDS.false) in
    subst (λ (r : Reading). IfSome (script_left r (g.I.Source.left c.args.input.now)) (λ script. script ≡ without_commands Broken)) c.self.view_is
    (script_broken c.self.inside.pending (g.I.Source.left c.args.input.now) (whole c.read_command.new.pending (g.I.Source.left c.read_command.new.input)) c.self.inside.read few
    (rw c.in-None.is at c.in_ok-command.ensures.command))

pub returns-in-Some-clause-leads : goal.returns-in-Some-clause-leads
returns-in-Some-clause-leads g c =
    subst (λ (r : Reading). Leads r (record { read = c.self.inside.read + 1; taken = c.read_command.new.pending }) (g.I.Source.left c.args.input.now) (g.I.Source.left c.read_command.new.input) c.in-Some.command) c.self.view_is
    (leads_by (record { read = c.self.inside.read; taken = c.self.inside.pending }) (record { read = c.self.inside.read + 1; taken = c.read_command.new.pending }) (g.I.Source.left c.args.input.now)
    (g.I.Source.left c.read_command.new.input) c.in-Some.command (rw c.in-Some.is at c.in_ok-command.ensures.finds))

pub returns-in-Some-clause-bounded : goal.returns-in-Some-clause-bounded
returns-in-Some-clause-bounded g c = let it = rw c.in-Some.is at c.in_ok-command.ensures.finds in bounded (it.read ++ []) c.in-Some.command [] (it.finds [])
