use Rattle.std.proofs.Common.{refl, ◌∙◌, arith}
use Rattle.gv_run.proofs.Served.{ends_from, ends_there, goes_from, goes_further, goes_nowhere, stops_from}
use Rattle.gv_run.proofs.Works.{agrees_still}
use Rattle.gv_run.proofs.serving.serve_script.Goals as goal

pub commands-init : goal.commands-init
commands-init g c = record { goes = goes_nowhere _ _ c.requires.few; within = c.requires.read; agrees = c.requires.agrees; files = refl; root = refl; tree = refl; input = refl; out = refl }

pub commands-preserved : goal.commands-preserved
commands-preserved g c =
    let inv = c.commands.invariant in
    let step = goes_further _ _ _ _ c.in-Ok.over c.if-over.false c.in-Ok.ensures.done in
    record {
      goes = goes_from _ _ _ _ _ inv.files inv.goes step.0;
      within = omega (arith, c.in-Ok.ensures.counted, c.in-Ok.ensures.more);
      agrees = agrees_still _ _ _ c.in-Ok.ensures.files step.1.0;
      files = c.in-Ok.ensures.files ∙ inv.files;
      root = c.in-Ok.ensures.root ∙ inv.root;
      tree = step.1.1.0 ∙ inv.tree;
      input = step.1.1.1.0 ∙ inv.input;
      out = step.1.1.1.1 ∙ inv.out;
    }

pub returns-then-over-clause-done : goal.returns-then-over-clause-done
returns-then-over-clause-done g c =
    let inv = c.commands.invariant in
    ends_from _ _ _ _ inv.files inv.goes _ _ _ _ _ _ _ _ _ _ _ inv.tree inv.input inv.out _ (ends_there _ _ _ _ c.in-Ok.over c.if-over.true c.in-Ok.ensures.done)

pub returns-in-Err-clause-cause : goal.returns-in-Err-clause-cause
returns-in-Err-clause-cause g c =
    let inv = c.commands.invariant in
    stops_from _ _ _ _ inv.files inv.goes _ _ _ _ _ _ _ _ _ _ _ inv.tree inv.input inv.out c.in-Err.refusal c.in-Err.ensures.cause
