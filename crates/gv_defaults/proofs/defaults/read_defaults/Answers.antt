use Rattle.std.proofs.Common.{◌≡◌, ap, ◌∙◌}
use Rattle.std.specs.FinMap.{get}
use Rattle.gv_defaults.specs.Defaults.{set_to, vars_after}
use Rattle.gv_defaults.specs.Settings.{VarMap}
use Rattle.gv_defaults.proofs.SetLemmas.{is_after, got_after}
use Rattle.gv_defaults.proofs.PartFolds.{vars_are, setting_is, bad_is}
use Rattle.gv_defaults.proofs.defaults.read_defaults.Goals as goal

pub returns-clause-vars : goal.returns-clause-vars
returns-clause-vars c =
    let before = c.args.before.now in
    c.spend.ensures ∙ is_after c.in_order_law.ensures before c.in_ok-vars.vars c.args.bytes.now (λ q. c.in_ok-vars.ensures q ∙ ap (λ o. set_to q o (get before q)) (c.in_ok-reading.ensures.keeps q))

pub returns-clause-vars_by : goal.returns-clause-vars_by
returns-clause-vars_by c = λ parts bad is. returns-clause-vars c ∙ vars_are c.args.before.now c.args.bytes.now parts bad is

pub returns-clause-each_by : goal.returns-clause-each_by
returns-clause-each_by c = λ parts bad is name.
    let before = c.args.before.now in
    let same : get c.spend.new.self name ≡ get (vars_after before c.args.bytes.now) name = ap (λ (vars : VarMap). get vars name) (returns-clause-vars c) in
    same ∙ got_after c.in_order_law.ensures before c.args.bytes.now name ∙ setting_is (get before) c.args.bytes.now parts bad is name

pub returns-clause-bad_by : goal.returns-clause-bad_by
returns-clause-bad_by c = λ parts bad is. c.in_ok-reading.ensures.fault ∙ bad_is c.args.bytes.now parts bad is
