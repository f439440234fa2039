use Rattle.std.proofs.Common.{subst}
use Rattle.gv_facts.specs.States.{state}
use Rattle.gv_lower.specs.Asks.{asks_plan}
use Rattle.gv_lower.specs.Drawn.{Drew}
use Rattle.gv_lower.proofs.Shown.{drew_none, drew_some}
use Rattle.gv_visible.specs.VisiblePkgs.{shown_at}
use Rattle.gv_visible.specs.Candidates.{level_of, pkgs_of, profile_of}
use Rattle.gv_lower.proofs.atoms.draw_shown.Goals as goal

pub returns-in-None : goal.returns-in-None
returns-in-None g c =
    drew_none (λ p. asks_plan (state p (profile_of c.args.candidates.now) (level_of c.args.candidates.now)) c.args.asks.now)
    (shown_at (profile_of c.args.candidates.now) (level_of c.args.candidates.now) c.args.atom.now (pkgs_of c.args.candidates.now) c.args.place) c.args.sketch.now c.args.lits.now c.in-None.ensures

pub returns-in_ok-add-in-Some : goal.returns-in_ok-add-in-Some
returns-in_ok-add-in-Some g c =
    drew_some (λ p. asks_plan (state p (profile_of c.args.candidates.now) (level_of c.args.candidates.now)) c.args.asks.now)
    (shown_at (profile_of c.args.candidates.now) (level_of c.args.candidates.now) c.args.atom.now (pkgs_of c.args.candidates.now) c.args.place) c.in-Some.pkg.now
    c.args.sketch.now c.draw_asks.new.sketch c.args.lits.now c.add.new.self c.in_ok-lit-in-Some.lit c.in-Some.ensures
    (subst (λ l. Drew (asks_plan (state c.in-Some.pkg.now (profile_of c.args.candidates.now) l) c.args.asks.now) c.args.sketch.now c.draw_asks.new.sketch c.in_ok-lit-in-Some.lit) c.level-level.ensures
    (subst (λ r. Drew (asks_plan (state c.in-Some.pkg.now r c.level-level.result) c.args.asks.now) c.args.sketch.now c.draw_asks.new.sketch c.in_ok-lit-in-Some.lit) c.profile-profile.ensures c.in_ok-lit-in-Some.ensures))
    c.in_ok-add-in-Some.ensures.ok
