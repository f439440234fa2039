use Rattle.gv_overlay.proofs.Loads.{excludes_refusal}
use Rattle.gv_overlay.proofs.OneOverlay.{only_one}
use Rattle.gv_overlay.proofs.laws.overlay_law.Goals as goal

pub returns-clause-loads : goal.returns-clause-loads
returns-clause-loads c = excludes_refusal

pub returns-clause-one : goal.returns-clause-one
returns-clause-one c = only_one
