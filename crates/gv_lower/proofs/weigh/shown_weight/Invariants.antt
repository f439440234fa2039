use Rattle.std.proofs.Common.{◌+◌, ◌-◌, drop, filter, length}
use Rattle.std.specs.Prelude.{sum_by}
use Rattle.gv_facts.specs.declared.pkg.Pkg.{Pkg}
use Rattle.gv_lower.proofs.Weighing.{SumsOn}
use Rattle.gv_visible.specs.VisiblePkgs.{shows}
use Rattle.gv_visible.specs.Candidates.{level_of, pkgs_of, profile_of}
use Rattle.gv_lower.proofs.weigh.shown_weight.Given as goal

abbrev pub invariant-loop-n : goal.invariant-loop-n
invariant-loop-n g l =
    SumsOn l.weight (sum_by (λ (p : Pkg). 1 + length l.atom.items) (filter (shows (profile_of l.candidates) (level_of l.candidates) l.atom) (drop l.from (pkgs_of l.candidates))))
    (sum_by (λ (p : Pkg). 1 + length l.atom.items) (filter (shows (profile_of l.candidates) (level_of l.candidates) l.atom) (pkgs_of l.candidates)))

abbrev pub decreases-loop-n : goal.decreases-loop-n
decreases-loop-n g l = length (pkgs_of l.candidates) - l.from
