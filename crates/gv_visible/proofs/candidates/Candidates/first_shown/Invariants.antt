use Rattle.std.proofs.Common.{◌≡◌, drop}
use Rattle.std.specs.List.{find}
use Rattle.gv_visible.specs.PrivateWords.{shows_at}
use Rattle.gv_visible.specs.Candidates.{level_of, pkgs_of, profile_of}
use Rattle.gv_visible.proofs.candidates.Candidates.first_shown.Given as goal

abbrev pub invariant-loop-place : goal.invariant-loop-place
invariant-loop-place g l =
    find (shows_at (profile_of l.self) (level_of l.self) l.atom (pkgs_of l.self)) (drop l.place-index l.places) ≡ find (shows_at (profile_of l.self) (level_of l.self) l.atom (pkgs_of l.self)) l.places
