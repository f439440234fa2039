-- The candidates of a package in a context.
use Rattle.std.specs.Prelude.{◌≡◌, Bool}
use Rattle.std.specs.Borrow.{Bor}
use Rattle.gv_facts.specs.declared.pkg.Pkg.{Pkg}
use Rattle.gv_visible.specs.StoredTest.{AnswersVisible}
use Rattle.gv_visible.specs.Candidates.{Candidates, level_of, pkgs_of, profile_of}
use Rattle.gv_plain.specs.declared.context.JudgedPkg.{JudgedPkg}
use Rattle.gv_plain.specs.Context.{IsNumbered}

-- the candidates are the packages in the same context, and their test tells which are visible
pub record AreAround {F : Type 0} (pre : Bor Pkg → Type 0) (post : Bor Pkg → Bool → Type 0) (candidates : Candidates F) (j : JudgedPkg) : Type 0 where
  pub told : AnswersVisible pre post (profile_of candidates) (level_of candidates)
  pub pkgs_are : pkgs_of candidates ≡ j.pkgs.now
  pub profile_is : profile_of candidates ≡ j.profile.now
  pub level_is : level_of candidates ≡ j.level
  pub numbered : IsNumbered j
