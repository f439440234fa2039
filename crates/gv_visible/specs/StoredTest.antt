-- What is known of a stored test.
use Rattle.std.specs.Prelude.{◌≡◌, Bool}
use Rattle.std.specs.Borrow.{Bor}
use Rattle.gv_facts.specs.declared.kinds.Level.{Level}
use Rattle.gv_facts.specs.declared.pkg.Pkg.{Pkg}
use Rattle.gv_facts.specs.declared.profile.Profile.{Profile}
use Rattle.gv_facts.specs.Values.{IsPkgValue}
use Rattle.gv_facts.specs.Visible.{visible}

-- it may be asked of every package that is a value
abbrev pub MayAsk : (Bor Pkg → Type 0) → Type 0
MayAsk pre = (p : Bor Pkg) → IsPkgValue p.now → pre p

-- what it answers there is whether the profile shows the package at the level
abbrev pub Tells : (Bor Pkg → Bool → Type 0) → Profile → Level → Type 0
Tells post profile level = (p : Bor Pkg) (answer : Bool) → IsPkgValue p.now → post p answer → answer ≡ visible p.now profile level

pub record AnswersVisible (pre : Bor Pkg → Type 0) (post : Bor Pkg → Bool → Type 0) (profile : Profile) (level : Level) : Type 0 where
  pub asked : MayAsk pre
  pub tells : Tells post profile level
