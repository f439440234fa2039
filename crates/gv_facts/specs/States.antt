-- The state of a flag (PMS chapter 5): masked, forced, free or absent.
use Rattle.std.specs.Prelude.{ℕ, Bool, true, false, ◌&&◌, ◌||◌, not, if◌then◌else◌, List, map, fold, codes}
use Rattle.std.specs.Option.{option_map_or}
use Rattle.std.specs.Str.{bytes_eq}
use Rattle.gv_version.specs.Bytes.{begins_with, is_one_of}
use Rattle.gv_facts.specs.declared.kinds.Level.{Level}
use Rattle.gv_facts.specs.declared.kinds.FlagState.{FlagState}
use Rattle.gv_facts.specs.declared.kinds.FlagState.TheVariants.{Absent, Off, On, Free}
use Rattle.gv_facts.specs.declared.pkg.Pkg.{Pkg}
use Rattle.gv_facts.specs.declared.profile.Profile.{Profile}
use Rattle.gv_facts.specs.declared.rules.Rule.{Rule}
use Rattle.gv_facts.specs.declared.rules.Effect.{Effect}
use Rattle.gv_facts.specs.declared.rules.Effect.TheVariants.{Force, Mask}
use Rattle.gv_facts.specs.Effective.{is_effective}
use Rattle.gv_facts.specs.Visible.{accepts, matches_pkg, testing}

-- a stable keyword written with `~`
abbrev pub as_testing : List ℕ → List ℕ
as_testing keyword = if begins_with (is_one_of (codes "~-")) keyword then keyword else testing keyword

-- accepted, and wouldn't be if the stable keywords were written with `~`
abbrev pub is_restricted : Pkg → Profile → Level → Bool
is_restricted p profile level =
    accepts level profile.arch p.keywords && not (accepts level profile.arch (map as_testing p.keywords))

abbrev pub is_same : Effect → Effect → Bool
is_same Force Force = true
is_same Mask Mask = true
is_same effect other = false

abbrev pub applies : Pkg → Profile → Level → Rule → Bool
applies p profile level r = (not r.stable || is_restricted p profile level) && option_map_or (λ a. matches_pkg a p) r.atom true

-- what the last of the rules for the effect that apply and name the flag says; off with none
abbrev pub has_effect : Effect → Pkg → Profile → Level → List ℕ → Bool
has_effect effect p profile level flag =
    fold (λ on r. if is_same effect r.effect && (bytes_eq r.flag flag && applies p profile level r) then r.on else on) false profile.rules

abbrev pub state : Pkg → Profile → Level → List ℕ → FlagState
state p profile level flag =
    if not (is_effective p profile flag) then Absent else
    if has_effect Mask p profile level flag then Off else
    if has_effect Force p profile level flag then On else Free
