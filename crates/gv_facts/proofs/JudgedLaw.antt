-- The level at which a package is judged, by what the profile shows at each.
use Rattle.std.proofs.Common.{◌≡◌, Bool, true, false, ◌&&◌, if◌then◌else◌, Some, None, refl}
use Rattle.std.specs.Prelude.{Option, not}
use Rattle.gv_facts.specs.declared.kinds.Level.{Level}
use Rattle.gv_facts.specs.declared.kinds.Level.TheVariants.{Stable, Testing}
use Rattle.gv_facts.specs.declared.pkg.Pkg.{Pkg}
use Rattle.gv_facts.specs.declared.profile.Profile.{Profile}
use Rattle.gv_facts.specs.Visible.{accepts, is_masked, judged, visible}

-- where m says that it is masked, s and t that it is accepted at stable and at testing, and u that the profile judges at testing alone
abbrev judged_by : (m u s t : Bool) → Option Level
judged_by m u s t = if m then None else if not u && s then Some Stable else if t then Some Testing else None

testing_by : (m u s t : Bool) → u ≡ true → judged_by m u s t ≡ (if t && not m then Some Testing else None)
testing_by true true s true e = refl
testing_by true true s false e = refl
testing_by false true s true e = refl
testing_by false true s false e = refl
testing_by m false s t e = cc

other_by : (m u s t : Bool) → u ≡ false → judged_by m u s t ≡ (if s && not m then Some Stable else if t && not m then Some Testing else None)
other_by true false true true e = refl
other_by true false true false e = refl
other_by true false false true e = refl
other_by true false false false e = refl
other_by false false true t e = refl
other_by false false false true e = refl
other_by false false false false e = refl
other_by m true s t e = cc

pub at_testing : (p : Pkg) (profile : Profile) → profile.testing ≡ true → judged p profile ≡ (if visible p profile Testing then Some Testing else None)
at_testing p profile = testing_by (is_masked p profile.masks) profile.testing (accepts Stable profile.arch p.keywords) (accepts Testing profile.arch p.keywords)

pub stable_first : (p : Pkg) (profile : Profile) → profile.testing ≡ false
    → judged p profile ≡ (if visible p profile Stable then Some Stable else if visible p profile Testing then Some Testing else None)
stable_first p profile = other_by (is_masked p profile.masks) profile.testing (accepts Stable profile.arch p.keywords) (accepts Testing profile.arch p.keywords)
