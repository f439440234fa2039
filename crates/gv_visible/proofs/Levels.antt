-- The level at which a package is judged, by what is visible at each.
use Rattle.std.proofs.Common.{◌≡◌, Bool, true, false, ◌&&◌, if◌then◌else◌, Some, None, refl, sym}
use Rattle.std.specs.Prelude.{Option, not}
use Rattle.std.proofs.lemmas.Bool.{false≢true}
use Rattle.gv_facts.specs.declared.kinds.Level.{Level}
use Rattle.gv_facts.specs.declared.kinds.Level.TheVariants.{Stable, Testing}
use Rattle.gv_facts.specs.declared.pkg.Pkg.{Pkg}
use Rattle.gv_facts.specs.declared.profile.Profile.{Profile}
use Rattle.gv_facts.specs.Visible.{accepts, is_masked, judged, visible}

-- where m says that it is masked, s and t that it is accepted at stable and at testing, and u that the profile judges at stable
abbrev judged_by : (m u s t : Bool) → Option Level
judged_by m u s t = if m then None else if u && s then Some Stable else if t then Some Testing else None

by_stable : (m u s t : Bool) → true ≡ (u && (s && not m)) → Some Stable ≡ judged_by m u s t
by_stable m false s t h = absurd (false≢true (sym h))
by_stable true true true t h = absurd (false≢true (sym h))
by_stable true true false t h = absurd (false≢true (sym h))
by_stable false true true t h = refl
by_stable false true false t h = absurd (false≢true (sym h))

by_testing : (m u s t : Bool) → false ≡ (u && (s && not m)) → true ≡ (t && not m) → Some Testing ≡ judged_by m u s t
by_testing true u s true g h = absurd (false≢true (sym h))
by_testing true u s false g h = absurd (false≢true (sym h))
by_testing false true true t g h = absurd (false≢true g)
by_testing false true false true g h = refl
by_testing false true false false g h = absurd (false≢true (sym h))
by_testing false false s true g h = refl
by_testing false false s false g h = absurd (false≢true (sym h))

by_neither : (m u s t : Bool) → false ≡ (u && (s && not m)) → false ≡ (t && not m) → None ≡ judged_by m u s t
by_neither true u s t g h = refl
by_neither false true true t g h = absurd (false≢true g)
by_neither false true false true g h = absurd (false≢true h)
by_neither false true false false g h = refl
by_neither false false s true g h = absurd (false≢true h)
by_neither false false s false g h = refl

pub stable_first : (p : Pkg) (profile : Profile) → true ≡ (not profile.testing && visible p profile Stable) → Some Stable ≡ judged p profile
stable_first p profile = by_stable (is_masked p profile.masks) (not profile.testing) (accepts Stable profile.arch p.keywords) (accepts Testing profile.arch p.keywords)

pub testing_next : (p : Pkg) (profile : Profile) → false ≡ (not profile.testing && visible p profile Stable) → true ≡ visible p profile Testing → Some Testing ≡ judged p profile
testing_next p profile = by_testing (is_masked p profile.masks) (not profile.testing) (accepts Stable profile.arch p.keywords) (accepts Testing profile.arch p.keywords)

pub neither : (p : Pkg) (profile : Profile) → false ≡ (not profile.testing && visible p profile Stable) → false ≡ visible p profile Testing → None ≡ judged p profile
neither p profile = by_neither (is_masked p profile.masks) (not profile.testing) (accepts Stable profile.arch p.keywords) (accepts Testing profile.arch p.keywords)
