-- Which packages a profile shows, and at which level it judges them (PMS chapters 5 and 7).
use Rattle.std.specs.Prelude.{ℕ, Bool, ◌&&◌, ◌||◌, not, if◌then◌else◌, List, ◌∷◌, Option, None, Some}
use Rattle.std.specs.List.{list_any}
use Rattle.std.specs.Str.{byte}
use Rattle.gv_base.specs.Order.{has_text}
use Rattle.gv_atom.specs.declared.atom.Atom.{Atom}
use Rattle.gv_atom.specs.Matching.{matches}
use Rattle.gv_facts.specs.declared.kinds.Level.{Level}
use Rattle.gv_facts.specs.declared.kinds.Level.TheVariants.{Stable, Testing}
use Rattle.gv_facts.specs.declared.pkg.Pkg.{Pkg}
use Rattle.gv_facts.specs.declared.profile.Profile.{Profile}
use Rattle.gv_facts.specs.declared.masks.Mask.{Mask}

abbrev pub matches_pkg : Atom → Pkg → Bool
matches_pkg a p = matches a p.category p.name p.version p.slot p.sub

-- the keyword that accepts a package at testing
abbrev pub testing : List ℕ → List ℕ
testing arch = byte "~" ∷ arch

abbrev pub accepts : Level → (arch : List ℕ) → (keywords : List (List ℕ)) → Bool
accepts Stable arch keywords = has_text keywords arch
accepts Testing arch keywords = has_text keywords arch || has_text keywords (testing arch)

abbrev pub is_masked : Pkg → List Mask → Bool
is_masked p masks = list_any (λ m. matches_pkg m.atom p) masks

abbrev pub visible : Pkg → Profile → Level → Bool
visible p profile level = accepts level profile.arch p.keywords && not (is_masked p profile.masks)

-- the level at which the package is judged, if it is: in a profile that accepts the arch with `~` at testing alone
abbrev pub judged : Pkg → Profile → Option Level
judged p profile =
    if is_masked p profile.masks then None else
    if not profile.testing && accepts Stable profile.arch p.keywords then Some Stable else
    if accepts Testing profile.arch p.keywords then Some Testing else None
