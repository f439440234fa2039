-- What REQUIRED_USE and a class of a package ask about, in whichever of some profiles it is asked.
use Rattle.std.specs.Prelude.{ℕ, List, [], map, filter, refl, Option, None, Some, slice_get}
use Rattle.std.specs.Coded.{Coded, code_by, coded×, coded_list}
use Rattle.gv_atom.specs.declared.atom.Atom.{Atom}
use Rattle.gv_atom.specs.declared.items.UseItem.{UseItem}
use Rattle.gv_expr.specs.Dep.{Dep}
use Rattle.gv_expr.specs.DepStored.{deps_code}
use Rattle.gv_expr.specs.Required.{Req}
use Rattle.gv_expr.specs.RequiredStored.{reqs_code}
use Rattle.gv_facts.specs.contracts.pkg.Pkg as pkg
use Rattle.gv_facts.specs.contracts.profile.Profile as profile
use Rattle.gv_facts.specs.declared.pkg.Pkg.{Pkg}
use Rattle.gv_facts.specs.declared.profile.Profile.{Profile}
use Rattle.gv_facts.specs.Places.{is_pkg_of, places_of}
use Rattle.gv_usestate.specs.Kinds.{flag_kind}
use Rattle.gv_usestate.specs.declared.ruled.FlagKind.{FlagKind}
use Rattle.gv_visible.specs.NamedPkgs.{matches_at}

-- What contracts see of it: the profiles, the package, and its REQUIRED_USE.
pub record RequiredFlags : Type 0 where
  pub profiles : List Profile
  pub of : Pkg
  pub required : List Req

abbrev pub coded_flags : Coded RequiredFlags
coded_flags = code_by (List Profile × (Pkg × List Req)) (coded× (coded_list profile.the_row.coded) (coded× pkg.the_row.coded reqs_code))
    (λ f. (f.profiles, (f.of, f.required))) (λ p. record { profiles = p.0; of = p.1.0; required = p.1.1 }) (λ _. refl)

-- And of a class: it, and the packages among which its atoms look.
pub record ClassSites : Type 0 where
  pub profiles : List Profile
  pub of : Pkg
  pub pkgs : List Pkg
  pub class : List Dep

abbrev pub coded_sites : Coded ClassSites
coded_sites = code_by (List Profile × (Pkg × (List Pkg × List Dep))) (coded× (coded_list profile.the_row.coded) (coded× pkg.the_row.coded (coded× (coded_list pkg.the_row.coded) deps_code)))
    (λ s. (s.profiles, (s.of, (s.pkgs, s.class)))) (λ p. record { profiles = p.0; of = p.1.0; pkgs = p.1.1.0; class = p.1.1.1 }) (λ _. refl)

-- For the contracts of private functions: a flag of a package, with what is known of it in each profile.
pub record KnownFlag : Type 0 where
  pub flag : List ℕ
  pub kind : FlagKind

abbrev pub known_of : List Profile → Pkg → (flag : List ℕ) → KnownFlag
known_of profiles p flag = record { flag = flag; kind = flag_kind profiles p flag }

-- those that items name
abbrev pub known_items : List Profile → List UseItem → Pkg → List KnownFlag
known_items profiles items p = map (λ i. known_of profiles p i.flag) items

abbrev pub known_at : List Profile → List UseItem → Option Pkg → List KnownFlag
known_at profiles items None = []
known_at profiles items (Some p) = known_items profiles items p

-- a place of a package that an atom matches, and the flags of that package that the atom's items name
pub record PlaceSite : Type 0 where
  pub place : ℕ
  pub flags : List KnownFlag

abbrev pub place_site : List Profile → List Pkg → List UseItem → ℕ → PlaceSite
place_site profiles pkgs items place = record { place = place; flags = known_at profiles items (slice_get pkgs place) }

-- all of an atom
abbrev pub site_of : List Profile → List Pkg → Atom → List PlaceSite
site_of profiles pkgs atom = map (place_site profiles pkgs atom.items) (filter (matches_at atom pkgs) (places_of (is_pkg_of atom.category atom.name) pkgs))
