-- For the contracts of private functions: what the keys of a package's queries are made of.
-- `gv_lower` gives each query a key, made of the states of the mentioned flags and of the packages that its atoms find,
-- and `key_law` says that contexts of a package with equal keys have one and the same query. What a class asks about
-- (the flags that it mentions, and of each atom the packages that it matches, visible or not) is found once for the
-- package (`ClassSites`), and so is what is known of these flags in all profiles (`RuledFlags`, made once of the
-- profiles, and `kind_law`). So a context's key costs the states of the other flags and a look at what the profile
-- shows. The key of REQUIRED_USE is made once for all queries of a context.
use Rattle.std.specs.Prelude.{◌≡◌, ℕ, List, [], Option, None, option_map, unwrap_or}
use Rattle.gv_entry.specs.declared.entry.Body.{Body}
use Rattle.gv_expr.specs.Dep.{Dep}
use Rattle.gv_expr.specs.Required.{Req}
use Rattle.gv_facts.specs.declared.kinds.Class.{Class}
use Rattle.gv_facts.specs.declared.kinds.Class.TheVariants.{Bdepend, Depend, Idepend, Pdepend, Rdepend, Required}
use Rattle.gv_facts.specs.declared.pkg.Pkg.{Pkg}
use Rattle.gv_facts.specs.declared.profile.Profile.{Profile}
use Rattle.gv_lower.specs.Keys.{required_key}
use Rattle.gv_lower.specs.Sites.{ClassSites, RequiredFlags}
use Rattle.gv_usestate.specs.Kinds.{IsOneOf}
use Rattle.gv_checks.specs.Alike.{AreFirsts, first_at}
use Rattle.gv_plain.specs.Context.{case_of}
use Rattle.gv_plain.specs.declared.context.JudgedPkg.{JudgedPkg}
use Rattle.gv_checks.specs.declared.keys.PkgSites.{PkgSites}

abbrev pub flags_in : List Profile → Pkg → List Req → RequiredFlags
flags_in profiles p required = record { profiles = profiles; of = p; required = required }

abbrev pub sites_in : List Profile → Pkg → List Pkg → List Dep → ClassSites
sites_in profiles p pkgs class = record { profiles = profiles; of = p; pkgs = pkgs; class = class }

-- those of each class that isn't broken and is the first with its expression
pub record AreSitesOf (profiles : List Profile) (p : Pkg) (pkgs : List Pkg) (body : Body) (s : PkgSites) : Type 0 where
  pub firsts : AreFirsts body s.firsts
  pub required : s.required ≡ option_map (flags_in profiles p) body.required
  pub depend : s.depend ≡ option_map (sites_in profiles p pkgs) body.depend
  pub bdepend : (other : Class) → first_at s.firsts other ≡ Bdepend → s.bdepend ≡ option_map (sites_in profiles p pkgs) body.bdepend
  pub rdepend : (other : Class) → first_at s.firsts other ≡ Rdepend → s.rdepend ≡ option_map (sites_in profiles p pkgs) body.rdepend
  pub pdepend : (other : Class) → first_at s.firsts other ≡ Pdepend → s.pdepend ≡ option_map (sites_in profiles p pkgs) body.pdepend
  pub idepend : (other : Class) → first_at s.firsts other ≡ Idepend → s.idepend ≡ option_map (sites_in profiles p pkgs) body.idepend

abbrev pub own_sites : PkgSites → Class → Option ClassSites
own_sites s Required = None
own_sites s Depend = s.depend
own_sites s Bdepend = s.bdepend
own_sites s Rdepend = s.rdepend
own_sites s Pdepend = s.pdepend
own_sites s Idepend = s.idepend

-- those of the first class with its expression
abbrev pub sites_at : PkgSites → Class → Option ClassSites
sites_at s class = own_sites s (first_at s.firsts class)

-- the sites of the package of a context, whose profile is one of those of the sites
pub record HasSites (j : JudgedPkg) (s : PkgSites) : Type 0 where
  pub profiles : List Profile
  pub one : IsOneOf profiles j.profile.now
  pub are : AreSitesOf profiles j.pkg.now j.pkgs.now j.body.now s

-- in a context: the states of flags in its profile, the sites of the package, and the key of its REQUIRED_USE
pub record ArePartsOf (j : JudgedPkg) (states : Profile) (s : PkgSites) (required : List ℕ) : Type 0 where
  pub states_are : states ≡ j.profile.now
  pub sites_are : HasSites j s
  pub required_is : required ≡ required_key (case_of j).parent (unwrap_or j.body.now.required [])
