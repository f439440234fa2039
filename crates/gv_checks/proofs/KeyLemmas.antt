-- Keys, as the code makes them of their parts.
use Rattle.std.proofs.Common.{◌≡◌, ℕ, List, [], ◌++◌, refl, sym, ap, subst, ◌∙◌, Option, None, Some, append_assoc}
use Rattle.std.specs.Prelude.{option_map, unwrap_or}
use Rattle.gv_entry.specs.Queries.{class_in}
use Rattle.gv_entry.specs.declared.entry.Body.{Body}
use Rattle.gv_expr.specs.Dep.{Dep}
use Rattle.gv_facts.specs.declared.kinds.Class.{Class}
use Rattle.gv_facts.specs.declared.kinds.Class.TheVariants.{Bdepend, Depend, Idepend, Pdepend, Rdepend, Required}
use Rattle.gv_facts.specs.declared.kinds.Level.{Level}
use Rattle.gv_facts.specs.declared.pkg.Pkg.{Pkg}
use Rattle.gv_facts.specs.declared.profile.Profile.{Profile}
use Rattle.gv_lower.specs.Around.{alone}
use Rattle.gv_lower.specs.Keys.{class_key, required_key}
use Rattle.gv_lower.specs.Sites.{ClassSites, RequiredFlags}
use Rattle.gv_usestate.specs.Kinds.{IsOneOf}
use Rattle.gv_plain.specs.Context.{case_of}
use Rattle.gv_checks.specs.Alike.{first_at}
use Rattle.gv_checks.specs.Keys.{ArePartsOf, AreSitesOf, HasSites, flags_in, own_sites, sites_at, sites_in}
use Rattle.gv_checks.specs.Queries.{query_of}
use Rattle.gv_checks.specs.Shared.{asked_key, key_of}
use Rattle.gv_plain.specs.declared.context.JudgedPkg.{JudgedPkg}
use Rattle.gv_checks.specs.declared.keys.PkgSites.{PkgSites}

-- what an option that was made of another one tells of it
left : {A B : Type 0} (f : A → B) (o : Option A) → None ≡ option_map f o → o ≡ None
left f None e = refl
left f (Some d) e = absurd (apart e)
  where
    apart : {X : Type 0} {y : X} → None ≡ Some y → ⊥
    apart h = cc

made : {A B : Type 0} (f : A → B) (o : Option A) (x : B) → Some x ≡ option_map f o → (d : A) × ((o ≡ Some d) × (x ≡ f d))
made f None x e = absurd (apart e)
  where
    apart : {X : Type 0} {y : X} → Some y ≡ None → ⊥
    apart h = cc
made f (Some d) x e = (d, (refl, one e))
  where
    one : {X : Type 0} {a b : X} → Some a ≡ Some b → a ≡ b
    one h = cc

-- of REQUIRED_USE
module _ (j : JudgedPkg) (s : PkgSites) (has : HasSites j s) where
  pub required_none : (key : List ℕ) → None ≡ s.required → key ≡ [] → key ≡ required_key (case_of j).parent (unwrap_or j.body.now.required [])
  required_none key none is = is ∙ sym (ap (λ r. required_key (case_of j).parent (unwrap_or r [])) (left (flags_in has.profiles j.pkg.now) j.body.now.required (none ∙ has.are.required)))

  pub required_one : (x : RequiredFlags) (profile : Profile) → Some x ≡ s.required → profile ≡ j.profile.now → IsOneOf x.profiles profile
  required_one x profile some at =
      let it = made (flags_in has.profiles j.pkg.now) j.body.now.required x (some ∙ has.are.required) in
      subst (λ (f : RequiredFlags). IsOneOf f.profiles profile) (sym it.1.1) (subst (IsOneOf has.profiles) (sym at) has.one)

  pub required_some : (x : RequiredFlags) (profile : Profile) (old new : List ℕ) → Some x ≡ s.required → profile ≡ j.profile.now
      → old ≡ [] → new ≡ old ++ required_key (alone x.of profile j.level) x.required → new ≡ required_key (case_of j).parent (unwrap_or j.body.now.required [])
  required_some x profile old new some at empty more =
      let it = made (flags_in has.profiles j.pkg.now) j.body.now.required x (some ∙ has.are.required) in
      more
      ∙ (ap (λ o. o ++ required_key (alone x.of profile j.level) x.required) empty
      ∙ (ap (λ (f : RequiredFlags). required_key (alone f.of profile j.level) f.required) it.1.1
      ∙ (ap (λ p. required_key (alone j.pkg.now p j.level) it.0) at
      ∙ sym (ap (λ r. required_key (case_of j).parent (unwrap_or r [])) it.1.0))))

-- of a class
own_made : (profiles : List Profile) (p : Pkg) (pkgs : List Pkg) (body : Body) (s : PkgSites) → AreSitesOf profiles p pkgs body s → (class other : Class) → first_at s.firsts other ≡ class
    → own_sites s class ≡ option_map (sites_in profiles p pkgs) (class_in body class)
own_made profiles p pkgs body s are Required other first = refl
own_made profiles p pkgs body s are Depend other first = are.depend
own_made profiles p pkgs body s are Bdepend other first = are.bdepend other first
own_made profiles p pkgs body s are Rdepend other first = are.rdepend other first
own_made profiles p pkgs body s are Pdepend other first = are.pdepend other first
own_made profiles p pkgs body s are Idepend other first = are.idepend other first

sites_made : (profiles : List Profile) (p : Pkg) (pkgs : List Pkg) (body : Body) (s : PkgSites) → AreSitesOf profiles p pkgs body s → (class : Class) → sites_at s class ≡ option_map (sites_in profiles p pkgs) (class_in body class)
sites_made profiles p pkgs body s are class =
    own_made profiles p pkgs body s are (first_at s.firsts class) class refl ∙ ap (option_map (sites_in profiles p pkgs)) (are.firsts class)

module _ (j : JudgedPkg) (states : Profile) (s : PkgSites) (required : List ℕ) (parts : ArePartsOf j states s required) (class : Class) where
  has : HasSites j s
  has = parts.sites_are

  at_class : sites_at s class ≡ option_map (sites_in has.profiles j.pkg.now j.pkgs.now) (class_in j.body.now class)
  at_class = sites_made has.profiles j.pkg.now j.pkgs.now j.body.now s has.are class

  pub key_none : (old mid : List ℕ) → mid ≡ old ++ required → None ≡ sites_at s class → mid ≡ old ++ key_of (query_of (case_of j) class)
  key_none old mid front none =
      let no : class_in j.body.now class ≡ None = left (sites_in has.profiles j.pkg.now j.pkgs.now) (class_in j.body.now class) (none ∙ at_class) in
      front ∙ (ap (λ ks. old ++ ks) parts.required_is ∙ sym (ap (λ d. old ++ asked_key (case_of j).parent (unwrap_or j.body.now.required []) d) no))

  module _ (x : ClassSites) (some : Some x ≡ sites_at s class) where
    it : (d : List Dep) × ((class_in j.body.now class ≡ Some d) × (x ≡ sites_in has.profiles j.pkg.now j.pkgs.now d))
    it = made (sites_in has.profiles j.pkg.now j.pkgs.now) (class_in j.body.now class) x (some ∙ at_class)

    pub sites_among : (among : List Pkg) → among ≡ j.pkgs.now → x.pkgs ≡ among
    sites_among among same = ap (λ (c : ClassSites). c.pkgs) it.1.1 ∙ sym same

    pub sites_one : IsOneOf x.profiles states
    sites_one = subst (λ (c : ClassSites). IsOneOf c.profiles states) (sym it.1.1) (subst (IsOneOf has.profiles) (sym parts.states_are) has.one)

    pub key_some : (old mid new : List ℕ) → mid ≡ old ++ required
        → (profile : Profile) (level : Level) (among : List Pkg) → profile ≡ j.profile.now → level ≡ j.level → among ≡ j.pkgs.now
        → new ≡ mid ++ class_key (record { pkg = x.of; profile = profile; level = level; among = among }) x.class → new ≡ old ++ key_of (query_of (case_of j) class)
    key_some old mid new front profile level among in_profile at_level same more =
        more
        ∙ (ap (λ (c : ClassSites). mid ++ class_key (record { pkg = c.of; profile = profile; level = level; among = among }) c.class) it.1.1
        ∙ (ap (λ p. mid ++ class_key (record { pkg = j.pkg.now; profile = p; level = level; among = among }) it.0) in_profile
        ∙ (ap (λ l. mid ++ class_key (record { pkg = j.pkg.now; profile = j.profile.now; level = l; among = among }) it.0) at_level
        ∙ (ap (λ ps. mid ++ class_key (record { pkg = j.pkg.now; profile = j.profile.now; level = j.level; among = ps }) it.0) same
        ∙ (ap (λ m. m ++ class_key (case_of j).parent it.0) (front ∙ ap (λ ks. old ++ ks) parts.required_is)
        ∙ (append_assoc old (required_key (case_of j).parent (unwrap_or j.body.now.required [])) (class_key (case_of j).parent it.0)
        ∙ sym (ap (λ d. old ++ asked_key (case_of j).parent (unwrap_or j.body.now.required []) d) it.1.0)))))))
