-- Queries by their names.
use Rattle.std.specs.Prelude.{◌≡◌, ℕ, List, true, Some, slice_get, Option, Result, Ok, Err}
use Rattle.gv_cert.specs.Known.{KnownRecord}
use Rattle.gv_facts.specs.Visible.{judged}
use Rattle.gv_facts.specs.declared.kinds.Level.{Level}
use Rattle.gv_facts.specs.declared.pkg.Pkg.{Pkg}
use Rattle.gv_facts.specs.declared.profile.Profile.{Profile}
use Rattle.gv_lower.specs.declared.query.LowerFault.{LowerFault}
use Rattle.gv_lower.specs.declared.query.LowerFault.TheVariants as lowering
use Rattle.gv_report.specs.declared.options.Options.{Options}
use Rattle.gv_checks.specs.Answered.{IsFound, Knows}
use Rattle.gv_plain.specs.Cases.{Member, case_at}
use Rattle.gv_checks.specs.Limits.{Cause}
use Rattle.gv_checks.specs.Queries.{Query, is_asked, query_name}
use Rattle.gv_checks.specs.declared.fault.JudgeFault.{JudgeFault}
use Rattle.gv_checks.specs.declared.fault.JudgeFault.TheVariants.{NoMemory}
use Rattle.gv_checks.specs.declared.names.QueryName.{QueryName}
use Rattle.gv_checks.specs.declared.one.Found1.{Found1}
use Rattle.gv_load.specs.declared.loading.Repo.{Repo}

-- a query of this name among those of the repository under options; the only one, where no two profiles have the same line
pub record IsNamed (options : Options) (repo : Repo) (name : QueryName) (q : Query) : Type 0 where
  pub name_is : name ≡ query_name q
  pub pkg : slice_get repo.pkgs q.case.member.number ≡ Some q.case.member.pkg
  pub body : slice_get repo.bodies q.case.member.number ≡ Some q.case.member.body
  pub line : ℕ
  pub profile : slice_get repo.profiles line ≡ Some q.case.parent.profile
  pub level : judged q.case.member.pkg q.case.parent.profile ≡ Some q.case.parent.level
  pub case : q.case ≡ case_at repo.pkgs q.case.member q.case.parent.profile q.case.parent.level
  pub asked : is_asked options q.case q.class ≡ true

-- there is one
abbrev pub HasNamed : Options → Repo → QueryName → Type 0
HasNamed options repo name = (q : Query) × IsNamed options repo name q

-- that of a package in a profile, which judges it at this level
pub record IsNamedIn (options : Options) (among : List Pkg) (name : QueryName) (m : Member) (profile : Profile) (level : Level) : Type 0 where
  pub line_is : profile.line ≡ name.context.line
  pub judged_is : judged m.pkg profile ≡ Some level
  pub level_is : level ≡ name.context.level
  pub asked : is_asked options (case_at among m profile level) name.class ≡ true

-- the answer to it
pub record IsFoundNamed (options : Options) (given : List KnownRecord) (repo : Repo) (name : QueryName) (f : Found1) : Type 0 where
  pub query : Query
  pub named : IsNamed options repo name query
  pub found : IsFound options.budget given query f

pub record IsCauseNamed (options : Options) (given : List KnownRecord) (repo : Repo) (name : QueryName) (fault : JudgeFault) : Type 0 where
  pub query : Query
  pub named : IsNamed options repo name query
  pub cause : Cause options.budget given query fault

abbrev pub AnswersNamed : Options → (given : List KnownRecord) → Repo → QueryName → Result Found1 JudgeFault → Type 0
AnswersNamed options given repo name (Ok f) = IsFoundNamed options given repo name f
AnswersNamed options given repo name (Err NoMemory) = Unit {0}
AnswersNamed options given repo name (Err fault) = IsCauseNamed options given repo name fault

-- what is known of it
pub record IsKnownNamed (options : Options) (given : List KnownRecord) (repo : Repo) (name : QueryName) (result : Result (Option Found1) LowerFault) : Type 0 where
  pub query : Query
  pub named : IsNamed options repo name query
  pub knows : Knows given query result

abbrev pub KnowsNamed : Options → (given : List KnownRecord) → Repo → QueryName → Result (Option Found1) LowerFault → Type 0
KnowsNamed options given repo name (Ok known) = IsKnownNamed options given repo name (Ok known)
KnowsNamed options given repo name (Err lowering.NoMemory) = Unit {0}
KnowsNamed options given repo name (Err fault) = IsKnownNamed options given repo name (Err fault)
