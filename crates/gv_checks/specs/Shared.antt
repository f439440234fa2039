-- Queries of a package that were lowered, and are shared by contexts in which they are the same.
-- A package's lowered queries are kept by expression and key. A context whose key is there takes the query and the
-- number of its answer, and makes a report of its own; a class whose expression was asked about before in the context
-- needs no key. That the number is that of a record with the query's bytes is kept along the walk (`AreNoted`), since
-- records are only added, so the bytes aren't compared again.
use Rattle.std.specs.Prelude.{◌≡◌, ◌⊎◌, ℕ, ◌+◌, option_to_list, Result, Ok, Err, ◌<◌, ◌≤◌, List, [], ◌∷◌, ◌++◌, length, slice_get, Option, None, Some, unwrap_or}
use Rattle.std.specs.List.{AllByRecursion}
use Rattle.gv_base.specs.Counts.{Counts}
use Rattle.gv_base.specs.Steps.{after}
use Rattle.gv_base.specs.declared.steps.Kind.TheVariants.{Lower}
use Rattle.gv_entry.specs.Allowed.{Parent}
use Rattle.gv_entry.specs.Queries.{class_in}
use Rattle.gv_entry.specs.declared.entry.Body.{Body}
use Rattle.gv_expr.specs.Dep.{Dep}
use Rattle.gv_expr.specs.Required.{Req}
use Rattle.gv_facts.specs.declared.kinds.Class.{Class}
use Rattle.gv_facts.specs.declared.pkg.Pkg.{Pkg}
use Rattle.gv_logic.specs.Bytes.{circuit_bytes}
use Rattle.gv_lower.specs.Keys.{query_key, required_key}
use Rattle.gv_lower.specs.Lowering.{IsQuery}
use Rattle.gv_lower.specs.declared.query.Query as lowered
use Rattle.gv_checks.specs.Asked.{asked_flags, asked_gates, asked_items, asked_preferred, asked_weight}
use Rattle.gv_cert.specs.Known.{HasQuery, KnownRecord}
use Rattle.gv_logic.specs.Circuits.{Circuit, IsCircuit}
use Rattle.gv_checks.specs.Certs.{HasBacked}
use Rattle.gv_plain.specs.Cases.{Case}
use Rattle.gv_plain.specs.Context.{case_of}
use Rattle.gv_checks.specs.Limits.{Cause, IsWithin}
use Rattle.gv_checks.specs.Progress.{AreUsed, Grows}
use Rattle.gv_checks.specs.RepoReports.{query_report}
use Rattle.gv_checks.specs.declared.fault.JudgeFault.{JudgeFault}
use Rattle.gv_checks.specs.declared.judging.Progress.{Progress}
use Rattle.gv_checks.specs.Queries.{Query, class_of, flags_of, gates_bytes, gates_of, items_of, preferred_of, query_of, required_of}
use Rattle.gv_plain.specs.declared.context.JudgedPkg.{JudgedPkg}
use Rattle.gv_checks.specs.declared.shared.Placed.{Placed}
use Rattle.gv_checks.specs.declared.shared.Shared.{Shared}
use Rattle.gv_checks.specs.declared.shared.SharedQuery.{SharedQuery}

-- the key of a query
abbrev pub asked_key : Parent → List Req → Option (List Dep) → List ℕ
asked_key c required None = required_key c required
asked_key c required (Some class) = query_key c required class

abbrev pub key_of : Query → List ℕ
key_of q = asked_key q.case.parent (required_of q) (class_of q)

-- it is the query of the package for its class, or for one with the same expression, in some context with its key, and within the limits
pub record IsShared (pkg : Pkg) (body : Body) (e : SharedQuery) : Type 0 where
  pub parent : Parent
  pub pkg_is : parent.pkg ≡ pkg
  pub key_is : e.key ≡ asked_key parent (unwrap_or body.required []) (class_in body e.class)
  pub few : length (asked_flags parent (unwrap_or body.required []) (class_in body e.class)) ≤ 4096
  pub light : asked_weight parent (unwrap_or body.required []) (class_in body e.class) ≤ 2000000
  pub query_is : IsQuery (asked_gates parent (unwrap_or body.required []) (class_in body e.class)) (asked_flags parent (unwrap_or body.required []) (class_in body e.class))
      (asked_items parent (unwrap_or body.required []) (class_in body e.class)) (asked_preferred parent (unwrap_or body.required []) (class_in body e.class)) e.query
  pub bytes_are : e.bytes ≡ circuit_bytes (asked_gates parent (unwrap_or body.required []) (class_in body e.class))

abbrev pub AreShared : Pkg → Body → List SharedQuery → Type 0
AreShared pkg body es = AllByRecursion (IsShared pkg body) es

-- it is what lowering this query gives
pub record IsLoweredAs (q : Query) (e : SharedQuery) : Type 0 where
  pub within : IsWithin q
  pub query_is : IsQuery (gates_of q) (flags_of q) (items_of q) (preferred_of q) e.query
  pub bytes_are : e.bytes ≡ gates_bytes q

-- so is the one that stands at this place
abbrev pub IsSharedAt : Query → List SharedQuery → ℕ → Type 0
IsSharedAt q es n = (n < length es) × ((e : SharedQuery) → slice_get es n ≡ Some e → IsLoweredAs q e)

-- the record that it names has its bytes
abbrev pub IsNoted : (certs : List KnownRecord) → SharedQuery → Type 0
IsNoted certs e = (n : ℕ) → e.place ≡ Some n → HasQuery e.bytes certs n

abbrev pub AreNoted : (certs : List KnownRecord) → List SharedQuery → Type 0
AreNoted certs es = AllByRecursion (IsNoted certs) es

-- what is kept between the contexts of a package
pub record AreKept (pkg : Pkg) (body : Body) (certs : List KnownRecord) (es : List SharedQuery) : Type 0 where
  pub shared : AreShared pkg body es
  pub noted : AreNoted certs es

-- in a context: where the queries of classes stand
abbrev pub ArePlaced : Case → List SharedQuery → List Placed → Type 0
ArePlaced c es ps = AllByRecursion (λ p. IsSharedAt (query_of c p.class) es p.at) ps

pub record AreHere (j : JudgedPkg) (s : Shared) : Type 0 where
  pub shared : AreShared j.pkg.now j.body.now s.queries.items
  pub placed : ArePlaced (case_of j) s.queries.items s.here.items

pub record AreReady (j : JudgedPkg) (certs : List KnownRecord) (s : Shared) : Type 0 where
  pub here : AreHere j s
  pub noted : AreNoted certs s.queries.items

-- with whatever certificates
abbrev pub StayNoted : (old new : List SharedQuery) → Type 0
StayNoted old new = (certs : List KnownRecord) → AreNoted certs old → AreNoted certs new

-- the record of this number has the bytes of the query at this place
abbrev pub IsAnsweredAt : (certs : List KnownRecord) → List SharedQuery → (at number : ℕ) → Type 0
IsAnsweredAt certs es at number = (e : SharedQuery) → slice_get es at ≡ Some e → HasQuery e.bytes certs number

-- at this place stands one of this class and with this key
abbrev pub IsKeptAs : Class → (key : List ℕ) → List SharedQuery → ℕ → Type 0
IsKeptAs class key es n = (n < length es) × ((e : SharedQuery) → slice_get es n ≡ Some e → (e.class ≡ class) × (e.key ≡ key))

-- one more behind those that were there, or behind none
pub record Keeps (class : Class) (key : List ℕ) (query : lowered.Query) (old new : List SharedQuery) (n : ℕ) : Type 0 where
  pub before : List SharedQuery
  pub some : (before ≡ old) ⊎ (before ≡ [])
  pub entry : SharedQuery
  pub new_is : new ≡ before ++ entry ∷ []
  pub place : n ≡ length before
  pub class_is : entry.class ≡ class
  pub key_is : entry.key ≡ key
  pub query_is : entry.query ≡ query
  pub bytes_are : entry.bytes ≡ circuit_bytes query.gates
  pub unanswered : entry.place ≡ None

-- lowered once, or not
abbrev pub MayLower : (before now : Counts) → Type 0
MayLower before now = (now ≡ before) ⊎ (now ≡ after Lower before)

-- one more query whose gates are answered, and its report; nothing is lowered
abbrev pub AnswersKept : (budget : ℕ) → (given : List KnownRecord) → Query → (old new : Progress) → (before now : Counts) → Result ℕ JudgeFault → Type 0
AnswersKept budget given q old new before now (Ok n) =
    ((start : Counts) (gates : List Circuit) (lowered : ℕ) → AreUsed budget given start gates old.used lowered before → AreUsed budget given start (gates ++ gates_of q ∷ []) new.used lowered now)
    × (budget ≡ 0 → HasBacked given (gates_of q))
    × IsCircuit (gates_of q)
    × (new.reports ≡ old.reports ++ option_to_list (query_report q))
    × (new.queries ≡ old.queries + 1)
    × Grows old.used.certs new.used.certs
    × HasQuery (gates_bytes q) new.used.certs n
AnswersKept budget given q old new before now (Err fault) = Cause budget given q fault × (new.queries ≡ old.queries)
