-- The limits of a query, and why judging is refused.
use Rattle.std.specs.Prelude.{◌≡◌, ◌⊎◌, ℕ, ◌<◌, ◌≤◌, List, ◌∷◌, ◌++◌, length, map}
use Rattle.std.specs.List.{AllByRecursion}
use Rattle.gv_cert.specs.Known.{KnownRecord}
use Rattle.gv_facts.specs.declared.pkg.Pkg.{Pkg}
use Rattle.gv_query.specs.Asking.{IsSpent}
use Rattle.gv_report.specs.Line.{package_text}
use Rattle.gv_checks.specs.Certs.{AreCerts, Cert}
use Rattle.gv_checks.specs.Queries.{Query, flags_of, gates_of, query_name, weight_of}
use Rattle.gv_lower.specs.declared.query.LowerFault.{LowerFault}
use Rattle.gv_lower.specs.declared.query.LowerFault.TheVariants as lowering
use Rattle.gv_lower.specs.declared.query.LowerFault.TheVariants.{Flags, Weight}
use Rattle.gv_checks.specs.declared.fault.JudgeFault.{JudgeFault}
use Rattle.gv_checks.specs.declared.fault.JudgeFault.TheVariants.{Spent, Limit, NoMemory}

-- at most 4,096 flags, and a weight of at most 2,000,000
pub record IsWithin (q : Query) : Type 0 where
  pub flags : length (flags_of q) ≤ 4096
  pub weight : weight_of q ≤ 2000000

-- past the limit of flags, or else past that of weight; which is told
abbrev pub IsPast : Query → ℕ → Type 0
IsPast q number =
    ((4096 < length (flags_of q)) × (number ≡ 4096))
    ⊎ ((length (flags_of q) ≤ 4096) × (2000000 < weight_of q) × (number ≡ 2000000))

abbrev pub place_of : Query → List ℕ
place_of q = package_text q.case.parent.pkg.category q.case.parent.pkg.pf

-- why this query is refused: no record of it is backed and the budget is spent; or it is past a limit
abbrev pub Cause : (budget : ℕ) → (given : List KnownRecord) → Query → JudgeFault → Type 0
Cause budget given q (Spent name sets) = (name ≡ query_name q) × IsWithin q × IsSpent (gates_of q) budget given sets
Cause budget given q (Limit place number) = (place ≡ place_of q) × IsPast q number
Cause budget given q NoMemory = Unit {0}

-- a limit that is told at a package
abbrev pub IsLimit : Pkg → (number : ℕ) → JudgeFault → Type 0
IsLimit p number (Spent name sets) = ⊥
IsLimit p number (Limit place told) = (place ≡ package_text p.category p.pf) × (told ≡ number)
IsLimit p number NoMemory = Unit {0}

-- what a query that isn't lowered is refused by
abbrev pub IsLimitOf : Pkg → LowerFault → JudgeFault → Type 0
IsLimitOf p (Flags count) fault = IsLimit p 4096 fault
IsLimitOf p (Weight count) fault = IsLimit p 2000000 fault
IsLimitOf p lowering.NoMemory fault = fault ≡ NoMemory

-- it is one of these, and those before it are within the limits
pub record IsRefused (budget : ℕ) (given : List KnownRecord) (queries : List Query) (fault : JudgeFault) : Type 0 where
  pub before : List Query
  pub query : Query
  pub behind : List Query
  pub queries_are : queries ≡ before ++ query ∷ behind
  pub within : AllByRecursion IsWithin before
  pub cause : Cause budget given query fault

-- one that is refused; want of memory names none
abbrev pub Refuses : (budget : ℕ) → (given : List KnownRecord) → List Query → JudgeFault → Type 0
Refuses budget given queries NoMemory = Unit {0}
Refuses budget given queries fault = IsRefused budget given queries fault

-- it is the first: those before it are within the limits, and each of them has its certificate
pub record IsFirstRefused (budget : ℕ) (given : List KnownRecord) (queries : List Query) (fault : JudgeFault) : Type 0 where
  pub before : List Query
  pub query : Query
  pub behind : List Query
  pub queries_are : queries ≡ before ++ query ∷ behind
  pub within : AllByRecursion IsWithin before
  pub certs : List Cert
  pub are : AreCerts budget given (map gates_of before) certs
  pub cause : Cause budget given query fault

abbrev pub RefusesFirst : (budget : ℕ) → (given : List KnownRecord) → List Query → JudgeFault → Type 0
RefusesFirst budget given queries NoMemory = Unit {0}
RefusesFirst budget given queries fault = IsFirstRefused budget given queries fault
