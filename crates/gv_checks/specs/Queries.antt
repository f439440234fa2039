-- The queries of a repository under options, in their order.
use Rattle.std.specs.Prelude.{ℕ, Bool, ◌&&◌, List, [], map, filter, flat_map, Option, None, Some, unwrap_or}
use Rattle.gv_expr.specs.Dep.{Dep}
use Rattle.gv_expr.specs.Required.{Req}
use Rattle.gv_facts.specs.Classes.{has_class}
use Rattle.gv_facts.specs.declared.kinds.Class.{Class}
use Rattle.gv_facts.specs.declared.kinds.Class.TheVariants.{Required}
use Rattle.gv_facts.specs.declared.kinds.Status.{Status}
use Rattle.gv_facts.specs.declared.kinds.Status.TheVariants.{Dev, Exp, Stable}
use Rattle.gv_entry.specs.Queries.{class_in}
use Rattle.gv_report.specs.declared.keyword.Keyword.{Keyword}
use Rattle.gv_report.specs.declared.keyword.Keyword.TheVariants as keywords
use Rattle.gv_report.specs.declared.options.Options.{Options}
use Rattle.gv_logic.specs.Bytes.{circuit_bytes}
use Rattle.gv_logic.specs.Circuits.{Circuit}
use Rattle.gv_checks.specs.Asked.{asked_flags, asked_gates, asked_items, asked_preferred, asked_weight, least_asked}
use Rattle.gv_plain.specs.Cases.{Case, cases}
use Rattle.gv_plain.specs.Classes.{classes, is_whole}
use Rattle.gv_checks.specs.declared.names.QueryName.{QueryName}
use Rattle.gv_load.specs.declared.loading.Repo.{Repo}
use Rattle.gv_plain.specs.Plain.{is_told}

-- a query is about a package in a context: may REQUIRED_USE hold, or may the class fail
pub record Query : Type 0 where
  pub case : Case
  pub class : Class

abbrev pub query_of : Case → Class → Query
query_of c class = record { case = c; class = class }

-- the keyword that a query belongs to
abbrev pub class_keyword : Status → Keyword
class_keyword Stable = keywords.NonsolvableDepsInStable
class_keyword Dev = keywords.NonsolvableDepsInDev
class_keyword Exp = keywords.NonsolvableDepsInExp

abbrev pub query_keyword : Status → Class → Keyword
query_keyword status Required = keywords.UnsatisfiableRequiredUse
query_keyword status class = class_keyword status

-- the EAPI has the class, and neither it nor REQUIRED_USE is broken
abbrev pub has_query : Case → Class → Bool
has_query c class = has_class c.parent.pkg.eapi class && (is_whole c.member.body Required && is_whole c.member.body class)

-- its keyword is listed, and the profile selected
abbrev pub is_selected : Options → Case → Class → Bool
is_selected options c class = is_told options c (query_keyword c.parent.profile.status class)

abbrev pub is_asked : Options → Case → Class → Bool
is_asked options c class = has_query c class && is_selected options c class

-- of these classes
abbrev pub class_queries : Options → List Class → Case → List Query
class_queries options ks c = map (query_of c) (filter (is_asked options c) ks)

-- REQUIRED_USE, then the classes
abbrev pub case_queries : Options → Case → List Query
case_queries options c = class_queries options classes c

-- of a package in a profile, where that judges it
abbrev pub case_asks : Options → Option Case → List Query
case_asks options None = []
case_asks options (Some c) = case_queries options c

-- the same without options
abbrev pub case_queries_all : Case → List Query
case_queries_all c = map (query_of c) (filter (has_query c) classes)

-- by package, by profile line, and so
abbrev pub queries : Options → Repo → List Query
queries options repo = flat_map (case_queries options) (cases repo)

abbrev pub query_name : Query → QueryName
query_name q = record { «package» = q.case.member.number; class = q.class; context = record { line = q.case.parent.profile.line; level = q.case.parent.level } }

-- What it asks.
abbrev pub required_of : Query → List Req
required_of q = unwrap_or q.case.member.body.required []

-- the class that may fail, None where REQUIRED_USE is asked about
abbrev pub class_of : Query → Option (List Dep)
class_of q = class_in q.case.member.body q.class

abbrev pub flags_of : Query → List (List ℕ)
flags_of q = asked_flags q.case.parent (required_of q) (class_of q)

abbrev pub preferred_of : Query → List Bool
preferred_of q = asked_preferred q.case.parent (required_of q) (class_of q)

abbrev pub gates_of : Query → Circuit
gates_of q = asked_gates q.case.parent (required_of q) (class_of q)

abbrev pub items_of : Query → List ℕ
items_of q = asked_items q.case.parent (required_of q) (class_of q)

abbrev pub weight_of : Query → ℕ
weight_of q = asked_weight q.case.parent (required_of q) (class_of q)

abbrev pub gates_bytes : Query → List ℕ
gates_bytes q = circuit_bytes (gates_of q)

-- the least assignment that is asked for, as bits of the flags that haven't their preferred value, if there is one
abbrev pub least_of : Query → Option (List Bool)
least_of q = least_asked q.case.parent (required_of q) (class_of q)
