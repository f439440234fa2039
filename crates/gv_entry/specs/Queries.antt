-- What the queries of a package ask: REQUIRED_USE alone, or with a class (PMS chapters 7 and 8).
use Rattle.std.specs.Prelude.{ℕ, List, ◌++◌, Option, None}
use Rattle.gv_expr.specs.Dep.{Dep, deps}
use Rattle.gv_expr.specs.Mentions.{dep_mentions, req_mentions}
use Rattle.gv_expr.specs.Required.{Req, reqs}
use Rattle.gv_facts.specs.declared.kinds.Class.{Class}
use Rattle.gv_facts.specs.declared.kinds.Class.TheVariants.{Required, Depend, Bdepend, Rdepend, Pdepend, Idepend}
use Rattle.gv_entry.specs.declared.entry.Body.{Body}
use Rattle.gv_entry.specs.Allowed.{Parent, query_flags}

-- the dependencies of a class, None where it is broken. REQUIRED_USE has none
abbrev pub class_in : Body → Class → Option (List Dep)
class_in body Required = None
class_in body Depend = body.depend
class_in body Bdepend = body.bdepend
class_in body Rdepend = body.rdepend
class_in body Pdepend = body.pdepend
class_in body Idepend = body.idepend

-- the flags of the query of REQUIRED_USE: those that it mentions, as far as they are free
abbrev pub required_flags : Parent → List Req → List (List ℕ)
required_flags c required = query_flags c (req_mentions (reqs required))

-- the flags of the query of a class: REQUIRED_USE or the class mentions them, and they are free
abbrev pub class_flags : Parent → List Req → List Dep → List (List ℕ)
class_flags c required class = query_flags c (req_mentions (reqs required) ++ dep_mentions (deps class))
