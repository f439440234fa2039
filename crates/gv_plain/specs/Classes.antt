-- The classes of a package's expressions (PMS chapters 7 and 8).
use Rattle.std.specs.Prelude.{Bool, List, [], ◌∷◌}
use Rattle.std.specs.Option.{is_some}
use Rattle.gv_facts.specs.declared.kinds.Class.{Class}
use Rattle.gv_facts.specs.declared.kinds.Class.TheVariants.{Bdepend, Depend, Idepend, Pdepend, Rdepend, Required}
use Rattle.gv_entry.specs.declared.entry.Body.{Body}
use Rattle.gv_entry.specs.Queries.{class_in}

-- in the order of their queries
abbrev pub classes : List Class
classes = Required ∷ Depend ∷ Bdepend ∷ Rdepend ∷ Pdepend ∷ Idepend ∷ []

-- the expression of the class is in the grammar
abbrev pub is_whole : Body → Class → Bool
is_whole body Required = is_some body.required
is_whole body class = is_some (class_in body class)
