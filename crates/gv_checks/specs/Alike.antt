-- For the contracts of private functions: classes of a package that have one and the same expression.
-- DEPEND and RDEPEND are often such, and so are all empty ones. They ask one and the same query in a context, since a
-- query rests on the class's expression and not on its name. They are found once for the package.
use Rattle.std.specs.Prelude.{◌≡◌}
use Rattle.gv_entry.specs.Queries.{class_in}
use Rattle.gv_entry.specs.declared.entry.Body.{Body}
use Rattle.gv_facts.specs.declared.kinds.Class.{Class}
use Rattle.gv_facts.specs.declared.kinds.Class.TheVariants.{Required, Depend, Bdepend, Rdepend, Pdepend, Idepend}
use Rattle.gv_checks.specs.declared.alike.Firsts.{Firsts}

abbrev pub first_at : Firsts → Class → Class
first_at f Required = Required
first_at f Depend = Depend
first_at f Bdepend = f.bdepend
first_at f Rdepend = f.rdepend
first_at f Pdepend = f.pdepend
first_at f Idepend = f.idepend

-- each has the expression of the class that it stands for
abbrev pub AreFirsts : Body → Firsts → Type 0
AreFirsts body f = (class : Class) → class_in body (first_at f class) ≡ class_in body class
