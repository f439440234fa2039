-- Which queries of a repository are judged, and of which packages is told what needs none.
use Rattle.std.specs.Prelude.{ℕ, ◌+◌, ◌%◌, Bool, true, false, not, ◌&&◌, ◌||◌, nat_eq, nat_lt, if◌then◌else◌, List, [], ◌∷◌, flat_map, Option, None, Some, slice_get, unwrap_or}
use Rattle.gv_facts.specs.declared.kinds.Class.{Class}
use Rattle.gv_facts.specs.declared.kinds.Class.TheVariants.{Bdepend, Depend, Idepend, Pdepend, Rdepend, Required}
use Rattle.gv_report.specs.declared.options.Options.{Options}
use Rattle.gv_report.specs.declared.report.Report.{Report}
use Rattle.gv_load.specs.declared.loading.Repo.{Repo}
use Rattle.gv_plain.specs.Cases.{Member, members}
use Rattle.gv_plain.specs.Plain.{told_member}
use Rattle.gv_checks.specs.Queries.{Query}
use Rattle.gv_checks.specs.declared.chosen.Chosen.{Chosen}
use Rattle.gv_checks.specs.declared.chosen.Chosen.TheVariants.{All, Classes, Packages, Part}
use Rattle.gv_checks.specs.declared.chosen.ClassSet.{ClassSet}

abbrev pub has : ClassSet → Class → Bool
has s Required = s.required
has s Depend = s.depend
has s Bdepend = s.bdepend
has s Rdepend = s.rdepend
has s Pdepend = s.pdepend
has s Idepend = s.idepend

abbrev pub is_none : ClassSet → Bool
is_none s = not (s.required || (s.depend || (s.bdepend || (s.rdepend || (s.pdepend || s.idepend)))))

-- Of the package of a number: whether its bit is on;
abbrev pub is_own : List Bool → ℕ → Bool
is_own bits number = unwrap_or (slice_get bits number) false

abbrev pub has_in : Option ClassSet → Class → Bool
has_in None class = false
has_in (Some s) class = has s class

-- whether its set has the class;
abbrev pub has_class : List ClassSet → (number : ℕ) → Class → Bool
has_class sets number class = has_in (slice_get sets number) class

abbrev pub is_none_in : Option ClassSet → Bool
is_none_in None = true
is_none_in (Some s) = is_none s

-- and whether it has none.
abbrev pub has_none : List ClassSet → (number : ℕ) → Bool
has_none sets number = is_none_in (slice_get sets number)

-- query number q is of part ((q - 1) modulo parts) + 1; its place is q - 1
abbrev pub is_in_part : (part parts place : ℕ) → Bool
is_in_part part parts place = nat_lt 0 parts && nat_eq (place % parts + 1) part

-- whether the query of this place among all is chosen
abbrev pub is_chosen : Chosen → (place : ℕ) → (number : ℕ) → Class → Bool
is_chosen All place number class = true
is_chosen (Packages own) place number class = is_own own.now number
is_chosen (Classes sets) place number class = has_class sets.now number class
is_chosen (Part part parts) place number class = is_in_part part parts place

-- those that are, where the first has this place
abbrev pub chosen_from : Chosen → (place : ℕ) → List Query → List Query
chosen_from c place [] = []
chosen_from c place (q ∷ qs) =
    if is_chosen c place q.case.member.number q.class then q ∷ chosen_from c (place + 1) qs else chosen_from c (place + 1) qs

abbrev pub chosen : Chosen → List Query → List Query
chosen c qs = chosen_from c 0 qs

-- no query of the package is chosen, wherever they stand
abbrev pub is_passed : Chosen → (number : ℕ) → Bool
is_passed All number = false
is_passed (Packages own) number = not (is_own own.now number)
is_passed (Classes sets) number = has_none sets.now number
is_passed (Part part parts) number = false

-- of the package is told what needs no query
abbrev pub tells : Chosen → (number : ℕ) → Bool
tells All number = true
tells (Packages own) number = is_own own.now number
tells (Classes sets) number = false
tells (Part part parts) number = false

abbrev pub told_of : Chosen → Options → Repo → Member → List Report
told_of c o repo m = if tells c m.number then told_member o repo m else []

-- what is told of packages without a query
abbrev pub told_chosen : Chosen → Options → Repo → List Report
told_chosen c o repo = flat_map (told_of c o repo) (members repo)
