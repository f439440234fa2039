-- The reports of a repository in which entries were edited, from those of before: what is kept, and what is told anew.
-- The reports are those of before that aren't stale, and those told anew behind them, in order. A report is stale where
-- its package is edited, or where its keyword rests on the atoms of a class that has one of the name of an edited entry
-- (`is_stale`). What is told anew needs no query (`told_anew`), or is the report of a query that is due (`is_due`).
use Rattle.std.specs.Prelude.{◌≡◌, ℕ, ◌+◌, ◌≤◌, Bool, true, false, not, ◌&&◌, ◌||◌, if◌then◌else◌, List, [], ◌++◌, length, map, filter, flat_map, filter_map}
use Rattle.std.specs.List.{AllByRecursion, list_any}
use Rattle.std.specs.Option.{option_map_or}
use Rattle.std.specs.Ordering.{eq_by_cmp}
use Rattle.gv_base.specs.Counts.{Counts}
use Rattle.gv_base.specs.Order.{has_text}
use Rattle.gv_atom.specs.declared.atom.Atom.{Atom}
use Rattle.gv_entry.specs.declared.entry.Body.{Body}
use Rattle.gv_facts.specs.declared.kinds.Class.{Class}
use Rattle.gv_reading.specs.Paths.{within}
use Rattle.gv_report.specs.Keyword.{has_keyword}
use Rattle.gv_report.specs.Order.{subject_cmp}
use Rattle.gv_report.specs.Selecting.{selected}
use Rattle.gv_report.specs.declared.keyword.Keyword.{Keyword}
use Rattle.gv_report.specs.declared.keyword.Keyword.TheVariants as keywords
use Rattle.gv_report.specs.declared.options.Options.{Options}
use Rattle.gv_report.specs.declared.report.Report.{Report}
use Rattle.gv_report.specs.declared.report.Subject.{Subject}
use Rattle.gv_reload.specs.EntryEdits.{DifferIn, entry_name, is_edited, is_edited_pkg}
use Rattle.gv_load.specs.Repository.{AreInPackageOrder}
use Rattle.gv_load.specs.declared.loading.Repo.{Repo}
use Rattle.gv_plain.specs.Cases.{Member, members}
use Rattle.gv_checks.specs.Limits.{IsWithin}
use Rattle.gv_plain.specs.Plain.{told_member}
use Rattle.gv_checks.specs.Queries.{Query, queries}
use Rattle.gv_plain.specs.PlainReports.{atoms_in, nonexistent_in, readable_classes, subject_of}
use Rattle.gv_checks.specs.RepoReports.{query_report, scan_reports}

-- ---- what is due

-- the atom has the category and name of an edited entry
abbrev pub is_wanted : (paths : List (List ℕ)) → Atom → Bool
is_wanted paths atom = has_text (map entry_name paths) (within atom.category atom.name)

-- the class has such an atom that is no blocker
abbrev pub mentions : (paths : List (List ℕ)) → Body → Class → Bool
mentions paths body class = list_any (is_wanted paths) (atoms_in body class)

-- a query of an edited package, or of a class with such an atom
abbrev pub is_due : (paths : List (List ℕ)) → Query → Bool
is_due paths q = is_edited_pkg paths q.case.member.pkg || mentions paths q.case.member.body q.class

-- ---- what is stale

-- these keywords' reports rest on the packages that a class's atoms name
abbrev pub rests_on_atoms : Keyword → Bool
rests_on_atoms keywords.NonexistentDeps = true
rests_on_atoms keywords.NonsolvableDepsInStable = true
rests_on_atoms keywords.NonsolvableDepsInDev = true
rests_on_atoms keywords.NonsolvableDepsInExp = true
rests_on_atoms other = false

-- the package of this subject has such an atom in this class
abbrev pub is_stale_class : (paths : List (List ℕ)) → List Member → Subject → Class → Bool
is_stale_class paths ms s class = list_any (λ m. eq_by_cmp subject_cmp (subject_of m.pkg) s && mentions paths m.body class) ms

-- a report of an edited package, or of such a class
abbrev pub is_stale : (paths : List (List ℕ)) → List Member → Report → Bool
is_stale paths ms r =
    is_edited paths r.subject || (rests_on_atoms r.keyword && option_map_or (is_stale_class paths ms r.subject) r.class false)

abbrev pub is_lasting : (paths : List (List ℕ)) → List Member → Report → Bool
is_lasting paths ms r = not (is_stale paths ms r)

-- ---- what is told anew

-- of a package that isn't edited: the atoms of such classes that match no package
abbrev pub told_anew_in : Options → (paths : List (List ℕ)) → Repo → Member → List Report
told_anew_in o paths repo m =
    if has_keyword o.keywords keywords.NonexistentDeps then flat_map (nonexistent_in repo.pkgs m.pkg m.body) (filter (mentions paths m.body) (readable_classes m.pkg m.body)) else []

abbrev pub told_anew : Options → (paths : List (List ℕ)) → Repo → Member → List Report
told_anew o paths repo m = if is_edited_pkg paths m.pkg then told_member o repo m else told_anew_in o paths repo m

-- the selected notes, what is told of packages, and the reports of the queries that are due
abbrev pub fresh_reports : Options → (paths : List (List ℕ)) → Repo → List Report
fresh_reports o paths repo =
    (filter (selected o) repo.notes ++ flat_map (told_anew o paths repo) (members repo)) ++ filter_map query_report (filter (is_due paths) (queries o repo))

-- ---- the whole

-- reports of before are those of a repository that differs in these entries alone, and each of its queries was within the limits
pub record AreOfBefore (o : Options) (paths : List (List ℕ)) (whole : Repo) (before : List Report) : Type 0 where
  pub old : Repo
  pub old_order : AreInPackageOrder old.pkgs
  pub old_bodies : length old.bodies ≡ length old.pkgs
  pub differ : DifferIn paths old whole
  pub within : AllByRecursion IsWithin (queries o old)
  pub reports : before ≡ scan_reports o old

-- the reports of a scan of it; each query is within the limits; at most those that are due were lowered and solved
pub record IsRenewed (o : Options) (paths : List (List ℕ)) (whole : Repo) (before now : Counts) (reports : List Report) : Type 0 where
  pub reports_are : reports ≡ scan_reports o whole
  pub within : AllByRecursion IsWithin (queries o whole)
  pub lowered : now.lower ≤ before.lower + length (filter (is_due paths) (queries o whole))
  pub solved : now.solve ≤ before.solve + length (filter (is_due paths) (queries o whole))
