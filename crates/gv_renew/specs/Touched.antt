-- For private contracts: what of a package rests on edited entries.
-- Of each package it is found whether its entry is edited, and which of its classes have an atom of the name of an
-- edited entry. So that this goes through no atoms of the others, only where one of the numbers of the names that its
-- classes mention is that of an edited name the classes themselves are asked.
use Rattle.std.specs.Prelude.{◌≡◌, ℕ, Bool, false, not, ◌&&◌, ◌||◌, if◌then◌else◌, List, [], ◌++◌, map, filter, flat_map, slice_get, Some}
use Rattle.std.specs.List.{AllByRecursion, list_any}
use Rattle.std.specs.Option.{option_map_or}
use Rattle.std.specs.Ordering.{eq_by_cmp}
use Rattle.gv_entry.specs.declared.entry.Body.{Body}
use Rattle.gv_facts.specs.declared.kinds.Class.{Class}
use Rattle.gv_facts.specs.declared.kinds.Class.TheVariants.{Bdepend, Depend, Idepend, Pdepend, Rdepend, Required}
use Rattle.gv_facts.specs.declared.pkg.Pkg.{Pkg}
use Rattle.gv_report.specs.Keyword.{has_keyword}
use Rattle.gv_report.specs.Order.{subject_cmp}
use Rattle.gv_report.specs.declared.keyword.Keyword.TheVariants as keywords
use Rattle.gv_report.specs.declared.options.Options.{Options}
use Rattle.gv_report.specs.declared.report.Report.{Report}
use Rattle.gv_report.specs.declared.report.Subject.{Subject}
use Rattle.gv_load.specs.declared.loading.Repo.{Repo}
use Rattle.gv_plain.specs.Cases.{Member, members_from}
use Rattle.gv_plain.specs.Classes.{classes}
use Rattle.gv_reload.specs.EntryEdits.{is_edited, is_edited_pkg}
use Rattle.gv_plain.specs.Plain.{told_member}
use Rattle.gv_renew.specs.Renewal.{mentions, rests_on_atoms}
use Rattle.gv_plain.specs.PlainReports.{is_readable, nonexistent_in, subject_of}
use Rattle.gv_plain.specs.Telling.{told_of_class_at}
use Rattle.gv_renew.specs.declared.touched.Touched.{Touched}

-- what was found of a class
abbrev pub mentions_at : Touched → Class → Bool
mentions_at t Required = false
mentions_at t Depend = t.depend
mentions_at t Bdepend = t.bdepend
mentions_at t Rdepend = t.rdepend
mentions_at t Pdepend = t.pdepend
mentions_at t Idepend = t.idepend

abbrev pub member_at : Touched → Member
member_at t = record { number = t.number; pkg = t.pkg.now; body = t.body.now }

-- what is found of a package
pub record IsFound (paths : List (List ℕ)) (m : Member) (t : Touched) : Type 0 where
  pub number_is : t.number ≡ m.number
  pub pkg_is : t.pkg.now ≡ m.pkg
  pub body_is : t.body.now ≡ m.body
  pub edited_is : t.edited ≡ is_edited_pkg paths m.pkg
  pub depend_is : t.depend ≡ mentions paths m.body Depend
  pub bdepend_is : t.bdepend ≡ mentions paths m.body Bdepend
  pub rdepend_is : t.rdepend ≡ mentions paths m.body Rdepend
  pub pdepend_is : t.pdepend ≡ mentions paths m.body Pdepend
  pub idepend_is : t.idepend ≡ mentions paths m.body Idepend

-- the same, by itself
pub record IsTouched (paths : List (List ℕ)) (t : Touched) : Type 0 where
  pub edited_is : t.edited ≡ is_edited_pkg paths t.pkg.now
  pub mentions_are : (class : Class) → mentions_at t class ≡ mentions paths t.body.now class

-- it has its number among the packages, and so has its body
pub record IsIn (pkgs : List Pkg) (bodies : List Body) (t : Touched) : Type 0 where
  pub pkg_is : slice_get pkgs t.number ≡ Some t.pkg.now
  pub body_is : slice_get bodies t.number ≡ Some t.body.now

-- one for each of the packages
pub record AreTouched (paths : List (List ℕ)) (pkgs : List Pkg) (bodies : List Body) (ts : List Touched) : Type 0 where
  pub members_are : map member_at ts ≡ members_from 0 pkgs bodies
  pub numbered : AllByRecursion (IsIn pkgs bodies) ts
  pub each : AllByRecursion (IsTouched paths) ts

-- what was found of the first packages
pub record IsSoFar (paths : List (List ℕ)) (pkgs : List Pkg) (bodies : List Body) (rest : List Member) (ts : List Touched) : Type 0 where
  pub members_are : map member_at ts ++ rest ≡ members_from 0 pkgs bodies
  pub numbered : AllByRecursion (IsIn pkgs bodies) ts
  pub each : AllByRecursion (IsTouched paths) ts

-- something of it rests on edited entries
abbrev pub touches : Touched → Bool
touches t = t.edited || (t.depend || (t.bdepend || (t.rdepend || (t.pdepend || t.idepend))))

-- Which reports are stale by what was found: of the package of this subject, that the class has such an atom;
abbrev pub pkg_at : Touched → Pkg
pkg_at t = t.pkg.now

abbrev pub is_stale_at : Subject → Class → Touched → Bool
is_stale_at s class t = eq_by_cmp subject_cmp (subject_of t.pkg.now) s && mentions_at t class

-- at a place;
abbrev pub is_stale_place : Subject → Class → List Touched → ℕ → Bool
is_stale_place s class ts place = option_map_or (is_stale_at s class) (slice_get ts place) false

-- anywhere
abbrev pub is_stale_among : List Touched → Subject → Class → Bool
is_stale_among ts s class = list_any (is_stale_at s class) ts

abbrev pub is_stale_in : List Touched → Report → Bool
is_stale_in ts r = option_map_or (is_stale_among ts r.subject) r.class false

abbrev pub is_stale_by : (paths : List (List ℕ)) → List Touched → Report → Bool
is_stale_by paths ts r = is_edited paths r.subject || (rests_on_atoms r.keyword && is_stale_in ts r)

abbrev pub is_lasting_by : (paths : List (List ℕ)) → List Touched → Report → Bool
is_lasting_by paths ts r = not (is_stale_by paths ts r)

-- What is told anew of a class by what was found, by the package's number;
abbrev pub anew_of : Options → Repo → Touched → Class → List Report
anew_of o repo t class = if mentions_at t class then told_of_class_at class o repo t.number else []

-- and of all.
abbrev pub anew_among : List Pkg → Touched → List Class → List Report
anew_among pkgs t classes = flat_map (nonexistent_in pkgs t.pkg.now t.body.now) (filter (mentions_at t) (filter (is_readable t.pkg.now t.body.now) classes))

abbrev pub anew_in : Options → List Pkg → Touched → List Report
anew_in o pkgs t = if has_keyword o.keywords keywords.NonexistentDeps then anew_among pkgs t classes else []

abbrev pub anew_at : Options → Repo → Touched → List Report
anew_at o repo t = if t.edited then told_member o repo (member_at t) else anew_in o repo.pkgs t
