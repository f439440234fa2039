-- For private contracts: reports of one category stand together, and in it those of one package, and where some may be stale.
-- So the places of the stale ones are found by asking only those of packages that are edited, or of whose name one is
-- touched. `exchanged` of `gv_report` puts what is told anew in their place: only between the first and the last
-- difference reports are taken out, those in front stay, and those behind are moved.
use Rattle.std.specs.Prelude.{◌≡◌, ℕ, ◌+◌, Bool, true, false, ◌||◌, ◌≤◌, List, ◌++◌, length, filter, slice_get}
use Rattle.std.specs.List.{AllByRecursion, list_any}
use Rattle.std.specs.Option.{option_map_or}
use Rattle.std.specs.Str.{bytes_eq}
use Rattle.gv_base.specs.Order.{has_text}
use Rattle.gv_facts.specs.Places.{is_pkg_of, places_from}
use Rattle.gv_report.specs.Distinct.{is_before}
use Rattle.gv_report.specs.Sorting.{AreAscending}
use Rattle.gv_report.specs.declared.report.Report.{Report}
use Rattle.gv_report.specs.declared.report.Subject.{Subject}
use Rattle.gv_report.specs.declared.report.Subject.TheVariants.{Package, Place}
use Rattle.gv_reload.specs.EntryEdits.{is_edited, is_edited_in}
use Rattle.gv_renew.specs.Touched.{is_stale_by, touches}
use Rattle.gv_renew.specs.declared.lasting.Run.{Run}
use Rattle.gv_renew.specs.declared.touched.Touched.{Touched}

-- of one category, or both of none
abbrev pub are_together : Subject → Subject → Bool
are_together (Place p l) (Place q m) = true
are_together (Place p l) (Package d m w g) = false
are_together (Package c n v f) (Place q m) = false
are_together (Package c n v f) (Package d m w g) = bytes_eq c d

abbrev pub is_of : Subject → Report → Bool
is_of s r = are_together s r.subject

abbrev pub category_at : Touched → List ℕ
category_at t = t.pkg.now.category

-- an entry of its category is edited, or its category is one of these
abbrev pub is_near : (paths categories : List (List ℕ)) → Subject → Bool
is_near paths categories (Place path line) = false
is_near paths categories (Package c n v f) = is_edited_in paths c || has_text categories c

abbrev pub is_of_name : (category name : List ℕ) → Touched → Bool
is_of_name category name t = is_pkg_of category name t.pkg.now

-- its entry is edited, or something of a package of its name rests on edited entries
abbrev pub may_be_stale : (paths : List (List ℕ)) → List Touched → Subject → Bool
may_be_stale paths ts (Place path line) = false
may_be_stale paths ts (Package c n v f) = is_edited paths (Package c n v f) || list_any touches (filter (is_of_name c n) ts)

abbrev pub touches_place : List Touched → ℕ → Bool
touches_place ts place = option_map_or touches (slice_get ts place) false

-- reports in front, some, and those behind; of a run that isn't near none may be stale
pub record IsRun (may : Subject → Bool) (rest : List Report) (run : Run) : Type 0 where
  pub parts : rest ≡ run.here.now ++ run.behind.now
  pub some : 1 ≤ length run.here.now
  pub far : run.near ≡ false → AllByRecursion (λ (r : Report). may r.subject ≡ false) run.here.now

abbrev pub NoneStale : (paths : List (List ℕ)) → List Touched → List Report → Type 0
NoneStale paths ts rs = AllByRecursion (λ (r : Report). is_stale_by paths ts r ≡ false) rs

-- what is left of reports, from this place on: with the places in it, those that were found are the old ones and those in all
pub record IsLeft (test : Report → Bool) (start : ℕ) (all : List Report) (old : List ℕ) (at : ℕ) (rest : List Report) (places : List ℕ) : Type 0 where
  pub order : AreAscending is_before rest
  pub fits : at + length rest ≡ start + length all
  pub places_are : places ++ places_from at test rest ≡ old ++ places_from start test all
