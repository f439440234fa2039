-- Lemmas, no rule, for this crate and those above: what is noted of a repository is of no class.
use Rattle.std.proofs.Common.{List, [], ◌∷◌, ◌++◌, map, refl}
use Rattle.std.specs.Prelude.{flat_map}
use Rattle.gv_entry.specs.declared.entry.EntryError.{EntryError}
use Rattle.gv_profile.specs.declared.notes.PlaceNote.{PlaceNote}
use Rattle.gv_report.specs.declared.keyword.Keyword.{Keyword}
use Rattle.gv_report.specs.declared.keyword.Keyword.TheVariants as keywords
use Rattle.gv_report.specs.declared.report.Report.{Report}
use Rattle.gv_report.specs.declared.report.Subject.{Subject}
use Rattle.gv_load.specs.Repository.{AreClassless}
use Rattle.gv_load.specs.Notes.{error_report, kept_notes, pf_notes, place_report}
use Rattle.gv_load.specs.PartsRead.{notes_with}
use Rattle.gv_load.specs.declared.freshness.Kept.{Kept}
use Rattle.gv_load.specs.declared.freshness.Kept.TheVariants.{Nothing, Missing, Orphan, Stale, Current}
use Rattle.gv_load.specs.declared.freshness.PfKept.{PfKept}
use Rattle.gv_load.specs.declared.line_profiles.Profiled.{Profiled}
use Rattle.gv_load.specs.declared.lists.Lists.{Lists}

pub both : (rs ss : List Report) → AreClassless rs → AreClassless ss → AreClassless (rs ++ ss)
both [] ss one two = two
both (r ∷ rs) ss one two = (one.0, both rs ss one.1 two)

pub of_places : (keyword : Keyword) (notes : List PlaceNote) → AreClassless (map (place_report keyword) notes)
of_places keyword [] = tt
of_places keyword (n ∷ ns) = (refl, of_places keyword ns)

of_errors : (subject : Subject) (errors : List EntryError) → AreClassless (map (error_report subject) errors)
of_errors subject [] = tt
of_errors subject (e ∷ es) = (refl, of_errors subject es)

of_kept : (subject : Subject) (kept : Kept) → AreClassless (kept_notes subject kept)
of_kept subject Nothing = tt
of_kept subject Missing = (refl, tt)
of_kept subject Orphan = (refl, tt)
of_kept subject (Stale why) = (refl, tt)
of_kept subject (Current e) = of_errors subject e.errors

pub of_pfs : (kepts : List PfKept) → AreClassless (flat_map pf_notes kepts)
of_pfs [] = tt
of_pfs (k ∷ ks) = both (pf_notes k) (flat_map pf_notes ks) (of_kept k.subject k.kept) (of_pfs ks)

pub of_parts : (lists : Lists) (profiled : Profiled) (kepts : List PfKept) → AreClassless (notes_with lists profiled kepts)
of_parts lists profiled kepts =
    both _ _ (of_places keywords.ProfileNote lists.notes)
    (both _ _ (of_places keywords.ProfileNote profiled.notes) (both _ _ (of_places keywords.ProfileError profiled.errors) (of_pfs kepts)))
