-- What a PF is: its entry is current, stale, an orphan or missing (PMS chapter 14).
use Rattle.std.specs.Prelude.{ℕ, Bool, false, if◌then◌else◌, List, [], ◌∷◌, map, Option, Some, None}
use Rattle.std.specs.Option.{option_map}
use Rattle.std.specs.Str.{bytes_eq}
use Rattle.gv_entry.specs.declared.entry.Eclass.{Eclass}
use Rattle.gv_entry.specs.declared.entry.Entry.{Entry}
use Rattle.gv_load.specs.declared.entries.PfRead.{PfRead}
use Rattle.gv_load.specs.Entries.{all_reads, eclass_digest}
use Rattle.gv_reading.specs.Look.{Look}
use Rattle.gv_load.specs.declared.freshness.Kept.{Kept}
use Rattle.gv_load.specs.declared.freshness.Kept.TheVariants.{Nothing, Missing, Orphan, Stale, Current}
use Rattle.gv_load.specs.declared.freshness.PfKept.{PfKept}
use Rattle.gv_load.specs.declared.freshness.Why.{Why}
use Rattle.gv_load.specs.declared.freshness.Why.TheVariants.{Ebuild, Eclasses, OneEclass}

-- the digests of eclasses by name, none where one is no file
abbrev pub Digests : Type 0
Digests = List ℕ → Option (List ℕ)

-- whether a digest is there, and is that one
abbrev pub is_that : Option (List ℕ) → List ℕ → Bool
is_that None digest = false
is_that (Some found) digest = bytes_eq found digest

-- the first eclass in the order of the entry that isn't there as it says
abbrev pub first_other : Digests → List Eclass → Option (List ℕ)
first_other digests [] = None
first_other digests (e ∷ es) = if is_that (digests e.name) e.digest then first_other digests es else Some e.name

abbrev pub stale_eclasses : Digests → Option (List Eclass) → Option Why
stale_eclasses digests None = Some Eclasses
stale_eclasses digests (Some es) = option_map OneEclass (first_other digests es)

-- why an entry isn't current: its digest isn't that of the ebuild, its list of eclasses can't be read, or an eclass differs
abbrev pub stale : Digests → Entry → (ebuild : List ℕ) → Option Why
stale digests e ebuild = if is_that e.digest ebuild then stale_eclasses digests e.eclasses else Some Ebuild

abbrev pub kept_with : Entry → Option Why → Kept
kept_with e None = Current e
kept_with e (Some why) = Stale why

-- neither entry nor ebuild, an ebuild without an entry, an entry without an ebuild, or both
abbrev pub kept_as : Digests → Option Entry → (ebuild : Option (List ℕ)) → Kept
kept_as digests None None = Nothing
kept_as digests None (Some ebuild) = Missing
kept_as digests (Some e) None = Orphan
kept_as digests (Some e) (Some ebuild) = kept_with e (stale digests e ebuild)

abbrev pub judged : Digests → PfRead → Kept
judged digests r = kept_as digests r.entry r.ebuild

-- with the PF that it is said of
abbrev pub pf_kept : Digests → PfRead → PfKept
pf_kept digests r = record { subject = r.subject; kept = judged digests r }

-- what each PF of the categories is in a tree
abbrev pub all_kept : Look → List (List ℕ) → List PfKept
all_kept look categories = map (pf_kept (eclass_digest look)) (all_reads look categories)
