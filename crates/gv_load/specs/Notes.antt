-- What is told of a repository besides its packages and profiles: bad lines, stacks with a fault, entries that are no packages.
use Rattle.std.specs.Prelude.{ℕ, Bool, true, false, not, List, [], ◌∷◌, ◌++◌, map, flat_map, filter_map, Option, Some, None, if◌then◌else◌, codes}
use Rattle.gv_entry.specs.declared.entry.EntryError.{EntryError}
use Rattle.gv_profile.specs.Desc.{desc_read}
use Rattle.gv_profile.specs.BadLines.{dir_notes, mask_notes}
use Rattle.gv_profile.specs.Lines.{line_words, numbered_lines}
use Rattle.gv_profile.specs.declared.files.DirFiles.{DirFiles}
use Rattle.gv_profile.specs.declared.notes.PlaceNote.{PlaceNote}
use Rattle.gv_report.specs.declared.keyword.Keyword.{Keyword}
use Rattle.gv_report.specs.declared.keyword.Keyword.TheVariants as keywords
use Rattle.gv_report.specs.declared.report.Report.{Report}
use Rattle.gv_report.specs.declared.report.Subject.{Subject}
use Rattle.gv_report.specs.declared.report.Subject.TheVariants.{Place}
use Rattle.gv_version.specs.Names.{is_category}
use Rattle.gv_reading.specs.Look.{Look, text_at}
use Rattle.gv_load.specs.Directories.{dir_at}
use Rattle.gv_reading.specs.NamedFiles.{files_at}
use Rattle.gv_load.specs.Freshness.{all_kept}
use Rattle.gv_load.specs.declared.freshness.Kept.{Kept}
use Rattle.gv_load.specs.declared.freshness.Kept.TheVariants.{Nothing, Missing, Orphan, Stale, Current}
use Rattle.gv_load.specs.declared.freshness.PfKept.{PfKept}
use Rattle.gv_load.specs.declared.freshness.Why.{Why}
use Rattle.gv_load.specs.declared.freshness.Why.TheVariants.{Ebuild, Eclasses, OneEclass}
use Rattle.gv_load.specs.Order.{desc_lines, categories, reached}
use Rattle.gv_profile.specs.Names.{desc_path}
use Rattle.gv_load.specs.Paths.{categories_path, mask_path}
use Rattle.gv_load.specs.Reaching.{Dirs}
use Rattle.gv_load.specs.Stacks.{error_at}

-- ---- reports: of a line of a file, or of the package that a PF is of

abbrev pub place_report : Keyword → PlaceNote → Report
place_report keyword note = record { subject = Place note.path note.line; keyword = keyword; class = None; context = None; witness = None; detail = Some note.detail }

abbrev pub pf_report : Keyword → Subject → (detail : Option (List ℕ)) → Report
pf_report keyword subject detail = record { subject = subject; keyword = keyword; class = None; context = None; witness = None; detail = detail }

-- ---- bad lines

-- a line of `categories` that has words but isn't one category
abbrev pub is_bad_category : List (List ℕ) → Bool
is_bad_category [] = false
is_bad_category (word ∷ []) = not (is_category word)
is_bad_category (word ∷ next ∷ words) = true

unfoldable pub category_detail : List ℕ
category_detail = codes "bad category"

abbrev pub bad_category : ℕ → List (List ℕ) → Option PlaceNote
bad_category line words = if is_bad_category words then Some (record { path = categories_path; line = line; detail = category_detail }) else None

abbrev pub category_notes : List ℕ → List PlaceNote
category_notes bytes = filter_map (λ l. bad_category l.0 (line_words l.1)) (numbered_lines bytes)

-- of the lists at the top and of the repository's own masks
abbrev pub own_notes : Look → List PlaceNote
own_notes look =
    (desc_read (text_at look desc_path)).notes ++ (category_notes (text_at look categories_path) ++ mask_notes (files_at look mask_path))

-- of the directories that were read. Equal ones are told once when they are printed
abbrev pub notes_at : List ℕ → Option DirFiles → List PlaceNote
notes_at dir None = []
notes_at dir (Some files) = dir_notes dir files

abbrev pub notes_in : Dirs → List (List ℕ) → List PlaceNote
notes_in dirs reached = flat_map (λ dir. notes_at dir (dirs dir)) reached

-- ---- entries

unfoldable pub stale_detail : Why → List ℕ
stale_detail Ebuild = codes "ebuild"
stale_detail Eclasses = codes "eclasses"
stale_detail (OneEclass name) = codes "eclass " ++ name

abbrev pub error_report : Subject → EntryError → Report
error_report subject error = pf_report keywords.MetadataError subject (Some error.detail)

-- the errors of an entry are told where it is current
abbrev pub kept_notes : Subject → Kept → List Report
kept_notes subject Nothing = []
kept_notes subject Missing = pf_report keywords.MissingCache subject None ∷ []
kept_notes subject Orphan = pf_report keywords.OrphanCache subject None ∷ []
kept_notes subject (Stale why) = pf_report keywords.StaleCache subject (Some (stale_detail why)) ∷ []
kept_notes subject (Current e) = map (error_report subject) e.errors

abbrev pub pf_notes : PfKept → List Report
pf_notes k = kept_notes k.subject k.kept

-- ---- all of them: bad lines as they were read, stacks with a fault by line, and PFs as they were read
unfoldable pub repository_notes : Look → List Report
repository_notes look =
    map (place_report keywords.ProfileNote) (own_notes look)
    ++ (map (place_report keywords.ProfileNote) (notes_in (dir_at look) (reached look (desc_lines look)))
    ++ (map (place_report keywords.ProfileError) (filter_map (error_at (dir_at look)) (desc_lines look))
    ++ flat_map pf_notes (all_kept look (categories look))))
