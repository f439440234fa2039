-- Small repositories, by their computed values.
use Rattle.std.specs.Prelude.{◌≡◌, ℕ, Bool, true, false, List, [], ◌∷◌, ◌++◌, Option, None, Some, Result, Ok, Err, if◌then◌else◌, is_some, map, filter_map, codes, refl}
use Rattle.std.specs.FinMap.{get-empty}
use Rattle.std.specs.Fmt.{digits}
use Rattle.std.specs.List.{list_any}
use Rattle.std.specs.Str.{bytes_eq}
use Rattle.md5.specs.Md5.{md5, rounds, block_words, compress, hash_after, digest_bytes}
use Rattle.gv_base.specs.Listing.{below, next_part}
use Rattle.gv_base.specs.Order.{byte_cmp, in_order}
use Rattle.gv_base.specs.Outside.{found_as}
use Rattle.gv_facts.specs.declared.rules.Effect.{Effect}
use Rattle.gv_facts.specs.declared.rules.Effect.TheVariants as effects
use Rattle.gv_profile.specs.MaskLines.{file_atom}
use Rattle.gv_profile.specs.Names.{desc_path, profiles, eapi_path, parent_path, defaults_path, detail_of}
use Rattle.gv_profile.specs.Walking.{walk_below}
use Rattle.gv_profile.specs.declared.notes.PlaceNote.{PlaceNote}
use Rattle.gv_report.specs.declared.keyword.Keyword.TheVariants as keywords
use Rattle.gv_report.specs.declared.report.Report.{Report}
use Rattle.gv_load.specs.Directories.{dir_at, dir_steps}
use Rattle.gv_load.specs.Layout.{layout}
use Rattle.gv_load.specs.Loading.{loading}
use Rattle.gv_reading.specs.Look.{Look}
use Rattle.gv_reading.specs.declared.faults.LoadFault.{LoadFault}
use Rattle.gv_reading.specs.declared.faults.LoadFault.TheVariants.{NotARepository}
use Rattle.gv_load.specs.Categories.{pf_subject}
use Rattle.gv_load.specs.Notes.{category_detail, pf_report, place_report, repository_notes, stale_detail}
use Rattle.gv_load.specs.Order.{load_steps}
use Rattle.gv_load.specs.Paths.{categories_path, mask_path, cache_dir, ebuild_end, eclass_path, stack_place}
use Rattle.gv_load.specs.Reaching.{reach_below}
use Rattle.gv_reading.specs.Reading.{read, list, need, bound, once}
use Rattle.gv_load.specs.Stacks as stacks
use Rattle.gv_load.specs.Repository.{repository}
use Rattle.gv_load.specs.declared.loading.Repo.{Repo}

-- ---- the files of a repository, and what can be seen of them

abbrev Files : Type 0
Files = List (List ℕ × List ℕ)

abbrev bytes_of : Files → List ℕ → Option (List ℕ)
bytes_of [] path = None
bytes_of (f ∷ fs) path = if bytes_eq f.0 path then Some f.1 else bytes_of fs path

abbrev seen : Files → Look
seen files = record {
  found = λ path. found_as (bytes_of files path) (list_any (λ f. is_some (below path f.0)) files);
  names = λ path. in_order (filter_map (λ f. next_part path f.0) files);
}

-- one profile, two categories
abbrev top : Files
top = (codes "profiles/profiles.desc", codes "amd64 base stable\n") ∷ (codes "profiles/categories", codes "x\napp\n") ∷ (codes "profiles/base/eapi", codes "8\n") ∷ []

-- an entry for an empty ebuild; the first line of a key counts
abbrev entry : List ℕ → List ℕ
entry more = more ++ codes "EAPI=8\nSLOT=0\nKEYWORDS=amd64\n_md5_=d41d8cd98f00b204e9800998ecf8427e\n"

abbrev profile_error : PlaceNote → Report
profile_error note = place_report keywords.ProfileError note

abbrev profile_note : PlaceNote → Report
profile_note note = place_report keywords.ProfileNote note

abbrev metadata_error : (category pf detail : List ℕ) → Report
metadata_error category pf detail = pf_report keywords.MetadataError (pf_subject category pf) (Some detail)

abbrev stale_cache : (category pf detail : List ℕ) → Report
stale_cache category pf detail = pf_report keywords.StaleCache (pf_subject category pf) (Some detail)

abbrev orphan_cache : (category pf : List ℕ) → Report
orphan_cache category pf = pf_report keywords.OrphanCache (pf_subject category pf) None

abbrev missing_cache : (category pf : List ℕ) → Report
missing_cache category pf = pf_report keywords.MissingCache (pf_subject category pf) None

abbrev notes_of : Files → List Report
notes_of files = (repository (seen files)).notes

abbrev packages_of : Files → List (List ℕ)
packages_of files = map (λ p. p.category ++ 47 ∷ p.pf) (repository (seen files)).pkgs

-- the lines of `profiles.desc` whose stacks have no fault
abbrev profiles_of : Files → List ℕ
profiles_of files = map (λ p. p.line) (repository (seen files)).profiles

-- ---- an ebuild that is another than the entry's

abbrev stale_files : Files
stale_files = (codes "metadata/md5-cache/app/p-1", entry (codes "RDEPEND=x/y\n")) ∷ (codes "app/p/p-1.ebuild", [])
    ∷ (codes "metadata/md5-cache/x/y-1", entry []) ∷ (codes "x/y/y-1.ebuild", codes "a") ∷ top

stale_notes : notes_of stale_files ≡ stale_cache (codes "x") (codes "y-1") (codes "ebuild") ∷ []
unfolding repository repository_notes category_detail stale_detail dir_at layout desc_path categories_path mask_path cache_dir ebuild_end eclass_path reach_below walk_below profiles eapi_path parent_path md5 rounds block_words compress hash_after digest_bytes
stale_notes = refl

stale_packages : packages_of stale_files ≡ codes "app/p-1" ∷ []
unfolding repository dir_at layout desc_path categories_path mask_path cache_dir ebuild_end eclass_path reach_below walk_below profiles eapi_path parent_path md5 rounds block_words compress hash_after digest_bytes
stale_packages = refl

stale_profiles : profiles_of stale_files ≡ 1 ∷ []
unfolding repository dir_at layout desc_path categories_path mask_path cache_dir ebuild_end eclass_path reach_below walk_below profiles eapi_path parent_path md5 rounds block_words compress hash_after digest_bytes
stale_profiles = refl

-- ---- an ebuild without an entry, entries without an ebuild, and what is neither

abbrev missing_files : Files
missing_files = (codes "metadata/md5-cache/app/p-1", entry (codes "RDEPEND=x/y\n")) ∷ (codes "app/p/p-1.ebuild", []) ∷ (codes "x/y/y-1.ebuild", []) ∷ top

missing_told : (notes_of missing_files ≡ missing_cache (codes "x") (codes "y-1") ∷ []) × (packages_of missing_files ≡ codes "app/p-1" ∷ [])
unfolding repository repository_notes category_detail stale_detail dir_at layout desc_path categories_path mask_path cache_dir ebuild_end eclass_path reach_below walk_below profiles eapi_path parent_path md5 rounds block_words compress hash_after digest_bytes
missing_told = (refl, refl)

-- an ebuild that is a folder is no file, and neither is such an entry; an ebuild in the folder of another name is none, and
-- names that are no PFs are passed over
abbrev odd_files : Files
odd_files = (codes "metadata/md5-cache/x/a-1", codes "EAPI=4\n") ∷ (codes "x/a/a-1.ebuild/file", [])
    ∷ (codes "metadata/md5-cache/x/b-1/file", []) ∷ (codes "x/b/b-1.ebuild", [])
    ∷ (codes "metadata/md5-cache/x/c-1/file", [])
    ∷ (codes "x/d/e-1.ebuild", []) ∷ (codes "x/d/d.ebuild", []) ∷ (codes "metadata/md5-cache/x/Manifest.gz", [])
    ∷ (codes "y/f/f-1.ebuild", []) ∷ top

odd_told : (notes_of odd_files ≡ orphan_cache (codes "x") (codes "a-1") ∷ missing_cache (codes "x") (codes "b-1") ∷ []) × (packages_of odd_files ≡ [])
unfolding repository repository_notes category_detail stale_detail dir_at layout desc_path categories_path mask_path cache_dir ebuild_end eclass_path reach_below walk_below profiles eapi_path parent_path md5 rounds block_words compress hash_after digest_bytes
odd_told = (refl, refl)

-- ---- errors of entries, and packages in their order

abbrev error_files : Files
error_files = (codes "metadata/md5-cache/x/y-1", entry []) ∷ (codes "x/y/y-1.ebuild", [])
    ∷ (codes "metadata/md5-cache/app/p-9999", entry (codes "PROPERTIES=live\nRDEPEND=q? ( x/y )\n")) ∷ (codes "app/p/p-9999.ebuild", [])
    ∷ (codes "metadata/md5-cache/app/q-1", entry (codes "EAPI=4\n")) ∷ (codes "app/q/q-1.ebuild", [])
    ∷ (codes "metadata/md5-cache/app/r-1", entry (codes "KEYWORDS=amd64 ~~x\n")) ∷ (codes "app/r/r-1.ebuild", []) ∷ top

errors_told : (notes_of error_files ≡ metadata_error (codes "app") (codes "q-1") (codes "EAPI: unsupported") ∷ metadata_error (codes "app") (codes "r-1") (codes "KEYWORDS: word 2") ∷ [])
    × (packages_of error_files ≡ codes "app/p-9999" ∷ codes "x/y-1" ∷ [])
unfolding repository repository_notes category_detail stale_detail dir_at layout desc_path categories_path mask_path cache_dir ebuild_end eclass_path reach_below walk_below profiles eapi_path parent_path md5 rounds block_words compress hash_after digest_bytes digits
errors_told = (refl, refl)

-- by version, and by PF where versions are equal; a broken class leaves the package
abbrev order_files : Files
order_files = (codes "metadata/md5-cache/app/p-10", entry []) ∷ (codes "app/p/p-10.ebuild", [])
    ∷ (codes "metadata/md5-cache/app/p-9", entry []) ∷ (codes "app/p/p-9.ebuild", [])
    ∷ (codes "metadata/md5-cache/app/p-9-r0", entry (codes "RDEPEND=(\n")) ∷ (codes "app/p/p-9-r0.ebuild", [])
    ∷ (codes "metadata/md5-cache/app/p-a-1", entry []) ∷ (codes "app/p-a/p-a-1.ebuild", []) ∷ top

order_told : (notes_of order_files ≡ metadata_error (codes "app") (codes "p-9-r0") (codes "RDEPEND: token 2: unclosed group") ∷ [])
    × (packages_of order_files ≡ codes "app/p-9" ∷ codes "app/p-9-r0" ∷ codes "app/p-10" ∷ codes "app/p-a-1" ∷ [])
unfolding repository repository_notes category_detail stale_detail dir_at layout desc_path categories_path mask_path cache_dir ebuild_end eclass_path reach_below walk_below profiles eapi_path parent_path md5 rounds block_words compress hash_after digest_bytes digits
order_told = (refl, refl)

-- ---- eclasses

abbrev eclass_files : Files
eclass_files = (codes "metadata/md5-cache/x/a-1", entry (codes "_eclasses_=one\td41d8cd98f00b204e9800998ecf8427e\ttwo\td41d8cd98f00b204e9800998ecf8427e\n")) ∷ (codes "x/a/a-1.ebuild", [])
    ∷ (codes "metadata/md5-cache/x/b-1", entry (codes "_eclasses_=one\tD41D8CD98F00B204E9800998ECF8427E\n")) ∷ (codes "x/b/b-1.ebuild", [])
    ∷ (codes "metadata/md5-cache/x/c-1", entry (codes "_eclasses_=one\n")) ∷ (codes "x/c/c-1.ebuild", [])
    ∷ (codes "metadata/md5-cache/x/d-1", entry (codes "EAPI=4\n_md5_=d41d\n_eclasses_=one\n")) ∷ (codes "x/d/d-1.ebuild", [])
    ∷ (codes "metadata/md5-cache/x/e-1", entry (codes "_eclasses_=zero\td41d8cd98f00b204e9800998ecf8427e\n")) ∷ (codes "x/e/e-1.ebuild", [])
    ∷ (codes "eclass/one.eclass", []) ∷ (codes "eclass/two.eclass", codes "a") ∷ top

eclasses_told : (notes_of eclass_files ≡ stale_cache (codes "x") (codes "a-1") (codes "eclass two") ∷ stale_cache (codes "x") (codes "c-1") (codes "eclasses")
    ∷ stale_cache (codes "x") (codes "d-1") (codes "ebuild") ∷ stale_cache (codes "x") (codes "e-1") (codes "eclass zero") ∷ [])
    × (packages_of eclass_files ≡ codes "x/b-1" ∷ [])
unfolding repository repository_notes category_detail stale_detail dir_at layout desc_path categories_path mask_path cache_dir ebuild_end eclass_path reach_below walk_below profiles eapi_path parent_path md5 rounds block_words compress hash_after digest_bytes digits
eclasses_told = (refl, refl)

-- ---- stacks: a directory that is reached twice, and a parent that leads back

abbrev three_files : Files
three_files = (codes "profiles/profiles.desc", codes "amd64 top stable\n") ∷ (codes "profiles/categories", codes "app\n") ∷ (codes "profiles/top/parent", codes "../base\n../undo\n../base\n")
    ∷ (codes "profiles/base/use.mask", codes "a\n") ∷ (codes "profiles/undo/use.mask", codes "-a\n") ∷ []

-- the rules of each profile
abbrev rules_of : Files → List (List (List ℕ × Bool))
rules_of files = map (λ p. map (λ r. (r.flag, r.on)) p.rules) (repository (seen files)).profiles

twice_told : (notes_of three_files ≡ []) × (rules_of three_files ≡ ((codes "a", true) ∷ (codes "a", false) ∷ (codes "a", true) ∷ []) ∷ [])
unfolding repository repository_notes category_detail stale_detail dir_at layout desc_path categories_path mask_path cache_dir ebuild_end eclass_path reach_below walk_below profiles eapi_path parent_path
twice_told = (refl, refl)

-- two lines may meet one cycle; what is reached behind a fault has its bad lines told
abbrev cycle_files : Files
cycle_files = (codes "profiles/undo/parent", codes "../top\n../late\n") ∷ (codes "profiles/late/use.force", codes "b\n?\n") ∷ three_files

cycle_told : (notes_of cycle_files ≡ profile_note (record { path = codes "profiles/late/use.force"; line = 2; detail = codes "bad flag" }) ∷ profile_error (record { path = (codes "profiles/undo/parent"); line = 1; detail = codes "cycle" }) ∷ [])
    × (profiles_of cycle_files ≡ [])
unfolding repository repository_notes category_detail stale_detail dir_at layout desc_path categories_path mask_path cache_dir ebuild_end eclass_path reach_below walk_below profiles eapi_path parent_path detail_of stacks.detail_of
cycle_told = (refl, refl)

-- a parent that isn't there
abbrev lost_files : Files
lost_files = (codes "profiles/top/parent", codes "../base\n\n../gone\n") ∷ three_files

lost_told : (notes_of lost_files ≡ profile_error (record { path = (codes "profiles/top/parent"); line = 3; detail = codes "missing parent" }) ∷ []) × (profiles_of lost_files ≡ [])
unfolding repository repository_notes category_detail stale_detail dir_at layout desc_path categories_path mask_path cache_dir ebuild_end eclass_path reach_below walk_below profiles eapi_path parent_path detail_of stacks.detail_of
lost_told = (refl, refl)

-- ---- the eight files of flags, by their names, with what comes of a line of each

abbrev eight_files : Files
eight_files = (codes "profiles/base/use.mask", codes "um\n") ∷ (codes "profiles/base/use.force", codes "uf\n")
    ∷ (codes "profiles/base/use.stable.mask", codes "usm\n") ∷ (codes "profiles/base/use.stable.force", codes "usf\n")
    ∷ (codes "profiles/base/package.use.mask", codes "x/y pm\n") ∷ (codes "profiles/base/package.use.force", codes "x/y pf\n")
    ∷ (codes "profiles/base/package.use.stable.mask", codes "x/y psm\n") ∷ (codes "profiles/base/package.use.stable.force", codes "x/y psf\n") ∷ top

-- the flag, what is done to it, whether under stable restrictions alone, and whether for the packages of an atom alone
abbrev effects_of : Files → List (List (List ℕ × Effect × Bool × Bool))
effects_of files = map (λ p. map (λ r. (r.flag, r.effect, r.stable, is_some r.atom)) p.rules) (repository (seen files)).profiles

eight_told : effects_of eight_files ≡
    ((codes "um", effects.Mask, false, false) ∷ (codes "uf", effects.Force, false, false) ∷ (codes "usm", effects.Mask, true, false) ∷ (codes "usf", effects.Force, true, false)
    ∷ (codes "pm", effects.Mask, false, true) ∷ (codes "pf", effects.Force, false, true) ∷ (codes "psm", effects.Mask, true, true) ∷ (codes "psf", effects.Force, true, true) ∷ []) ∷ []
unfolding repository dir_at layout desc_path categories_path mask_path cache_dir ebuild_end eclass_path reach_below walk_below profiles eapi_path parent_path file_atom
eight_told = refl

-- ---- each kind of bad line, and the other kinds of faults

abbrev bad_files : Files
bad_files = (codes "profiles/profiles.desc", codes "amd64 base stable\namd64 base exp\namd64 gone dev\namd64 eight\n\namd64 old exp\narm64 base/ dev more\n")
    ∷ (codes "profiles/categories", codes "x y\n# none\n.x\n")
    ∷ (codes "profiles/package.mask/00", codes "x/y[a]\n-\n") ∷ (codes "profiles/package.mask/.hidden", codes "?\n")
    ∷ (codes "profiles/old/eapi", codes "9\n") ∷ (codes "profiles/old/parent", codes "../gone\na:b\n")
    ∷ (codes "profiles/base/make.defaults", codes "A=1\nB=\"x\n") ∷ (codes "profiles/base/package.use.mask", codes "x/y\nx/y a\nx a\n") ∷ []

bad_told : (notes_of bad_files ≡
    profile_note (record { path = codes "profiles/profiles.desc"; line = 4; detail = codes "bad line" })
    ∷ profile_note (record { path = codes "profiles/categories"; line = 1; detail = codes "bad category" })
    ∷ profile_note (record { path = codes "profiles/categories"; line = 3; detail = codes "bad category" })
    ∷ profile_note (record { path = codes "profiles/package.mask/00"; line = 1; detail = codes "bad atom" })
    ∷ profile_note (record { path = codes "profiles/base/make.defaults"; line = 2; detail = codes "bad assignment" })
    ∷ profile_note (record { path = codes "profiles/base/package.use.mask"; line = 1; detail = codes "bad flag" })
    ∷ profile_note (record { path = codes "profiles/base/package.use.mask"; line = 3; detail = codes "bad atom" })
    ∷ profile_note (record { path = codes "profiles/old/parent"; line = 2; detail = codes "bad line" })
    ∷ profile_error (record { path = (codes "profiles/profiles.desc"); line = 3; detail = codes "missing profile" }) ∷ profile_error (record { path = (codes "profiles/old/eapi"); line = 1; detail = codes "bad eapi" }) ∷ [])
    × (profiles_of bad_files ≡ 1 ∷ 7 ∷ [])
unfolding repository repository_notes category_detail stale_detail dir_at layout desc_path defaults_path categories_path mask_path cache_dir ebuild_end eclass_path reach_below walk_below profiles eapi_path parent_path detail_of stacks.detail_of file_atom
bad_told = (refl, refl)

-- ---- what is read, in order

abbrev read_files : Files
read_files = (codes "metadata/md5-cache/app/p-1", entry (codes "_eclasses_=one\td41d8cd98f00b204e9800998ecf8427e\n")) ∷ (codes "app/p/p-1.ebuild", [])
    ∷ (codes "metadata/md5-cache/app/o-1", entry (codes "_eclasses_=two\td41d8cd98f00b204e9800998ecf8427e\n")) ∷ (codes "app/.q/q-1.ebuild", []) ∷ (codes "app/r/r-1.ebuild", [])
    ∷ (codes "profiles/profiles.desc", codes "amd64 base stable\n") ∷ (codes "profiles/categories", codes "app\n")
    ∷ (codes "profiles/package.mask/b", []) ∷ (codes "profiles/package.mask/.a", []) ∷ (codes "profiles/base/eapi", codes "8\n") ∷ (codes "profiles/base/parent", codes "../none\n.\n") ∷ []

abbrev in_base : List ℕ → List ℕ
in_base name = codes "profiles/base/" ++ name

read_told : load_steps (seen read_files) ≡
    need (codes "profiles/profiles.desc") ∷ need (codes "profiles/categories") ∷ read (codes "profiles/package.mask") ∷ list (codes "profiles/package.mask") ∷ read (codes "profiles/package.mask/b")
    ∷ read (codes "profiles/base") ∷ read (in_base (codes "eapi")) ∷ read (in_base (codes "parent")) ∷ read (in_base (codes "make.defaults"))
    ∷ read (in_base (codes "use.mask")) ∷ read (in_base (codes "use.force")) ∷ read (in_base (codes "use.stable.mask")) ∷ read (in_base (codes "use.stable.force"))
    ∷ read (in_base (codes "package.mask")) ∷ read (in_base (codes "package.use.mask")) ∷ read (in_base (codes "package.use.force"))
    ∷ read (in_base (codes "package.use.stable.mask")) ∷ read (in_base (codes "package.use.stable.force"))
    ∷ read (codes "profiles/none")
    ∷ bound (codes "profiles/base") 4096 false
    ∷ list (codes "metadata/md5-cache/app") ∷ list (codes "app") ∷ list (codes "app/p") ∷ list (codes "app/r")
    ∷ once (codes "metadata/md5-cache/app/o-1") ∷ once (codes "app/o/o-1.ebuild") ∷ once (codes "metadata/md5-cache/app/p-1") ∷ once (codes "app/p/p-1.ebuild") ∷ once (codes "app/r/r-1.ebuild")
    ∷ once (codes "eclass/one.eclass") ∷ []
unfolding load_steps dir_at dir_steps layout desc_path categories_path mask_path cache_dir ebuild_end eclass_path stack_place reach_below walk_below profiles eapi_path parent_path md5 rounds block_words compress hash_after digest_bytes
read_told = refl

-- ---- what ends a load: the list of profiles has to be a file

abbrev fault_in : Result Repo LoadFault → Option LoadFault
fault_in (Ok repo) = None
fault_in (Err fault) = Some fault

abbrev fault_of : Files → Option LoadFault
fault_of files = fault_in (loading (seen files))

no_list : (fault_of [] ≡ Some (NotARepository (codes "profiles/profiles.desc")))
    × (fault_of ((codes "profiles/profiles.desc/a", []) ∷ (codes "profiles/categories", []) ∷ []) ≡ Some (NotARepository (codes "profiles/profiles.desc")))
unfolding loading load_steps desc_path
no_list = (rw (get-empty byte_cmp (codes "profiles/profiles.desc")) refl, rw (get-empty byte_cmp (codes "profiles/profiles.desc")) refl)

-- ---- the folder of profiles as a profile: its masks count twice, and its bad lines are told as often

abbrev own_files : Files
own_files = (codes "profiles/profiles.desc", codes "amd64 . stable\namd64 .. stable\n") ∷ (codes "profiles/categories", []) ∷ (codes "profiles/package.mask", codes "x/y\n?\n") ∷ []

own_told : (notes_of own_files ≡ profile_note (record { path = codes "profiles/package.mask"; line = 2; detail = codes "bad atom" })
    ∷ profile_note (record { path = codes "profiles/package.mask"; line = 2; detail = codes "bad atom" }) ∷ profile_error (record { path = (codes "profiles/profiles.desc"); line = 2; detail = codes "missing profile" }) ∷ [])
    × (map (λ p. map (λ m. m.text) p.masks) (repository (seen own_files)).profiles ≡ (codes "x/y" ∷ codes "x/y" ∷ []) ∷ [])
unfolding repository repository_notes category_detail stale_detail dir_at layout desc_path defaults_path categories_path mask_path cache_dir ebuild_end eclass_path reach_below walk_below profiles eapi_path parent_path detail_of stacks.detail_of file_atom
own_told = (refl, refl)
