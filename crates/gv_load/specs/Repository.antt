-- The repository that stands in a tree. Nothing is said of reading.
use Rattle.std.specs.Prelude.{◌≡◌, List, [], map, filter_map, fold, Option, None}
use Rattle.std.specs.Option.{option_map}
use Rattle.std.specs.BTreeSet.{insert_key}
use Rattle.std.specs.List.{AllByRecursion}
use Rattle.std.specs.List.Sorted.{IsStrictlySortedBy}
use Rattle.std.specs.declared.cmp.Ordering.{Ordering}
use Rattle.std.specs.Ordering.{on}
use Rattle.gv_entry.specs.declared.entry.Body.{Body}
use Rattle.gv_entry.specs.declared.entry.Entry.{Entry}
use Rattle.gv_facts.specs.declared.pkg.Pkg.{Pkg}
use Rattle.gv_report.specs.declared.report.Report.{Report}
use Rattle.gv_report.specs.declared.report.Subject.{Subject}
use Rattle.gv_report.specs.declared.report.Subject.TheVariants.{Package}
use Rattle.gv_report.specs.Order.{subject_cmp}
use Rattle.gv_load.specs.Directories.{dir_at}
use Rattle.gv_reading.specs.NamedFiles.{files_at}
use Rattle.gv_load.specs.Freshness.{all_kept}
use Rattle.gv_load.specs.declared.freshness.Kept.{Kept}
use Rattle.gv_load.specs.declared.freshness.Kept.TheVariants.{Nothing, Missing, Orphan, Stale, Current}
use Rattle.gv_load.specs.declared.freshness.PfKept.{PfKept}
use Rattle.gv_load.specs.declared.loading.Folders.{Folders}
use Rattle.gv_load.specs.declared.loading.Repo.{Repo}
use Rattle.gv_load.specs.declared.members.Member.{Member}
use Rattle.gv_reading.specs.Look.{Look}
use Rattle.gv_load.specs.Notes.{repository_notes}
use Rattle.gv_load.specs.Order.{desc_lines, categories, reached}
use Rattle.gv_load.specs.Paths.{mask_path}
use Rattle.gv_load.specs.Stacks.{profile_at}

abbrev pub with_body : Body → Pkg → Member
with_body body p = record { pkg = p; body = body }

abbrev pub member_of : Entry → Option Member
member_of e = option_map (with_body e.body) e.head

-- current entries that say a package
abbrev pub member_in : Kept → Option Member
member_in (Current e) = member_of e
member_in Nothing = None
member_in Missing = None
member_in Orphan = None
member_in (Stale why) = None

abbrev pub members_in : List PfKept → List Member
members_in kepts = filter_map (λ k. member_in k.kept) kepts

-- package order is that of reports: category, name, version by the version order, PF
abbrev pub subject_of : Pkg → Subject
subject_of p = Package p.category p.name p.version p.pf

abbrev pub pkg_cmp : Pkg → Pkg → Ordering
pkg_cmp = on subject_of subject_cmp

abbrev pub AreInPackageOrder : List Pkg → Type 0
AreInPackageOrder pkgs = IsStrictlySortedBy pkg_cmp pkgs

abbrev pub pkg_of : Member → Pkg
pkg_of m = m.pkg

abbrev pub body_of : Member → Body
body_of m = m.body

abbrev pub member_cmp : Member → Member → Ordering
member_cmp = on pkg_of pkg_cmp

-- each is put where it belongs; two PFs are never equal in this order
abbrev pub in_package_order : List Member → List Member
in_package_order members = fold (insert_key member_cmp) [] members

abbrev pub members : Look → List Member
members look = in_package_order (members_in (all_kept look (categories look)))

-- what is noted of a repository is of no class
abbrev pub AreClassless : List Report → Type 0
AreClassless notes = AllByRecursion (λ (r : Report). r.class ≡ None) notes

-- its profiles are those of the lines whose stack has no fault
unfoldable pub repository : Look → Repo
repository look = record {
  pkgs = map pkg_of (members look);
  bodies = map body_of (members look);
  profiles = filter_map (profile_at (dir_at look) (files_at look mask_path)) (desc_lines look);
  lines = desc_lines look;
  notes = repository_notes look;
}

-- the folders of its packages and of its profiles
unfoldable pub folders_of : Look → Folders
folders_of look = record { categories = categories look; directories = reached look (desc_lines look) }
