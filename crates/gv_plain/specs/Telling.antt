-- What is told of one package of a repository without a query, by the package's number; and of all of them.
use Rattle.std.specs.Prelude.{◌≡◌, ◌&&◌, ℕ, if◌then◌else◌, List, [], filter, flat_map, slice_get, option_to_list, Option, None, Some}
use Rattle.gv_entry.specs.declared.entry.Body.{Body}
use Rattle.gv_facts.specs.declared.kinds.Class.{Class}
use Rattle.gv_facts.specs.declared.pkg.Pkg.{Pkg}
use Rattle.gv_report.specs.Keyword.{has_keyword}
use Rattle.gv_report.specs.Selecting.{selected}
use Rattle.gv_report.specs.declared.keyword.Keyword.TheVariants as keywords
use Rattle.gv_report.specs.declared.options.Options.{Options}
use Rattle.gv_report.specs.declared.report.Report.{Report}
use Rattle.gv_load.specs.declared.loading.Repo.{Repo}
use Rattle.gv_plain.specs.Cases.{Member}
use Rattle.gv_plain.specs.Plain.{told, told_member}
use Rattle.gv_plain.specs.PlainReports.{is_readable, member_plain, nonexistent_in, plain_reports}

-- with this number, where there are both
abbrev pub member_with : ℕ → Option Pkg → Option Body → Option Member
member_with number None body = None
member_with number (Some p) None = None
member_with number (Some p) (Some b) = Some (record { number = number; pkg = p; body = b })

-- the package of this number
abbrev pub numbered : Repo → ℕ → Option Member
numbered repo number = member_with number (slice_get repo.pkgs number) (slice_get repo.bodies number)

-- of the atoms of a class that match no package, where these are selected and the class is readable
abbrev pub told_of_class : Class → Options → List Pkg → Pkg → Body → List Report
told_of_class class o among p body =
    if has_keyword o.keywords keywords.NonexistentDeps && is_readable p body class then nonexistent_in among p body class else []

-- All that is told of a package, and of one of its classes; of a number that no package has nothing.
abbrev pub told_if : Options → Repo → Option Member → List Report
told_if o repo None = []
told_if o repo (Some m) = told_member o repo m

abbrev pub told_at : Options → Repo → ℕ → List Report
told_at o repo number = told_if o repo (numbered repo number)

abbrev pub told_of_class_if : Class → Options → Repo → Option Member → List Report
told_of_class_if class o repo None = []
told_of_class_if class o repo (Some m) = told_of_class class o repo.pkgs m.pkg m.body

abbrev pub told_of_class_at : Class → Options → Repo → ℕ → List Report
told_of_class_at class o repo number = told_of_class_if class o repo (numbered repo number)

-- what needs no query, of one package
abbrev pub plain_of : Repo → (number : ℕ) → List Report
plain_of repo number = flat_map (member_plain repo) (option_to_list (numbered repo number))

-- What is told of a package are its selected reports that need no query; and so of all packages, and the notes.
pub record ToldLaw (o : Options) (repo : Repo) : Type 0 where
  pub each : (m : Member) → filter (selected o) (member_plain repo m) ≡ told_member o repo m
  pub all : filter (selected o) (plain_reports repo) ≡ told o repo
