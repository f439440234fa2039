-- A repository after edits of entries: what its packages are, and what it tells of whole repositories.
use Rattle.std.specs.Prelude.{◌≡◌, ℕ, Bool, not, ◌||◌, List, ◌++◌, length, map, filter}
use Rattle.std.specs.List.{list_all}
use Rattle.gv_base.specs.Order.{has_text}
use Rattle.gv_facts.specs.declared.pkg.Pkg.{Pkg}
use Rattle.gv_report.specs.declared.report.Report.{Report}
use Rattle.gv_load.specs.Repository.{AreClassless, AreInPackageOrder, body_of, in_package_order, pkg_of}
use Rattle.gv_reload.specs.EntryEdits.{DifferIn, IsAllBut, IsPartOf, entry_name, is_edited, is_edited_pkg, is_other, members_of, pkg_name}
use Rattle.gv_load.specs.declared.loading.Repo.{Repo}
use Rattle.gv_load.specs.declared.members.Member.{Member}
use Rattle.gv_reload.specs.declared.replacing.Changed.{Changed}
use Rattle.gv_reload.specs.declared.replacing.Changed.TheVariants.{Part, Other}

abbrev pub has_edited_name : (paths : List (List ℕ)) → Pkg → Bool
has_edited_name paths p = not (is_edited_pkg paths p) || has_text (map entry_name paths) (pkg_name p)

abbrev pub are_named : (paths : List (List ℕ)) → List Pkg → Bool
are_named paths pkgs = list_all (has_edited_name paths) pkgs

abbrev pub is_of_edited : (paths : List (List ℕ)) → Member → Bool
is_of_edited paths m = is_edited_pkg paths m.pkg

abbrev pub members_with : (paths : List (List ℕ)) (old new : Repo) → List Member
members_with paths old new = in_package_order (filter (is_other paths) (members_of old) ++ filter (is_of_edited paths) (members_of new))

abbrev pub edited_notes : (paths : List (List ℕ)) → List Report → List Report
edited_notes paths notes = filter (λ r. is_edited paths r.subject) notes

abbrev pub replaced : (paths : List (List ℕ)) (old new : Repo) → Repo
replaced paths old new = record {
  pkgs = map pkg_of (members_with paths old new);
  bodies = map body_of (members_with paths old new);
  profiles = old.profiles;
  lines = old.lines;
  notes = edited_notes paths new.notes;
}

-- it is all but notes of a whole repository that differs from the one before in edited entries alone
pub record IsAfter (paths : List (List ℕ)) (before repo : Repo) : Type 0 where
  pub whole : Repo
  pub part : IsPartOf paths repo whole
  pub differ : DifferIn paths before whole

-- it is so of whatever whole repository the old one is of; and where that one and the new one differ in edited entries alone, it is
-- all but notes of the new one
pub record IsReplaced (paths : List (List ℕ)) (old new repo : Repo) : Type 0 where
  pub order : AreInPackageOrder repo.pkgs
  pub bodies : length repo.bodies ≡ length repo.pkgs
  pub some : (before : Repo) → IsAllBut old before → AreClassless before.notes → IsAfter paths before repo
  pub exact : (before : Repo) → IsAllBut old before → DifferIn paths before new → IsPartOf paths repo new

-- what comes of edits of entries
abbrev pub IsChange : (paths : List (List ℕ)) → (old new : Repo) → Changed → Type 0
IsChange paths old new (Part repo) = IsReplaced paths old new repo
IsChange paths old new (Other repo) = (repo ≡ new) × ((before : Repo) → IsAllBut old before → DifferIn paths before new → ⊥)
