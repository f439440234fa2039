-- A whole load, by its parts.
use Rattle.std.proofs.Common.{◌≡◌, ℕ, List, ◌++◌, refl, sym, ap, subst, ◌∙◌, arith}
use Rattle.std.specs.Prelude.{Option, Some, None, Result, Ok, Err, IfSome}
use Rattle.gv_base.specs.FileMap.{FileMap}
use Rattle.gv_reading.specs.declared.faults.LoadFault.{LoadFault}
use Rattle.gv_reading.specs.declared.faults.LoadFault.TheVariants.{Tree, NotARepository, Limit, NoMemory}
use Rattle.gv_load.specs.declared.freshness.PfKept.{PfKept}
use Rattle.gv_load.specs.declared.lists.Lists.{Lists}
use Rattle.gv_load.specs.declared.loading.Folders.{Folders}
use Rattle.gv_load.specs.declared.loading.Repo.{Repo}
use Rattle.gv_load.specs.declared.loading.RepoRead.{RepoRead}
use Rattle.gv_load.specs.declared.line_profiles.Profiled.{Profiled}
use Rattle.gv_reading.specs.Causes.{Cause, HasEnded, HasRead, IsOfPath, View, IsTold, look_in}
use Rattle.gv_load.specs.Loading.{Finds, LoadCause, PassesWithin, loading}
use Rattle.gv_load.specs.Freshness.{all_kept}
use Rattle.gv_reading.specs.Reader.{Seen, nothing}
use Rattle.gv_reading.specs.Look.{Look, look_of}
use Rattle.gv_load.specs.Notes.{repository_notes}
use Rattle.gv_load.specs.Order.{categories, desc_lines, list_steps, load_steps, packages_steps, profiles_steps}
use Rattle.gv_load.specs.PartsRead.{IsRepoOf, folders_with, lists_of, profiled_of, repo_with}
use Rattle.gv_reading.specs.Reading.{IsAsked, Step, passed}
use Rattle.gv_load.specs.Repository.{folders_of, repository}

-- ---- the steps of the whole, where the lists are those of the tree
abbrev pub steps_by : Look → Lists → List Step
steps_by look lists = list_steps look ++ (profiles_steps look lists.lines ++ packages_steps look lists.categories)

pub steps_are : (look : Look) (lists : Lists) → lists ≡ lists_of look → load_steps look ≡ steps_by look lists
unfolding load_steps
steps_are look lists is = sym (ap (steps_by look) is)

pub first_steps : (look : Look) → load_steps look ≡ list_steps look ++ (profiles_steps look (desc_lines look) ++ packages_steps look (categories look))
unfolding load_steps
first_steps look = refl

-- ---- the repository
whole : (look : Look) → repo_with (lists_of look) (profiled_of look (lists_of look).masks (lists_of look).lines) (all_kept look (lists_of look).categories) ≡ repository look
unfolding repository repository_notes
whole look = refl

repo_is : (look : Look) (lists : Lists) (profiled : Profiled) (kepts : List PfKept) (repo : Repo) → repo ≡ repo_with lists profiled kepts → lists ≡ lists_of look → profiled ≡ profiled_of look lists.masks lists.lines →
    kepts ≡ all_kept look lists.categories → repo ≡ repository look
repo_is look lists profiled kepts repo is lists_are profiled_is kepts_are =
    is ∙ ap (λ (p : Profiled). repo_with lists p kepts) profiled_is ∙ ap (repo_with lists (profiled_of look lists.masks lists.lines)) kepts_are
    ∙ ap (λ (l : Lists). repo_with l (profiled_of look l.masks l.lines) (all_kept look l.categories)) lists_are ∙ whole look

-- ---- its folders
whole_folders : (look : Look) → folders_with (lists_of look) (profiled_of look (lists_of look).masks (lists_of look).lines) ≡ folders_of look
unfolding folders_of
whole_folders look = refl

folders_are : (look : Look) (lists : Lists) (profiled : Profiled) (folders : Folders) → folders ≡ folders_with lists profiled → lists ≡ lists_of look → profiled ≡ profiled_of look lists.masks lists.lines →
    folders ≡ folders_of look
folders_are look lists profiled folders is lists_are profiled_is =
    is ∙ ap (folders_with lists) profiled_is ∙ ap (λ (l : Lists). folders_with l (profiled_of look l.masks l.lines)) lists_are ∙ whole_folders look

pub read_is : (look : Look) (lists : Lists) (profiled : Profiled) (kepts : List PfKept) (read : RepoRead) → read.repo ≡ repo_with lists profiled kepts → read.folders ≡ folders_with lists profiled
    → lists ≡ lists_of look → profiled ≡ profiled_of look lists.masks lists.lines → kepts ≡ all_kept look lists.categories → IsRepoOf look read
read_is look lists profiled kepts read repo folders lists_are profiled_is kepts_are = record {
  repo = repo_is look lists profiled kepts read.repo repo lists_are profiled_is kepts_are;
  folders = folders_are look lists profiled read.folders folders lists_are profiled_is;
}

-- ---- what the load comes to
loaded : (look : Look) (new : Seen) (repo : Repo) → passed look nothing (load_steps look) ≡ Ok new → repo ≡ repository look → loading look ≡ Ok repo
unfolding loading
loaded look new repo went is = rw went (ap (λ (r : Repo). let o : Result Repo LoadFault = Ok r in o) (sym is))

refused : (look : Look) (fault : LoadFault) → passed look nothing (load_steps look) ≡ Err fault → loading look ≡ Err fault
unfolding loading
refused look fault is = rw is refl

as_told : (told : Option FileMap) (new : Seen) (repo : Repo) → (IsTold told → passed (look_in told) nothing (load_steps (look_in told)) ≡ Ok new) → (IsTold told → repo ≡ repository (look_in told)) →
    IfSome told (λ files. loading (look_of files) ≡ Ok repo)
unfolding look_in
as_told None new repo went is = tt
as_told (Some files) new repo went is = loaded (look_of files) new repo (went refl) (is refl)

load_cause : (told : Option FileMap) (before now : ℕ) (fault : LoadFault) → Cause told before now (passed (look_in told) nothing (load_steps (look_in told))) fault →
    IsOfPath (λ path. IsTold told → IsAsked (look_in told) nothing (load_steps (look_in told)) path) fault → LoadCause told before now fault
unfolding look_in
load_cause told before now NoMemory cause asked = tt
load_cause None before now (Tree path) cause asked = (cause, tt)
load_cause (Some files) before now (Tree path) cause asked = (cause, asked refl)
load_cause None before now (NotARepository path) cause asked = (cause.0, tt)
load_cause (Some files) before now (NotARepository path) cause asked = (cause.0, refused (look_of files) (NotARepository path) (cause.1 refl))
load_cause None before now (Limit place number) cause asked = (cause.0, tt)
load_cause (Some files) before now (Limit place number) cause asked = (cause.0, refused (look_of files) (Limit place number) (cause.1 refl))

passes_within : (told : Option FileMap) (new : Seen) → (IsTold told → passed (look_in told) nothing (load_steps (look_in told)) ≡ Ok new) → IfSome told (λ files. PassesWithin files new.found)
unfolding look_in
passes_within None new went = tt
passes_within (Some files) new went = record { seen = new; passes = went refl; loads = loaded (look_of files) new (repository (look_of files)) (went refl) refl; within = omega arith }

finds : (told : Option FileMap) (new : Seen) → (IsTold told → passed (look_in told) nothing (load_steps (look_in told)) ≡ Ok new) → IfSome told (λ files. Finds files new.found)
unfolding look_in
finds None new went = tt
finds (Some files) new went = λ seen passes.
    let went_there : passed (look_of files) nothing (load_steps (look_of files)) ≡ Ok new = went refl in
    let same : new ≡ seen = cc in
    ap (λ (s : Seen). s.found) same

folders_there : (told : Option FileMap) (folders : Folders) → (IsTold told → folders ≡ folders_of (look_in told)) → IfSome told (λ files. folders ≡ folders_of (look_of files))
unfolding look_in
folders_there None folders is = tt
folders_there (Some files) folders is = is refl

-- what a load tells, by what its reading tells
module _ {before now : View} {start : Seen} (none : start ≡ nothing) where
  pub repo_told : {new : Seen} (read : RepoRead) → HasRead before now (λ look. load_steps look) (λ look. IsRepoOf look read) start new → IfSome before.told (λ files. loading (look_of files) ≡ Ok read.repo)
  repo_told {new = new} read one =
      let here = subst (λ (s : Seen). HasRead before now (λ look. load_steps look) (λ look. IsRepoOf look read) s new) none one in
      as_told before.told new read.repo here.passed (λ t. (here.value t).repo)

  pub folders_told : {new : Seen} (read : RepoRead) → HasRead before now (λ look. load_steps look) (λ look. IsRepoOf look read) start new → IfSome before.told (λ files. read.folders ≡ folders_of (look_of files))
  folders_told read one = folders_there before.told read.folders (λ t. (one.value t).folders)

  pub passes_told : {new : Seen} (read : RepoRead) (found : ℕ) → found ≡ new.found → HasRead before now (λ look. load_steps look) (λ look. IsRepoOf look read) start new →
      IfSome before.told (λ files. PassesWithin files found)
  passes_told {new = new} read found is one =
      let here = subst (λ (s : Seen). HasRead before now (λ look. load_steps look) (λ look. IsRepoOf look read) s new) none one in
      subst (λ n. IfSome before.told (λ files. PassesWithin files n)) (sym is) (passes_within before.told new here.passed)

  pub finds_told : {new : Seen} (read : RepoRead) (found : ℕ) → found ≡ new.found → HasRead before now (λ look. load_steps look) (λ look. IsRepoOf look read) start new →
      IfSome before.told (λ files. Finds files found)
  finds_told {new = new} read found is one =
      let here = subst (λ (s : Seen). HasRead before now (λ look. load_steps look) (λ look. IsRepoOf look read) s new) none one in
      subst (λ n. IfSome before.told (λ files. Finds files n)) (sym is) (finds before.told new here.passed)

  pub cause_told : {At : List ℕ → Type 0} (fault : LoadFault) → HasEnded At before now (λ look. load_steps look) start fault → LoadCause before.told before.faults now.faults fault
  cause_told fault ended =
      load_cause before.told before.faults now.faults fault
      (subst (λ (s : Seen). Cause before.told before.faults now.faults (passed (look_in before.told) s (load_steps (look_in before.told))) fault) none ended.cause)
      (subst (λ (s : Seen). IsOfPath (λ path. IsTold before.told → IsAsked (look_in before.told) s (load_steps (look_in before.told)) path) fault) none ended.asked)
