-- Profiles as they are seen, one by one.
use Rattle.std.proofs.Common.{◌≡◌, ℕ, ◌+◌, ◌<◌, ◌≤◌, List, ◌++◌, length, map, get_or, drop, refl, sym, ap, ◌∙◌, Option, None, Some, append_assoc, append-nil}
use Rattle.std.proofs.Math.ListN.{drop_of_length-le}
use Rattle.std.proofs.lemmas.Option.{slice_get-get_or}
use Rattle.std.specs.Prelude.{flat_map, filter_map, OnOk, Result, option_map}
use Rattle.std.specs.List.{cons_option}
use Rattle.gv_facts.specs.declared.kinds.Level.{Level}
use Rattle.gv_facts.specs.declared.pkg.Pkg.{Pkg}
use Rattle.gv_facts.specs.declared.profile.Profile.{Profile}
use Rattle.gv_facts.specs.Visible.{judged}
use Rattle.gv_report.specs.declared.options.Options.{Options}
use Rattle.gv_report.specs.declared.report.Report.{Report}
use Rattle.gv_usestate.specs.Kinds.{IsOneOf}
use Rattle.gv_visible.specs.Candidates.{VisiblePkgs}
use Rattle.gv_plain.specs.Cases.{Case, Member, case_at, case_in}
use Rattle.gv_plain.specs.Lists.{drop_here, on_ok}
use Rattle.gv_plain.specs.Plain.{told_case, told_in}
use Rattle.gv_plain.specs.Seen.{seen}
use Rattle.gv_plain.specs.Shown.{all_seen, seen_at}
use Rattle.gv_load.specs.declared.loading.Repo.{Repo}

-- what a profile tells of a package
pub unjudged_told : (o : Options) (pkgs : List Pkg) (m : Member) (profile : Profile) (now : List Report) → judged m.pkg profile ≡ None → now ≡ now ++ told_in o (case_in pkgs m profile)
unjudged_told o pkgs m profile now none = sym (ap (λ d. now ++ told_in o (option_map (case_at pkgs m profile) d)) none ∙ append-nil now)

pub judged_told : (o : Options) (pkgs : List Pkg) (m : Member) (profile : Profile) (now next : List Report) (level : Level) → judged m.pkg profile ≡ Some level
    → {T E : Type 0} (r : Result T E) → OnOk r (next ≡ now ++ told_case o (case_at pkgs m profile level)) → OnOk r (next ≡ now ++ told_in o (case_in pkgs m profile))
judged_told o pkgs m profile now next level some r = on_ok r (λ e. e ∙ sym (ap (λ d. now ++ told_in o (option_map (case_at pkgs m profile) d)) some))

module _ (o : Options) (repo : Repo) (m : Member) (views : List VisiblePkgs) (i : ℕ) where
  abbrev told_of : List Profile → List Report
  told_of ps = flat_map (told_case o) (filter_map (case_in repo.pkgs m) ps)

  pub told_next : (x : VisiblePkgs) → views ≡ map (seen repo.pkgs) repo.profiles → i < length views → x ≡ get_or views i x → (now next whole : List Report)
      → next ≡ now ++ told_in o (case_in repo.pkgs m x.profile) → now ++ told_of (drop i repo.profiles) ≡ whole → next ++ told_of (drop (i + 1) repo.profiles) ≡ whole
  told_next x all lt is now next whole more on =
      let at = seen_at repo.pkgs repo.profiles views i x all lt is in
      by (case_in repo.pkgs m x.profile) more (ap (λ ps. now ++ told_of ps) (sym (drop_here repo.profiles x.profile i at.lt at.here)) ∙ on)
    where
      by : (d : Option Case) → next ≡ now ++ told_in o d
          → now ++ flat_map (told_case o) (cons_option d (filter_map (case_in repo.pkgs m) (drop (i + 1) repo.profiles))) ≡ whole → next ++ told_of (drop (i + 1) repo.profiles) ≡ whole
      by None e h = ap (λ rs. rs ++ told_of (drop (i + 1) repo.profiles)) (e ∙ append-nil now) ∙ h
      by (Some c) e h = ap (λ rs. rs ++ told_of (drop (i + 1) repo.profiles)) e ∙ (append_assoc now (told_case o c) (told_of (drop (i + 1) repo.profiles)) ∙ h)

  pub told_end : views ≡ map (seen repo.pkgs) repo.profiles → length views ≤ i → (now whole : List Report) → now ++ told_of (drop i repo.profiles) ≡ whole → now ≡ whole
  told_end all le now whole on = sym (append-nil now) ∙ (ap (λ ps. now ++ told_of ps) (sym (drop_of_length-le repo.profiles (all_seen repo.pkgs repo.profiles views i all le))) ∙ on)
