-- Options select the reports of a profile whole, or not at all.
use Rattle.std.proofs.Common.{◌≡◌, ℕ, Bool, true, false, ◌&&◌, List, [], ◌∷◌, ◌++◌, filter, Some, None, refl, sym, ap, ◌∙◌, cond}
use Rattle.std.specs.Prelude.{if◌then◌else◌, flat_map, Option, option_to_list}
use Rattle.gv_base.specs.Order.{has_text}
use Rattle.gv_entry.specs.Holds.{empty_holds, reqs_hold}
use Rattle.gv_entry.specs.declared.entry.Body.{Body}
use Rattle.gv_expr.specs.Required.{Req, reqs}
use Rattle.gv_facts.specs.Visible.{judged}
use Rattle.gv_facts.specs.declared.kinds.Level.{Level}
use Rattle.gv_facts.specs.declared.pkg.Pkg.{Pkg}
use Rattle.gv_facts.specs.declared.profile.Profile.{Profile}
use Rattle.gv_load.specs.declared.loading.Repo.{Repo}
use Rattle.gv_report.specs.Keyword.{has_keyword}
use Rattle.gv_report.specs.Selecting.{in_profiles, selected}
use Rattle.gv_report.specs.declared.keyword.Keyword.TheVariants.{RequiredUseDefaults}
use Rattle.gv_report.specs.declared.options.Options.{Options}
use Rattle.gv_report.specs.declared.report.Report.{Report}
use Rattle.gv_usedefaults.specs.declared.defaults.UseDefaults.{UseDefaults}
use Rattle.gv_usedefaults.specs.declared.walk.Walk.{Walk}
use Rattle.gv_usedefaults.specs.Defaults.{default_of}
use Rattle.gv_usedefaults.specs.Reports.{context_in, defaults_of, profile_reports, told_among, told_at, told_of, unmet, use_report, use_reports}
use Rattle.gv_usedefaults.specs.Selected.{has_path, is_told, selected_in}

filter-append : {A : Type 0} (test : A → Bool) (xs ys : List A) → filter test (xs ++ ys) ≡ filter test xs ++ filter test ys
filter-append test [] ys = refl
filter-append test (x ∷ xs) ys = by (test x) (filter-append test xs ys)
  where
    by : (b : Bool) → filter test (xs ++ ys) ≡ filter test xs ++ filter test ys
        → cond b (x ∷ filter test (xs ++ ys)) (filter test (xs ++ ys)) ≡ cond b (x ∷ filter test xs) (filter test xs) ++ filter test ys
    by true h = ap (λ l. x ∷ l) h
    by false h = h

module _ (o : Options) (profile : Profile) where
  in_path : (paths : Option (List (List ℕ))) (level : Level) → in_profiles paths (Some (context_in profile level)) ≡ has_path paths profile.path
  in_path None level = refl
  in_path (Some paths) level = refl

  told : (p : Pkg) (level : Level) (on : List ℕ → Bool) (required : List Req) → selected o (use_report p profile level on required) ≡ is_told o profile
  told p level on required = ap (λ b. has_keyword o.keywords RequiredUseDefaults && b) (in_path o.profiles level)

  -- a report of the profile, if it is one
  abbrev Alike : List Report → Type 0
  Alike rs = filter (selected o) rs ≡ (if is_told o profile then rs else [])

  none : Alike []
  none = by (is_told o profile)
    where
      by : (b : Bool) → (let l : List Report = [] in l) ≡ (if b then [] else [])
      by true = refl
      by false = refl

  one : (r : Report) → selected o r ≡ is_told o profile → Alike (r ∷ [])
  one r is = ap (λ b. cond b (r ∷ []) []) is

  both : (xs ys : List Report) → Alike xs → Alike ys → Alike (xs ++ ys)
  both xs ys a b = filter-append (selected o) xs ys ∙ ap (λ l. l ++ filter (selected o) ys) a ∙ ap (λ l. (if is_told o profile then xs else []) ++ l) b ∙ by (is_told o profile)
    where
      by : (t : Bool) → (if t then xs else []) ++ (if t then ys else []) ≡ (if t then xs ++ ys else [])
      by true = refl
      by false = refl

  if_unmet : (p : Pkg) (level : Level) (on : List ℕ → Bool) (required : List Req) → Alike (option_to_list (unmet p profile level on required))
  if_unmet p level on required = by (reqs_hold (reqs required) on (empty_holds p.eapi))
    where
      by : (b : Bool) → Alike (option_to_list (if b then None else Some (use_report p profile level on required)))
      by true = none
      by false = one (use_report p profile level on required) (told p level on required)

  at : (d : UseDefaults) (p : Pkg) (level : Option Level) (required : Option (List Req)) → Alike (option_to_list (told_at p profile d level required))
  at d p None required = none
  at d p (Some level) None = none
  at d p (Some level) (Some required) = if_unmet p level (default_of p profile level d) required

  among : (d : UseDefaults) (ps : List Pkg) (bodies : List Body) → Alike (told_among profile d ps bodies)
  among d [] bodies = none
  among d (p ∷ ps) [] = none
  among d (p ∷ ps) (body ∷ bodies) = both (option_to_list (told_of profile d p body)) (told_among profile d ps bodies) (at d p (judged p profile) body.required) (among d ps bodies)

each : (o : Options) (repo : Repo) (walk : Walk) (ps : List Profile) → flat_map (selected_in o repo walk) ps ≡ filter (selected o) (flat_map (profile_reports repo walk) ps)
each o repo walk [] = refl
each o repo walk (p ∷ ps) =
    sym (filter-append (selected o) (profile_reports repo walk p) (flat_map (profile_reports repo walk) ps)
    ∙ ap (λ l. l ++ filter (selected o) (flat_map (profile_reports repo walk) ps)) (among o p (defaults_of repo walk p.line) repo.pkgs repo.bodies)
    ∙ ap (λ l. selected_in o repo walk p ++ l) (sym (each o repo walk ps)))

pub all_selected : (o : Options) (repo : Repo) (walk : Walk) → flat_map (selected_in o repo walk) repo.profiles ≡ filter (selected o) (use_reports repo walk)
all_selected o repo walk = each o repo walk repo.profiles
