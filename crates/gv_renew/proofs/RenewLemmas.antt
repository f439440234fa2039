-- What is found of packages says what is due, stale and told anew.
use Rattle.std.proofs.Common.{◌≡◌, ℕ, ◌+◌, false, not, ◌&&◌, ◌||◌, List, [], ◌∷◌, ◌++◌, length, map, filter, ◌≤◌, refl, sym, ap, subst, ◌∙◌, Option, None, Some}
use Rattle.std.specs.Prelude.{flat_map, IfErr, IfOk, Result, Ok, Err}
use Rattle.std.specs.List.{AllByRecursion}
use Rattle.std.specs.Option.{option_map_or}
use Rattle.std.specs.Ordering.{eq_by_cmp}
use Rattle.gv_base.specs.Counts.{Counts}
use Rattle.gv_facts.specs.declared.kinds.Class.{Class}
use Rattle.gv_report.specs.Distinct.{ordered}
use Rattle.gv_report.specs.Order.{subject_cmp}
use Rattle.gv_report.specs.OrderTotal.{subject_total}
use Rattle.gv_report.specs.Selecting.{selected}
use Rattle.gv_report.specs.declared.options.Options.{Options}
use Rattle.gv_report.specs.declared.report.Report.{Report}
use Rattle.gv_report.specs.declared.report.Subject.{Subject}
use Rattle.gv_load.specs.Repository.{AreInPackageOrder}
use Rattle.gv_load.specs.declared.loading.Repo.{Repo}
use Rattle.gv_plain.specs.Cases.{members}
use Rattle.gv_checks.specs.Certs.{CountsAtMost}
use Rattle.gv_renew.specs.Due.{AreAnswered, IsRenewedHere}
use Rattle.gv_reload.specs.EntryEdits.{IsPartOf, is_edited}
use Rattle.gv_checks.specs.Limits.{Refuses, RefusesFirst}
use Rattle.gv_checks.specs.Queries.{queries}
use Rattle.gv_renew.specs.Renewal.{AreOfBefore, IsRenewed, fresh_reports, is_due, is_lasting, is_stale, is_stale_class, mentions, rests_on_atoms, told_anew}
use Rattle.gv_renew.specs.Renewing.{FollowsOrder, RenewedLaw}
use Rattle.gv_plain.specs.PlainReports.{readable_classes, subject_of}
use Rattle.gv_checks.specs.Parts.{PartsLaw}
use Rattle.gv_checks.specs.Views.{Walk}
use Rattle.gv_renew.specs.Touched.{AreTouched, IsTouched, anew_at, is_lasting_by, is_stale_among, is_stale_by, member_at, mentions_at}
use Rattle.gv_checks.specs.declared.fault.JudgeFault.{JudgeFault}
use Rattle.gv_renew.specs.declared.touched.Touched.{Touched}
use Rattle.gv_renew.proofs.AnewLemmas.{filter_same}
use Rattle.gv_renew.proofs.RenewalLaw.{all_within, first_refused, renewed_is}
use Rattle.gv_renew.proofs.RenewalStale.{stale_follows}

module _ (o : Options) (paths : List (List ℕ)) (repo : Repo) where
  module _ (t : Touched) (is : IsTouched paths t) where
    -- told anew
    pub anew_is : anew_at o repo t ≡ told_anew o paths repo (member_at t)
    anew_is = rw (is.edited_is, filter_same (mentions_at t) (mentions paths t.body.now) is.mentions_are (readable_classes t.pkg.now t.body.now)) refl

  all_anew : (ts : List Touched) → AllByRecursion (IsTouched paths) ts → flat_map (anew_at o repo) ts ≡ flat_map (told_anew o paths repo) (map member_at ts)
  all_anew [] all = refl
  all_anew (t ∷ ts) all = ap (λ l. l ++ flat_map (anew_at o repo) ts) (anew_is t all.0) ∙ ap (λ l. told_anew o paths repo (member_at t) ++ l) (all_anew ts all.1)

  pub anew_are : (ts : List Touched) → AreTouched paths repo.pkgs repo.bodies ts → flat_map (anew_at o repo) ts ≡ flat_map (told_anew o paths repo) (members repo)
  anew_are ts are = all_anew ts are.each ∙ ap (flat_map (told_anew o paths repo)) are.members_are

  -- stale
  stale_same : (s : Subject) (class : Class) (ts : List Touched) → AllByRecursion (IsTouched paths) ts → is_stale_among ts s class ≡ is_stale_class paths (map member_at ts) s class
  stale_same s class [] all = refl
  stale_same s class (t ∷ ts) all =
      ap (λ b. (eq_by_cmp subject_cmp (subject_of t.pkg.now) s && b) || is_stale_among ts s class) (all.0.mentions_are class)
      ∙ ap (λ b. (eq_by_cmp subject_cmp (subject_of t.pkg.now) s && mentions paths t.body.now class) || b) (stale_same s class ts all.1)

  module _ (ts : List Touched) (are : AreTouched paths repo.pkgs repo.bodies ts) where
    stale_class : (s : Subject) (class : Class) → is_stale_among ts s class ≡ is_stale_class paths (members repo) s class
    stale_class s class = stale_same s class ts are.each ∙ ap (λ ms. is_stale_class paths ms s class) are.members_are

    stale_option : (s : Subject) (class : Option Class) → option_map_or (is_stale_among ts s) class false ≡ option_map_or (is_stale_class paths (members repo) s) class false
    stale_option s None = refl
    stale_option s (Some class) = stale_class s class

    stale_by_same : (r : Report) → is_stale_by paths ts r ≡ is_stale paths (members repo) r
    stale_by_same r = ap (λ b. is_edited paths r.subject || (rests_on_atoms r.keyword && b)) (stale_option r.subject r.class)

    pub stale_by_follows : FollowsOrder (is_stale_by paths ts)
    stale_by_follows r s tied = stale_by_same r ∙ (stale_follows paths (members repo) subject_total r s tied ∙ sym (stale_by_same s))

    lasting_are : (rs : List Report) → filter (is_lasting_by paths ts) rs ≡ filter (is_lasting paths (members repo)) rs
    lasting_are rs = filter_same (is_lasting_by paths ts) (is_lasting paths (members repo)) (λ r. ap not (stale_by_same r)) rs

    -- the whole
    fresh_are : (told answered : List Report) (before now : Counts) → told ≡ filter (selected o) repo.notes ++ flat_map (anew_at o repo) ts
        → AreAnswered (filter (is_due paths) (queries o repo)) before now answered → told ++ answered ≡ fresh_reports o paths repo
    fresh_are told answered before now t a =
        ap (λ l. l ++ answered) (t ∙ ap (λ l. filter (selected o) repo.notes ++ l) (anew_are ts are))
        ∙ ap (λ l. (filter (selected o) repo.notes ++ flat_map (told_anew o paths repo) (members repo)) ++ l) a.reports_are

    pub here : (old told answered reports : List Report) (before now : Counts) → told ≡ filter (selected o) repo.notes ++ flat_map (anew_at o repo) ts
        → AreAnswered (filter (is_due paths) (queries o repo)) before now answered → reports ≡ ordered (filter (is_lasting_by paths ts) old ++ (told ++ answered))
        → IsRenewedHere o paths repo old before now reports
    here old told answered reports before now t a r = record {
      reports_are = r ∙ (ap (λ l. ordered (l ++ (told ++ answered))) (lasting_are old)
          ∙ ap (λ l. ordered (filter (is_lasting paths (members repo)) old ++ l)) (fresh_are told answered before now t a));
      within = a.within;
      lowered = a.lowered;
      solved = a.solved;
    }

-- The same of the whole repository.
module _ (o : Options) (paths : List (List ℕ)) (repo whole : Repo) (before : List Report) (in_parts : PartsLaw) (law : RenewedLaw) (order : AreInPackageOrder repo.pkgs) (bodies : length repo.bodies ≡ length repo.pkgs)
    (part : IsPartOf paths repo whole) (were : AreOfBefore o paths whole before) where
  same_queries : queries o whole ≡ queries o repo
  same_queries = rw (part.but.pkgs, part.but.bodies, part.but.profiles) refl

  renewed_whole : (reports : List Report) (n0 n1 : Counts) → IsRenewedHere o paths repo before n0 n1 reports → IsRenewed o paths whole n0 n1 reports
  renewed_whole reports n0 n1 is = record {
    reports_are = is.reports_are ∙ renewed_is o paths repo whole before bodies part were in_parts law subject_total order;
    within = all_within o paths repo whole before bodies part were is.within;
    lowered = subst (λ qs. n1.lower ≤ n0.lower + length (filter (is_due paths) qs)) (sym same_queries) is.lowered;
    solved = subst (λ qs. n1.solve ≤ n0.solve + length (filter (is_due paths) qs)) (sym same_queries) is.solved;
  }

  pub renewed_result : (n0 n1 : Counts) (r : Result (List Report) JudgeFault) → IfOk r (IsRenewedHere o paths repo before n0 n1) → IfOk r (IsRenewed o paths whole n0 n1)
  renewed_result n0 n1 (Ok reports) is = renewed_whole reports n0 n1 is
  renewed_result n0 n1 (Err fault) is = tt

  pub refused_result : (budget : ℕ) (r : Result (List Report) JudgeFault) → IfErr r (RefusesFirst budget [] (filter (is_due paths) (queries o repo))) → IfErr r (Refuses budget [] (queries o whole))
  refused_result budget (Ok reports) is = tt
  refused_result budget (Err fault) is = first_refused o paths repo whole before bodies part were budget [] fault is

-- over a walk of the repository
pub own_options : (w : Walk) (repo : Repo) (o : Options) → w ≡ record { repo = repo; options = o } → w ≡ record { repo = repo; options = w.options }
own_options w repo o same = rw same refl

pub renewed_by : (w : Walk) (repo : Repo) (o : Options) → w ≡ record { repo = repo; options = o } → (paths : List (List ℕ)) (before : List Report) (n0 n1 : Counts) (r : Result (List Report) JudgeFault)
    → IfOk r (IsRenewedHere w.options paths repo before n0 n1) → IfOk r (IsRenewedHere o paths repo before n0 n1)
renewed_by w repo o same paths before n0 n1 r is = subst (λ (v : Walk). IfOk r (IsRenewedHere v.options paths repo before n0 n1)) same is

pub refused_by : (w : Walk) (repo : Repo) (o : Options) → w ≡ record { repo = repo; options = o } → (paths : List (List ℕ)) (r : Result (List Report) JudgeFault)
    → IfErr r (RefusesFirst w.options.budget [] (filter (is_due paths) (queries w.options repo))) → IfErr r (RefusesFirst o.budget [] (filter (is_due paths) (queries o repo)))
refused_by w repo o same paths r is = subst (λ (v : Walk). IfErr r (RefusesFirst v.options.budget [] (filter (is_due paths) (queries v.options repo)))) same is

pub counted_by : (w : Walk) (repo : Repo) (o : Options) → w ≡ record { repo = repo; options = o } → (paths : List (List ℕ)) (n0 n1 : Counts)
    → CountsAtMost (length (filter (is_due paths) (queries w.options repo))) n0 n1 → CountsAtMost (length (filter (is_due paths) (queries o repo))) n0 n1
counted_by w repo o same paths n0 n1 few = subst (λ (v : Walk). CountsAtMost (length (filter (is_due paths) (queries v.options repo))) n0 n1) same few
