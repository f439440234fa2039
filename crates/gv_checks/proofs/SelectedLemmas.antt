-- The reports of the queries that options select are the selected reports of all queries.
use Rattle.std.proofs.Common.{◌≡◌, Bool, true, false, ◌&&◌, List, [], ◌∷◌, ◌++◌, map, filter, refl, sym, ap, ◌∙◌, Option, Some, None}
use Rattle.std.specs.Prelude.{flat_map, filter_map, unwrap_or}
use Rattle.std.specs.Option.{is_some}
use Rattle.std.proofs.lemmas.Bool.{false≢true, and_parts}
use Rattle.std.proofs.lemmas.List.Elements.{filter-append, filter_map-append}
use Rattle.gv_expr.specs.Dep.{Dep}
use Rattle.gv_facts.specs.Classes.{has_class}
use Rattle.gv_facts.specs.declared.kinds.Class.{Class}
use Rattle.gv_facts.specs.declared.kinds.Class.TheVariants.{Bdepend, Depend, Idepend, Pdepend, Rdepend, Required}
use Rattle.gv_report.specs.Keyword.{has_keyword}
use Rattle.gv_report.specs.Selecting.{in_profiles, selected}
use Rattle.gv_report.specs.declared.keyword.Keyword.{Keyword}
use Rattle.gv_report.specs.declared.keyword.Keyword.TheVariants as keywords
use Rattle.gv_report.specs.declared.options.Options.{Options}
use Rattle.gv_report.specs.declared.report.Report.{Report}
use Rattle.gv_plain.specs.Cases.{Case, cases_of, members}
use Rattle.gv_plain.specs.Classes.{classes, is_whole}
use Rattle.gv_checks.specs.Queries.{case_queries, case_queries_all, class_keyword, has_query, is_asked, is_selected, least_of, queries, query_of}
use Rattle.gv_plain.specs.PlainReports.{context_of, plain_reports}
use Rattle.gv_checks.specs.RepoReports.{nonsolvable, query_report, query_reports, report_found, reports, unsatisfiable}
use Rattle.gv_load.specs.declared.loading.Repo.{Repo}

pub same_some : {X : Type 0} (a b : X) → Some a ≡ Some b → a ≡ b
same_some a b e = ap (λ o. unwrap_or o a) e

is_none : {X : Type 0} → Option X → Bool
is_none None = true
is_none (Some x) = false

pub not_none : {X : Type 0} (x : X) → None ≡ Some x → ⊥
not_none x e = false≢true (sym (ap_none e))
  where
    ap_none : None ≡ Some x → true ≡ false
    ap_none e = cc

module _ (o : Options) (c : Case) where
  abbrev tells : Keyword → Bool
  tells k = has_keyword o.keywords k && in_profiles o.profiles (Some (context_of c.parent))

  of_required : (class : Class) (found : Option (List Bool)) (r : Report) → report_found (query_of c class) None found ≡ Some r → selected o r ≡ tells keywords.UnsatisfiableRequiredUse
  of_required class None r e = ap (selected o) (sym (same_some (unsatisfiable (query_of c class)) r e))
  of_required class (Some bits) r e = absurd (not_none r e)

  of_class : (class : Class) (dep : List Dep) (found : Option (List Bool)) (r : Report) → report_found (query_of c class) (Some dep) found ≡ Some r → selected o r ≡ tells (class_keyword c.parent.profile.status)
  of_class class dep None r e = absurd (not_none r e)
  of_class class dep (Some bits) r e = ap (selected o) (sym (same_some (nonsolvable (query_of c class) dep bits) r e))

  of_whole : (class : Class) (expr : Option (List Dep)) → is_some expr ≡ true → (r : Report) → report_found (query_of c class) expr (least_of (query_of c class)) ≡ Some r → selected o r ≡ tells (class_keyword c.parent.profile.status)
  of_whole class None whole r e = absurd (false≢true whole)
  of_whole class (Some dep) whole r e = of_class class dep (least_of (query_of c class)) r e

  whole_of : (class : Class) → has_query c class ≡ true → is_whole c.member.body class ≡ true
  whole_of class has =
      let both = and_parts (has_class c.parent.pkg.eapi class) (is_whole c.member.body Required && is_whole c.member.body class) has in
      (and_parts (is_whole c.member.body Required) (is_whole c.member.body class) both.1).1

  told : (class : Class) → has_query c class ≡ true → (r : Report) → query_report (query_of c class) ≡ Some r → selected o r ≡ is_selected o c class
  told Required has r e = of_required Required (least_of (query_of c Required)) r e
  told Depend has r e = of_whole Depend c.member.body.depend (whole_of Depend has) r e
  told Bdepend has r e = of_whole Bdepend c.member.body.bdepend (whole_of Bdepend has) r e
  told Rdepend has r e = of_whole Rdepend c.member.body.rdepend (whole_of Rdepend has) r e
  told Pdepend has r e = of_whole Pdepend c.member.body.pdepend (whole_of Pdepend has) r e
  told Idepend has r e = of_whole Idepend c.member.body.idepend (whole_of Idepend has) r e

  abbrev chosen : List Class → List Report
  chosen ks = filter (selected o) (filter_map query_report (map (query_of c) (filter (has_query c) ks)))

  abbrev asked : List Class → List Report
  asked ks = filter_map query_report (map (query_of c) (filter (is_asked o c) ks))

  of_case : (ks : List Class) → chosen ks ≡ asked ks
  of_case [] = refl
  of_case (k ∷ ks) = by (has_query c k) refl (of_case ks)
    where
      found : has_query c k ≡ true → (rep : Option Report) → query_report (query_of c k) ≡ rep → (s : Bool) → is_selected o c k ≡ s → chosen ks ≡ asked ks → chosen (k ∷ ks) ≡ asked (k ∷ ks)
      found has None e true s rest = rw (has, s, e) rest
      found has None e false s rest = rw (has, s, e) rest
      found has (Some r) e true s rest = rw (has, s, e, told k has r e) (rw s (ap (λ rs. r ∷ rs) rest))
      found has (Some r) e false s rest = rw (has, s, e, told k has r e) (rw s rest)

      by : (h : Bool) → has_query c k ≡ h → chosen ks ≡ asked ks → chosen (k ∷ ks) ≡ asked (k ∷ ks)
      by true has rest = found has (query_report (query_of c k)) refl (is_selected o c k) refl rest
      by false has rest = rw has rest

pub of_cases : (o : Options) (cs : List Case) → filter (selected o) (filter_map query_report (flat_map case_queries_all cs)) ≡ filter_map query_report (flat_map (case_queries o) cs)
of_cases o [] = refl
of_cases o (c ∷ cs) =
    ap (filter (selected o)) (filter_map-append query_report (case_queries_all c) (flat_map case_queries_all cs))
    ∙ (filter-append (selected o) (filter_map query_report (case_queries_all c)) (filter_map query_report (flat_map case_queries_all cs))
    ∙ (ap (λ rs. rs ++ filter (selected o) (filter_map query_report (flat_map case_queries_all cs))) (of_case o c classes)
    ∙ (ap (λ rs. filter_map query_report (case_queries o c) ++ rs) (of_cases o cs)
    ∙ sym (filter_map-append query_report (case_queries o c) (flat_map (case_queries o) cs)))))

pub all_selected : (o : Options) (repo : Repo) → filter (selected o) (plain_reports repo) ++ filter_map query_report (queries o repo) ≡ filter (selected o) (reports repo)
all_selected o repo =
    ap (λ rs. filter (selected o) (plain_reports repo) ++ rs) (sym (of_cases o (flat_map (cases_of repo) (members repo))))
    ∙ sym (filter-append (selected o) (plain_reports repo) (query_reports repo))
