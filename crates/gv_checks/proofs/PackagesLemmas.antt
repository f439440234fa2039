-- Some packages of a repository: each query has the number of its package, so that those of the packages that are chosen are chosen
-- whole.
use Rattle.std.proofs.Common.{◌≡◌, ℕ, ◌+◌, Bool, true, false, cond, if◌then◌else◌, List, [], ◌∷◌, ◌++◌, filter, refl, sym, ap, subst, ◌∙◌, Option, Some, None, append-nil}
use Rattle.std.specs.Prelude.{flat_map, filter_map, option_to_list}
use Rattle.std.specs.Borrow.{Bor}
use Rattle.std.specs.List.{AllByRecursion}
use Rattle.std.proofs.lemmas.Grind.{flat_map-append}
use Rattle.std.proofs.lemmas.List.Elements.{filter-append}
use Rattle.gv_report.specs.Selecting.{selected}
use Rattle.gv_report.specs.declared.options.Options.{Options}
use Rattle.gv_load.specs.declared.loading.Repo.{Repo}
use Rattle.gv_plain.specs.Cases.{Member, cases_of, members}
use Rattle.gv_checks.specs.Chosen.{chosen_from, is_own, told_of}
use Rattle.gv_plain.specs.Lists.{filter_flat, flat_same}
use Rattle.gv_checks.specs.Named.{IsNamed}
use Rattle.gv_plain.specs.Plain.{told_member}
use Rattle.gv_checks.specs.Queries.{Query, case_queries, case_queries_all, queries, query_name}
use Rattle.gv_plain.specs.PlainReports.{member_plain}
use Rattle.gv_checks.specs.RepoReports.{query_report}
use Rattle.gv_checks.specs.SomePackages.{PackagesLaw, is_on, members_on, queries_on, reports_of_members}
use Rattle.gv_plain.specs.Telling.{ToldLaw}
use Rattle.gv_checks.specs.declared.chosen.Chosen.TheVariants.{Packages}
use Rattle.gv_checks.proofs.ChosenLemmas.{each_query}
use Rattle.gv_checks.proofs.NamedLemmas.{all_named}
use Rattle.gv_checks.proofs.SelectedLemmas.{of_cases}

-- what is so of all is so of those that a test picks out
all_picked : {A : Type 0} (P : A → Type 0) (p : A → Bool) (xs : List A) → AllByRecursion P xs → AllByRecursion P (filter p xs)
all_picked P p [] all = tt
all_picked P p (x ∷ xs) all = by (p x) (all_picked P p xs all.1)
  where
    by : (b : Bool) → AllByRecursion P (filter p xs) → AllByRecursion P (cond b (x ∷ filter p xs) (filter p xs))
    by true rest = (all.0, rest)
    by false rest = rest

whole_or_none : (p : Query → Bool) (b : Bool) (qs : List Query) → AllByRecursion (λ q. p q ≡ b) qs → filter p qs ≡ (if b then qs else [])
whole_or_none p true [] all = refl
whole_or_none p false [] all = refl
whole_or_none p true (q ∷ qs) all = rw all.0 (ap (λ l. q ∷ l) (whole_or_none p true qs all.1))
whole_or_none p false (q ∷ qs) all = rw all.0 (whole_or_none p false qs all.1)

-- ---- the queries of the packages whose bits are on
module _ (bits : List Bool) (o : Options) (repo : Repo) where
  abbrev on : Member → Bool
  on m = is_on bits m

  abbrev is_in : Query → Bool
  is_in q = is_own bits q.case.member.number

  abbrev its : Member → List Query
  its m = flat_map (case_queries o) (cases_of repo m)

  its_alike : (m : Member) → AllByRecursion (λ q. is_in q ≡ on m) (its m)
  its_alike m = each_query o m (λ q. is_in q ≡ on m) (λ c same class. ap (λ (x : Member). is_own bits x.number) same) repo.pkgs repo.profiles

  abbrev asked : List Member → List Query
  asked ms = flat_map (case_queries o) (flat_map (cases_of repo) ms)

  of_members : (ms : List Member) → filter is_in (asked ms) ≡ asked (filter on ms)
  of_members [] = refl
  of_members (m ∷ ms) =
      ap (filter is_in) (flat_map-append (case_queries o) (cases_of repo m) (flat_map (cases_of repo) ms))
      ∙ (filter-append is_in (its m) (asked ms)
      ∙ (ap (λ l. l ++ filter is_in (asked ms)) (whole_or_none is_in (on m) (its m) (its_alike m))
      ∙ (ap (λ l. (if on m then its m else []) ++ l) (of_members ms)
      ∙ one (on m))))
    where
      one : (b : Bool) → (if b then its m else []) ++ asked (filter on ms) ≡ asked (cond b (m ∷ filter on ms) (filter on ms))
      one true = sym (flat_map-append (case_queries o) (cases_of repo m) (flat_map (cases_of repo) (filter on ms)))
      one false = refl

  pub packages_named : AllByRecursion (λ q. IsNamed o repo (query_name q) q) (queries_on bits o repo)
  packages_named = subst (AllByRecursion (λ q. IsNamed o repo (query_name q) q)) (of_members (members repo)) (all_picked (λ q. IsNamed o repo (query_name q) q) is_in (queries o repo) (all_named o repo))

-- ---- chosen by a walk
module _ (told_law : (o : Options) (repo : Repo) → ToldLaw o repo) (bits : Bor (List Bool)) (o : Options) (repo : Repo) where
  as_filter : (n : ℕ) (qs : List Query) → chosen_from (Packages bits) n qs ≡ filter (is_in bits.now o repo) qs
  as_filter n [] = refl
  as_filter n (q ∷ qs) = ap (λ l. if is_in bits.now o repo q then q ∷ l else l) (as_filter (n + 1) qs)

  told_members : (ms : List Member) → flat_map (told_of (Packages bits) o repo) ms ≡ flat_map (told_member o repo) (filter (on bits.now o repo) ms)
  told_members [] = refl
  told_members (m ∷ ms) = ap (λ l. told_of (Packages bits) o repo m ++ l) (told_members ms) ∙ one (on bits.now o repo m)
    where
      one : (b : Bool) → (if b then told_member o repo m else []) ++ flat_map (told_member o repo) (filter (on bits.now o repo) ms)
          ≡ flat_map (told_member o repo) (cond b (m ∷ filter (on bits.now o repo) ms) (filter (on bits.now o repo) ms))
      one true = refl
      one false = refl

  pub packages_law : PackagesLaw bits o repo
  packages_law = record {
    queries_are = as_filter 0 (queries o repo) ∙ of_members bits.now o repo (members repo);
    reports_are = ap (λ rs. rs ++ filter_map query_report (queries_on bits.now o repo)) (told_members (members repo)) ∙ members_told (members_on bits.now repo);
  }
    where
      members_told : (ms : List Member) → flat_map (told_member o repo) ms ++ filter_map query_report (asked bits.now o repo ms) ≡ filter (selected o) (reports_of_members repo ms)
      members_told ms =
          sym (filter-append (selected o) (flat_map (member_plain repo) ms) (filter_map query_report (flat_map case_queries_all (flat_map (cases_of repo) ms)))
          ∙ (ap (λ rs. rs ++ filter (selected o) (filter_map query_report (flat_map case_queries_all (flat_map (cases_of repo) ms))))
          (filter_flat (selected o) (member_plain repo) ms ∙ flat_same (λ m. filter (selected o) (member_plain repo m)) (told_member o repo) (told_law o repo).each ms)
          ∙ ap (λ rs. flat_map (told_member o repo) ms ++ rs) (of_cases o (flat_map (cases_of repo) ms))))
