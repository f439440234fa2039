-- Queries and their reports: the stale reports are those of the queries that are due, and the other queries are alike in both repositories.
use Rattle.std.proofs.Common.{◌≡◌, ℕ, Bool, true, false, ◌||◌, not, if◌then◌else◌, List, [], ◌∷◌, ◌++◌, map, filter, refl, sym, ap, ◌∙◌, Option, Some, None}
use Rattle.std.specs.Prelude.{flat_map, filter_map}
use Rattle.std.proofs.lemmas.Grind.{flat_map-append}
use Rattle.std.specs.List.{AllByRecursion}
use Rattle.gv_entry.specs.declared.entry.Body.{Body}
use Rattle.gv_facts.specs.Visible.{judged}
use Rattle.gv_facts.specs.declared.kinds.Class.{Class}
use Rattle.gv_facts.specs.declared.kinds.Level.{Level}
use Rattle.gv_facts.specs.declared.pkg.Pkg.{Pkg}
use Rattle.gv_facts.specs.declared.profile.Profile.{Profile}
use Rattle.gv_report.specs.declared.options.Options.{Options}
use Rattle.gv_report.specs.declared.report.Report.{Report}
use Rattle.gv_load.specs.declared.loading.Repo.{Repo}
use Rattle.gv_plain.specs.Cases.{Case, Member, case_at, case_in, cases_of, members}
use Rattle.gv_plain.specs.Classes.{classes}
use Rattle.gv_reload.specs.EntryEdits.{DifferIn, is_edited_pkg}
use Rattle.gv_checks.specs.Queries.{Query, case_queries, is_asked, queries, query_of}
use Rattle.gv_renew.specs.Renewal.{is_due, is_lasting, is_stale, mentions}
use Rattle.gv_plain.specs.PlainReports.{atoms_in}
use Rattle.gv_checks.specs.RepoReports.{query_report}
use Rattle.gv_renew.proofs.Locality.{Alike, all_weaker}
use Rattle.gv_plain.specs.Lists.{filter_flat, flat_same}
use Rattle.gv_renew.proofs.RenewalMembers.{NoneEdited, NumberFree, cases_alike, members_same}
use Rattle.gv_renew.proofs.RenewalStale.{KnownIf, report_stale}
use Rattle.gv_renew.proofs.RenewalTold.{all_join, filter_refused}

-- ---- lists

flat_flat : {A B C : Type 0} (f : B → List C) (g : A → List B) (xs : List A) → flat_map f (flat_map g xs) ≡ flat_map (λ x. flat_map f (g x)) xs
flat_flat f g [] = refl
flat_flat f g (x ∷ xs) = flat_map-append f (g x) (flat_map g xs) ∙ ap (λ rs. flat_map f (g x) ++ rs) (flat_flat f g xs)

-- what some of them make
some_flat : {A B C : Type 0} (f : B → List C) (test : B → Bool) (g : A → List B) (xs : List A)
    → flat_map f (filter test (flat_map g xs)) ≡ flat_map (λ x. flat_map f (filter test (g x))) xs
some_flat f test g xs = ap (flat_map f) (filter_flat test g xs) ∙ flat_flat f (λ x. filter test (g x)) xs

some_map : {A B C : Type 0} (f : B → List C) (test : B → Bool) (g : A → B) (ask : A → Bool) (xs : List A)
    → flat_map f (filter test (map g (filter ask xs))) ≡ flat_map (λ x. if ask x then (if test (g x) then f (g x) else []) else []) xs
some_map f test g ask [] = refl
some_map f test g ask (x ∷ xs) = by (ask x) refl (test (g x)) refl (some_map f test g ask xs)
  where
    by : (a : Bool) → ask x ≡ a → (t : Bool) → test (g x) ≡ t
        → flat_map f (filter test (map g (filter ask xs))) ≡ flat_map (λ x. if ask x then (if test (g x) then f (g x) else []) else []) xs
        → flat_map f (filter test (map g (filter ask (x ∷ xs)))) ≡ flat_map (λ x. if ask x then (if test (g x) then f (g x) else []) else []) (x ∷ xs)
    by true a true t rest = rw (a, t) (ap (λ ys. f (g x) ++ ys) rest)
    by true a false t rest = rw (a, t) rest
    by false a t b rest = rw a rest

abbrev pub as_list : {X : Type 0} → Option X → List X
as_list None = []
as_list (Some x) = x ∷ []

pub found_flat : {A X : Type 0} (h : A → Option X) (xs : List A) → filter_map h xs ≡ flat_map (λ x. as_list (h x)) xs
found_flat {X = X} h [] = refl
found_flat {X = X} h (x ∷ xs) = by (h x) refl (found_flat h xs)
  where
    by : (found : Option X) → h x ≡ found → filter_map h xs ≡ flat_map (λ x. as_list (h x)) xs → filter_map h (x ∷ xs) ≡ flat_map (λ x. as_list (h x)) (x ∷ xs)
    by None e rest = rw e rest
    by (Some r) e rest = rw e (ap (λ rs. r ∷ rs) rest)

-- tests of what is made, by tests of what it is made of
test_found : {A X : Type 0} (test : X → Bool) (by_source : A → Bool) (h : A → Option X) (xs : List A)
    → AllByRecursion (λ x. (r : X) → h x ≡ Some r → test r ≡ by_source x) xs
    → filter test (filter_map h xs) ≡ filter_map h (filter by_source xs)
test_found {X = X} test by_source h [] all = refl
test_found {X = X} test by_source h (x ∷ xs) all = by (h x) refl (by_source x) refl (test_found test by_source h xs all.1)
  where
    by : (found : Option X) → h x ≡ found → (b : Bool) → by_source x ≡ b → filter test (filter_map h xs) ≡ filter_map h (filter by_source xs)
        → filter test (filter_map h (x ∷ xs)) ≡ filter_map h (filter by_source (x ∷ xs))
    by None e true b rest = rw (e, b) (rw e rest)
    by None e false b rest = rw (e, b) rest
    by (Some r) e true b rest = rw (e, b, all.0 r e ∙ b) (rw e (ap (λ rs. r ∷ rs) rest))
    by (Some r) e false b rest = rw (e, b, all.0 r e ∙ b) rest

all_flat_all : {A X : Type 0} (P : X → Type 0) (g : A → List X) (xs : List A) → AllByRecursion (λ x. AllByRecursion P (g x)) xs → AllByRecursion P (flat_map g xs)
all_flat_all P g [] all = tt
all_flat_all P g (x ∷ xs) all = all_join P (g x) (flat_map g xs) all.0 (all_flat_all P g xs all.1)

all_mapped : {A X : Type 0} (P : X → Type 0) (g : A → X) (test : A → Bool) → ((a : A) → P (g a)) → (xs : List A) → AllByRecursion P (map g (filter test xs))
all_mapped P g test each [] = tt
all_mapped P g test each (x ∷ xs) = by (test x) refl (all_mapped P g test each xs)
  where
    by : (b : Bool) → test x ≡ b → AllByRecursion P (map g (filter test xs)) → AllByRecursion P (map g (filter test (x ∷ xs)))
    by true e rest = rw e (each x, rest)
    by false e rest = rw e rest

-- ---- each query of a repository

module _ (o : Options) where
  pub cases_each : (P : Query → Type 0) (among : List Pkg) (m : Member) → ((profile : Profile) (level : Level) (k : Class) → P (query_of (case_at among m profile level) k))
      → (profiles : List Profile) → AllByRecursion P (flat_map (case_queries o) (filter_map (case_in among m) profiles))
  cases_each P among m each [] = tt
  cases_each P among m each (profile ∷ profiles) = by (judged m.pkg profile) refl (cases_each P among m each profiles)
    where
      by : (l : Option Level) → judged m.pkg profile ≡ l → AllByRecursion P (flat_map (case_queries o) (filter_map (case_in among m) profiles))
          → AllByRecursion P (flat_map (case_queries o) (filter_map (case_in among m) (profile ∷ profiles)))
      by None e rest = rw e rest
      by (Some level) e rest =
          rw e (all_join P (case_queries o (case_at among m profile level)) _
          (all_mapped P (query_of (case_at among m profile level)) (is_asked o (case_at among m profile level)) (each profile level) classes) rest)

  abbrev queries_of : Repo → Member → List Query
  queries_of repo m = flat_map (case_queries o) (cases_of repo m)

  by_member : (repo : Repo) → queries o repo ≡ flat_map (queries_of repo) (members repo)
  by_member repo = flat_flat (case_queries o) (cases_of repo) (members repo)

  pub each_query : (P : Query → Type 0) (repo : Repo)
      → AllByRecursion (λ m. (profile : Profile) (level : Level) (k : Class) → P (query_of (case_at repo.pkgs m profile level) k)) (members repo)
      → AllByRecursion P (queries o repo)
  each_query P repo each = rw (by_member repo)
      (all_flat_all P (queries_of repo) (members repo)
      (all_weaker _ (λ m. AllByRecursion P (queries_of repo m)) (λ m each. cases_each P repo.pkgs m each repo.profiles) (members repo) each))

  module _ (paths : List (List ℕ)) where
    abbrev pub is_past : Query → Bool
    is_past q = not (is_due paths q)

    -- ---- the stale reports of queries
    module _ (ms : List Member) (repo : Repo) (known : AllByRecursion (λ (m : Member). KnownIf paths ms m.pkg m.body) (members repo)) where
      by_due : AllByRecursion (λ q. (r : Report) → query_report q ≡ Some r → is_stale paths ms r ≡ is_due paths q) (queries o repo)
      by_due = each_query (λ q. (r : Report) → query_report q ≡ Some r → is_stale paths ms r ≡ is_due paths q) repo
          (all_weaker (λ (m : Member). KnownIf paths ms m.pkg m.body) _
          (λ m known profile level k. report_stale paths ms (query_of (case_at repo.pkgs m profile level) k) refl known) (members repo) known)

      pub stale_asked : filter (is_stale paths ms) (filter_map query_report (queries o repo)) ≡ filter_map query_report (filter (is_due paths) (queries o repo))
      stale_asked = test_found (is_stale paths ms) (is_due paths) query_report (queries o repo) by_due

      pub lasting_asked : filter (is_lasting paths ms) (filter_map query_report (queries o repo)) ≡ filter_map query_report (filter is_past (queries o repo))
      lasting_asked = test_found (is_lasting paths ms) is_past query_report (queries o repo)
          (all_weaker (λ q. (r : Report) → query_report q ≡ Some r → is_stale paths ms r ≡ is_due paths q) _ (λ q e r is. ap not (e r is)) (queries o repo) by_due)

    -- ---- what the other queries make, where it goes by what a query rests on
    module _ {X : Type 0} (f : Query → List X)
        (local : (xs ys : List Pkg) (p : Pkg) (profile : Profile) (level : Level) (i j : ℕ) (b : Body) (k : Class) → AllByRecursion (Alike xs ys) (atoms_in b k)
        → f (query_of (case_at xs (record { number = i; pkg = p; body = b }) profile level) k)
        ≡ f (query_of (case_at ys (record { number = j; pkg = p; body = b }) profile level) k)) where
      abbrev past_in : Case → List X
      past_in c = flat_map f (filter is_past (case_queries o c))

      abbrev past_of : Repo → Member → List X
      past_of repo m = flat_map f (filter is_past (queries_of repo m))

      past_cases : (repo : Repo) (m : Member) → past_of repo m ≡ flat_map past_in (cases_of repo m)
      past_cases repo m = some_flat f is_past (case_queries o) (cases_of repo m)

      past_case : (xs ys : List Pkg) (p : Pkg) (b : Body) → ((k : Class) → mentions paths b k ≡ false → AllByRecursion (Alike xs ys) (atoms_in b k))
          → (i j : ℕ) (profile : Profile) (level : Level)
          → past_in (case_at xs (record { number = i; pkg = p; body = b }) profile level) ≡ past_in (case_at ys (record { number = j; pkg = p; body = b }) profile level)
      past_case xs ys p b alike i j profile level =
          some_map f is_past (query_of (at xs i)) (is_asked o (at xs i)) classes
          ∙ (flat_same (asked xs i) (asked ys j) one classes ∙ sym (some_map f is_past (query_of (at ys j)) (is_asked o (at ys j)) classes))
        where
          at : List Pkg → ℕ → Case
          at ps n = case_at ps (record { number = n; pkg = p; body = b }) profile level

          asked : List Pkg → ℕ → Class → List X
          asked ps n k = if is_asked o (at ps n) k then (if is_past (query_of (at ps n) k) then f (query_of (at ps n) k) else []) else []

          one : (k : Class) → asked xs i k ≡ asked ys j k
          one k = by (is_edited_pkg paths p) refl (mentions paths b k) refl
            where
              by : (e : Bool) → is_edited_pkg paths p ≡ e → (m : Bool) → mentions paths b k ≡ m → asked xs i k ≡ asked ys j k
              by true e m is = rw e refl
              by false e true is = rw (e, is) refl
              by false e false is =
                  ap (λ rs. if is_asked o (at ys j) k then (if is_past (query_of (at ys j) k) then rs else []) else []) (local xs ys p profile level i j b k (alike k is))

      past_free : (repo : Repo) → NumberFree paths (past_of repo)
      past_free repo i j p b =
          past_cases repo (record { number = i; pkg = p; body = b })
          ∙ (cases_alike past_in repo.pkgs repo.pkgs i j p b (past_case repo.pkgs repo.pkgs p b (λ k none. all_same (atoms_in b k)) i j) repo.profiles
          ∙ sym (past_cases repo (record { number = j; pkg = p; body = b })))
        where
          all_same : (atoms : _) → AllByRecursion (Alike repo.pkgs repo.pkgs) atoms
          all_same [] = tt
          all_same (a ∷ atoms) = (refl, all_same atoms)

      past_none : (repo : Repo) → NoneEdited paths (past_of repo)
      past_none repo m e =
          ap (flat_map f) (filter_refused is_past (queries_of repo m)
          (cases_each (λ q. is_past q ≡ false) repo.pkgs m (λ profile level k. ap (λ b. not (b || mentions paths m.body k)) e) repo.profiles))

      pub past_same : (old whole : Repo) → DifferIn paths old whole
          → ((b : Body) (k : Class) → mentions paths b k ≡ false → AllByRecursion (Alike old.pkgs whole.pkgs) (atoms_in b k))
          → flat_map f (filter is_past (queries o old)) ≡ flat_map f (filter is_past (queries o whole))
      past_same old whole differ alike =
          parts old ∙ (members_same paths (λ p b. Unit {0}) (past_of old) (past_of whole) one old whole differ
          (past_free old) (past_free whole) (past_none old) (past_none whole) (all_units (members whole)) ∙ sym (parts whole))
        where
          parts : (repo : Repo) → flat_map f (filter is_past (queries o repo)) ≡ flat_map (past_of repo) (members repo)
          parts repo = ap (λ qs. flat_map f (filter is_past qs)) (by_member repo) ∙ some_flat f is_past (queries_of repo) (members repo)

          all_units : (ms : List Member) → AllByRecursion (λ (m : Member). Unit {0}) ms
          all_units [] = tt
          all_units (m ∷ ms) = (tt, all_units ms)

          one : (p : Pkg) (b : Body) → is_edited_pkg paths p ≡ false → Unit {0}
              → past_of old (record { number = 0; pkg = p; body = b }) ≡ past_of whole (record { number = 0; pkg = p; body = b })
          one p b e u =
              past_cases old (record { number = 0; pkg = p; body = b })
              ∙ (cases_alike past_in old.pkgs whole.pkgs 0 0 p b (past_case old.pkgs whole.pkgs p b (alike b) 0 0) old.profiles
              ∙ (ap (λ ps. flat_map past_in (filter_map (case_in whole.pkgs (record { number = 0; pkg = p; body = b })) ps)) (sym differ.profiles)
              ∙ sym (past_cases whole (record { number = 0; pkg = p; body = b }))))
