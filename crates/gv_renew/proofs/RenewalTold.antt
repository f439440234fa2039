-- What is told of packages and of queries: the stale ones are those that are told anew, and the others are the same in both repositories.
use Rattle.std.proofs.Common.{◌≡◌, ℕ, Bool, true, false, ◌||◌, not, if◌then◌else◌, List, [], ◌∷◌, ◌++◌, map, filter, refl, sym, ap, subst, ◌∙◌, Option, Some, None, append-nil}
use Rattle.std.specs.Prelude.{flat_map, filter_map}
use Rattle.std.proofs.lemmas.Bool.{false≢true}
use Rattle.std.proofs.lemmas.List.Elements.{filter-append}
use Rattle.std.specs.List.{AllByRecursion}
use Rattle.gv_entry.specs.declared.entry.Body.{Body}
use Rattle.gv_facts.specs.Visible.{judged}
use Rattle.gv_facts.specs.declared.kinds.Class.{Class}
use Rattle.gv_facts.specs.declared.kinds.Level.{Level}
use Rattle.gv_facts.specs.declared.pkg.Pkg.{Pkg}
use Rattle.gv_facts.specs.declared.profile.Profile.{Profile}
use Rattle.gv_report.specs.Keyword.{has_keyword}
use Rattle.gv_report.specs.declared.keyword.Keyword.TheVariants as keywords
use Rattle.gv_report.specs.declared.options.Options.{Options}
use Rattle.gv_report.specs.declared.report.Report.{Report}
use Rattle.gv_load.specs.declared.loading.Repo.{Repo}
use Rattle.gv_plain.specs.Cases.{Case, Member, case_at, case_in, cases_of}
use Rattle.gv_reload.specs.EntryEdits.{is_edited_pkg}
use Rattle.gv_plain.specs.Plain.{is_told, told_case, told_live, told_member, told_nonexistent, told_unstated}
use Rattle.gv_renew.specs.Renewal.{is_lasting, is_stale, mentions, told_anew, told_anew_in}
use Rattle.gv_plain.specs.PlainReports.{atoms_in, live_in, nonexistent, nonexistent_in, readable_classes, unstated, unstated_in}
use Rattle.gv_renew.proofs.Locality.{Alike, nonexistent_alike}
use Rattle.gv_plain.specs.Lists.{filter_flat, flat_same, one_kind}
use Rattle.gv_renew.proofs.RenewalMembers.{NoneEdited, NumberFree, cases_alike}
use Rattle.gv_renew.proofs.RenewalStale.{KnownIf, due_in, live_stale, nonexistent_stale, unstated_stale}

-- ---- lists

module _ {X : Type 0} (P : X → Type 0) where
  pub all_join : (xs ys : List X) → AllByRecursion P xs → AllByRecursion P ys → AllByRecursion P (xs ++ ys)
  all_join [] ys a b = b
  all_join (x ∷ xs) ys a b = (a.0, all_join xs ys a.1 b)

  all_if : (b : Bool) (xs : List X) → AllByRecursion P xs → AllByRecursion P (if b then xs else [])
  all_if true xs a = a
  all_if false xs a = tt

  pub all_flat : {A : Type 0} (f : A → List X) → ((a : A) → AllByRecursion P (f a)) → (items : List A) → AllByRecursion P (flat_map f items)
  all_flat f each [] = tt
  all_flat f each (a ∷ items) = all_join (f a) (flat_map f items) (each a) (all_flat f each items)

  all_map : {A : Type 0} (f : A → X) → ((a : A) → P (f a)) → (items : List A) → AllByRecursion P (map f items)
  all_map f each [] = tt
  all_map f each (a ∷ items) = (each a, all_map f each items)

module _ {X : Type 0} (test : X → Bool) where
  pub filter_passed : (xs : List X) → AllByRecursion (λ x. test x ≡ true) xs → filter test xs ≡ xs
  filter_passed [] all = refl
  filter_passed (x ∷ xs) all = rw all.0 (ap (λ ys. x ∷ ys) (filter_passed xs all.1))

  pub filter_refused : (xs : List X) → AllByRecursion (λ x. test x ≡ false) xs → filter test xs ≡ []
  filter_refused [] all = refl
  filter_refused (x ∷ xs) all = rw all.0 (filter_refused xs all.1)

  filter_if : (b : Bool) (xs : List X) → filter test (if b then xs else []) ≡ (if b then filter test xs else [])
  filter_if true xs = refl
  filter_if false xs = refl

  flat_if : {Y : Type 0} (f : X → List Y) (xs : List X) → flat_map (λ x. if test x then f x else []) xs ≡ flat_map f (filter test xs)
  flat_if f [] = refl
  flat_if f (x ∷ xs) = by (test x) refl (flat_if f xs)
    where
      by : (b : Bool) → test x ≡ b → flat_map (λ x. if test x then f x else []) xs ≡ flat_map f (filter test xs)
          → flat_map (λ x. if test x then f x else []) (x ∷ xs) ≡ flat_map f (filter test (x ∷ xs))
      by true e rest = rw e (ap (λ ys. f x ++ ys) rest)
      by false e rest = rw e rest

pub all_turned : {X : Type 0} (test : X → Bool) (b : Bool) (xs : List X) → AllByRecursion (λ x. test x ≡ b) xs → AllByRecursion (λ x. not (test x) ≡ not b) xs
all_turned test b [] all = tt
all_turned test b (x ∷ xs) all = (ap not all.0, all_turned test b xs all.1)

to_bit : {X : Type 0} (test : X → Bool) (b c : Bool) → b ≡ c → (xs : List X) → AllByRecursion (λ x. test x ≡ b) xs → AllByRecursion (λ x. test x ≡ c) xs
to_bit test b c e xs = subst (λ b. AllByRecursion (λ x. test x ≡ b) xs) e

-- ---- what is told of packages

module _ (o : Options) (paths : List (List ℕ)) (ms : List Member) where
  abbrev stale : Report → Bool
  stale = is_stale paths ms

  abbrev lasting : Report → Bool
  lasting = is_lasting paths ms

  case_stale : (c : Case) → AllByRecursion (λ r. stale r ≡ is_edited_pkg paths c.parent.pkg) (told_case o c)
  case_stale c = all_join Edited (told_unstated o c) (told_live o c)
      (all_if Edited (is_told o c keywords.UnstatedIuse) (flat_map (unstated_in c) (readable_classes c.member.pkg c.member.body))
      (all_flat Edited (unstated_in c) (λ k. all_map Edited (unstated c k) (λ flag. unstated_stale paths ms c k flag) _) (readable_classes c.member.pkg c.member.body)))
      (all_if Edited (is_told o c keywords.VisibleVcsPkg) (live_in c) (all_if Edited c.parent.pkg.live _ (live_stale paths ms c, tt)))
    where
      Edited : Report → Type 0
      Edited r = stale r ≡ is_edited_pkg paths c.parent.pkg

  cases_stale : (among : List Pkg) (m : Member) (profiles : List Profile)
      → AllByRecursion (λ r. stale r ≡ is_edited_pkg paths m.pkg) (flat_map (told_case o) (filter_map (case_in among m) profiles))
  cases_stale among m [] = tt
  cases_stale among m (profile ∷ profiles) = by (judged m.pkg profile) refl (cases_stale among m profiles)
    where
      by : (l : Option Level) → judged m.pkg profile ≡ l
          → AllByRecursion (λ r. stale r ≡ is_edited_pkg paths m.pkg) (flat_map (told_case o) (filter_map (case_in among m) profiles))
          → AllByRecursion (λ r. stale r ≡ is_edited_pkg paths m.pkg) (flat_map (told_case o) (filter_map (case_in among m) (profile ∷ profiles)))
      by None e rest = rw e rest
      by (Some level) e rest =
          rw e (all_join (λ r. stale r ≡ is_edited_pkg paths m.pkg) (told_case o (case_at among m profile level)) _ (case_stale (case_at among m profile level)) rest)

  module _ (p : Pkg) (body : Body) (known : KnownIf paths ms p body) where
    nowhere_stale : (among : List Pkg) (k : Class) → AllByRecursion (λ r. stale r ≡ due_in paths ms p body k) (nonexistent_in among p body k)
    nowhere_stale among k = all_map (λ r. stale r ≡ due_in paths ms p body k) (nonexistent p k) (λ a. nonexistent_stale paths ms p body known k a) _

    abbrev others : Class → Bool
    others k = not (mentions paths body k)

    -- of an edited package all is stale
    edited_stale : is_edited_pkg paths p ≡ true → (among : List Pkg) → AllByRecursion (λ r. stale r ≡ true) (told_nonexistent o among p body)
    edited_stale e among = all_if (λ r. stale r ≡ true) (has_keyword o.keywords keywords.NonexistentDeps) _
        (all_flat (λ r. stale r ≡ true) (nonexistent_in among p body)
        (λ k. to_bit stale (due_in paths ms p body k) true (ap (λ b. b || mentions paths body k) e) _ (nowhere_stale among k)) (readable_classes p body))

    -- and of another one it goes by the class
    stale_nonexistent : is_edited_pkg paths p ≡ false → (among : List Pkg) → filter stale (told_nonexistent o among p body)
        ≡ (if has_keyword o.keywords keywords.NonexistentDeps then flat_map (nonexistent_in among p body) (filter (mentions paths body) (readable_classes p body)) else [])
    stale_nonexistent e among =
        filter_if stale (has_keyword o.keywords keywords.NonexistentDeps) (flat_map (nonexistent_in among p body) (readable_classes p body))
        ∙ ap (λ rs. if has_keyword o.keywords keywords.NonexistentDeps then rs else [])
        (filter_flat stale (nonexistent_in among p body) (readable_classes p body)
        ∙ (flat_same (λ k. filter stale (nonexistent_in among p body k)) (λ k. if mentions paths body k then nonexistent_in among p body k else [])
        (λ k. one_kind stale (nonexistent p k) (mentions paths body k)
        (λ a. nonexistent_stale paths ms p body known k a ∙ ap (λ b. b || mentions paths body k) e) _) (readable_classes p body)
        ∙ flat_if (mentions paths body) (nonexistent_in among p body) (readable_classes p body)))

    module _ (xs ys : List Pkg) (alike : (k : Class) → mentions paths body k ≡ false → AllByRecursion (Alike xs ys) (atoms_in body k)) where
      lasting_class : is_edited_pkg paths p ≡ false → (k : Class) → filter lasting (nonexistent_in xs p body k) ≡ filter lasting (nonexistent_in ys p body k)
      lasting_class e k = by (mentions paths body k) refl
        where
          by : (b : Bool) → mentions paths body k ≡ b → filter lasting (nonexistent_in xs p body k) ≡ filter lasting (nonexistent_in ys p body k)
          by true m = none xs ∙ sym (none ys)
            where
              none : (among : List Pkg) → filter lasting (nonexistent_in among p body k) ≡ []
              none among = filter_refused lasting (nonexistent_in among p body k)
                  (all_turned stale true (nonexistent_in among p body k)
                  (to_bit stale (due_in paths ms p body k) true (ap (λ b. b || mentions paths body k) e ∙ m) _ (nowhere_stale among k)))
          by false m = ap (filter lasting) (nonexistent_alike xs ys p body k (alike k m))

      lasting_nonexistent : is_edited_pkg paths p ≡ false → filter lasting (told_nonexistent o xs p body) ≡ filter lasting (told_nonexistent o ys p body)
      lasting_nonexistent e =
          filter_if lasting (has_keyword o.keywords keywords.NonexistentDeps) (flat_map (nonexistent_in xs p body) (readable_classes p body))
          ∙ (ap (λ rs. if has_keyword o.keywords keywords.NonexistentDeps then rs else [])
          (filter_flat lasting (nonexistent_in xs p body) (readable_classes p body)
          ∙ (flat_same (λ k. filter lasting (nonexistent_in xs p body k)) (λ k. filter lasting (nonexistent_in ys p body k)) (lasting_class e) (readable_classes p body)
          ∙ sym (filter_flat lasting (nonexistent_in ys p body) (readable_classes p body))))
          ∙ sym (filter_if lasting (has_keyword o.keywords keywords.NonexistentDeps) (flat_map (nonexistent_in ys p body) (readable_classes p body))))

  vacuous : (p : Pkg) (body : Body) → is_edited_pkg paths p ≡ true → KnownIf paths ms p body
  vacuous p body e = λ f. absurd (false≢true (sym f ∙ e))

  all_edited : (repo : Repo) (m : Member) → is_edited_pkg paths m.pkg ≡ true → AllByRecursion (λ r. stale r ≡ true) (told_member o repo m)
  all_edited repo m e = all_join (λ r. stale r ≡ true) (told_nonexistent o repo.pkgs m.pkg m.body) (flat_map (told_case o) (cases_of repo m))
      (edited_stale m.pkg m.body (vacuous m.pkg m.body e) e repo.pkgs) (to_bit stale (is_edited_pkg paths m.pkg) true e _ (cases_stale repo.pkgs m repo.profiles))

  -- the stale ones are those that are told anew
  pub stale_told : (repo : Repo) (m : Member) → KnownIf paths ms m.pkg m.body → filter stale (told_member o repo m) ≡ told_anew o paths repo m
  stale_told repo m known = by (is_edited_pkg paths m.pkg) refl
    where
      by : (b : Bool) → is_edited_pkg paths m.pkg ≡ b → filter stale (told_member o repo m) ≡ (if b then told_member o repo m else told_anew_in o paths repo m)
      by true e = filter_passed stale (told_member o repo m) (all_edited repo m e)
      by false e =
          filter-append stale (told_nonexistent o repo.pkgs m.pkg m.body) (flat_map (told_case o) (cases_of repo m))
          ∙ (ap (λ rs. filter stale (told_nonexistent o repo.pkgs m.pkg m.body) ++ rs)
          (filter_refused stale (flat_map (told_case o) (cases_of repo m)) (to_bit stale (is_edited_pkg paths m.pkg) false e _ (cases_stale repo.pkgs m repo.profiles)))
          ∙ (append-nil (filter stale (told_nonexistent o repo.pkgs m.pkg m.body)) ∙ stale_nonexistent m.pkg m.body known e repo.pkgs))

  -- what lasts of a package
  abbrev pub lasting_of : Repo → Member → List Report
  lasting_of repo m = filter lasting (told_member o repo m)

  pub lasting_none : (repo : Repo) → NoneEdited paths (lasting_of repo)
  lasting_none repo m e = filter_refused lasting (told_member o repo m) (all_turned stale true (told_member o repo m) (all_edited repo m e))

  told_cases : (xs ys : List Pkg) (i j : ℕ) (p : Pkg) (b : Body) (profiles : List Profile)
      → flat_map (told_case o) (filter_map (case_in xs (record { number = i; pkg = p; body = b })) profiles)
      ≡ flat_map (told_case o) (filter_map (case_in ys (record { number = j; pkg = p; body = b })) profiles)
  told_cases xs ys i j p b profiles = cases_alike (told_case o) xs ys i j p b (λ profile level. refl) profiles

  pub lasting_free : (repo : Repo) → NumberFree paths (lasting_of repo)
  lasting_free repo i j p b = ap (λ rs. filter lasting (told_nonexistent o repo.pkgs p b ++ rs)) (told_cases repo.pkgs repo.pkgs i j p b repo.profiles)

  -- is the same in both
  pub lasting_same : (old whole : Repo) → whole.profiles ≡ old.profiles
      → ((b : Body) (k : Class) → mentions paths b k ≡ false → AllByRecursion (Alike old.pkgs whole.pkgs) (atoms_in b k))
      → (p : Pkg) (b : Body) → is_edited_pkg paths p ≡ false → KnownIf paths ms p b
      → lasting_of old (record { number = 0; pkg = p; body = b }) ≡ lasting_of whole (record { number = 0; pkg = p; body = b })
  lasting_same old whole profiles alike p b e known =
      filter-append lasting (told_nonexistent o old.pkgs p b) _
      ∙ (ap (λ rs. rs ++ filter lasting (flat_map (told_case o) (cases_of old (record { number = 0; pkg = p; body = b }))))
      (lasting_nonexistent p b known old.pkgs whole.pkgs (alike b) e)
      ∙ (ap (λ rs. filter lasting (told_nonexistent o whole.pkgs p b) ++ filter lasting rs)
      (told_cases old.pkgs whole.pkgs 0 0 p b old.profiles ∙ ap
      (λ ps. flat_map (told_case o) (filter_map (case_in whole.pkgs (record { number = 0; pkg = p; body = b })) ps)) (sym profiles))
      ∙ sym (filter-append lasting (told_nonexistent o whole.pkgs p b) _)))
