-- The selected reports that need no query, as they are found.
use Rattle.std.proofs.Common.{◌≡◌, ℕ, Bool, true, false, ◌&&◌, ◌||◌, if◌then◌else◌, List, [], ◌∷◌, ◌++◌, map, filter, refl, sym, ap, ◌∙◌, Option, Some, None, append-nil}
use Rattle.std.specs.Prelude.{flat_map, option_to_list}
use Rattle.std.specs.List.{list_any}
use Rattle.std.specs.Str.{bytes_eq}
use Rattle.std.proofs.lemmas.Bool.{false≢true}
use Rattle.std.proofs.lemmas.List.Elements.{filter-append}
use Rattle.gv_base.specs.Order.{has_text}
use Rattle.gv_entry.specs.declared.entry.Body.{Body}
use Rattle.gv_facts.specs.Effective.{expand_flags, is_effective, unprefixed_flags}
use Rattle.gv_facts.specs.declared.kinds.Class.{Class}
use Rattle.gv_facts.specs.declared.pkg.Pkg.{Pkg}
use Rattle.gv_facts.specs.declared.profile.Profile.{Profile}
use Rattle.gv_report.specs.Keyword.{has_keyword}
use Rattle.gv_report.specs.Selecting.{in_profiles, selected}
use Rattle.gv_report.specs.declared.keyword.Keyword.TheVariants as keywords
use Rattle.gv_report.specs.declared.options.Options.{Options}
use Rattle.gv_report.specs.declared.report.Report.{Report}
use Rattle.gv_plain.specs.Cases.{Case, Member, cases_of, members}
use Rattle.gv_plain.specs.Lists.{filter_flat, flat_same, one_kind}
use Rattle.gv_plain.specs.Plain.{is_other, is_told, other_flags, told, told_case, told_member, told_nonexistent, told_unstated, unstated_among}
use Rattle.gv_plain.specs.PlainReports.{case_plain, is_unstated, live_in, member_plain, mentioned_in, nonexistent, nonexistent_in, plain_reports, readable_classes, unstated, unstated_in}
use Rattle.gv_load.specs.declared.loading.Repo.{Repo}
use Rattle.gv_plain.specs.Telling.{ToldLaw, numbered, plain_of, told_at, told_if}
use Rattle.gv_plain.specs.declared.unstated.OtherFlags.{OtherFlags}

-- Flags of IUSE are effective.
any_front : {A : Type 0} (test : A → Bool) (xs ys : List A) → list_any test xs ≡ true → list_any test (xs ++ ys) ≡ true
any_front test [] ys h = absurd (false≢true h)
any_front test (x ∷ xs) ys h = by (test x) refl (any_front test xs ys)
  where
    by : (b : Bool) → test x ≡ b → (list_any test xs ≡ true → list_any test (xs ++ ys) ≡ true) → list_any test ((x ∷ xs) ++ ys) ≡ true
    by true e rest = rw e refl
    by false e rest = rw e (rest (sym (ap (λ b. b || list_any test xs) e) ∙ h))

own_effective : (p : Pkg) (profile : Profile) (flag : List ℕ) → has_text p.iuse flag ≡ true → is_effective p profile flag ≡ true
own_effective p profile flag h = any_front (λ t. bytes_eq flag t) p.iuse (profile.iuse_implicit ++ (expand_flags profile ++ unprefixed_flags profile)) h

others_enough : (c : Case) (flags : List (List ℕ)) → filter (is_unstated c) (filter (is_other c.parent.pkg) flags) ≡ filter (is_unstated c) flags
others_enough c [] = refl
others_enough c (f ∷ fs) = by (has_text c.parent.pkg.iuse f) refl (others_enough c fs)
  where
    by : (b : Bool) → has_text c.parent.pkg.iuse f ≡ b → filter (is_unstated c) (filter (is_other c.parent.pkg) fs) ≡ filter (is_unstated c) fs
        → filter (is_unstated c) (filter (is_other c.parent.pkg) (f ∷ fs)) ≡ filter (is_unstated c) (f ∷ fs)
    by true e rest = rw (e, own_effective c.parent.pkg c.parent.profile f e) rest
    by false e rest = rw e (ap (λ xs. if is_unstated c f then f ∷ xs else xs) rest)

among_others : (c : Case) (ks : List Class) → flat_map (unstated_among c) (map (other_flags c.parent.pkg c.member.body) ks) ≡ flat_map (unstated_in c) ks
among_others c [] = refl
among_others c (k ∷ ks) =
    ap (λ fs. map (unstated c k) fs ++ flat_map (unstated_among c) (map (other_flags c.parent.pkg c.member.body) ks)) (others_enough c (mentioned_in c.member.body k))
    ∙ ap (λ rs. unstated_in c k ++ rs) (among_others c ks)

pub unstated_by_others : (c : Case) (others : List OtherFlags) → others ≡ map (other_flags c.parent.pkg c.member.body) (readable_classes c.parent.pkg c.member.body)
    → flat_map (unstated_among c) others ≡ flat_map (unstated_in c) (readable_classes c.parent.pkg c.member.body)
unstated_by_others c others e = ap (flat_map (unstated_among c)) e ∙ among_others c (readable_classes c.parent.pkg c.member.body)

-- Selected reports: those of one keyword in one context are selected all or not at all.
abbrev nothing : {A B : Type 0} → A → List B
nothing x = []

flat_nothing : {A B : Type 0} (xs : List A) → flat_map (nothing {A = A} {B = B}) xs ≡ []
flat_nothing [] = refl
flat_nothing (x ∷ xs) = flat_nothing xs

all_kinds : {A : Type 0} (test : Report → Bool) (f : A → List Report) (b : Bool) → ((x : A) → filter test (f x) ≡ (if b then f x else [])) → (xs : List A) → filter test (flat_map f xs) ≡ (if b then flat_map f xs else [])
all_kinds test f true e xs = filter_flat test f xs ∙ flat_same (λ x. filter test (f x)) f e xs
all_kinds test f false e xs = filter_flat test f xs ∙ (flat_same (λ x. filter test (f x)) nothing e xs ∙ flat_nothing xs)

and_true : (b : Bool) → (b && true) ≡ b
and_true true = refl
and_true false = refl

no_profile : (profiles : Option (List (List ℕ))) → in_profiles profiles None ≡ true
no_profile None = refl
no_profile (Some paths) = refl

module _ (o : Options) where
  nonexistent_told : (among : List Pkg) (p : Pkg) (body : Body) (ks : List Class)
      → filter (selected o) (flat_map (nonexistent_in among p body) ks) ≡ (if has_keyword o.keywords keywords.NonexistentDeps then flat_map (nonexistent_in among p body) ks else [])
  nonexistent_told among p body ks =
      all_kinds (selected o) (nonexistent_in among p body) (has_keyword o.keywords keywords.NonexistentDeps)
      (λ k. one_kind (selected o) (nonexistent p k) (has_keyword o.keywords keywords.NonexistentDeps) (λ a. ap (λ b. has_keyword o.keywords keywords.NonexistentDeps && b) (no_profile o.profiles) ∙ and_true (has_keyword o.keywords keywords.NonexistentDeps)) _) ks

  unstated_told : (c : Case) (ks : List Class) → filter (selected o) (flat_map (unstated_in c) ks) ≡ (if is_told o c keywords.UnstatedIuse then flat_map (unstated_in c) ks else [])
  unstated_told c ks = all_kinds (selected o) (unstated_in c) (is_told o c keywords.UnstatedIuse) (λ k. one_kind (selected o) (unstated c k) (is_told o c keywords.UnstatedIuse) (λ f. refl) _) ks

  live_told : (c : Case) → filter (selected o) (live_in c) ≡ (if is_told o c keywords.VisibleVcsPkg then live_in c else [])
  live_told c = by c.parent.pkg.live refl (is_told o c keywords.VisibleVcsPkg) refl
    where
      by : (l : Bool) → c.parent.pkg.live ≡ l → (b : Bool) → is_told o c keywords.VisibleVcsPkg ≡ b → filter (selected o) (live_in c) ≡ (if is_told o c keywords.VisibleVcsPkg then live_in c else [])
      by true l true b = rw (l, b) refl
      by true l false b = rw (l, b) refl
      by false l true b = rw (l, b) refl
      by false l false b = rw (l, b) refl

  case_told : (c : Case) → filter (selected o) (case_plain c) ≡ told_case o c
  case_told c =
      filter-append (selected o) (flat_map (unstated_in c) (readable_classes c.member.pkg c.member.body)) (live_in c)
      ∙ (ap (λ rs. rs ++ filter (selected o) (live_in c)) (unstated_told c (readable_classes c.member.pkg c.member.body)) ∙ ap (λ rs. told_unstated o c ++ rs) (live_told c))

  pub member_told : (repo : Repo) (m : Member) → filter (selected o) (member_plain repo m) ≡ told_member o repo m
  member_told repo m =
      filter-append (selected o) (flat_map (nonexistent_in repo.pkgs m.pkg m.body) (readable_classes m.pkg m.body)) (flat_map case_plain (cases_of repo m))
      ∙ (ap (λ rs. rs ++ filter (selected o) (flat_map case_plain (cases_of repo m))) (nonexistent_told repo.pkgs m.pkg m.body (readable_classes m.pkg m.body))
      ∙ ap (λ rs. told_nonexistent o repo.pkgs m.pkg m.body ++ rs) (filter_flat (selected o) case_plain (cases_of repo m) ∙ flat_same (λ c. filter (selected o) (case_plain c)) (told_case o) case_told (cases_of repo m)))

  pub all_told : (repo : Repo) → filter (selected o) (plain_reports repo) ≡ told o repo
  all_told repo =
      filter-append (selected o) repo.notes (flat_map (member_plain repo) (members repo))
      ∙ ap (λ rs. filter (selected o) repo.notes ++ rs) (filter_flat (selected o) (member_plain repo) (members repo) ∙ flat_same (λ m. filter (selected o) (member_plain repo m)) (told_member o repo) (member_told repo) (members repo))

-- of one package
pub plain_told : (o : Options) (repo : Repo) (number : ℕ) → told_at o repo number ≡ filter (selected o) (plain_of repo number)
plain_told o repo number = by (numbered repo number)
  where
    by : (m : Option Member) → told_if o repo m ≡ filter (selected o) (flat_map (member_plain repo) (option_to_list m))
    by None = refl
    by (Some m) = sym (member_told o repo m) ∙ ap (filter (selected o)) (sym (append-nil (member_plain repo m)))

-- of all
pub told_law : (o : Options) (repo : Repo) → ToldLaw o repo
told_law o repo = record { each = member_told o repo; all = all_told o repo }
