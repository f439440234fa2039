-- A walk over queries: what one more of them, a refusal and the end do.
use Rattle.std.proofs.Common.{◌≡◌, ℕ, ◌+◌, ◌<◌, ◌≤◌, true, false, Bool, cond, List, [], ◌∷◌, ◌++◌, length, map, filter, get_or, drop, refl, sym, ap, subst, ◌∙◌, Option, Some, None, append_assoc, append-nil}
use Rattle.std.proofs.Math.ListN.{drop_of_length-le}
use Rattle.std.specs.Prelude.{flat_map, filter_map, slice_get, Result, Ok, Err}
use Rattle.std.specs.List.{cons_option}
use Rattle.std.proofs.lemmas.List.{get_or-map, length-map}
use Rattle.std.proofs.lemmas.Option.{slice_get-get_or}
use Rattle.std.proofs.lemmas.Grind.{flat_map-append}
use Rattle.gv_base.specs.Counts.{Counts}
use Rattle.gv_cert.specs.Known.{KnownRecord}
use Rattle.gv_entry.specs.declared.entry.Body.{Body}
use Rattle.gv_facts.specs.declared.kinds.Class.{Class}
use Rattle.gv_facts.specs.declared.pkg.Pkg.{Pkg}
use Rattle.gv_facts.specs.declared.profile.Profile.{Profile}
use Rattle.gv_report.specs.declared.options.Options.{Options}
use Rattle.gv_report.specs.declared.report.Report.{Report}
use Rattle.gv_plain.specs.Cases.{Case, Member, case_in, cases_of, members_from}
use Rattle.gv_plain.specs.Lists.{drop_here}
use Rattle.gv_checks.specs.Progress.{IsAt, Judges, Stops}
use Rattle.gv_checks.specs.Queries.{Query, case_asks, case_queries, class_queries, is_asked, query_of}
use Rattle.gv_checks.specs.Walks.{IsWalk}
use Rattle.gv_plain.specs.Shown.{IsSeenAt}
use Rattle.gv_usestate.specs.Kinds.{IsOneOf}
use Rattle.gv_visible.specs.Candidates.{VisiblePkgs}
use Rattle.gv_checks.specs.declared.fault.JudgeFault.{JudgeFault}
use Rattle.gv_checks.specs.declared.judging.Progress.{Progress}
use Rattle.gv_load.specs.declared.loading.Repo.{Repo}

module _ (b : ℕ) (given : List KnownRecord) where
  -- some, and then the others
  joined : (xs ys : List Query) (p1 p2 p3 : Progress) (n1 n2 n3 : Counts) (u : Unit {0}) (r : Result (Unit {0}) JudgeFault)
      → Judges b given xs p1 p2 n1 n2 (Ok u) → Judges b given ys p2 p3 n2 n3 r → Judges b given (xs ++ ys) p1 p3 n1 n3 r
  joined xs ys p1 p2 p3 n1 n2 n3 u (Ok v) j k = λ start done at. subst (λ l. IsAt b given start l p3 n3) (append_assoc done xs ys) (k start (done ++ xs) (j start done at))
  joined xs ys p1 p2 p3 n1 n2 n3 u (Err f) j k = λ start done rest at.
      subst (λ l. Stops b given l p3.queries f) (append_assoc done xs (ys ++ rest) ∙ ap (λ l. done ++ l) (sym (append_assoc xs ys rest))) (k start (done ++ xs) rest (j start done at))

  module _ (all : List Query) (p0 p1 p2 : Progress) (n0 n1 n2 : Counts) where
    pub walk_next : (whole xs ys : List Query) → whole ≡ xs ++ ys → IsWalk b given whole all p0 p1 n0 n1 → (u : Unit {0}) → Judges b given xs p1 p2 n1 n2 (Ok u) → (b ≡ 0 → n2.solve ≡ n1.solve) → IsWalk b given ys all p0 p2 n0 n2
    walk_next whole xs ys e walk u j unsolved = record {
      somewhere = record { start = walk.somewhere.start; done = walk.somewhere.done ++ xs; at = j walk.somewhere.start walk.somewhere.done walk.somewhere.at };
      goes = λ p3 n3 r k. walk.goes p3 n3 r (subst (λ l. Judges b given l p1 p3 n1 n3 r) (sym e) (joined xs ys p1 p2 p3 n1 n2 n3 u r j k));
      unsolved = λ none. unsolved none ∙ walk.unsolved none;
    }

    pub walk_err : (whole xs ys : List Query) (f : JudgeFault) → whole ≡ xs ++ ys → IsWalk b given whole all p0 p1 n0 n1 → Judges b given xs p1 p2 n1 n2 (Err f) → Judges b given all p0 p2 n0 n2 (Err f)
    walk_err whole xs ys f e walk j =
        walk.goes p2 n2 (Err f) (λ start done rest at. subst (λ l. Stops b given (done ++ l) p2.queries f) (sym (append_assoc xs ys rest) ∙ ap (λ l. l ++ rest) (sym e)) (j start done (ys ++ rest) at))

  pub walk_end : (all whole : List Query) (p0 p1 : Progress) (n0 n1 : Counts) (u : Unit {0}) → whole ≡ [] → IsWalk b given whole all p0 p1 n0 n1 → Judges b given all p0 p1 n0 n1 (Ok u)
  walk_end all whole p0 p1 n0 n1 u e walk =
      walk.goes p1 n1 (Ok u) (λ start done at. subst (λ l. IsAt b given start l p1 n1) (sym (append-nil done) ∙ ap (λ l. done ++ l) (sym e)) at)

-- What is left behind one more class, profile or package.
pub classes_here : (o : Options) (c : Case) (classes : List Class) (class : Class) (i : ℕ) → i < length classes → class ≡ get_or classes i class
    → class_queries o (drop i classes) c ≡ class_queries o (class ∷ []) c ++ class_queries o (drop (i + 1) classes) c
classes_here o c classes class i lt here = ap (λ ks. class_queries o ks c) (drop_here classes class i lt here) ∙ by (is_asked o c class) (filter (is_asked o c) (drop (i + 1) classes))
  where
    by : (b : Bool) (rest : List Class) → map (query_of c) (cond b (class ∷ rest) rest) ≡ map (query_of c) (cond b (class ∷ []) []) ++ map (query_of c) rest
    by true rest = refl
    by false rest = refl

pub classes_left : (o : Options) (c : Case) (classes : List Class) (i : ℕ) → length classes ≤ i → class_queries o (drop i classes) c ≡ []
classes_left o c classes i le = ap (λ ks. class_queries o ks c) (drop_of_length-le classes le)

-- profiles
module _ (o : Options) (among : List Pkg) (m : Member) (profiles : List Profile) (i : ℕ) where
  abbrev queries_in : List Profile → List Query
  queries_in ps = flat_map (case_queries o) (filter_map (case_in among m) ps)

  pub profiles_here : (profile : Profile) → i < length profiles → profile ≡ get_or profiles i profile
      → queries_in (drop i profiles) ≡ case_asks o (case_in among m profile) ++ queries_in (drop (i + 1) profiles)
  profiles_here profile lt here = ap queries_in (drop_here profiles profile i lt here) ∙ by (case_in among m profile) (filter_map (case_in among m) (drop (i + 1) profiles))
    where
      by : (d : Option Case) (rest : List Case) → flat_map (case_queries o) (cons_option d rest) ≡ case_asks o d ++ flat_map (case_queries o) rest
      by None rest = refl
      by (Some c) rest = refl

  pub profiles_left : length profiles ≤ i → queries_in (drop i profiles) ≡ []
  profiles_left le = ap queries_in (drop_of_length-le profiles le)

-- no query
pub none_judged : (b : ℕ) (given : List KnownRecord) (p : Progress) (n : Counts) (u : Unit {0}) → Judges b given [] p p n n (Ok u)
none_judged b given p n u = λ start done at. subst (λ l. IsAt b given start l p n) (sym (append-nil done)) at

-- packages
none_left : (n : ℕ) (ps : List Pkg) → members_from n ps [] ≡ []
none_left n [] = refl
none_left n (p ∷ ps) = refl

module _ (o : Options) (repo : Repo) (pkgs : List Pkg) (bodies : List Body) where
  abbrev queries_from : ℕ → List Pkg → List Body → List Query
  queries_from n ps bs = flat_map (case_queries o) (flat_map (cases_of repo) (members_from n ps bs))

  module _ (pkg : Pkg) (body : Body) (i : ℕ) (lp : i < length pkgs) (lb : i < length bodies) (here : pkg ≡ get_or pkgs i pkg) (body_here : body ≡ get_or bodies i body) where
    abbrev member : Member
    member = record { number = i; pkg = pkg; body = body }

    pub member_here : queries_from i (drop i pkgs) (drop i bodies) ≡ flat_map (case_queries o) (cases_of repo member) ++ queries_from (i + 1) (drop (i + 1) pkgs) (drop (i + 1) bodies)
    member_here =
        ap (λ ps. queries_from i ps (drop i bodies)) (drop_here pkgs pkg i lp here)
        ∙ (ap (λ bs. queries_from i (pkg ∷ drop (i + 1) pkgs) bs) (drop_here bodies body i lb body_here)
        ∙ flat_map-append (case_queries o) (cases_of repo member) (flat_map (cases_of repo) (members_from (i + 1) (drop (i + 1) pkgs) (drop (i + 1) bodies))))

  pub members_left : (i : ℕ) → length pkgs ≤ i → queries_from i (drop i pkgs) (drop i bodies) ≡ []
  members_left i le = ap (λ ps. queries_from i ps (drop i bodies)) (drop_of_length-le pkgs le)

  pub bodies_left : (i : ℕ) → length bodies ≤ i → queries_from i (drop i pkgs) (drop i bodies) ≡ []
  bodies_left i le = ap (λ bs. queries_from i (drop i pkgs) bs) (drop_of_length-le bodies le) ∙ ap (λ ms. flat_map (case_queries o) (flat_map (cases_of repo) ms)) (none_left i (drop i pkgs))

-- the reports that need no query
module _ (tell : Member → List Report) (pkgs : List Pkg) (bodies : List Body) where
  abbrev told_from : ℕ → List Pkg → List Body → List Report
  told_from n ps bs = flat_map tell (members_from n ps bs)

  pub told_next : (pkg : Pkg) (body : Body) (i : ℕ) → i < length pkgs → i < length bodies → pkg ≡ get_or pkgs i pkg → body ≡ get_or bodies i body → (n : ℕ) → n ≡ i
      → (old new : List Report) → new ≡ old ++ tell (record { number = n; pkg = pkg; body = body })
      → (whole : List Report) → old ++ told_from i (drop i pkgs) (drop i bodies) ≡ whole → new ++ told_from (i + 1) (drop (i + 1) pkgs) (drop (i + 1) bodies) ≡ whole
  told_next pkg body i lp lb here body_here n e old new more whole on =
      ap (λ l. l ++ rest) (more ∙ ap (λ k. old ++ tell (record { number = k; pkg = pkg; body = body })) e)
      ∙ (append_assoc old (tell (record { number = i; pkg = pkg; body = body })) rest ∙ (ap (λ l. old ++ l) (sym unfolded) ∙ on))
    where
      rest : List Report
      rest = told_from (i + 1) (drop (i + 1) pkgs) (drop (i + 1) bodies)

      unfolded : told_from i (drop i pkgs) (drop i bodies) ≡ tell (record { number = i; pkg = pkg; body = body }) ++ rest
      unfolded = ap (λ ps. told_from i ps (drop i bodies)) (drop_here pkgs pkg i lp here) ∙ ap (λ bs. told_from i (pkg ∷ drop (i + 1) pkgs) bs) (drop_here bodies body i lb body_here)

  pub told_end : (i : ℕ) → length pkgs ≤ i → (old whole : List Report) → old ++ told_from i (drop i pkgs) (drop i bodies) ≡ whole → old ≡ whole
  told_end i le old whole on = sym (append-nil old) ∙ (ap (λ ps. old ++ told_from i ps (drop i bodies)) (sym (drop_of_length-le pkgs le)) ∙ on)

  pub told_bodies_end : (i : ℕ) → length bodies ≤ i → (old whole : List Report) → old ++ told_from i (drop i pkgs) (drop i bodies) ≡ whole → old ≡ whole
  told_bodies_end i le old whole on =
      sym (append-nil old)
      ∙ (ap (λ ms. old ++ flat_map tell ms) (sym (none_left i (drop i pkgs)))
      ∙ (ap (λ bs. old ++ told_from i (drop i pkgs) bs) (sym (drop_of_length-le bodies le)) ∙ on))

-- a view's profile is one of them
pub one_of : (pkgs : List Pkg) (profiles : List Profile) (i : ℕ) (x : VisiblePkgs) → IsSeenAt pkgs profiles i x → (profile : Profile) → profile ≡ x.profile → IsOneOf profiles profile
one_of pkgs profiles i x at profile same = record { place = i; there = slice_get-get_or profiles i x.profile at.lt ∙ (ap Some (sym at.here) ∙ ap Some (sym same)) }
