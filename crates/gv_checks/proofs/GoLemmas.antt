-- A walk of which some queries are chosen: what one more step of it, a refusal and the end do.
use Rattle.std.proofs.Common.{◌≡◌, ℕ, ◌+◌, true, false, List, [], ◌∷◌, ◌++◌, length, refl, sym, ap, subst, ◌∙◌, None, Some}
use Rattle.std.specs.Prelude.{flat_map, filter_map, option_map, OnOk, Result, Ok, Err}
use Rattle.gv_base.specs.Counts.{Counts}
use Rattle.gv_facts.specs.declared.kinds.Class.{Class}
use Rattle.gv_facts.specs.declared.kinds.Level.{Level}
use Rattle.gv_facts.specs.Visible.{judged}
use Rattle.gv_facts.specs.declared.pkg.Pkg.{Pkg}
use Rattle.gv_facts.specs.declared.profile.Profile.{Profile}
use Rattle.gv_report.specs.declared.options.Options.{Options}
use Rattle.gv_plain.specs.Cases.{Case, Member, case_at, case_in}
use Rattle.gv_checks.specs.Chosen.{chosen_from, is_chosen, is_passed}
use Rattle.gv_checks.specs.Progress.{Judges}
use Rattle.gv_checks.specs.Queries.{Query, case_asks, case_queries, class_queries, is_asked, query_of}
use Rattle.gv_checks.specs.Walks.{Goes, IsOnWay, IsWalk, Parts}
use Rattle.gv_checks.specs.declared.chosen.Asking.{Asking}
use Rattle.gv_checks.specs.declared.fault.JudgeFault.{JudgeFault}
use Rattle.gv_checks.specs.declared.fault.JudgeFault.TheVariants.{NoMemory}
use Rattle.gv_checks.specs.declared.walking.Going.{Going}
use Rattle.gv_checks.specs.Certs.{CountsAtMost}
use Rattle.gv_checks.proofs.ChosenLemmas.{chosen_append, none_chosen, parts_join, parts_none, parts_one, parts_passed}
use Rattle.gv_checks.proofs.CountLemmas.{counted_first, counted_more, nothing_counted}
use Rattle.gv_checks.proofs.WalkLemmas.{none_judged, walk_end, walk_err, walk_next}

module _ (a : Asking) where
  abbrev pick : ℕ → List Query → List Query
  pick n qs = chosen_from a.chosen n qs

  module _ (all : List Query) (s g1 g2 : Going) (n0 n1 n2 : Counts) where
    as_walk : (rest : List Query) → IsOnWay a rest all s g1 n0 n1 → IsWalk a.budget a.given.now (pick g1.place rest) (pick s.place all) s.progress g1.progress n0 n1
    as_walk rest way = record { somewhere = way.somewhere; goes = way.goes; unsolved = way.unsolved }

    pub go_next : (whole xs ys : List Query) → whole ≡ xs ++ ys → IsOnWay a whole all s g1 n0 n1 → (u : Unit {0}) → Goes a xs g1 g2 n1 n2 (Ok u) → IsOnWay a ys all s g2 n0 n2
    go_next whole xs ys e way u go =
        let next : IsWalk a.budget a.given.now (pick g2.place ys) (pick s.place all) s.progress g2.progress n0 n2 =
        walk_next a.budget a.given.now (pick s.place all) s.progress g1.progress g2.progress n0 n1 n2 (pick g1.place whole) (pick g1.place xs) (pick g2.place ys)
        (ap (pick g1.place) e ∙ go.parts ys) (as_walk whole way) u go.judges go.unsolved in
        record {
          somewhere = next.somewhere;
          goes = next.goes;
          parts = λ k p. way.parts k (subst (λ l. Parts a.chosen l g1.place k) (sym e) (parts_join a.chosen xs ys g1.place g2.place k go.parts p));
          unsolved = next.unsolved;
          few = λ n3 then_. way.few n3 (counted_more (pick g1.place xs) (pick g2.place ys) (pick g1.place whole) n1 n2 n3 (ap (pick g1.place) e ∙ go.parts ys) go.few then_);
        }

    pub go_err : (whole xs ys : List Query) (f : JudgeFault) → whole ≡ xs ++ ys → IsOnWay a whole all s g1 n0 n1 → Goes a xs g1 g2 n1 n2 (Err f) → Goes a all s g2 n0 n2 (Err f)
    go_err whole xs ys f e way go = record {
      judges = walk_err a.budget a.given.now (pick s.place all) s.progress g1.progress g2.progress n0 n1 n2 (pick g1.place whole) (pick g1.place xs) (pick (g1.place + length xs) ys) f
          (ap (pick g1.place) e ∙ chosen_append a.chosen g1.place xs ys) (as_walk whole way) go.judges;
      parts = tt;
      unsolved = λ none. go.unsolved none ∙ way.unsolved none;
      few = way.few n2 (counted_first (pick g1.place xs) (pick (g1.place + length xs) ys) (pick g1.place whole) n1 n2 (ap (pick g1.place) e ∙ chosen_append a.chosen g1.place xs ys) go.few);
    }

  pub go_end : (all whole : List Query) (s g : Going) (n0 n1 : Counts) (u : Unit {0}) → whole ≡ [] → IsOnWay a whole all s g n0 n1 → Goes a all s g n0 n1 (Ok u)
  go_end all whole s g n0 n1 u e way = record {
    judges = walk_end a.budget a.given.now (pick s.place all) (pick g.place whole) s.progress g.progress n0 n1 u (ap (pick g.place) e) (as_walk all s g g n0 n1 n1 whole way);
    parts = way.parts g.place (subst (λ l. Parts a.chosen l g.place g.place) (sym e) (parts_none a.chosen g.place));
    unsolved = way.unsolved;
    few = way.few n1 (nothing_counted (length (pick g.place whole)) n1);
  }

  -- no memory on the way
  pub go_short : (all whole : List Query) (s g : Going) (n0 n1 : Counts) → IsOnWay a whole all s g n0 n1 → Goes a all s g n0 n1 (Err NoMemory)
  go_short all whole s g n0 n1 way = record { judges = λ start done rest at. tt; parts = tt; unsolved = way.unsolved; few = way.few n1 (nothing_counted (length (pick g.place whole)) n1) }

  -- nothing is come to
  pub goes_none : (g : Going) (n : Counts) (u : Unit {0}) → Goes a [] g g n n (Ok u)
  goes_none g n u = record { judges = none_judged a.budget a.given.now g.progress n u; parts = parts_none a.chosen g.place; unsolved = λ none. refl; few = nothing_counted 0 n }

  -- a package in a profile that doesn't judge it, and in one that does
  pub goes_unjudged : (o : Options) (among : List Pkg) (m : Member) (profile : Profile) → judged m.pkg profile ≡ None → (g : Going) (n : Counts) (u : Unit {0}) → Goes a (case_asks o (case_in among m profile)) g g n n (Ok u)
  goes_unjudged o among m profile none g n u = subst (λ d. Goes a (case_asks o (option_map (case_at among m profile) d)) g g n n (Ok u)) (sym none) (goes_none g n u)

  pub goes_judged : (o : Options) (among : List Pkg) (m : Member) (profile : Profile) (level : Level) (g1 g2 : Going) (n1 n2 : Counts) (r : Result (Unit {0}) JudgeFault) → judged m.pkg profile ≡ Some level
      → (o2 : Options) → o2 ≡ o → (among2 : List Pkg) → among2 ≡ among → (profile2 : Profile) → profile2 ≡ profile → Goes a (case_queries o2 (case_at among2 m profile2 level)) g1 g2 n1 n2 r → Goes a (case_asks o (case_in among m profile)) g1 g2 n1 n2 r
  goes_judged o among m profile level g1 g2 n1 n2 r some o2 e1 among2 e2 profile2 e3 go =
      subst (λ d. Goes a (case_asks o (option_map (case_at among m profile) d)) g1 g2 n1 n2 r) (sym some)
      (subst (λ p. Goes a (case_queries o (case_at among m p level)) g1 g2 n1 n2 r) e3
      (subst (λ ps. Goes a (case_queries o (case_at ps m profile2 level)) g1 g2 n1 n2 r) e2
      (subst (λ x. Goes a (case_queries x (case_at among2 m profile2 level)) g1 g2 n1 n2 r) e1 go)))

  -- a package of which no query is chosen
  pub goes_passed : (o : Options) (m : Member) → is_passed a.chosen m.number ≡ true → (among : List Pkg) (ps : List Profile) (g : Going) (n : Counts) (u : Unit {0})
      → Goes a (flat_map (case_queries o) (filter_map (case_in among m) ps)) g g n n (Ok u)
  goes_passed o m e among ps g n u = record {
    judges = subst (λ l. Judges a.budget a.given.now l g.progress g.progress n n (Ok u)) (sym (none_chosen o m a.chosen e among ps g.place)) (none_judged a.budget a.given.now g.progress n u);
    parts = parts_passed o m a.chosen e among ps g.place;
    unsolved = λ none. refl;
    few = nothing_counted (length (pick g.place (flat_map (case_queries o) (filter_map (case_in among m) ps)))) n;
  }

  -- a class that isn't asked about, and one that is: its query is chosen or not
  module _ (o : Options) (c : Case) (class : Class) where
    pub goes_unasked : is_asked o c class ≡ false → (g : Going) (n : Counts) (u : Unit {0}) → Goes a (class_queries o (class ∷ []) c) g g n n (Ok u)
    goes_unasked e g n u = subst (λ l. Goes a l g g n n (Ok u)) (sym none) (goes_none g n u)
      where
        none : class_queries o (class ∷ []) c ≡ []
        none = rw e refl

    module _ (e : is_asked o c class ≡ true) where
      one : class_queries o (class ∷ []) c ≡ query_of c class ∷ []
      one = rw e refl

      pub goes_chosen : (g1 g2 : Going) (n1 n2 : Counts) (r : Result (Unit {0}) JudgeFault) → is_chosen a.chosen g1.place c.member.number class ≡ true → g2.place ≡ g1.place + 1
          → Judges a.budget a.given.now (query_of c class ∷ []) g1.progress g2.progress n1 n2 r → (a.budget ≡ 0 → n2.solve ≡ n1.solve) → CountsAtMost 1 n1 n2 → Goes a (class_queries o (class ∷ []) c) g1 g2 n1 n2 r
      goes_chosen g1 g2 n1 n2 r is next j unsolved few = subst (λ l. Goes a l g1 g2 n1 n2 r) (sym one) (record {
        judges = subst (λ l. Judges a.budget a.given.now l g1.progress g2.progress n1 n2 r) (sym there) j;
        parts = stepped r;
        unsolved = unsolved;
        few = subst (λ l. CountsAtMost (length l) n1 n2) (sym there) few;
      })
        where
          there : pick g1.place (query_of c class ∷ []) ≡ query_of c class ∷ []
          there = rw is refl

          stepped : (r : Result (Unit {0}) JudgeFault) → OnOk r (Parts a.chosen (query_of c class ∷ []) g1.place g2.place)
          stepped (Ok u) = subst (λ k. Parts a.chosen (query_of c class ∷ []) g1.place k) (sym next) (parts_one a.chosen (query_of c class) g1.place)
          stepped (Err f) = tt

      pub goes_unchosen : (g1 g2 : Going) (n : Counts) (u : Unit {0}) → is_chosen a.chosen g1.place c.member.number class ≡ false → g2.place ≡ g1.place + 1 → g2.progress ≡ g1.progress
          → Goes a (class_queries o (class ∷ []) c) g1 g2 n n (Ok u)
      goes_unchosen g1 g2 n u is next same = subst (λ l. Goes a l g1 g2 n n (Ok u)) (sym one) (record {
        judges = subst (λ l. Judges a.budget a.given.now l g1.progress g2.progress n n (Ok u)) (sym there)
            (subst (λ p. Judges a.budget a.given.now [] g1.progress p n n (Ok u)) (sym same) (none_judged a.budget a.given.now g1.progress n u));
        parts = subst (λ k. Parts a.chosen (query_of c class ∷ []) g1.place k) (sym next) (parts_one a.chosen (query_of c class) g1.place);
        unsolved = λ none. refl;
        few = nothing_counted (length (pick g1.place (query_of c class ∷ []))) n;
      })
        where
          there : pick g1.place (query_of c class ∷ []) ≡ []
          there = rw is refl
