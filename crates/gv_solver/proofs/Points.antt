-- The step of an implication point follows.
-- At each place on the way back from a conflict, the reasons that were taken refute every assignment of literals of the
-- trail that makes the clause false, has the marked literals that were not met yet, and of the others behind none
-- (`IsBack` in `specs/Point`). It stays so where a literal isn't marked (`back_skips`), where it goes into the clause
-- (`back_adds`), and where its reason is taken (`back_takes`): a reason's other literals stand before its own, so they
-- weren't met yet, and they are marked; so it is unit there. At the front of the trail only the clause is left. That
-- holds whichever marked literals go into the clause in place of their reasons, so the proof asks nothing of levels.
use Rattle.std.proofs.Common.{◌≡◌, ◌⊎◌, inl, inr, ℕ, zero, suc, ◌+◌, ◌-◌, ◌*◌, ◌<◌, ◌%◌, Bool, true, false, cond, ◌&&◌, not, nat_eq, nat_lt, Option, Some, None, List, [], ◌∷◌, ◌++◌, length, take, drop, get_or, add-one, append_assoc, take-suc, refl, sym, ap, subst, ◌∙◌, arith}
use Rattle.std.specs.Prelude.{Result, OnOk, slice_get, slice_set, replicate}
use Rattle.std.specs.List.{AllByRecursion}
use Rattle.std.proofs.Math.ListN.{length-set}
use Rattle.std.proofs.Math.Seq.{take-length}
use Rattle.std.proofs.lemmas.List.{length-replicate}
use Rattle.std.proofs.lemmas.Grind.{common_steps}
use Rattle.gv_logic.specs.Formulas.{Formula}
use Rattle.gv_logic.specs.Literals.{opposite}
use Rattle.gv_logic.specs.Logs.{Step, started, follows}
use Rattle.gv_logic.specs.Partial.{is_true, all_false, Has, IsProper}
use Rattle.gv_solver.specs.LevelCounts.{Notes}
use Rattle.gv_solver.specs.Marks.{Below}
use Rattle.gv_solver.specs.Point.{hints_back, IsBetween, IsBack, IsWay, Needs, NeedsRest, NeedsClause, Passes}
use Rattle.gv_solver.specs.Resting.{reasons}
use Rattle.gv_solver.specs.Work.{Lesson}
use Rattle.gv_solver.specs.declared.point.Way.{Way}
use Rattle.gv_trail.specs.Derived.{HasReason, IsReason, IsNext, IsDerived, IsTrail}
use Rattle.gv_trail.specs.Entries.{Entry, State, assignment, lits_of, made_true, reason_of}
use Rattle.gv_trail.specs.Propagation.{IsFalseAt}
use Rattle.gv_trail.specs.Watches.{IsIn}
use Rattle.gv_logic.specs.Opposites.{none_true, set_is, set_here, opposite_twice}
use Rattle.gv_solver.proofs.Core.{below_trans, below_set, below_none, set_below, unit_from}
use Rattle.gv_solver.proofs.Derive.{below_made, refuted_more, refuted_last}
use Rattle.gv_solver.proofs.Grow.{long, rest_at}
use Rattle.gv_solver.proofs.Lessons.{map_ok}
use Rattle.gv_solver.proofs.Reasons.{reasons_are}
use Rattle.gv_solver.proofs.Rest.{past}

no_ : {A : Type 0} (b : Bool) → b ≡ true → b ≡ false → A
no_ b t f = cc

not_on : (b : Bool) → (b ≡ true → ⊥) → b ≡ false
not_on true f = absurd (f refl)
not_on false f = refl

-- lists with one more at the end
has_left : (l : ℕ) (xs : List ℕ) (x : ℕ) → Has l xs → Has l (xs ++ x ∷ [])
has_left l [] x h = absurd h
has_left l (y ∷ ys) x h = elim h [ inl s ↦ inl s | inr g ↦ inr (has_left l ys x g) ]

has_end : (xs : List ℕ) (x : ℕ) → Has x (xs ++ x ∷ [])
has_end [] x = inl refl
has_end (y ∷ ys) x = inr (has_end ys x)

has_cases : (l : ℕ) (xs : List ℕ) (x : ℕ) → Has l (xs ++ x ∷ []) → Has l xs ⊎ (x ≡ l)
has_cases l [] x h = elim h [ inl s ↦ inr s | inr g ↦ absurd g ]
has_cases l (y ∷ ys) x h = elim h [
  | inl s ↦ inl (inl s)
  | inr g ↦ elim (has_cases l ys x g) [ inl i ↦ inl (inr i) | inr s ↦ inr s ]
]

pub back_last : (ks : List ℕ) (k : ℕ) (rest : List ℕ) → hints_back (ks ++ k ∷ []) rest ≡ k ∷ hints_back ks rest
back_last [] k rest = refl
back_last (x ∷ xs) k rest = back_last xs k (x ∷ rest)

back_some : (ks : List ℕ) (x : ℕ) (rest : List ℕ) → (g : ℕ) × (hs : List ℕ) × (hints_back ks (x ∷ rest) ≡ g ∷ hs)
back_some [] x rest = (x, rest, refl)
back_some (k ∷ ks) x rest = back_some ks k (x ∷ rest)

is_less : (a b : ℕ) → a < b → nat_lt a b ≡ true
is_less a b lt = grind (arith, common_steps)

even : (r : ℕ) → nat_eq r 0 ≡ true → r ≡ 0
even r e = grind (arith, common_steps)

opposite_range : (l v : ℕ) → l < 2 * v → opposite l < 2 * v
opposite_range l v lt = by (nat_eq (l % 2) 0) refl
  where
    by : (b : Bool) → nat_eq (l % 2) 0 ≡ b → cond b (l + 1) (l - 1) < 2 * v
    by true e = let z = even (l % 2) e in omega (arith, z, lt)
    by false e = omega (arith, lt)

-- a step that can start with a clause can start with one more literal that isn't assigned then
started_last : (on x : List Bool) (ls : List ℕ) (l : ℕ) → started on ls ≡ Some x → l < length x → is_true x l ≡ false → is_true x (opposite l) ≡ false
    → started on (ls ++ l ∷ []) ≡ Some (slice_set x (opposite l) true)
started_last on x [] l e lt f o = let same : on ≡ x = cc in rw (same, is_less l (length x) lt, f, o) refl
started_last on x (y ∷ ys) l e lt f o = by (nat_lt y (length on) && (not (is_true on y) && not (is_true on (opposite y)))) e
    (λ q. started_last (slice_set on (opposite y) true) x ys l q lt f o)
  where
    by : (u : Bool) → cond u (started (slice_set on (opposite y) true) ys) None ≡ Some x
        → (started (slice_set on (opposite y) true) ys ≡ Some x → started (slice_set on (opposite y) true) (ys ++ l ∷ []) ≡ Some (slice_set x (opposite l) true))
        → cond u (started (slice_set on (opposite y) true) (ys ++ l ∷ [])) None ≡ Some (slice_set x (opposite l) true)
    by true q go = go q
    by false q go = cc

-- at the start nothing is between but the clause's literals
between_none : (n : ℕ) (whole m k : List Bool) (c : List ℕ) (on : List Bool) → IsBetween (replicate n false) whole m c on → IsBetween (replicate n false) whole k c on
between_none n whole m k c on b = record { size = b.size; below = b.below; clause = b.clause; marked = λ l t y. absurd (none_true n l t); only = b.only }

-- a literal that isn't needed
pub back_skips : (cs : List (List ℕ)) (none at whole m : List Bool) (e : Entry) (c rs : List ℕ) (k : ℕ) → IsBack cs none (slice_set at e.lit true) whole m c rs k
    → is_true m e.lit ≡ false → IsBack cs none at whole m c rs k
back_skips cs none at whole m e c rs k h off = record {
  size = h.size;
  start = h.start;
  starts = h.starts;
  false_ = h.false_;
  behind = λ l i. not_on (is_true at (opposite l)) (λ t. no_ _ ((below_set at e.lit).at (opposite l) t) (h.behind l i));
  refutes = λ on b. h.refutes on (record {
    size = b.size ∙ sym (length-set at e.lit true);
    below = b.below;
    clause = b.clause;
    marked = λ l t y. elim (set_is at e.lit l t) [
      | inl s ↦ no_ (is_true m e.lit) (subst (λ z. is_true m z ≡ true) s y) off
      | inr g ↦ b.marked l g y
    ];
    only = λ l t. elim (b.only l t) [ inl a ↦ inl ((below_set at e.lit).at l a) | inr i ↦ inr i ];
  });
}

-- a literal that goes into the clause
pub back_adds : (cs : List (List ℕ)) (v : ℕ) (at whole m : List Bool) (e : Entry) (c rs : List ℕ) (k : ℕ) → IsBack cs (replicate (2 * v) false) (slice_set at e.lit true) whole m c rs k
    → length at ≡ 2 * v → IsNext cs at e → IsProper whole → is_true whole e.lit ≡ true → IsBack cs (replicate (2 * v) false) at whole m (c ++ opposite e.lit ∷ []) rs k
back_adds cs v at whole m e c rs k h long next proper there = record {
  size = h.size;
  start = slice_set h.start e.lit true;
  starts = subst (λ z. started none (c ++ opposite e.lit ∷ []) ≡ Some (slice_set h.start z true)) twice
      (started_last none h.start c (opposite e.lit) h.starts (rw f.size (rw long_none (opposite_range e.lit v range)))
      (not_on _ (λ t. proper.both e.lit there (f.below.at (opposite e.lit) t)))
      (rw twice (not_on _ fresh)));
  false_ = record {
    size = length-set h.start e.lit true ∙ f.size;
    below = set_below h.start whole e.lit f.below there;
    clause = λ l i. elim (has_cases l c (opposite e.lit) i) [
      | inl g ↦ (below_set h.start e.lit).at (opposite l) (f.clause l g)
      | inr s ↦ subst (λ z. is_true (slice_set h.start e.lit true) (opposite z) ≡ true) s (rw twice (set_here h.start e.lit (rw (f.size, long_none) range)))
    ];
    marked = λ l t y. absurd (none_true (2 * v) l t);
    only = λ l t. elim (set_is h.start e.lit l t) [
      | inl s ↦ inr (subst (λ z. Has (opposite z) (c ++ opposite e.lit ∷ [])) (sym s) (has_end c (opposite e.lit)))
      | inr g ↦ elim (f.only l g) [ inl a ↦ inl a | inr i ↦ inr (has_left (opposite l) c (opposite e.lit) i) ]
    ];
  };
  behind = λ l i. elim (has_cases l c (opposite e.lit) i) [
    | inl g ↦ not_on (is_true at (opposite l)) (λ t. no_ _ ((below_set at e.lit).at (opposite l) t) (h.behind l g))
    | inr s ↦ subst (λ z. is_true at (opposite z) ≡ false) s (rw twice next.free)
  ];
  refutes = λ on b. h.refutes on (record {
    size = b.size ∙ sym (length-set at e.lit true);
    below = b.below;
    clause = λ l i. b.clause l (has_left l c (opposite e.lit) i);
    marked = λ l t y. elim (set_is at e.lit l t) [
      | inl s ↦ subst (λ z. is_true on z ≡ true) (twice ∙ sym s) (b.clause (opposite e.lit) (has_end c (opposite e.lit)))
      | inr g ↦ b.marked l g y
    ];
    only = λ l t. elim (b.only l t) [
      | inl a ↦ inl ((below_set at e.lit).at l a)
      | inr i ↦ elim (has_cases (opposite l) c (opposite e.lit) i) [
        | inl g ↦ inr g
        | inr s ↦ inl (subst (λ z. is_true (slice_set at e.lit true) z ≡ true) (sym twice ∙ ap opposite s ∙ opposite_twice l) (set_here at e.lit next.range))
      ]
    ];
  });
}
  where
    none : List Bool
    none = replicate (2 * v) false

    long_none : length (replicate (2 * v) false) ≡ 2 * v
    long_none = length-replicate (2 * v) false

    f : IsBetween (replicate (2 * v) false) whole m c h.start
    f = h.false_

    twice : opposite (opposite e.lit) ≡ e.lit
    twice = opposite_twice e.lit

    range : e.lit < 2 * v
    range = rw long at next.range

    fresh : is_true h.start e.lit ≡ true → ⊥
    fresh t = elim (f.only e.lit t) [
      | inl a ↦ none_true (2 * v) e.lit a
      | inr i ↦ no_ _ (rw twice (set_here at e.lit next.range)) (h.behind (opposite e.lit) i)
    ]

-- a literal whose reason is taken
pub back_takes : (cs : List (List ℕ)) (v : ℕ) (at whole m p : List Bool) (e : Entry) (c rs : List ℕ) (k n : ℕ) (r : IsReason cs at e.lit n) → IsBack cs (replicate v false) (slice_set at e.lit true) whole m c rs k
    → length p ≡ length m → Below m p → ((x : ℕ) → Has x r.clause → is_true whole (opposite x) ≡ true → is_true p (opposite x) ≡ true)
    → IsNext cs at e → IsProper whole → Below at whole → is_true whole e.lit ≡ true
    → IsBack cs (replicate v false) at whole p c (rs ++ n ∷ []) k
back_takes cs v at whole m p e c rs k n r h size more marked next proper below there = record {
  size = size ∙ h.size;
  start = h.start;
  starts = h.starts;
  false_ = between_none v whole m p c h.start h.false_;
  behind = λ l i. not_on (is_true at (opposite l)) (λ t. no_ _ ((below_set at e.lit).at (opposite l) t) (h.behind l i));
  refutes = λ on b. rw (back_last rs n (k ∷ []))
      (refuted_more cs on n e.lit r.clause (hints_back rs (k ∷ [])) r.named
      (unit_from on r.clause e.lit (proper_on on b) (not_on _ (free on b)) (not_on _ (λ t. proper.both e.lit there (b.below.at (opposite e.lit) t))) r.unit.has (others on b r.clause (λ x i. i) r.unit.others))
      (back_some rs k []) (h.refutes (slice_set on e.lit true) (grown on b)));
}
  where
    proper_on : (on : List Bool) → IsBetween at whole p c on → IsProper on
    proper_on on b = record { both = λ j t w. proper.both j (b.below.at j t) (b.below.at (opposite j) w) }

    free : (on : List Bool) → IsBetween at whole p c on → is_true on e.lit ≡ true → ⊥
    free on b t = elim (b.only e.lit t) [
      | inl a ↦ no_ (is_true at e.lit) a next.free
      | inr i ↦ no_ _ (rw (opposite_twice e.lit) (set_here at e.lit next.range)) (h.behind (opposite e.lit) i)
    ]

    others : (on : List Bool) → IsBetween at whole p c on → (lits : List ℕ) → ((x : ℕ) → Has x lits → Has x r.clause)
        → AllByRecursion (λ x. (x ≡ e.lit) ⊎ (is_true at (opposite x) ≡ true)) lits → AllByRecursion (λ x. (x ≡ e.lit) ⊎ (is_true on (opposite x) ≡ true)) lits
    others on b [] g a = tt
    others on b (x ∷ xs) g a = (
      elim a.0 [ inl s ↦ inl s | inr t ↦ inr (b.marked (opposite x) t (marked x (g x (inl refl)) (below.at (opposite x) t))) ],
      others on b xs (λ z i. g z (inr i)) a.1,
    )

    grown : (on : List Bool) → IsBetween at whole p c on → IsBetween (slice_set at e.lit true) whole m c (slice_set on e.lit true)
    grown on b = record {
      size = length-set on e.lit true ∙ b.size ∙ sym (length-set at e.lit true);
      below = set_below on whole e.lit b.below there;
      clause = λ l i. (below_set on e.lit).at (opposite l) (b.clause l i);
      marked = λ l t y. elim (set_is at e.lit l t) [
        | inl s ↦ subst (λ z. is_true (slice_set on e.lit true) z ≡ true) (sym s) (set_here on e.lit (rw b.size next.range))
        | inr g ↦ (below_set on e.lit).at l (b.marked l g (more.at l y))
      ];
      only = λ l t. elim (set_is on e.lit l t) [
        | inl s ↦ inl (subst (λ z. is_true (slice_set at e.lit true) z ≡ true) (sym s) (set_here at e.lit next.range))
        | inr g ↦ elim (b.only l g) [ inl a ↦ inl ((below_set at e.lit).at l a) | inr i ↦ inr i ]
      ];
    }

all_marked : (a on : List Bool) (lits : List ℕ) → ((x : ℕ) → Has x lits → is_true a (opposite x) ≡ true → is_true on (opposite x) ≡ true) → all_false a lits ≡ true → all_false on lits ≡ true
all_marked a on [] f e = refl
all_marked a on (x ∷ xs) f e = let b = both (is_true a (opposite x)) (all_false a xs) e in rw (f x (inl refl) b.0) (all_marked a on xs (λ z i. f z (inr i)) b.1)
  where
    both : (u v : Bool) → (u && v) ≡ true → (u ≡ true) × (v ≡ true)
    both true v e = (refl, e)
    both false v e = cc

-- nothing was met yet
pub back_starts : (cs : List (List ℕ)) (n : ℕ) (whole m : List Bool) (k : ℕ) (lits : List ℕ) → length m ≡ n → slice_get cs k ≡ Some lits → all_false whole lits ≡ true
    → ((x : ℕ) → Has x lits → is_true whole (opposite x) ≡ true → is_true m (opposite x) ≡ true) → IsBack cs (replicate n false) whole whole m [] [] k
back_starts cs n whole m k lits size named falls marked = record {
  size = size ∙ sym (length-replicate n false);
  start = replicate n false;
  starts = refl;
  false_ = record { size = refl; below = below_none n whole; clause = λ l i. absurd i; marked = λ l t y. t; only = λ l t. inl t };
  behind = λ l i. absurd i;
  refutes = λ on b. refuted_last cs on k lits named (all_marked whole on lits (λ x i t. b.marked (opposite x) t (marked x i t)) falls);
}

-- all was met
pub back_ends : (cs : List (List ℕ)) (n : ℕ) (whole m : List Bool) (c rs : List ℕ) (k : ℕ) → IsBack cs (replicate n false) (replicate n false) whole m c rs k
    → follows n cs c (hints_back rs (k ∷ [])) ≡ true
back_ends cs n whole m c rs k h = rw h.starts (h.refutes h.start h.false_)

-- an entry and what stands before it
pub record IsPlace (cs : List (List ℕ)) (on : List Bool) (es : List Entry) (asked : ℕ → Option ℕ) (n : ℕ) (e : Entry) : Type 0 where
  pub lit : get_or (lits_of es) n 0 ≡ e.lit
  pub next : IsNext cs (made_true on (take n es)) e
  pub set : made_true on (take (suc n) es) ≡ slice_set (made_true on (take n es)) e.lit true
  pub below : Below (made_true on (take n es)) (made_true on es)
  pub there : is_true (made_true on es) e.lit ≡ true
  pub size : length (made_true on (take n es)) ≡ length on
  pub reason : asked e.lit ≡ e.reason
  pub split : take (suc n) es ≡ take n es ++ e ∷ []
  pub among : IsIn e es

pub place : (cs : List (List ℕ)) (on : List Bool) (es : List Entry) (reason : ℕ → Option ℕ) (n : ℕ) → IsDerived cs on es → AllByRecursion (λ x. reason x.lit ≡ x.reason) es → n < length es
    → (e : Entry) × IsPlace cs on es reason n e
place cs on [] reason n d a lt = absurd (omega (arith, lt))
place cs on (e ∷ es) reason zero d a lt = (
  e,
  record {
    lit = refl;
    next = d.0;
    set = refl;
    below = below_trans on (slice_set on e.lit true) (made_true (slice_set on e.lit true) es) (below_set on e.lit) (below_made (slice_set on e.lit true) es);
    there = (below_made (slice_set on e.lit true) es).at e.lit (set_here on e.lit d.0.range);
    size = refl;
    reason = a.0;
    split = refl;
    among = inl refl;
  },
)
place cs on (x ∷ es) reason (suc n) d a lt =
    let p = place cs (slice_set on x.lit true) es reason n d.1 a.1 (omega (arith, lt)) in (
      p.0,
      record {
        lit = p.1.lit;
        next = p.1.next;
        set = p.1.set;
        below = p.1.below;
        there = p.1.there;
        size = p.1.size ∙ length-set on x.lit true;
        reason = p.1.reason;
        split = ap (λ xs. x ∷ xs) p.1.split;
        among = inr p.1.among;
      },
    )

-- a literal that is true is marked
pub needs_one : (s : State) (lit : ℕ) (old new : Way) → length old.marks.items ≡ 2 * s.variables → new.marks.items ≡ slice_set old.marks.items lit true → new.clause ≡ old.clause → new.reasons ≡ old.reasons
    → Needs (assignment s) lit old new
needs_one s lit old new size is c r = record {
  same = record { clause = c; reasons = r };
  size = ap length is ∙ length-set old.marks.items lit true;
  more = rw is (below_set old.marks.items lit);
  marked = λ t. rw is (set_here old.marks.items lit (omega (arith, past (assignment s) lit t, long s, size)));
}

pub needs_noted : (s : State) (lit : ℕ) (old mid new : Way) (of_level : Bool) → length old.marks.items ≡ 2 * s.variables → mid.marks.items ≡ slice_set old.marks.items lit true → mid.clause ≡ old.clause → mid.reasons ≡ old.reasons
    → Notes of_level mid new → Needs (assignment s) lit old new
needs_noted s lit old mid new of_level size is c r h = needs_one s lit old new size (ap (λ z. z.items) h.2 ∙ is) (h.4 ∙ c) (h.3 ∙ r)

pub needs_next : (whole : List Bool) (lits : List ℕ) (n : ℕ) (old mid new : Way) → n < length lits → NeedsRest whole lits (drop n lits) old mid → Needs whole (opposite (get_or lits n 0)) mid new
    → NeedsRest whole lits (drop (n + 1) lits) old new
needs_next whole lits n old mid new lt h d = record {
  same = record { clause = d.same.clause ∙ h.same.clause; reasons = d.same.reasons ∙ h.same.reasons };
  size = d.size ∙ h.size;
  more = below_trans old.marks.items mid.marks.items new.marks.items h.more d.more;
  marked = λ x i t. elim (h.marked x i t) [
    | inl a ↦ inl (d.more.at (opposite x) a)
    | inr r ↦ elim (subst (Has x) (rest_at lits n lt) r) [
      | inl s ↦ inl (subst (λ z. is_true new.marks.items (opposite z) ≡ true) s (d.marked (subst (λ z. is_true whole (opposite z) ≡ true) (sym s) t)))
      | inr g ↦ inr g
    ]
  ];
}

-- one reason more, from the end
pub hints_next : (ks hs more all : List ℕ) (m n k : ℕ) → m ≡ n + 1 → n < length ks → hs ++ hints_back (take m ks) (k ∷ []) ≡ all → more ≡ hs ++ get_or ks n 0 ∷ [] → more ++ hints_back (take n ks) (k ∷ []) ≡ all
hints_next ks hs more all m n k is lt e a =
    let front : take m ks ≡ take n ks ++ get_or ks n 0 ∷ [] = ap (λ i. take i ks) (is ∙ add-one n) ∙ take-suc ks n 0 lt in
    let back : hints_back (take m ks) (k ∷ []) ≡ get_or ks n 0 ∷ hints_back (take n ks) (k ∷ []) = ap (λ z. hints_back z (k ∷ [])) front ∙ back_last (take n ks) (get_or ks n 0) (k ∷ []) in
    rw a (append_assoc hs (get_or ks n 0 ∷ []) (hints_back (take n ks) (k ∷ [])) ∙ sym (ap (λ z. hs ++ z) back) ∙ e)

needs_marked : (whole : List Bool) (lits : List ℕ) (old new : Way) → NeedsRest whole lits [] old new → (x : ℕ) → Has x lits → is_true whole (opposite x) ≡ true → is_true new.marks.items (opposite x) ≡ true
needs_marked whole lits old new h x i t = elim (h.marked x i t) [ inl a ↦ a | inr r ↦ absurd r ]

-- nothing was met yet
pub way_starts : (f : Formula) (s : State) (k n : ℕ) (old new : Way) → IsFalseAt f.clauses (assignment s) k → length old.marks.items ≡ 2 * s.variables → old.clause ≡ [] → old.reasons.items ≡ []
    → NeedsClause (assignment s) (slice_get f.clauses k) old new → n ≡ length s.entries → IsWay f.clauses s k n new
way_starts f s k n old new e size c r h is =
    let all : NeedsRest (assignment s) e.clause [] old new = subst (λ o. NeedsClause (assignment s) o old new) e.named h in
    rw (is, take-length s.entries, all.same.clause ∙ c, ap (λ z. z.items) all.same.reasons ∙ r)
    (back_starts f.clauses (2 * s.variables) (assignment s) new.marks.items k e.clause (all.size ∙ size) e.named e.false_ (needs_marked (assignment s) e.clause old new all))

-- all was met
pub way_ends : (f : Formula) (s : State) (k : ℕ) (w : Way) (step : Step) → IsTrail f s → IsWay f.clauses s k 0 w → step.clause ≡ w.clause → step.hints ≡ hints_back w.reasons.items (k ∷ []) → Lesson f step
way_ends f s k w step t h c hs = rw (c, hs, ← t.variables) (back_ends f.clauses (2 * s.variables) (assignment s) w.marks.items w.clause w.reasons.items k h)

pub place_of : (f : Formula) (s : State) (n : ℕ) → IsTrail f s → n < length s.entries → (e : Entry) × IsPlace f.clauses (replicate (2 * s.variables) false) s.entries (reasons s) n e
place_of f s n t lt = place f.clauses (replicate (2 * s.variables) false) s.entries (reasons s) n t.derived (reasons_are f.clauses (replicate (2 * s.variables) false) s.entries t.derived) lt

before : (f : Formula) (s : State) (k n : ℕ) (w : Way) (e : Entry) → IsPlace f.clauses (replicate (2 * s.variables) false) s.entries (reasons s) n e → IsWay f.clauses s k (n + 1) w
    → IsBack f.clauses (replicate (2 * s.variables) false) (slice_set (made_true (replicate (2 * s.variables) false) (take n s.entries)) e.lit true) (assignment s) w.marks.items w.clause w.reasons.items k
before f s k n w e p h =
    subst (λ at. IsBack f.clauses (replicate (2 * s.variables) false) at (assignment s) w.marks.items w.clause w.reasons.items k)
    (ap (λ i. made_true (replicate (2 * s.variables) false) (take i s.entries)) (add-one n) ∙ p.set) h

pub way_skips : (f : Formula) (s : State) (lit : ℕ) (w : Way) → IsTrail f s → is_true w.marks.items lit ≡ false → Passes f.clauses s lit w w
way_skips f s lit w t off k n lt is h =
    let p = place_of f s n t lt in
    back_skips f.clauses (replicate (2 * s.variables) false) (made_true (replicate (2 * s.variables) false) (take n s.entries)) (assignment s) w.marks.items p.0 w.clause w.reasons.items k
    (before f s k n w p.0 p.1 h) (subst (λ z. is_true w.marks.items z ≡ false) (sym is ∙ p.1.lit) off)

pub way_adds : (f : Formula) (s : State) (lit : ℕ) (old new : Way) → IsTrail f s → new.marks ≡ old.marks → new.reasons ≡ old.reasons → new.clause ≡ old.clause ++ opposite lit ∷ [] → Passes f.clauses s lit old new
way_adds f s lit old new t m r c k n lt is h =
    let p = place_of f s n t lt in
    let same : p.0.lit ≡ lit = sym p.1.lit ∙ is in
    let added : new.clause ≡ old.clause ++ opposite p.0.lit ∷ [] = c ∙ ap (λ z. old.clause ++ opposite z ∷ []) (sym same) in
    rw (m, r, added)
    (back_adds f.clauses s.variables (made_true (replicate (2 * s.variables) false) (take n s.entries)) (assignment s) old.marks.items p.0 old.clause old.reasons.items k
    (before f s k n old p.0 p.1 h) (p.1.size ∙ length-replicate (2 * s.variables) false) p.1.next t.proper p.1.there)

pub way_takes : (f : Formula) (s : State) (lit number : ℕ) (old mid new : Way) → IsTrail f s → reason_of lit s.entries ≡ Some number → mid.marks ≡ old.marks → mid.clause ≡ old.clause
    → mid.reasons.items ≡ old.reasons.items ++ number ∷ [] → NeedsClause (assignment s) (slice_get f.clauses number) mid new → Passes f.clauses s lit old new
way_takes f s lit number old mid new t asked m c r d k n lt is h =
    let p = place_of f s n t lt in
    let same : p.0.lit ≡ lit = sym p.1.lit ∙ is in
    let why : p.0.reason ≡ Some number = sym p.1.reason ∙ ap (λ z. reason_of z s.entries) same ∙ asked in
    let reason : IsReason f.clauses (made_true (replicate (2 * s.variables) false) (take n s.entries)) p.0.lit number =
    subst (HasReason f.clauses (made_true (replicate (2 * s.variables) false) (take n s.entries)) p.0.lit) why p.1.next.reason in
    let all : NeedsRest (assignment s) reason.clause [] mid new = subst (λ o. NeedsClause (assignment s) o mid new) reason.named d in
    let marks : mid.marks.items ≡ old.marks.items = ap (λ z. z.items) m in
    rw (all.same.clause ∙ c, ap (λ z. z.items) all.same.reasons ∙ r)
    (back_takes f.clauses (2 * s.variables) (made_true (replicate (2 * s.variables) false) (take n s.entries)) (assignment s) old.marks.items new.marks.items p.0 old.clause old.reasons.items k number reason
    (before f s k n old p.0 p.1 h) (all.size ∙ ap length marks) (subst (λ z. Below z new.marks.items) marks all.more) (needs_marked (assignment s) reason.clause mid new all) p.1.next t.proper p.1.below p.1.there)

pub adds_ok : {T E : Type 0} (r : Result T E) (f : Formula) (s : State) (lit : ℕ) (old new : Way) (item : ℕ) (clause : List ℕ) → IsTrail f s → new.marks ≡ old.marks → new.reasons ≡ old.reasons
    → clause ≡ old.clause → item ≡ opposite lit → OnOk r (new.clause ≡ clause ++ item ∷ []) → OnOk r (Passes f.clauses s lit old new)
adds_ok r f s lit old new item clause t m rs c i h = map_ok r (λ e. way_adds f s lit old new t m rs (e ∙ ap (λ z. z ++ item ∷ []) c ∙ ap (λ z. old.clause ++ z ∷ []) i)) h

-- an element, by whatever default
pub at_zero : (xs : List ℕ) (n x : ℕ) → n < length xs → x ≡ get_or xs n x → x ≡ get_or xs n 0
at_zero [] n x lt e = absurd (omega (arith, lt))
at_zero (y ∷ ys) zero x lt e = e
at_zero (y ∷ ys) (suc n) x lt e = at_zero ys n x (omega (arith, lt)) e
