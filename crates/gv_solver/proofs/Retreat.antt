-- A search that goes on from the level below a decision.
-- In front of a decision no clause is false (`opened`), though one that was attached since may be unit. The point's
-- clause has a literal of the conflict's level and the set's clause that of the decision, so neither is false there. So
-- no set whose clause came since is wholly decided, and the search goes on over more clauses (`search_more`).
use Rattle.std.proofs.Common.{◌≡◌, inl, inr, ℕ, zero, suc, ◌+◌, ◌-◌, ◌*◌, ◌/◌, ◌<◌, ◌≤◌, Bool, true, false, ◌&&◌, cond, nat_eq, nat_le, Option, Some, None, List, [], ◌∷◌, ◌++◌, length, get_or, refl, sym, ap, subst, ◌∙◌, arith}
use Rattle.std.specs.Prelude.{IfSome, slice_set, replicate}
use Rattle.std.proofs.lemmas.Grind.{common_steps}
use Rattle.gv_logic.specs.Formulas.{Formula}
use Rattle.gv_logic.specs.Kept.{IsRising, IsWithin}
use Rattle.gv_logic.specs.Literals.{opposite}
use Rattle.gv_logic.specs.Logs.{Step, set_clause}
use Rattle.gv_logic.specs.Partial.{is_true, all_false, Has}
use Rattle.gv_solver.specs.Clash.{decided, decided_or}
use Rattle.gv_solver.specs.LevelCounts.{one, is_level, at_level}
use Rattle.gv_solver.specs.Marks.{Below}
use Rattle.gv_solver.specs.Work.{IsOpenStep}
use Rattle.gv_solver.specs.Search.{IsLeast, IsOrdered, IsSearch, IsSearched, Ready, IsSameWay, NoneFalse, Began, TakesBack}
use Rattle.gv_trail.specs.Derived.{IsDerived, IsTrail}
use Rattle.gv_trail.specs.Entries.{Entry, State, assignment, made_true, front_to, level_of, level_after, AreLevels}
use Rattle.gv_trail.specs.Watches.{IsIn}
use Rattle.gv_logic.specs.Opposites.{set_here, none_true, opposite_even, opposite_odd}
use Rattle.gv_solver.proofs.Core.{below_refl, all_false_more}
use Rattle.gv_solver.proofs.Counts.{entry_of, same_variable, has_at, all_has}
use Rattle.gv_solver.proofs.Derive.{below_made}
use Rattle.gv_solver.proofs.Down.{decided_off}
use Rattle.gv_solver.proofs.Drop.{rising_range}
use Rattle.gv_solver.proofs.Grow.{within_has}
use Rattle.gv_solver.proofs.Lessons.{within_trans}

no_ : (b : Bool) → b ≡ true → b ≡ false → ⊥
no_ b t f = cc

self_eq : (k : ℕ) → nat_eq k k ≡ true
self_eq k = grind (arith, common_steps)

other_eq : (a b : ℕ) → (a ≡ b → ⊥) → nat_eq a b ≡ false
other_eq a b n = by (nat_eq a b) refl
  where
    same : nat_eq a b ≡ true → a ≡ b
    same s = grind (arith, common_steps)

    by : (v : Bool) → nat_eq a b ≡ v → nat_eq a b ≡ false
    by true s = absurd (n (same s))
    by false s = s

is_le : (x y : ℕ) → x ≤ y → nat_le x y ≡ true
is_le x y le = grind (arith, common_steps)

is_more : (x y : ℕ) → y < x → nat_le x y ≡ false
is_more x y lt = grind (arith, common_steps)

le_is : (x y : ℕ) → nat_le x y ≡ true → x ≤ y
le_is x y s = grind (arith, common_steps)

after_le : (r : Option ℕ) (l : ℕ) → l ≤ level_after r l
after_le None l = omega arith
after_le (Some k) l = omega arith

pub levels_least : (l last : ℕ) (es : List Entry) → AreLevels l es last → l ≤ last
levels_least l last [] a = omega (arith, a)
levels_least l last (x ∷ xs) a = let h = levels_least (level_after x.reason l) last xs a.1 in omega (arith, h, after_le x.reason l)

-- the decision of an input, and the entries before it, which are those of lower levels
record Splits (i l last : ℕ) (on : List Bool) (es : List Entry) : Type 0 where
  before : List Entry
  entry : Entry
  behind : List Entry
  entries : es ≡ before ++ entry ∷ behind
  lit : entry.lit ≡ 2 * i + 1
  reason : entry.reason ≡ None
  above : l < entry.level
  top : entry.level ≤ last
  front : (to : ℕ) → entry.level ≡ to + 1 → front_to to es ≡ before
  free : is_true (made_true on before) (2 * i + 1) ≡ false
  other : is_true (made_true on before) (2 * i) ≡ false
  known : level_of (2 * i) es ≡ Some entry.level

splits : (cs : List (List ℕ)) (on : List Bool) (l last : ℕ) (es : List Entry) (i : ℕ) → IsDerived cs on es → IsOrdered on es → AreLevels l es last → Has i (decided es) → Splits i l last on es
splits cs on l last [] i d o a h = absurd h
splits cs on l last (x ∷ xs) i d o a h = by x.reason refl h (λ g. splits cs (slice_set on x.lit true) (level_after x.reason l) last xs i d.1 o.1 a.1 g)
  where
    half : (2 * i) / 2 ≡ i
    half = omega arith

    here : x.reason ≡ None → x.lit / 2 ≡ i → Splits i l last on (x ∷ xs)
    here q s =
        let lit : x.lit ≡ 2 * i + 1 = (o.0 q).0 ∙ ap (λ m. 2 * m + 1) s in
        let level : x.level ≡ l + 1 = rw q at a.0 in
        let most = levels_least (level_after x.reason l) last xs a.1 in
        let to_level : level_after x.reason l ≡ x.level = sym a.0 in
        record {
          before = [];
          entry = x;
          behind = xs;
          entries = refl;
          lit = lit;
          reason = q;
          above = omega (arith, level);
          top = omega (arith, most, to_level);
          front = λ to e. rw (is_more x.level to (omega (arith, e))) refl;
          free = subst (λ z. is_true on z ≡ false) lit d.0.free;
          other = subst (λ z. is_true on z ≡ false) (ap opposite lit ∙ opposite_odd i) d.0.other;
          known = rw (s, half, self_eq i) refl;
        }

    there : Splits i (level_after x.reason l) last (slice_set on x.lit true) xs → Splits i l last on (x ∷ xs)
    there r =
        let more = below_made (slice_set on x.lit true) r.before in
        let set_ = set_here on x.lit d.0.range in
        let apart : nat_eq (x.lit / 2) ((2 * i) / 2) ≡ false = other_eq (x.lit / 2) ((2 * i) / 2) (λ q. elim (same_variable x.lit (2 * i) q) [
          | inl s ↦ no_ (is_true (made_true (slice_set on x.lit true) r.before) (2 * i)) (more.at (2 * i) (subst (λ z. is_true (slice_set on x.lit true) z ≡ true) s set_)) r.other
          | inr s ↦ no_ (is_true (made_true (slice_set on x.lit true) r.before) (2 * i + 1)) (more.at (2 * i + 1) (subst (λ z. is_true (slice_set on x.lit true) z ≡ true) (s ∙ opposite_even i) set_)) r.free
        ]) in
        let up = after_le x.reason l in
        let at : x.level ≡ level_after x.reason l = a.0 in
        record {
          before = x ∷ r.before;
          entry = r.entry;
          behind = r.behind;
          entries = ap (λ ys. x ∷ ys) r.entries;
          lit = r.lit;
          reason = r.reason;
          above = let b = r.above in omega (arith, b, up);
          top = r.top;
          front = λ to e. let b = r.above in rw (is_le x.level to (omega (arith, b, at, e))) (ap (λ ys. x ∷ ys) (r.front to e));
          free = r.free;
          other = r.other;
          known = rw apart r.known;
        }

    by : (r : Option ℕ) → x.reason ≡ r → Has i (decided_or r x.lit (decided xs)) → (Has i (decided xs) → Splits i (level_after x.reason l) last (slice_set on x.lit true) xs) → Splits i l last on (x ∷ xs)
    by None q k go = elim k [ inl s ↦ here q s | inr g ↦ there (go g) ]
    by (Some n) q k go = there (go k)

-- the front of a way down
ordered_front : (on : List Bool) (es fs : List Entry) → IsOrdered on (es ++ fs) → IsOrdered on es
ordered_front on [] fs o = tt
ordered_front on (e ∷ es) fs o = (o.0, ordered_front (slice_set on e.lit true) es fs o.1)

ordered_at : (on : List Bool) (es : List Entry) (e : Entry) (fs : List Entry) → IsOrdered on (es ++ e ∷ fs) → e.reason ≡ None → IsLeast (made_true on es) e.lit
ordered_at on [] e fs o n = o.0 n
ordered_at on (x ∷ xs) e fs o n = ordered_at (slice_set on x.lit true) xs e fs o.1 n

decided_cat : (es fs : List Entry) → decided (es ++ fs) ≡ decided es ++ decided fs
decided_cat [] fs = refl
decided_cat (x ∷ xs) fs = by x.reason (decided_cat xs fs)
  where
    by : (r : Option ℕ) → decided (xs ++ fs) ≡ decided xs ++ decided fs → decided_or r x.lit (decided (xs ++ fs)) ≡ decided_or r x.lit (decided xs) ++ decided fs
    by None h = ap (λ ys. x.lit / 2 ∷ ys) h
    by (Some k) h = h

rising_front : (b t i : ℕ) (xs ys : List ℕ) → IsRising b t (xs ++ i ∷ ys) → IsRising b i xs
rising_front b t i [] ys r = r.0
rising_front b t i (x ∷ xs) ys r = (r.0, rising_front (x + 1) t i xs ys r.1)

has_left : (xs ys : List ℕ) (m : ℕ) → Has m xs → Has m (xs ++ ys)
has_left [] ys m h = absurd h
has_left (x ∷ xs) ys m h = elim h [ inl s ↦ inl s | inr g ↦ inr (has_left xs ys m g) ]

pub same_level : (a b : ℕ) → Some a ≡ Some b → a ≡ b
same_level a b q = cc

pub level_some : (inputs i : ℕ) (s : State) (f : Formula) → IsTrail f s → IsSearched f.clauses inputs s → Has i (decided s.entries)
    → (level : ℕ) × (level_of (2 * i) s.entries ≡ Some level) × (0 < level) × (level ≤ s.level)
level_some inputs i s f t w h =
    let r = splits f.clauses (replicate (2 * s.variables) false) 0 s.level s.entries i t.derived w.ordered t.levels h in
    (r.entry.level, r.known, omega (arith, r.above), r.top)

pub takes_back : (f : Formula) (inputs i level : ℕ) (old new : State) → IsTrail f old → IsSearched f.clauses inputs old → Has i (decided old.entries) → level_of (2 * i) old.entries ≡ Some level
    → new.variables ≡ old.variables → new.entries ≡ front_to (level - 1) old.entries → new.level ≡ level - 1 → TakesBack f.clauses i old new
takes_back f inputs i level old new t w h known v e l =
    let r = splits f.clauses (replicate (2 * old.variables) false) 0 old.level old.entries i t.derived w.ordered t.levels h in
    let same : r.entry.level ≡ level = same_level r.entry.level level (sym r.known ∙ known) in
    let low = r.above in
    let high = r.top in
    let before : new.entries ≡ r.before = e ∙ r.front (level - 1) (omega (arith, same, low)) in
    let least : IsLeast (made_true (replicate (2 * old.variables) false) r.before) r.entry.lit =
    ordered_at (replicate (2 * old.variables) false) r.before r.entry r.behind (subst (IsOrdered (replicate (2 * old.variables) false)) r.entries w.ordered) r.reason in
    let half : r.entry.lit / 2 ≡ i = omega (arith, r.lit) in
    let all : decided old.entries ≡ decided r.before ++ i ∷ decided r.behind =
    ap decided r.entries ∙ decided_cat r.before (r.entry ∷ r.behind) ∙ rw (r.reason, half) refl in
    record {
      search = record {
        ordered = rw (v, before) (ordered_front (replicate (2 * old.variables) false) r.before (r.entry ∷ r.behind) (subst (IsOrdered (replicate (2 * old.variables) false)) r.entries w.ordered));
        rising = rw before (rising_front 0 inputs i (decided r.before) (decided r.behind) (subst (IsRising 0 inputs) all w.rising));
        free = λ p ps k s q. w.free p ps k s (within_trans (p ∷ ps) (decided new.entries) (decided old.entries) q
            (λ m g. subst (Has m) (sym all) (has_left (decided r.before) (i ∷ decided r.behind) m (subst (λ z. Has m (decided z)) before g))));
        assigned = λ j lt. rw (v, before) (least.1 j (omega (arith, lt, half)));
      };
      below = omega (arith, l, same, low, high);
      entries = e ∙ ap (λ k. front_to k old.entries) (sym l);
      free = rw (v, before) r.free;
    }

-- what isn't false with more literals true
none_less : (cs : List (List ℕ)) (a b : List Bool) → Below a b → NoneFalse cs b → NoneFalse cs a
none_less cs a b f n k c s = by (all_false a c) refl
  where
    by : (v : Bool) → all_false a c ≡ v → all_false a c ≡ false
    by true e = absurd (no_ (all_false b c) (all_false_more a b c f e) (n k c s))
    by false e = e

below_front : (on : List Bool) (to : ℕ) (es : List Entry) → Below (made_true on (front_to to es)) (made_true on es)
below_front on to [] = below_refl on
below_front on to (e ∷ es) = by (nat_le e.level to) (below_front (slice_set on e.lit true) to es)
  where
    by : (v : Bool) → Below (made_true (slice_set on e.lit true) (front_to to es)) (made_true (slice_set on e.lit true) es)
        → Below (made_true on (cond v (e ∷ front_to to es) [])) (made_true on (e ∷ es))
    by true more = more
    by false more = below_made on (e ∷ es)

front_less : (to level : ℕ) (es fs : List Entry) → to < level → ((e : Entry) → IsIn e fs → e.level ≡ level) → front_to to (es ++ fs) ≡ front_to to es
front_less to level [] [] lt f = refl
front_less to level [] (x ∷ xs) lt f = let q = f x (inl refl) in rw (is_more x.level to (omega (arith, q, lt))) refl
front_less to level (x ∷ xs) fs lt f = by (nat_le x.level to) (front_less to level xs fs lt f)
  where
    by : (v : Bool) → front_to to (xs ++ fs) ≡ front_to to xs → cond v (x ∷ front_to to (xs ++ fs)) [] ≡ cond v (x ∷ front_to to xs) []
    by true more = ap (λ t. x ∷ t) more
    by false more = refl

-- no clause is false below the level of a conflict
pub opened : (cs : List (List ℕ)) (i : ℕ) (old new : State) → Began cs old → TakesBack cs i old new → new.variables ≡ old.variables → NoneFalse cs (assignment new)
opened cs i old new b t v =
    let same : new.entries ≡ front_to new.level b.before = t.entries ∙ ap (front_to new.level) b.entries ∙ front_less new.level old.level b.before b.more t.below b.here in
    none_less cs (assignment new) (made_true (replicate (2 * old.variables) false) b.before)
    (rw (v, same) (below_front (replicate (2 * old.variables) false) new.level b.before)) b.open_

-- a literal that is true below a level has a lower one
in_front : (to : ℕ) (es : List Entry) (e : Entry) → IsIn e (front_to to es) → (k : ℕ) × (level_of e.lit es ≡ Some k) × (k ≤ to)
in_front to [] e h = absurd h
in_front to (x ∷ xs) e h = by (nat_le x.level to) refl h (in_front to xs e)
  where
    or_later : (v : Bool) → nat_eq (x.lit / 2) (e.lit / 2) ≡ v → x.level ≤ to → IsIn e (x ∷ front_to to xs) → (IsIn e (front_to to xs) → (k : ℕ) × (level_of e.lit xs ≡ Some k) × (k ≤ to))
        → (k : ℕ) × (cond v (Some x.level) (level_of e.lit xs) ≡ Some k) × (k ≤ to)
    or_later true s le i go = (x.level, refl, le)
    or_later false s le i go = elim i [
      | inl q ↦ absurd (no_ (nat_eq (x.lit / 2) (e.lit / 2)) (subst (λ (z : Entry). nat_eq (x.lit / 2) (z.lit / 2) ≡ true) q (self_eq (x.lit / 2))) s)
      | inr g ↦ go g
    ]

    by : (v : Bool) → nat_le x.level to ≡ v → IsIn e (cond v (x ∷ front_to to xs) []) → (IsIn e (front_to to xs) → (k : ℕ) × (level_of e.lit xs ≡ Some k) × (k ≤ to)) → (k : ℕ) × (level_of e.lit (x ∷ xs) ≡ Some k) × (k ≤ to)
    by true s i go = or_later (nat_eq (x.lit / 2) (e.lit / 2)) refl (le_is x.level to s) i go
    by false s i go = absurd i

not_on : (b : Bool) → (b ≡ true → ⊥) → b ≡ false
not_on true n = absurd (n refl)
not_on false n = refl

none_at : (n to level : ℕ) (es : List Entry) (ls : List ℕ) → to < level → all_false (made_true (replicate n false) (front_to to es)) ls ≡ true → at_level level es ls ≡ 0
none_at n to level es [] lt f = refl
none_at n to level es (l ∷ ls) lt f =
    let p = both (is_true (made_true (replicate n false) (front_to to es)) (opposite l)) (all_false (made_true (replicate n false) (front_to to es)) ls) f in
    let e = entry_of (replicate n false) (front_to to es) (opposite l) (not_on _ (none_true n (opposite l))) p.0 in
    let r = in_front to es e.0 e.1 in
    let known : level_of (opposite l) es ≡ Some r.0 = subst (λ z. level_of z es ≡ Some r.0) e.2 r.1 in
    let other : nat_eq r.0 level ≡ false = other_eq r.0 level (λ q. omega (arith, q, r.2, lt)) in
    let more = none_at n to level es ls lt p.1 in
    let none : one (is_level level (Some r.0)) ≡ 0 = rw other refl in
    rw known (omega (arith, more, none))
  where
    both : (u v : Bool) → (u && v) ≡ true → (u ≡ true) × (v ≡ true)
    both true v e = (refl, e)
    both false v e = cc

-- a clause with a literal of the conflict's level isn't false below
pub open_point : (cs : List (List ℕ)) (i : ℕ) (old new : State) (clause : List ℕ) → at_level old.level old.entries clause ≡ 1 → TakesBack cs i old new → new.variables ≡ old.variables → all_false (assignment new) clause ≡ false
open_point cs i old new clause e t v = by (all_false (assignment new) clause) refl
  where
    by : (b : Bool) → all_false (assignment new) clause ≡ b → all_false (assignment new) clause ≡ false
    by true s = absurd (some (at_level old.level old.entries clause) e (none_at (2 * old.variables) new.level old.level old.entries clause t.below (rw (v, t.entries) at s)))
      where
        some : (n : ℕ) → n ≡ 1 → n ≡ 0 → ⊥
        some n a b = omega (arith, a, b)
    by false s = s

pub open_step : (cs : List (List ℕ)) (i : ℕ) (old new : State) (point : Option Step) → IfSome point (λ step. at_level old.level old.entries step.clause ≡ 1) → TakesBack cs i old new → new.variables ≡ old.variables
    → IfSome point (IsOpenStep (assignment new))
open_step cs i old new None e t v = tt
open_step cs i old new (Some step) e t v = open_point cs i old new step.clause e t v

-- nor one with the literal of the decision
pub open_set : (on : List Bool) (set : List ℕ) (i : ℕ) → Has i set → is_true on (2 * i + 1) ≡ false → all_false on (set_clause set) ≡ false
open_set on [] i h f = absurd h
open_set on (x ∷ xs) i h f = elim h [
  | inl s ↦ rw (opposite_even x, s, f) refl
  | inr g ↦ and_false (is_true on (opposite (2 * x))) (all_false on (set_clause xs)) (open_set on xs i g f)
]
  where
    and_false : (u v : Bool) → v ≡ false → (u && v) ≡ false
    and_false true v e = e
    and_false false v e = refl

none_last : (cs : List (List ℕ)) (c : List ℕ) (on : List Bool) → NoneFalse cs on → all_false on c ≡ false → NoneFalse (cs ++ c ∷ []) on
none_last [] c on n f zero d s = let same : c ≡ d = cc in subst (λ z. all_false on z ≡ false) same f
none_last [] c on n f (suc k) d s = cc
none_last (x ∷ xs) c on n f zero d s = n zero d s
none_last (x ∷ xs) c on n f (suc k) d s = none_last xs c on (λ j b r. n (suc j) b r) f k d s

-- a clause that isn't false is attached
pub attached : (cs : List (List ℕ)) (c : List ℕ) (old new : State) → IsSameWay old new → all_false (assignment old) c ≡ false → NoneFalse cs (assignment old) → NoneFalse (cs ++ c ∷ []) (assignment new)
attached cs c old new s f n = rw (s.variables, s.entries) (none_last cs c (assignment old) n f)

-- the trails over clauses and over the same with more
pub same_way : (f g : Formula) (n : ℕ) (old new : State) → Ready f n old → Ready g n new → g.variables ≡ f.variables → new.entries ≡ old.entries → IsSameWay old new
same_way f g n old new a b v e = record { variables = b.over.variables ∙ v ∙ sym a.over.variables; entries = e }

all_off : (on : List Bool) (set : List ℕ) → ((j : ℕ) → Has j set → is_true on (2 * j + 1) ≡ true) → all_false on (set_clause set) ≡ true
all_off on [] f = refl
all_off on (x ∷ xs) f = rw (opposite_even x, f x (inl refl)) (all_off on xs (λ j h. f j (inr h)))

-- the search goes on over more clauses of which none is false
pub search_more : (f : Formula) (cs : List (List ℕ)) (i : ℕ) (old new : State) → IsTrail f old → IsSearch f.clauses i old → IsSameWay old new → NoneFalse cs (assignment new) → IsSearch cs i new
search_more f cs i old new t s w n =
    let v = w.variables in
    let e = w.entries in
    let same : assignment new ≡ assignment old = rw (v, e) refl in
    record {
      ordered = rw (v, e) s.ordered;
      rising = rw e s.rising;
      free = λ p ps k named q. no_ (all_false (assignment old) (set_clause (p ∷ ps)))
          (all_off (assignment old) (p ∷ ps) (λ j h. decided_off (replicate (2 * old.variables) false) old.entries j f.clauses t.derived s.ordered (within_has (p ∷ ps) (decided old.entries) j (subst (λ z. IsWithin (p ∷ ps) (decided z)) e q) h)))
          (subst (λ z. all_false z (set_clause (p ∷ ps)) ≡ false) same (n k (set_clause (p ∷ ps)) named));
      assigned = λ j lt. rw (v, e) (s.assigned j lt);
    }

pub last_has : (xs : List ℕ) (n v : ℕ) → 0 < length xs → n ≡ length xs → v ≡ get_or xs (n - 1) 0 → Has v xs
last_has xs n v some long is = rw is (has_at xs (n - 1) (omega (arith, some, long)))

pub has_few : (t : ℕ) (xs : List ℕ) (m : ℕ) → IsRising 0 t xs → Has m xs → m < t
has_few t xs m r h = all_has (λ x. x < t) xs m (rising_range 0 t t xs r (omega arith)) h

pub same_ready : (f : Formula) (n : ℕ) (old new : State) → Ready f n old → Ready f n new → new.variables ≡ old.variables
same_ready f n old new a b = b.over.variables ∙ sym a.over.variables
