-- The clause of an implication point has one literal of the conflict's level.
-- Until the point is found, the number that is kept is that of the marked literals of the level that were not met yet,
-- and isn't 0 (`IsCounted` in `specs/LevelCounts`; `count_skips`, `count_adds`, `count_takes`). Levels don't fall along
-- the entries and a decision is the first of its level, so the last of these literals is met before the level ends.
use Rattle.std.proofs.Common.{◌≡◌, ◌≢◌, ◌⊎◌, inl, inr, ℕ, zero, suc, ◌+◌, ◌-◌, ◌*◌, ◌/◌, ◌%◌, ◌<◌, ◌≤◌, ◌^◌, Bool, true, false, cond, ◌&&◌, nat_eq, Option, Some, None, List, [], ◌∷◌, ◌++◌, length, take, get_or, add-one, refl, sym, ap, subst, ◌∙◌, arith}
use Rattle.std.specs.Prelude.{Result, OnOk, slice_get, slice_set, replicate}
use Rattle.std.specs.List.{AllByRecursion}
use Rattle.std.proofs.Math.ListN.{length-set}
use Rattle.std.proofs.Math.Seq.{take-length}
use Rattle.std.proofs.lemmas.List.{length-replicate, get_or-set_other}
use Rattle.std.proofs.lemmas.Grind.{common_steps}
use Rattle.gv_logic.specs.Formulas.{Formula}
use Rattle.gv_logic.specs.Literals.{opposite}
use Rattle.gv_logic.specs.Partial.{is_true, trues, Has}
use Rattle.gv_solver.specs.Clash.{Derived}
use Rattle.gv_solver.specs.LevelCounts.{one, is_level, at_level, waiting, IsCountedBy, IsCounted, Counts, CountsClause, Notes, Chooses, PassesCounted}
use Rattle.gv_solver.specs.Marks.{Below}
use Rattle.gv_solver.specs.Point.{NeedsRest, NeedsClause}
use Rattle.gv_solver.specs.Resting.{reasons}
use Rattle.gv_solver.specs.Search.{IsLateAt}
use Rattle.gv_solver.specs.declared.point.Way.{Way}
use Rattle.gv_trail.specs.Derived.{HasReason, IsReason, IsDerived, IsTrail}
use Rattle.gv_trail.specs.Entries.{Entry, State, assignment, lits_of, made_true, reason_of, level_of, level_after, AreLevels}
use Rattle.gv_trail.specs.Propagation.{IsFalseAt}
use Rattle.gv_trail.specs.Watches.{IsIn}
use Rattle.gv_logic.specs.Opposites.{none_true, set_here, set_keeps, opposite_twice}
use Rattle.gv_solver.proofs.Derive.{below_made}
use Rattle.gv_solver.proofs.Grow.{long}
use Rattle.gv_solver.proofs.Lessons.{map_ok}
use Rattle.gv_solver.proofs.Points.{IsPlace, place_of}
use Rattle.gv_solver.proofs.Reasons.{apart}
use Rattle.gv_solver.proofs.Rest.{past}

no_ : {A : Type 0} (b : Bool) → b ≡ true → b ≡ false → A
no_ b t f = cc

not_on : (b : Bool) → (b ≡ true → ⊥) → b ≡ false
not_on true f = absurd (f refl)
not_on false f = refl

same_eq : (a b : ℕ) → nat_eq a b ≡ true → a ≡ b
same_eq a b e = grind (arith, common_steps)

self_eq : (k : ℕ) → nat_eq k k ≡ true
self_eq k = grind (arith, common_steps)

other_eq : (a b : ℕ) → (a ≡ b → ⊥) → nat_eq a b ≡ false
other_eq a b n = not_on (nat_eq a b) (λ e. n (same_eq a b e))

and_off : (b : Bool) → (b && false) ≡ false
and_off true = refl
and_off false = refl

and_on : (b : Bool) → (b && true) ≡ b
and_on true = refl
and_on false = refl

one_few : (b : Bool) → one b ≤ 1
one_few true = omega arith
one_few false = omega arith

one_more : (u a b : Bool) → (a ≡ true → b ≡ true) → one (u && a) ≤ one (u && b)
one_more false a b f = omega arith
one_more true false b f = omega arith
one_more true true b f = rw (f refl) (omega arith)

-- members of lists
all_in : (P : Entry → Type 0) (es : List Entry) (e : Entry) → AllByRecursion P es → IsIn e es → P e
all_in P [] e a i = absurd i
all_in P (x ∷ xs) e a i = elim i [ inl q ↦ subst P q a.0 | inr g ↦ all_in P xs e a.1 g ]

pub all_has : (P : ℕ → Type 0) (xs : List ℕ) (x : ℕ) → AllByRecursion P xs → Has x xs → P x
all_has P [] x a h = absurd h
all_has P (y ∷ ys) x a h = elim h [ inl q ↦ subst P q a.0 | inr g ↦ all_has P ys x a.1 g ]

pub has_at : (xs : List ℕ) (n : ℕ) → n < length xs → Has (get_or xs n 0) xs
has_at [] n lt = absurd (omega (arith, lt))
has_at (x ∷ xs) zero lt = inl refl
has_at (x ∷ xs) (suc n) lt = inr (has_at xs n (omega (arith, lt)))

in_take : (n : ℕ) (es : List Entry) (e : Entry) → IsIn e (take n es) → IsIn e es
in_take zero es e i = absurd i
in_take (suc n) [] e i = absurd i
in_take (suc n) (x ∷ xs) e i = elim i [ inl q ↦ inl q | inr g ↦ inr (in_take n xs e g) ]

take_few : (n : ℕ) (es : List Entry) → length (take n es) ≤ length es
take_few zero es = omega arith
take_few (suc n) [] = omega arith
take_few (suc n) (x ∷ xs) = let h = take_few n xs in omega (arith, h)

derived_take : (cs : List (List ℕ)) (n : ℕ) (on : List Bool) (es : List Entry) → IsDerived cs on es → IsDerived cs on (take n es)
derived_take cs zero on es d = tt
derived_take cs (suc n) on [] d = tt
derived_take cs (suc n) on (x ∷ xs) d = (d.0, derived_take cs n (slice_set on x.lit true) xs d.1)

-- a literal that became true has an entry
pub entry_of : (on : List Bool) (es : List Entry) (l : ℕ) → is_true on l ≡ false → is_true (made_true on es) l ≡ true → (e : Entry) × IsIn e es × (e.lit ≡ l)
entry_of on [] l f t = no_ (is_true on l) t f
entry_of on (x ∷ xs) l f t = by (nat_eq x.lit l) refl (λ g. entry_of (slice_set on x.lit true) xs l g t)
  where
    by : (b : Bool) → nat_eq x.lit l ≡ b → (is_true (slice_set on x.lit true) l ≡ false → (e : Entry) × IsIn e xs × (e.lit ≡ l)) → (e : Entry) × IsIn e (x ∷ xs) × (e.lit ≡ l)
    by true s go = (x, inl refl, same_eq x.lit l s)
    by false s go =
        let differ : l ≢ x.lit = λ q. no_ (nat_eq x.lit l) (rw q (self_eq x.lit)) s in
        let r = go (get_or-set_other on x.lit l true false differ ∙ f) in
        (r.0, inr r.1, r.2)

in_true : (cs : List (List ℕ)) (on : List Bool) (es : List Entry) (e : Entry) → IsDerived cs on es → IsIn e es → is_true (made_true on es) e.lit ≡ true
in_true cs on [] e d i = absurd i
in_true cs on (x ∷ xs) e d i = elim i [
  | inl q ↦ subst (λ z. is_true (made_true (slice_set on x.lit true) xs) z.lit ≡ true) q ((below_made (slice_set on x.lit true) xs).at x.lit (set_here on x.lit d.0.range))
  | inr g ↦ in_true cs (slice_set on x.lit true) xs e d.1 g
]

-- there are no more entries than literals
trues_set : (on : List Bool) (i : ℕ) → i < length on → get_or on i false ≡ false → trues (slice_set on i true) ≡ trues on + 1
trues_set [] i lt e = absurd (omega arith)
trues_set (true ∷ bs) zero lt e = cc
trues_set (false ∷ bs) zero lt e = refl
trues_set (true ∷ bs) (suc i) lt e = let h = trues_set bs i (omega arith) e in omega arith
trues_set (false ∷ bs) (suc i) lt e = let h = trues_set bs i (omega arith) e in omega arith

trues_few : (on : List Bool) → trues on ≤ length on
trues_few [] = omega arith
trues_few (true ∷ bs) = let h = trues_few bs in omega (arith, h)
trues_few (false ∷ bs) = let h = trues_few bs in omega (arith, h)

entries_few : (cs : List (List ℕ)) (on : List Bool) (es : List Entry) → IsDerived cs on es → trues on + length es ≤ length on
entries_few cs on [] d = let h = trues_few on in omega (arith, h)
entries_few cs on (e ∷ es) d =
    let h = entries_few cs (slice_set on e.lit true) es d.1 in
    let s = trues_set on e.lit d.0.range d.0.free in
    let n = length-set on e.lit true in
    omega (arith, h, s, n)

pub few_entries : (f : Formula) (s : State) (v : ℕ) → IsTrail f s → v ≡ f.variables → v < 2 ^ 32 → length s.entries < 2 ^ 60
few_entries f s v t is lt =
    let h = entries_few f.clauses (replicate (2 * s.variables) false) s.entries t.derived in
    let n = length-replicate (2 * s.variables) false in
    omega (arith, h, n, t.variables, is, lt)

-- the level that a look-up gives is the entry's
pub same_variable : (a b : ℕ) → a / 2 ≡ b / 2 → (a ≡ b) ⊎ (a ≡ opposite b)
same_variable a b e = by (nat_eq (b % 2) 0) refl (nat_eq (a % 2) 0) refl
  where
    even : (r : ℕ) → nat_eq r 0 ≡ true → r ≡ 0
    even r q = grind (arith, common_steps)

    odd : (r : ℕ) → nat_eq r 0 ≡ false → 0 < r
    odd r q = grind (arith, common_steps)

    by : (u : Bool) → nat_eq (b % 2) 0 ≡ u → (v : Bool) → nat_eq (a % 2) 0 ≡ v → (a ≡ b) ⊎ (a ≡ cond u (b + 1) (b - 1))
    by true s true t = let x = even (b % 2) s in let y = even (a % 2) t in inl (omega (arith, x, y, e))
    by true s false t = let x = even (b % 2) s in let y = odd (a % 2) t in inr (omega (arith, x, y, e))
    by false s true t = let x = odd (b % 2) s in let y = even (a % 2) t in inr (omega (arith, x, y, e))
    by false s false t = let x = odd (b % 2) s in let y = odd (a % 2) t in inl (omega (arith, x, y, e))

apart_level : (cs : List (List ℕ)) (on : List Bool) (es : List Entry) (l : ℕ) → IsDerived cs on es → is_true on l ≡ true → AllByRecursion (λ e. nat_eq (l / 2) (e.lit / 2) ≡ false) es
apart_level cs on [] l d t = tt
apart_level cs on (e ∷ es) l d t = (
  other_eq (l / 2) (e.lit / 2) (λ q. elim (same_variable l e.lit q) [
    | inl s ↦ no_ (is_true on e.lit) (subst (λ z. is_true on z ≡ true) s t) d.0.free
    | inr s ↦ no_ (is_true on (opposite e.lit)) (subst (λ z. is_true on z ≡ true) s t) d.0.other
  ]),
  apart_level cs (slice_set on e.lit true) es l d.1 (set_keeps on e.lit l t),
)

behind_level : (e : Entry) (es xs : List Entry) → AllByRecursion (λ x. nat_eq (e.lit / 2) (x.lit / 2) ≡ false) xs → AllByRecursion (λ x. level_of x.lit es ≡ Some x.level) xs → AllByRecursion (λ x. level_of x.lit (e ∷ es) ≡ Some x.level) xs
behind_level e es [] a r = tt
behind_level e es (x ∷ xs) a r = (rw a.0 r.0, behind_level e es xs a.1 r.1)

levels_are : (cs : List (List ℕ)) (on : List Bool) (es : List Entry) → IsDerived cs on es → AllByRecursion (λ e. level_of e.lit es ≡ Some e.level) es
levels_are cs on [] d = tt
levels_are cs on (e ∷ es) d = (
  rw (self_eq (e.lit / 2)) refl,
  behind_level e es es (apart_level cs (slice_set on e.lit true) es e.lit d.1 (set_here on e.lit d.0.range)) (levels_are cs (slice_set on e.lit true) es d.1),
)

-- levels don't fall, and a decision's is above those before it
after_more : (r : Option ℕ) (l : ℕ) → l ≤ level_after r l
after_more None l = omega arith
after_more (Some k) l = omega arith

record IsAbove (floor : ℕ) (es : List Entry) (n : ℕ) (e : Entry) : Type 0 where
  pub before : ℕ
  pub more : floor ≤ before
  pub low : AllByRecursion (λ x. x.level ≤ before) (take n es)
  pub level : e.level ≡ level_after e.reason before

first_is : (x e : Entry) (es : List Entry) → x ∷ take zero es ≡ take zero (x ∷ es) ++ e ∷ [] → x ≡ e
first_is x e es q = cc

rest_is : (x : Entry) (as_ bs : List Entry) → x ∷ as_ ≡ x ∷ bs → as_ ≡ bs
rest_is x as_ bs q = cc

above : (l last : ℕ) (es : List Entry) (n : ℕ) (e : Entry) → AreLevels l es last → n < length es → take (suc n) es ≡ take n es ++ e ∷ [] → IsAbove l es n e
above l last [] n e a lt s = absurd (omega (arith, lt))
above l last (x ∷ xs) zero e a lt s =
    let same : x ≡ e = first_is x e xs s in
    record { before = l; more = omega arith; low = tt; level = subst (λ z. z.level ≡ level_after z.reason l) same a.0 }
above l last (x ∷ xs) (suc n) e a lt s =
    let h = above (level_after x.reason l) last xs n e a.1 (omega (arith, lt)) (rest_is x (take (suc n) xs) (take n xs ++ e ∷ []) s) in
    let up = after_more x.reason l in
    record { before = h.before; more = omega (arith, h.more, up); low = (omega (arith, a.0, h.more), h.low); level = h.level }

-- how many are marked of a level
waiting_cat : (level : ℕ) (m : List Bool) (xs : List Entry) (e : Entry) → waiting level m (xs ++ e ∷ []) ≡ waiting level m xs + one (nat_eq e.level level && is_true m e.lit)
waiting_cat level m [] e = omega arith
waiting_cat level m (x ∷ xs) e = let h = waiting_cat level m xs e in omega (arith, h)

at_level_cat : (level : ℕ) (es : List Entry) (ls : List ℕ) (l : ℕ) → at_level level es (ls ++ l ∷ []) ≡ at_level level es ls + one (is_level level (level_of (opposite l) es))
at_level_cat level es [] l = omega arith
at_level_cat level es (x ∷ xs) l = let h = at_level_cat level es xs l in omega (arith, h)

waiting_low : (level b : ℕ) (m : List Bool) (es : List Entry) → b < level → AllByRecursion (λ x. x.level ≤ b) es → waiting level m es ≡ 0
waiting_low level b m [] lt a = refl
waiting_low level b m (e ∷ es) lt a =
    let d : nat_eq e.level level ≡ false = other_eq e.level level (λ q. absurd (omega (arith, a.0, lt, q))) in
    rw (d, waiting_low level b m es lt a.1) refl

waiting_few : (level : ℕ) (m : List Bool) (es : List Entry) → waiting level m es ≤ length es
waiting_few level m [] = omega arith
waiting_few level m (e ∷ es) = let h = waiting_few level m es in let k = one_few (nat_eq e.level level && is_true m e.lit) in omega (arith, h, k)

waiting_none : (level n : ℕ) (es : List Entry) → waiting level (replicate n false) es ≡ 0
waiting_none level n [] = refl
waiting_none level n (e ∷ es) =
    let f : is_true (replicate n false) e.lit ≡ false = not_on _ (none_true n e.lit) in
    rw (f, and_off (nat_eq e.level level), waiting_none level n es) refl

waiting_some : (level : ℕ) (m : List Bool) (es : List Entry) (e : Entry) → IsIn e es → e.level ≡ level → is_true m e.lit ≡ true → 0 < waiting level m es
waiting_some level m [] e i l t = absurd i
waiting_some level m (x ∷ xs) e i l t = elim i [
  | inl q ↦
      let t' : is_true m x.lit ≡ true = subst (λ z. is_true m z.lit ≡ true) (sym q) t in
      let s : nat_eq x.level level ≡ true = subst (λ z. nat_eq z.level level ≡ true) (sym q) (rw l (self_eq level)) in
      let h : one (nat_eq x.level level && is_true m x.lit) ≡ 1 = rw (s, t') refl in
      omega (arith, h)
  | inr g ↦ let h = waiting_some level m xs e g l t in omega (arith, h)
]

waiting_more : (level : ℕ) (m k : List Bool) (es : List Entry) → Below m k → waiting level m es ≤ waiting level k es
waiting_more level m k [] b = omega arith
waiting_more level m k (e ∷ es) b =
    let h = waiting_more level m k es b in
    let o = one_more (nat_eq e.level level) (is_true m e.lit) (is_true k e.lit) (b.at e.lit) in
    omega (arith, h, o)

waiting_apart : (level lit : ℕ) (m : List Bool) (es : List Entry) → AllByRecursion (λ e. lit ≡ e.lit → ⊥) es → waiting level (slice_set m lit true) es ≡ waiting level m es
waiting_apart level lit m [] a = refl
waiting_apart level lit m (x ∷ xs) a =
    let same : is_true (slice_set m lit true) x.lit ≡ is_true m x.lit = get_or-set_other m lit x.lit true false (λ q. a.0 (sym q)) in
    rw (same, waiting_apart level lit m xs a.1) refl

-- one more is marked
waiting_set : (cs : List (List ℕ)) (level lit : ℕ) (m on : List Bool) (es : List Entry) (e : Entry) → IsDerived cs on es → IsIn e es → e.lit ≡ lit → is_true m lit ≡ false → lit < length m
    → waiting level (slice_set m lit true) es ≡ waiting level m es + one (nat_eq e.level level)
waiting_set cs level lit m on [] e d i l f lt = absurd i
waiting_set cs level lit m on (x ∷ xs) e d i l f lt = elim i [
  | inl q ↦
      let xl : x.lit ≡ lit = ap (λ (z : Entry). z.lit) q ∙ l in
      let here : is_true (slice_set m lit true) x.lit ≡ true = rw xl (set_here m lit lt) in
      let was : is_true m x.lit ≡ false = rw xl f in
      let lev : x.level ≡ e.level = ap (λ (z : Entry). z.level) q in
      let there : is_true (slice_set on x.lit true) lit ≡ true = subst (λ z. is_true (slice_set on x.lit true) z ≡ true) xl (set_here on x.lit d.0.range) in
      let rest : waiting level (slice_set m lit true) xs ≡ waiting level m xs = waiting_apart level lit m xs (apart cs (slice_set on x.lit true) xs lit d.1 there) in
      rw (here, was, rest, and_on (nat_eq x.level level), and_off (nat_eq x.level level), lev) (omega arith)
  | inr g ↦
      let differ : x.lit ≢ lit = λ q. all_in (λ z. x.lit ≡ z.lit → ⊥) xs e (apart cs (slice_set on x.lit true) xs x.lit d.1 (set_here on x.lit d.0.range)) g (q ∙ sym l) in
      let same : is_true (slice_set m lit true) x.lit ≡ is_true m x.lit = get_or-set_other m lit x.lit true false differ in
      let h = waiting_set cs level lit m (slice_set on x.lit true) xs e d.1 g l f lt in
      rw (same, h) (omega arith)
]

-- calls that mark
pub counts_none : (s : State) (lits : List ℕ) (w : Way) → Counts s lits w w
counts_none s lits w = record { level = refl; found = refl; exact = λ cs n d few l i e. e }

pub counts_one : (s : State) (lit : ℕ) (old mid new : Way) → length old.marks.items ≡ 2 * s.variables → is_true old.marks.items lit ≡ false → is_true (assignment s) lit ≡ true
    → mid.marks.items ≡ slice_set old.marks.items lit true → mid.level ≡ old.level → mid.found ≡ old.found → mid.unmet ≡ old.unmet
    → Notes (is_level old.level (level_of lit s.entries)) mid new → Counts s (opposite lit ∷ []) old new
counts_one s lit old mid new size was whole is l f o h = record { level = h.0 ∙ l; found = h.1 ∙ f; exact = exact }
  where
    marks : new.marks.items ≡ slice_set old.marks.items lit true
    marks = ap (λ z. z.items) h.2 ∙ is

    exact : (cs : List (List ℕ)) (n : ℕ) → Derived cs s → length s.entries < 2 ^ 60 → old.level ≡ s.level
        → ((x : ℕ) → Has x (opposite lit ∷ []) → is_true (assignment s) (opposite x) ≡ true → (e : Entry) × IsIn e (take n s.entries) × (e.lit ≡ opposite x))
        → old.unmet ≡ waiting s.level old.marks.items (take n s.entries) → new.unmet ≡ waiting s.level new.marks.items (take n s.entries)
    exact cs n d few lev inside eq =
        let twice : opposite (opposite lit) ≡ lit = opposite_twice lit in
        let e = inside (opposite lit) (inl refl) (rw twice whole) in
        let is_lit : e.0.lit ≡ lit = e.2 ∙ twice in
        let known : level_of lit s.entries ≡ Some e.0.level = subst (λ z. level_of z s.entries ≡ Some e.0.level) is_lit
        (all_in (λ z. level_of z.lit s.entries ≡ Some z.level) s.entries e.0 (levels_are cs (replicate (2 * s.variables) false) s.entries d) (in_take n s.entries e.0 e.1)) in
        let more = waiting_set cs s.level lit old.marks.items (replicate (2 * s.variables) false) (take n s.entries) e.0 (derived_take cs n (replicate (2 * s.variables) false) s.entries d) e.1 is_lit was (omega (arith, past (assignment s) lit whole, long s, size)) in
        let short = waiting_few s.level old.marks.items (take n s.entries) in
        let front = take_few n s.entries in
        let counted = h.5 (omega (arith, o, eq, short, front, few)) in
        let same : is_level old.level (level_of lit s.entries) ≡ nat_eq e.0.level s.level = rw (known, lev) refl in
        rw (marks, more, counted, same, o, eq) refl

pub counts_next : (s : State) (lits : List ℕ) (n lit : ℕ) (old mid new : Way) → n < length lits → lit ≡ opposite (get_or lits n 0) → Counts s lits old mid → Counts s (opposite lit ∷ []) mid new → Counts s lits old new
counts_next s lits n lit old mid new lt is h d = record {
  level = d.level ∙ h.level;
  found = d.found ∙ h.found;
  exact = λ cs k dv few l inside e. d.exact cs k dv few (h.level ∙ l) (λ x i t. inside x (elim i [ inl q ↦ subst (λ z. Has z lits) (sym (ap opposite is ∙ opposite_twice (get_or lits n 0)) ∙ q) (has_at lits n lt) | inr g ↦ absurd g ]) t)
      (h.exact cs k dv few l inside e);
}

-- passing an entry
same_counts : (s : State) (n k : ℕ) (b : Bool) (unmet : ℕ) (m : List Bool) (c d : List ℕ) → waiting s.level m (take k s.entries) ≡ waiting s.level m (take n s.entries) → at_level s.level s.entries d ≡ at_level s.level s.entries c
    → IsCountedBy s k b unmet m c → IsCountedBy s n b unmet m d
same_counts s n k false o m c d z q h = (h.0 ∙ z, h.1, q ∙ h.2)
same_counts s n k true o m c d z q h = (sym z ∙ h.0, q ∙ h.1)

-- an entry, its level and what is counted of it
record IsSpot (f : Formula) (s : State) (lit n : ℕ) (e : Entry) : Type 0 where
  pub place : IsPlace f.clauses (replicate (2 * s.variables) false) s.entries (reasons s) n e
  pub above : IsAbove 0 s.entries n e
  pub lit_is : e.lit ≡ lit
  pub level : level_of lit s.entries ≡ Some e.level
  pub split : (m : List Bool) → waiting s.level m (take (n + 1) s.entries) ≡ waiting s.level m (take n s.entries) + one (nat_eq e.level s.level && is_true m lit)

spot : (f : Formula) (s : State) (lit n : ℕ) → IsTrail f s → n < length s.entries → get_or (lits_of s.entries) n 0 ≡ lit → (e : Entry) × IsSpot f s lit n e
spot f s lit n t lt is =
    let p = place_of f s n t lt in
    let same : p.0.lit ≡ lit = sym p.1.lit ∙ is in (
      p.0,
      record {
        place = p.1;
        above = above 0 s.level s.entries n p.0 t.levels lt p.1.split;
        lit_is = same;
        level = subst (λ z. level_of z s.entries ≡ Some p.0.level) same (all_in (λ z. level_of z.lit s.entries ≡ Some z.level) s.entries p.0 (levels_are f.clauses (replicate (2 * s.variables) false) s.entries t.derived) p.1.among);
        split = λ m. ap (λ i. waiting s.level m (take i s.entries)) (add-one n) ∙ ap (waiting s.level m) p.1.split ∙ waiting_cat s.level m (take n s.entries) p.0 ∙ ap (λ z. waiting s.level m (take n s.entries) + one (nat_eq p.0.level s.level && is_true m z)) same;
      },
    )

pub count_skips : (f : Formula) (s : State) (lit : ℕ) (w : Way) → IsTrail f s → is_true w.marks.items lit ≡ false → PassesCounted s lit w w
count_skips f s lit w t off n lt is some few h =
    let p = spot f s lit n t lt is in
    let z : waiting s.level w.marks.items (take (n + 1) s.entries) ≡ waiting s.level w.marks.items (take n s.entries) = p.1.split w.marks.items ∙ rw (off, and_off (nat_eq p.0.level s.level)) (omega arith) in
    record { level = h.level; counted = same_counts s n (n + 1) w.found w.unmet w.marks.items w.clause w.clause z refl h.counted }

-- a literal that goes into the clause
pub count_adds : (f : Formula) (s : State) (lit : ℕ) (old mid new : Way) (result : Option ℕ) → IsTrail f s → is_true old.marks.items lit ≡ true → Chooses s lit old mid result → result ≡ None → mid.clause ≡ old.clause
    → new.level ≡ mid.level → new.found ≡ mid.found → new.unmet ≡ mid.unmet → new.marks ≡ mid.marks → new.clause ≡ mid.clause ++ opposite lit ∷ [] → PassesCounted s lit old new
count_adds f s lit old mid new result t on ch none mc nl nf np nm nc n lt is some few h = elim ch [
  | inl a ↦ far a.1 (other_eq p.0.level s.level (λ q. absurd (zero_level a.0 q)))
  | inr r ↦ elim r [
    | inl b ↦ far b.1 (sym level_is ∙ b.0)
    | inr c ↦ elim c.1 [
      | inl g ↦ behind g.0 (sym level_is ∙ c.0)
      | inr k ↦ elim k [ inl u ↦ point u (sym level_is ∙ c.0) | inr v ↦ decision v (sym level_is ∙ c.0) ]
    ]
  ]
]
  where
    p : (e : Entry) × IsSpot f s lit n e
    p = spot f s lit n t lt is

    Counted : Type 0
    Counted = IsCounted s n new

    level_is : is_level old.level (level_of lit s.entries) ≡ nat_eq p.0.level s.level
    level_is = rw (p.1.level, h.level) refl

    zero_level : level_of lit s.entries ≡ Some 0 → p.0.level ≡ s.level → ⊥
    zero_level z q = let e : Some p.0.level ≡ Some 0 = sym p.1.level ∙ z in let k : p.0.level ≡ 0 = cc in omega (arith, k, q, some)

    split : waiting s.level old.marks.items (take (n + 1) s.entries) ≡ waiting s.level old.marks.items (take n s.entries) + one (nat_eq p.0.level s.level)
    split = p.1.split old.marks.items ∙ rw (on, and_on (nat_eq p.0.level s.level)) refl

    added : at_level s.level s.entries new.clause ≡ at_level s.level s.entries old.clause + one (nat_eq p.0.level s.level)
    added = ap (at_level s.level s.entries) (nc ∙ ap (λ z. z ++ opposite lit ∷ []) mc) ∙ at_level_cat s.level s.entries old.clause (opposite lit) ∙ rw (opposite_twice lit, p.1.level) refl

    far : mid ≡ old → nat_eq p.0.level s.level ≡ false → Counted
    far m d =
        let w : waiting s.level old.marks.items (take (n + 1) s.entries) ≡ waiting s.level old.marks.items (take n s.entries) = split ∙ rw d (omega arith) in
        let a : at_level s.level s.entries new.clause ≡ at_level s.level s.entries old.clause = added ∙ rw d (omega arith) in
        record {
          level = nl ∙ ap (λ (z : Way). z.level) m ∙ h.level;
          counted = rw (nf ∙ ap (λ (z : Way). z.found) m, np ∙ ap (λ (z : Way). z.unmet) m, ap (λ z. z.items) (nm ∙ ap (λ (z : Way). z.marks) m)) (same_counts s n (n + 1) old.found old.unmet old.marks.items old.clause new.clause w a h.counted);
        }

    behind : old.found ≡ true → nat_eq p.0.level s.level ≡ true → Counted
    behind g d =
        let c : IsCountedBy s (n + 1) true old.unmet old.marks.items old.clause = rw g at h.counted in
        let w : waiting s.level old.marks.items (take (n + 1) s.entries) ≡ waiting s.level old.marks.items (take n s.entries) + 1 = split ∙ rw d refl in
        absurd (omega (arith, c.0, w))

    point : (old.found ≡ false) × (old.unmet ≤ 1) × (mid.found ≡ true) × (mid.marks ≡ old.marks) × (mid.level ≡ old.level) × (result ≡ None) → nat_eq p.0.level s.level ≡ true → Counted
    point u d =
        let c : IsCountedBy s (n + 1) false old.unmet old.marks.items old.clause = rw u.0 at h.counted in
        let w : waiting s.level old.marks.items (take (n + 1) s.entries) ≡ waiting s.level old.marks.items (take n s.entries) + 1 = split ∙ rw d refl in
        let a : at_level s.level s.entries new.clause ≡ at_level s.level s.entries old.clause + 1 = added ∙ rw d refl in
        let none_left : waiting s.level old.marks.items (take n s.entries) ≡ 0 = omega (arith, c.0, w, u.1) in
        let alone : at_level s.level s.entries new.clause ≡ 1 = omega (arith, a, c.2) in
        record { level = nl ∙ u.4 ∙ h.level; counted = rw (nf ∙ u.2, ap (λ z. z.items) (nm ∙ u.3)) (none_left, alone) }

    decision : (old.found ≡ false) × (1 < old.unmet) × (mid.found ≡ false) × (mid.unmet + 1 ≡ old.unmet) × (mid.marks ≡ old.marks) × (mid.level ≡ old.level) × (result ≡ reason_of lit s.entries) → nat_eq p.0.level s.level ≡ true → Counted
    decision v d =
        let c : IsCountedBy s (n + 1) false old.unmet old.marks.items old.clause = rw v.0 at h.counted in
        let w : waiting s.level old.marks.items (take (n + 1) s.entries) ≡ waiting s.level old.marks.items (take n s.entries) + 1 = split ∙ rw d refl in
        let why : p.0.reason ≡ None = sym p.1.place.reason ∙ ap (λ z. reason_of z s.entries) p.1.lit_is ∙ sym v.6 ∙ none in
        let up : p.0.level ≡ p.1.above.before + 1 = p.1.above.level ∙ ap (λ r. level_after r p.1.above.before) why in
        let at_ = same_eq p.0.level s.level d in
        let gone = waiting_low s.level p.1.above.before old.marks.items (take n s.entries) (omega (arith, up, at_)) p.1.above.low in
        absurd (omega (arith, c.0, w, gone, v.1))

pub adds_counted : {T E : Type 0} (r : Result T E) (f : Formula) (s : State) (lit : ℕ) (old mid new : Way) (result : Option ℕ) (item : ℕ) → IsTrail f s → is_true old.marks.items lit ≡ true → Chooses s lit old mid result → result ≡ None → mid.clause ≡ old.clause
    → new.level ≡ mid.level → new.found ≡ mid.found → new.unmet ≡ mid.unmet → new.marks ≡ mid.marks → item ≡ opposite lit → OnOk r (new.clause ≡ mid.clause ++ item ∷ []) → OnOk r (PassesCounted s lit old new)
adds_counted r f s lit old mid new result item t on ch none mc nl nf np nm i h = map_ok r (λ e. count_adds f s lit old mid new result t on ch none mc nl nf np nm (e ∙ ap (λ z. mid.clause ++ z ∷ []) i)) h

-- a literal whose reason is taken
pub count_takes : (f : Formula) (s : State) (lit number : ℕ) (old mid took new : Way) (result : Option ℕ) → IsTrail f s → is_true old.marks.items lit ≡ true → Chooses s lit old mid result → result ≡ Some number → mid.clause ≡ old.clause
    → reason_of lit s.entries ≡ Some number → took.level ≡ mid.level → took.found ≡ mid.found → took.unmet ≡ mid.unmet → took.marks ≡ mid.marks → took.clause ≡ mid.clause
    → NeedsClause (assignment s) (slice_get f.clauses number) took new → CountsClause s (slice_get f.clauses number) took new → PassesCounted s lit old new
count_takes f s lit number old mid took new result t on ch given mc asked tl tf to tm tc need count n lt is some few h = elim ch [
  | inl a ↦ low a.0 a.1
  | inr r ↦ elim r [
    | inl b ↦ absurd (some_none b.2)
    | inr c ↦ elim c.1 [
      | inl g ↦ absurd (some_none g.2)
      | inr k ↦ elim k [ inl u ↦ absurd (some_none u.5) | inr v ↦ level v (sym level_is ∙ c.0) ]
    ]
  ]
]
  where
    p : (e : Entry) × IsSpot f s lit n e
    p = spot f s lit n t lt is

    some_none : result ≡ None → ⊥
    some_none q = let e : Some number ≡ None = sym given ∙ q in cc

    why : p.0.reason ≡ Some number
    why = sym p.1.place.reason ∙ ap (λ z. reason_of z s.entries) p.1.lit_is ∙ asked

    reason : IsReason f.clauses (made_true (replicate (2 * s.variables) false) (take n s.entries)) p.0.lit number
    reason = subst (HasReason f.clauses (made_true (replicate (2 * s.variables) false) (take n s.entries)) p.0.lit) why p.1.place.next.reason

    needed : NeedsRest (assignment s) reason.clause [] took new
    needed = subst (λ o. NeedsClause (assignment s) o took new) reason.named need

    counted : Counts s reason.clause took new
    counted = subst (λ o. CountsClause s o took new) reason.named count

    level_is : is_level old.level (level_of lit s.entries) ≡ nat_eq p.0.level s.level
    level_is = rw (p.1.level, h.level) refl

    clause_is : new.clause ≡ old.clause
    clause_is = needed.same.clause ∙ tc ∙ mc

    split : waiting s.level old.marks.items (take (n + 1) s.entries) ≡ waiting s.level old.marks.items (take n s.entries) + one (nat_eq p.0.level s.level)
    split = p.1.split old.marks.items ∙ rw (on, and_on (nat_eq p.0.level s.level)) refl

    inside : (x : ℕ) → Has x reason.clause → is_true (assignment s) (opposite x) ≡ true → (e : Entry) × IsIn e (take n s.entries) × (e.lit ≡ opposite x)
    inside x i w =
        let other = all_has (λ z. (z ≡ p.0.lit) ⊎ (is_true (made_true (replicate (2 * s.variables) false) (take n s.entries)) (opposite z) ≡ true)) reason.clause x reason.unit.others i in
        elim other [
          | inl q ↦ absurd (t.proper.both p.0.lit p.1.place.there (subst (λ z. is_true (assignment s) (opposite z) ≡ true) q w))
          | inr front ↦ entry_of (replicate (2 * s.variables) false) (take n s.entries) (opposite x) (not_on _ (none_true (2 * s.variables) (opposite x))) front
        ]

    low : level_of lit s.entries ≡ Some 0 → mid ≡ old → IsCounted s n new
    low z m =
        let e : Some p.0.level ≡ Some 0 = sym p.1.level ∙ z in
        let k : p.0.level ≡ 0 = cc in
        let up = after_more p.0.reason p.1.above.before in
        let under : p.1.above.before < s.level = omega (arith, up, p.1.above.level, k, some) in
        let d : nat_eq p.0.level s.level ≡ false = other_eq p.0.level s.level (λ q. absurd (omega (arith, k, q, some))) in
        by old.found refl h.counted under (split ∙ rw (d, waiting_low s.level p.1.above.before old.marks.items (take n s.entries) under p.1.above.low) refl)
      where
        by : (b : Bool) → old.found ≡ b → IsCountedBy s (n + 1) b old.unmet old.marks.items old.clause → p.1.above.before < s.level → waiting s.level old.marks.items (take (n + 1) s.entries) ≡ 0 → IsCounted s n new
        by false g c under w = absurd (omega (arith, c.0, c.1, w))
        by true g c under w = record {
          level = counted.level ∙ tl ∙ ap (λ (z : Way). z.level) m ∙ h.level;
          counted = rw (counted.found ∙ tf ∙ ap (λ (z : Way). z.found) m ∙ g, clause_is) (waiting_low s.level p.1.above.before new.marks.items (take n s.entries) under p.1.above.low, c.1);
        }

    level : (old.found ≡ false) × (1 < old.unmet) × (mid.found ≡ false) × (mid.unmet + 1 ≡ old.unmet) × (mid.marks ≡ old.marks) × (mid.level ≡ old.level) × (result ≡ reason_of lit s.entries) → nat_eq p.0.level s.level ≡ true → IsCounted s n new
    level v d =
        let c : IsCountedBy s (n + 1) false old.unmet old.marks.items old.clause = rw v.0 at h.counted in
        let w : waiting s.level old.marks.items (take (n + 1) s.entries) ≡ waiting s.level old.marks.items (take n s.entries) + 1 = split ∙ rw d refl in
        let marks : took.marks.items ≡ old.marks.items = ap (λ z. z.items) (tm ∙ v.4) in
        let was : took.unmet ≡ waiting s.level took.marks.items (take n s.entries) = rw marks (omega (arith, to, v.3, c.0, w)) in
        let now = counted.exact f.clauses n t.derived few (tl ∙ v.5 ∙ h.level) inside was in
        let more = waiting_more s.level took.marks.items new.marks.items (take n s.entries) needed.more in
        let left : 0 < new.unmet = omega (arith, now, more, was, to, v.3, v.1) in
        record { level = counted.level ∙ tl ∙ v.5 ∙ h.level; counted = rw (counted.found ∙ tf ∙ v.2, clause_is) (now, left, c.2) }

-- nothing was met yet
pub count_starts : (f : Formula) (s : State) (k n : ℕ) (old new : Way) → IsTrail f s → old.level ≡ s.level → old.found ≡ false → old.unmet ≡ 0 → old.marks.items ≡ replicate (2 * s.variables) false → old.clause ≡ []
    → IsFalseAt f.clauses (assignment s) k → (0 < s.level → IsLateAt f.clauses s k)
    → NeedsClause (assignment s) (slice_get f.clauses k) old new → CountsClause s (slice_get f.clauses k) old new → n ≡ length s.entries → 0 < s.level → length s.entries < 2 ^ 60 → IsCounted s n new
count_starts f s k n old new t ol of oo om oc e late need count is some few =
    let needed : NeedsRest (assignment s) e.clause [] old new = subst (λ o. NeedsClause (assignment s) o old new) e.named need in
    let counted : Counts s e.clause old new = subst (λ o. CountsClause s o old new) e.named count in
    let l = late some e.clause e.named in
    let whole : take n s.entries ≡ s.entries = rw is (take-length s.entries) in
    let none : old.unmet ≡ waiting s.level old.marks.items (take n s.entries) = oo ∙ sym (rw om (waiting_none s.level (2 * s.variables) (take n s.entries))) in
    let inside : (x : ℕ) → Has x e.clause → is_true (assignment s) (opposite x) ≡ true → (d : Entry) × IsIn d (take n s.entries) × (d.lit ≡ opposite x) =
    λ x i w. rw whole (entry_of (replicate (2 * s.variables) false) s.entries (opposite x) (not_on _ (none_true (2 * s.variables) (opposite x))) w) in
    let now = counted.exact f.clauses n t.derived few ol inside none in
    let twice : opposite (opposite l.entry.lit) ≡ l.entry.lit = opposite_twice l.entry.lit in
    let there : is_true (assignment s) l.entry.lit ≡ true = in_true f.clauses (replicate (2 * s.variables) false) s.entries l.entry t.derived l.among in
    let marked : is_true new.marks.items l.entry.lit ≡ true = elim (needed.marked (opposite l.entry.lit) l.has (rw twice there)) [ inl a ↦ rw twice at a | inr r ↦ absurd r ] in
    let left = waiting_some s.level new.marks.items (take n s.entries) l.entry (rw whole l.among) l.level marked in
    record {
      level = counted.level ∙ ol;
      counted = rw (counted.found ∙ of, needed.same.clause ∙ oc) (now, omega (arith, now, left), refl);
    }

-- all was met
pub count_ends : (s : State) (w : Way) → IsCounted s 0 w → at_level s.level s.entries w.clause ≡ 1
count_ends s w h = by w.found h.counted
  where
    by : (b : Bool) → IsCountedBy s 0 b w.unmet w.marks.items w.clause → at_level s.level s.entries w.clause ≡ 1
    by false c = absurd (omega (arith, c.0, c.1))
    by true c = c.1
