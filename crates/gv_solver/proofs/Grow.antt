-- A trail that grows, and one that is taken back.
use Rattle.std.proofs.Common.{◌≡◌, inl, inr, ℕ, ◌+◌, ◌*◌, ◌<◌, Bool, true, false, cond, nat_le, drop, drop-cons, add-one, Option, Some, None, List, [], ◌∷◌, ◌++◌, length, get_or, refl, sym, ◌∙◌, arith}
use Rattle.std.specs.Prelude.{slice_set, replicate}
use Rattle.std.proofs.Math.ListN.{length-set}
use Rattle.std.proofs.lemmas.List.{length-replicate}
use Rattle.std.proofs.lemmas.Grind.{common_steps}
use Rattle.gv_logic.specs.Formulas.{Formula}
use Rattle.gv_logic.specs.Kept.{IsWithin, AllOff, IsOpen}
use Rattle.gv_logic.specs.Partial.{is_true, Has, AllQuiet}
use Rattle.gv_trail.specs.declared.propagation.Propagation.{Propagation}
use Rattle.gv_trail.specs.Entries.{Entry, State, assignment, made_true, front_to, AreLevels, level_after}
use Rattle.gv_trail.specs.Derived.{IsTrail}
use Rattle.gv_trail.specs.Propagation.{Tells, AreForced, Propagates}
use Rattle.gv_solver.specs.Marks.{Below}
use Rattle.gv_solver.specs.Clash.{AreAmong}
use Rattle.gv_solver.specs.Puts.{Grows, Settles, Rewinds}
use Rattle.gv_logic.specs.Opposites.{set_here}
use Rattle.gv_solver.proofs.Core.{below_refl, below_trans, below_set}
use Rattle.gv_solver.proofs.Derive.{below_made}

pub made_cat : (on : List Bool) (es fs : List Entry) → made_true on (es ++ fs) ≡ made_true (made_true on es) fs
made_cat on [] fs = refl
made_cat on (x ∷ xs) fs = made_cat (slice_set on x.lit true) xs fs

length-made : (on : List Bool) (es : List Entry) → length (made_true on es) ≡ length on
length-made on [] = refl
length-made on (e ∷ es) = length-made (slice_set on e.lit true) es ∙ length-set on e.lit true

pub long : (s : State) → length (assignment s) ≡ 2 * s.variables
long s = length-made (replicate (2 * s.variables) false) s.entries ∙ length-replicate (2 * s.variables) false

pub made_of : (s t : State) (es : List Entry) → t.variables ≡ s.variables → t.entries ≡ s.entries ++ es → assignment t ≡ made_true (assignment s) es
made_of s t es v e = rw (v, e) (made_cat (replicate (2 * s.variables) false) s.entries es)

among_append : (set : List ℕ) (es : List Entry) (e : Entry) → AreAmong set es → (e.reason ≡ None → (i : ℕ) × Has i set × (e.lit ≡ 2 * i + 1)) → AreAmong set (es ++ e ∷ [])
among_append set [] e a n = (n, tt)
among_append set (x ∷ xs) e a n = (a.0, among_append set xs e a.1 n)

-- one more decision
pub puts_one : (old new : State) (i : ℕ) → 2 * i + 1 < 2 * old.variables → new.variables ≡ old.variables
    → new.entries ≡ old.entries ++ (record { lit = 2 * i + 1; reason = None; level = old.level + 1 }) ∷ [] → ((f : Formula) → IsTrail f old → IsTrail f new)
    → Grows (i ∷ []) old new × (is_true (assignment new) (2 * i + 1) ≡ true)
puts_one old new i lt v e over =
    let one : Entry = record { lit = 2 * i + 1; reason = None; level = old.level + 1 } in
    let same : assignment new ≡ slice_set (assignment old) (2 * i + 1) true = made_of old new (one ∷ []) v e in (
      record {
        variables = v;
        more = rw same (below_set (assignment old) (2 * i + 1));
        over = over;
        among = λ whole w a. rw e (among_append whole old.entries one a (λ r. (i, w.0, refl)));
      },
      rw same (set_here (assignment old) (2 * i + 1) (omega (arith, long old, lt))),
    )

pub grows_none : (i : ℕ) (s : State) → Grows (i ∷ []) s s
grows_none i s = record { variables = refl; more = below_refl (assignment s); over = λ f t. t; among = λ whole w a. a }

among_forced : (cs : List (List ℕ)) (set : List ℕ) (level : ℕ) (on : List Bool) (fs : List Entry) → AreForced cs level on fs → AreAmong set fs
among_forced cs set level on [] h = tt
among_forced cs set level on (e ∷ es) h = (λ r. absurd (no_ h.0.number (sym h.0.reason_is ∙ r)), among_forced cs set level (slice_set on e.lit true) es h.1)
  where
    no_ : (k : ℕ) → Some k ≡ None → ⊥
    no_ k q = cc

among_both : (set : List ℕ) (es fs : List Entry) → AreAmong set es → AreAmong set fs → AreAmong set (es ++ fs)
among_both set [] fs a b = b
among_both set (e ∷ es) fs a b = (a.0, among_both set es fs a.1 b)

pub settled : (f : Formula) (old new : State) (said : Propagation) → IsTrail f new → Propagates f.clauses old new → Tells f.clauses new said → Settles f old new said
settled f old new said over p t = record {
  variables = p.variables;
  level = p.level;
  more = rw (made_of old new p.added p.variables p.entries) (below_made (assignment old) p.added);
  over = over;
  among = λ set a. rw p.entries (among_both set old.entries p.added a (among_forced f.clauses set old.level (assignment old) p.added p.forced));
  added = (p.added, p.entries, p.forced);
  told = t;
}

not_low : (level l : ℕ) → level ≡ l + 1 → nat_le level 0 ≡ true → ⊥
not_low level l e s = grind (arith, common_steps)

-- no decision stands at level 0
front_zero : (l last : ℕ) (set : List ℕ) (es : List Entry) → AreLevels l es last → AreAmong set (front_to 0 es)
front_zero l last set [] a = tt
front_zero l last set (e ∷ es) a = by (nat_le e.level 0) refl (front_zero (level_after e.reason l) last set es a.1)
  where
    none : (r : Option ℕ) → e.level ≡ level_after r l → nat_le e.level 0 ≡ true → r ≡ None → ⊥
    none None h z q = not_low e.level l h z
    none (Some k) h z q = cc

    by : (v : Bool) → nat_le e.level 0 ≡ v → AreAmong set (front_to 0 es) → AreAmong set (cond v (e ∷ front_to 0 es) [])
    by true z more = (λ q. absurd (none e.reason a.0 z q), more)
    by false z more = tt

pub rewound : (f : Formula) (old new : State) → IsTrail f old → IsTrail f new → new.variables ≡ old.variables → new.entries ≡ front_to 0 old.entries → new.level ≡ 0 → Rewinds f old new
rewound f old new before over v e l = record { variables = v; level = l; over = over; among = λ set. rw e (front_zero 0 old.level set old.entries before.levels) }

pub rest_at : (set : List ℕ) (k : ℕ) → k < length set → drop k set ≡ get_or set k 0 ∷ drop (k + 1) set
rest_at set k lt = rw add-one (drop-cons set k 0 lt)

pub within_has : (set whole : List ℕ) (m : ℕ) → IsWithin set whole → Has m set → Has m whole
within_has [] whole m w h = absurd h
within_has (x ∷ xs) whole m w h = elim h [ inl s ↦ rw (← s) w.0 | inr g ↦ within_has xs whole m w.1 g ]

pub grows_more : (set : List ℕ) (m : ℕ) (first mid new : State) → Grows set first mid → Has m set → Grows (m ∷ []) mid new → Grows set first new
grows_more set m first mid new g h n = record {
  variables = n.variables ∙ g.variables;
  more = below_trans (assignment first) (assignment mid) (assignment new) g.more n.more;
  over = λ f t. n.over f (g.over f t);
  among = λ whole w a. n.among whole (within_has set whole m w h, tt) (g.among whole w a);
}

pub within_all : (xs ys : List ℕ) → ((m : ℕ) → Has m xs → Has m ys) → IsWithin xs ys
within_all [] ys f = tt
within_all (x ∷ xs) ys f = (f x (inl refl), within_all xs ys (λ m h. f m (inr h)))

pub within_self : (xs : List ℕ) → IsWithin xs xs
within_self xs = within_all xs xs (λ m h. h)

pub all_off_more : (a b : List Bool) (set : List ℕ) → Below a b → AllOff a set → AllOff b set
all_off_more a b [] f h = tt
all_off_more a b (i ∷ is) f h = (f.at (2 * i + 1) h.0, all_off_more a b is f h.1)

pub open_at : (f : Formula) (set : List ℕ) (s : State) → IsTrail f s → AllOff (assignment s) set → AllQuiet (assignment s) f.clauses → IsOpen set f.clauses
open_at f set s t o q = record { on = assignment s; proper = t.proper; off = o; quiet = q }
