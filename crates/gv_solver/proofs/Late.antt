-- A clause that is false became so at the present level.
-- That comes from the way down, where no clause was false before what was assigned at that level (`Began` in
-- `specs/Search`, `late_of`).
use Rattle.std.proofs.Common.{◌≡◌, inl, inr, ℕ, zero, suc, ◌+◌, ◌*◌, ◌<◌, Bool, true, false, ◌&&◌, Some, None, List, [], ◌∷◌, ◌++◌, refl, sym, ap, subst, ◌∙◌, append_assoc}
use Rattle.std.specs.Prelude.{slice_get, slice_set, replicate}
use Rattle.gv_logic.specs.Formulas.{Formula}
use Rattle.gv_logic.specs.Literals.{opposite}
use Rattle.gv_logic.specs.Partial.{is_true, all_false, AllQuiet, Has}
use Rattle.gv_solver.specs.Puts.{Settles}
use Rattle.gv_solver.specs.Search.{NoneFalse, Began, TellsBegan, IsLateAt}
use Rattle.gv_trail.specs.declared.propagation.Propagation.{Propagation}
use Rattle.gv_trail.specs.declared.propagation.Propagation.TheVariants.{Fixed, Conflict}
use Rattle.gv_trail.specs.Entries.{Entry, State, assignment, made_true}
use Rattle.gv_trail.specs.Propagation.{AreForced, IsFalseAt}
use Rattle.gv_trail.specs.Watches.{IsIn}
use Rattle.gv_logic.specs.Opposites.{opposite_twice}
use Rattle.gv_solver.proofs.Counts.{entry_of}
use Rattle.gv_solver.proofs.Grow.{made_cat}

quiet_at : (on : List Bool) (cs : List (List ℕ)) (k : ℕ) (c : List ℕ) → AllQuiet on cs → slice_get cs k ≡ Some c → all_false on c ≡ false
quiet_at on [] k c q e = cc
quiet_at on (x ∷ xs) zero c q e = let s : x ≡ c = cc in rw (← s) q.0.0
quiet_at on (x ∷ xs) (suc k) c q e = quiet_at on xs k c q.1 e

some_same : (a b : List ℕ) → Some a ≡ Some b → a ≡ b
some_same a b q = cc

-- a literal that wasn't false is
newly : (a b : List Bool) (c : List ℕ) → all_false a c ≡ false → all_false b c ≡ true → (x : ℕ) × Has x c × (is_true a (opposite x) ≡ false) × (is_true b (opposite x) ≡ true)
newly a b [] f t = cc
newly a b (x ∷ xs) f t = by (is_true a (opposite x)) refl (is_true b (opposite x)) refl f t (newly a b xs)
  where
    by : (u : Bool) → is_true a (opposite x) ≡ u → (v : Bool) → is_true b (opposite x) ≡ v → (u && all_false a xs) ≡ false → (v && all_false b xs) ≡ true
        → (all_false a xs ≡ false → all_false b xs ≡ true → (y : ℕ) × Has y xs × (is_true a (opposite y) ≡ false) × (is_true b (opposite y) ≡ true))
        → (y : ℕ) × Has y (x ∷ xs) × (is_true a (opposite y) ≡ false) × (is_true b (opposite y) ≡ true)
    by false p true q f t go = (x, inl refl, p, q)
    by u p false q f t go = cc
    by true p true q f t go = let r = go f t in (r.0, inr r.1, r.2, r.3)

in_right : (es fs : List Entry) (e : Entry) → IsIn e fs → IsIn e (es ++ fs)
in_right [] fs e i = i
in_right (x ∷ xs) fs e i = inr (in_right xs fs e i)

forced_level : (cs : List (List ℕ)) (level : ℕ) (on : List Bool) (fs : List Entry) (e : Entry) → AreForced cs level on fs → IsIn e fs → e.level ≡ level
forced_level cs level on [] e f i = absurd i
forced_level cs level on (x ∷ xs) e f i = elim i [ inl q ↦ subst (λ (z : Entry). z.level ≡ level) q f.0.level_is | inr g ↦ forced_level cs level (slice_set on x.lit true) xs e f.1 g ]

pub quiet_none : (on : List Bool) (cs : List (List ℕ)) → AllQuiet on cs → NoneFalse cs on
quiet_none on cs q k c named = quiet_at on cs k c q named

-- all that a propagation assigns stands at the present level
pub began_settled : (f : Formula) (old new : State) (said : Propagation) → (0 < old.level → NoneFalse f.clauses (assignment old)) → Settles f old new said → TellsBegan f.clauses new said
began_settled f old new Fixed open_ h = tt
began_settled f old new (Conflict k) open_ h = λ some. record {
  before = old.entries;
  more = h.added.0;
  entries = h.added.1;
  here = λ d i. forced_level f.clauses old.level (assignment old) h.added.0 d h.added.2 i ∙ sym h.level;
  open_ = rw h.variables (open_ (rw h.level at some));
}

-- so do a decision and what is assigned behind it
pub began_decided : (f : Formula) (old mid new : State) (said : Propagation) (lit : ℕ) → AllQuiet (assignment old) f.clauses → mid.variables ≡ old.variables
    → mid.entries ≡ old.entries ++ (record { lit = lit; reason = None; level = old.level + 1 }) ∷ [] → mid.level ≡ old.level + 1 → Settles f mid new said → TellsBegan f.clauses new said
began_decided f old mid new Fixed lit q v e l h = tt
began_decided f old mid new (Conflict k) lit q v e l h = λ some. record {
  before = old.entries;
  more = one ∷ h.added.0;
  entries = h.added.1 ∙ ap (λ es. es ++ h.added.0) e ∙ append_assoc old.entries (one ∷ []) h.added.0;
  here = λ d i. elim i [
    | inl s ↦ subst (λ (z : Entry). z.level ≡ new.level) s (sym (h.level ∙ l))
    | inr g ↦ forced_level f.clauses mid.level (assignment mid) h.added.0 d h.added.2 g ∙ sym h.level
  ];
  open_ = rw (h.variables, v) (quiet_none (assignment old) f.clauses q);
}
  where
    one : Entry
    one = record { lit = lit; reason = None; level = old.level + 1 }

-- so the clause has a literal that is false by an entry of that level
pub late_of : (cs : List (List ℕ)) (s : State) (k : ℕ) → Began cs s → IsFalseAt cs (assignment s) k → IsLateAt cs s k
late_of cs s k b t c named =
    let none = replicate (2 * s.variables) false in
    let same : t.clause ≡ c = some_same t.clause c (sym t.named ∙ named) in
    let grown : assignment s ≡ made_true (made_true (replicate (2 * s.variables) false) b.before) b.more = rw b.entries (made_cat (replicate (2 * s.variables) false) b.before b.more) in
    let x = newly (made_true none b.before) (assignment s) c (b.open_ k c named) (subst (λ z. all_false (assignment s) z ≡ true) same t.false_) in
    let there : is_true (made_true (made_true (replicate (2 * s.variables) false) b.before) b.more) (opposite x.0) ≡ true = subst (λ z. is_true z (opposite x.0) ≡ true) grown x.3 in
    let d = entry_of (made_true none b.before) b.more (opposite x.0) x.2 there in
    record {
      entry = d.0;
      among = subst (IsIn d.0) (sym b.entries) (in_right b.before b.more d.0 d.1);
      level = b.here d.0 d.1;
      has = subst (λ z. Has z c) (sym (ap opposite d.2 ∙ opposite_twice x.0)) x.1;
    }
