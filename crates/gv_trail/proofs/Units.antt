-- What a look at a clause tells, and what the unit of a clause is.
use Rattle.std.proofs.Common.{◌≡◌, ◌⊎◌, inl, inr, ℕ, zero, suc, ◌<◌, Bool, true, false, cond, not, ◌&&◌, nat_eq, Option, Some, None, List, [], ◌∷◌, refl, sym, ◌∙◌, arith}
use Rattle.std.specs.Prelude.{slice_get, slice_set}
use Rattle.std.specs.List.{AllByRecursion}
use Rattle.std.proofs.lemmas.Grind.{common_steps}
use Rattle.gv_logic.specs.Literals.{opposite}
use Rattle.gv_logic.specs.Formulas.{InRange}
use Rattle.gv_logic.specs.Partial as partial
use Rattle.gv_logic.specs.Partial.{is_true, all_false, unit_after, is_other, AllQuiet, Has, IsUnit, IsProper}
use Rattle.gv_trail.specs.declared.look.Look.TheVariants.{Quiet, AllFalse, OneLeft}
use Rattle.gv_trail.specs.Entries.{Entry, made_true}
use Rattle.gv_trail.specs.Marks.{AreFresh}
use Rattle.gv_trail.specs.Look.{look_after}
use Rattle.gv_logic.specs.Opposites.{proper_set}

is_off : (on : List Bool) (l : ℕ) → IsProper on → is_true on l ≡ true → is_true on (opposite l) ≡ false
is_off on l p o = by (is_true on (opposite l)) refl
  where
    by : (b : Bool) → is_true on (opposite l) ≡ b → is_true on (opposite l) ≡ false
    by true t = absurd (p.both l o t)
    by false t = t

look_some : (on : List Bool) (f : ℕ) (lits : List ℕ) → look_after on (Some f) lits ≡ Quiet → unit_after on (Some f) lits ≡ None
look_some on f [] e = cc
look_some on f (x ∷ xs) e = by (is_true on x) (is_true on (opposite x)) (is_other (Some f) x) e (look_some on f xs) (look_some on x xs)
  where
    by : (u v w : Bool) → cond u Quiet (cond v (look_after on (Some f) xs) (cond w Quiet (look_after on (Some x) xs))) ≡ Quiet
        → (look_after on (Some f) xs ≡ Quiet → unit_after on (Some f) xs ≡ None) → (look_after on (Some x) xs ≡ Quiet → unit_after on (Some x) xs ≡ None)
        → cond u None (cond v (unit_after on (Some f) xs) (cond w None (unit_after on (Some x) xs))) ≡ None
    by true v w e g h = refl
    by false true w e g h = g e
    by false false true e g h = refl
    by false false false e g h = h e

-- a clause that is left alone is neither false nor unit
pub look_quiet : (on : List Bool) (lits : List ℕ) → IsProper on → look_after on None lits ≡ Quiet → partial.Quiet on lits
look_quiet on [] p e = cc
look_quiet on (x ∷ xs) p e = by (is_true on x) (is_true on (opposite x)) (is_off on x p) e (look_quiet on xs p) (look_some on x xs)
  where
    by : (u v : Bool) → (u ≡ true → v ≡ false) → cond u Quiet (cond v (look_after on None xs) (look_after on (Some x) xs)) ≡ Quiet
        → (look_after on None xs ≡ Quiet → partial.Quiet on xs) → (look_after on (Some x) xs ≡ Quiet → unit_after on (Some x) xs ≡ None)
        → ((v && all_false on xs) ≡ false) × (cond u None (cond v (unit_after on None xs) (unit_after on (Some x) xs)) ≡ None)
    by true true f e g h = let no = f refl in cc
    by true false f e g h = (refl, refl)
    by false true f e g h = g e
    by false false f e g h = (refl, h e)

look_some_false : (on : List Bool) (f : ℕ) (lits : List ℕ) → look_after on (Some f) lits ≡ AllFalse → ⊥
look_some_false on f [] e = cc
look_some_false on f (x ∷ xs) e = by (is_true on x) (is_true on (opposite x)) (is_other (Some f) x) e (look_some_false on f xs) (look_some_false on x xs)
  where
    by : (u v w : Bool) → cond u Quiet (cond v (look_after on (Some f) xs) (cond w Quiet (look_after on (Some x) xs))) ≡ AllFalse
        → (look_after on (Some f) xs ≡ AllFalse → ⊥) → (look_after on (Some x) xs ≡ AllFalse → ⊥) → ⊥
    by true v w e g h = cc
    by false true w e g h = g e
    by false false true e g h = cc
    by false false false e g h = h e

pub look_false : (on : List Bool) (lits : List ℕ) → look_after on None lits ≡ AllFalse → all_false on lits ≡ true
look_false on [] e = refl
look_false on (x ∷ xs) e = by (is_true on x) (is_true on (opposite x)) e (look_false on xs) (look_some_false on x xs)
  where
    by : (u v : Bool) → cond u Quiet (cond v (look_after on None xs) (look_after on (Some x) xs)) ≡ AllFalse
        → (look_after on None xs ≡ AllFalse → all_false on xs ≡ true) → (look_after on (Some x) xs ≡ AllFalse → ⊥) → (v && all_false on xs) ≡ true
    by true v e g h = cc
    by false true e g h = g e
    by false false e g h = absurd (h e)

look_unit : (on : List Bool) (left : Option ℕ) (lits : List ℕ) (l : ℕ) → look_after on left lits ≡ OneLeft l → unit_after on left lits ≡ Some l
look_unit on None [] l e = cc
look_unit on (Some f) [] l e = cc
look_unit on left (x ∷ xs) l e = by (is_true on x) (is_true on (opposite x)) (is_other left x) e (look_unit on left xs l) (look_unit on (Some x) xs l)
  where
    by : (u v w : Bool) → cond u Quiet (cond v (look_after on left xs) (cond w Quiet (look_after on (Some x) xs))) ≡ OneLeft l
        → (look_after on left xs ≡ OneLeft l → unit_after on left xs ≡ Some l) → (look_after on (Some x) xs ≡ OneLeft l → unit_after on (Some x) xs ≡ Some l)
        → cond u None (cond v (unit_after on left xs) (cond w None (unit_after on (Some x) xs))) ≡ Some l
    by true v w e g h = cc
    by false true w e g h = g e
    by false false true e g h = cc
    by false false false e g h = h e

some_from : (b : Bool) (z : Option ℕ) (l : ℕ) → cond b None z ≡ Some l → (b ≡ false) × (z ≡ Some l)
some_from true z l e = cc
some_from false z l e = (refl, e)

chosen : (b : Bool) (u v z : Option ℕ) → cond b u v ≡ z → ((b ≡ true) × (u ≡ z)) ⊎ ((b ≡ false) × (v ≡ z))
chosen true u v z e = inl (refl, e)
chosen false u v z e = inr (refl, e)

same_number : (f x : ℕ) → not (nat_eq f x) ≡ false → x ≡ f
same_number f x e = grind (arith, common_steps)

with_found : (on : List Bool) (lits : List ℕ) (f l : ℕ) → unit_after on (Some f) lits ≡ Some l → (l ≡ f) × AllByRecursion (λ x. (x ≡ l) ⊎ (is_true on (opposite x) ≡ true)) lits
with_found on [] f l e = (cc, tt)
with_found on (x ∷ xs) f l e =
    let a = some_from (is_true on x) _ l e in
    elim (chosen (is_true on (opposite x)) _ _ _ a.1) [
      | inl p ↦ let r = with_found on xs f l p.1 in (r.0, (inr p.0, r.1))
      | inr p ↦
          let q = some_from (is_other (Some f) x) _ l p.1 in
          let r = with_found on xs x l q.1 in
          (r.0 ∙ same_number f x q.0, (inl (sym r.0), r.1))
    ]

unit_is : (on : List Bool) (lits : List ℕ) (l : ℕ) → unit_after on None lits ≡ Some l → IsUnit on lits l
unit_is on [] l e = cc
unit_is on (x ∷ xs) l e =
    let a = some_from (is_true on x) _ l e in
    elim (chosen (is_true on (opposite x)) _ _ _ a.1) [
      | inl p ↦ let r = unit_is on xs l p.1 in record { has = inr r.has; free = r.free; others = (inr p.0, r.others) }
      | inr p ↦
          let r = with_found on xs x l p.1 in
          record { has = inl (sym r.0); free = rw r.0 (a.0, p.0); others = (inl (sym r.0), r.1) }
    ]

pub look_left : (on : List Bool) (lits : List ℕ) (l : ℕ) → look_after on None lits ≡ OneLeft l → IsUnit on lits l
look_left on lits l e = unit_is on lits l (look_unit on None lits l e)

has_below : (n : ℕ) (lits : List ℕ) (l : ℕ) → AllByRecursion (λ x. x < n) lits → Has l lits → l < n
has_below n [] l a h = absurd h
has_below n (x ∷ xs) l a h = elim h [ inl e ↦ rw e at a.0 | inr r ↦ has_below n xs l a.1 r ]

-- a literal of a clause is in range
pub named_below : (n : ℕ) (cs : List (List ℕ)) (k : ℕ) (lits : List ℕ) (l : ℕ) → InRange n cs → slice_get cs k ≡ Some lits → Has l lits → l < n
named_below n [] k lits l a e h = cc
named_below n (c ∷ cs) zero lits l a e h = let same : c ≡ lits = cc in has_below n lits l (rw same at a.0) h
named_below n (c ∷ cs) (suc k) lits l a e h = named_below n cs k lits l a.1 e h

pub fresh_proper : (on : List Bool) (es : List Entry) → IsProper on → AreFresh on es → IsProper (made_true on es)
fresh_proper on [] p f = p
fresh_proper on (e ∷ es) p f = fresh_proper (slice_set on e.lit true) es (proper_set on e.lit p f.2) f.3
