-- The levels of the entries.
-- There are at most as many levels as entries (`levels-most`), so `decide` has no condition on them.
use Rattle.std.proofs.Common.{◌≡◌, ℕ, ◌+◌, ◌≤◌, ◌<◌, Bool, true, false, List, [], ◌∷◌, ◌++◌, length, refl, sym, ap, ◌∙◌, cond, nat_le, Option, Some, None, arith}
use Rattle.std.proofs.lemmas.Grind.{common_steps}
use Rattle.gv_trail.specs.Entries.{Entry, front_to, AreLevels, level_after}

pub levels-append : (l last : ℕ) (es : List Entry) (e : Entry) → AreLevels l es last → e.level ≡ level_after e.reason last → AreLevels l (es ++ e ∷ []) e.level
levels-append l last [] e a q = let same : e.level ≡ level_after e.reason l = q ∙ ap (level_after e.reason) (sym a) in (same, sym same)
levels-append l last (x ∷ xs) e a q = (a.0, levels-append (level_after x.reason l) last xs e a.1 q)

pub levels-less : (l last : ℕ) (es : List Entry) (e : Entry) → AreLevels l (es ++ e ∷ []) last → (m : ℕ) × AreLevels l es m
levels-less l last [] e a = (l, refl)
levels-less l last (x ∷ xs) e a = let h = levels-less (level_after x.reason l) last xs e a.1 in (h.0, (a.0, h.1))

pub levels-last : (l last : ℕ) (es : List Entry) (e : Entry) → AreLevels l (es ++ e ∷ []) last → last ≡ e.level
levels-last l last [] e a = sym a.1 ∙ sym a.0
levels-last l last (x ∷ xs) e a = levels-last (level_after x.reason l) last xs e a.1

after_le : (r : Option ℕ) (l : ℕ) → l ≤ level_after r l
after_le None l = omega arith
after_le (Some k) l = omega arith

after_most : (r : Option ℕ) (l : ℕ) → level_after r l ≤ l + 1
after_most None l = omega arith
after_most (Some k) l = omega arith

pub levels-least : (l last : ℕ) (es : List Entry) → AreLevels l es last → l ≤ last
levels-least l last [] a = omega (arith, a)
levels-least l last (x ∷ xs) a = let h = levels-least (level_after x.reason l) last xs a.1 in omega (arith, h, after_le x.reason l)

pub levels-most : (l last : ℕ) (es : List Entry) → AreLevels l es last → last ≤ l + length es
levels-most l last [] a = omega (arith, a)
levels-most l last (x ∷ xs) a = let h = levels-most (level_after x.reason l) last xs a.1 in omega (arith, h, after_most x.reason l)

is_le : (x y : ℕ) → x ≤ y → nat_le x y ≡ true
is_le x y le = grind (arith, common_steps)

is_more : (x y : ℕ) → y < x → nat_le x y ≡ false
is_more x y lt = grind (arith, common_steps)

le_is : (x y : ℕ) → nat_le x y ≡ true → x ≤ y
le_is x y s = grind (arith, common_steps)

-- entries up to the last level
pub front-all : (l last to : ℕ) (es : List Entry) → AreLevels l es last → last ≤ to → front_to to es ≡ es
front-all l last to [] a le = refl
front-all l last to (e ∷ es) a le =
    let least = levels-least (level_after e.reason l) last es a.1 in
    rw (is_le e.level to (omega (arith, least, le, a.0))) (ap (λ t. e ∷ t) (front-all (level_after e.reason l) last to es a.1 le))

-- an entry of a higher level at the end
pub front-less : (to : ℕ) (es : List Entry) (e : Entry) → to < e.level → front_to to (es ++ e ∷ []) ≡ front_to to es
front-less to [] e lt = rw (is_more e.level to lt) refl
front-less to (x ∷ xs) e lt = by (nat_le x.level to) (front-less to xs e lt)
  where
    by : (v : Bool) → front_to to (xs ++ e ∷ []) ≡ front_to to xs → cond v (x ∷ front_to to (xs ++ e ∷ [])) [] ≡ cond v (x ∷ front_to to xs) []
    by true more = ap (λ t. x ∷ t) more
    by false more = refl

-- the entries up to a level end at that level
pub levels-front : (l last to : ℕ) (es : List Entry) → AreLevels l es last → l ≤ to → to ≤ last → AreLevels l (front_to to es) to
levels-front l last to [] a low high = omega (arith, a, low, high)
levels-front l last to (e ∷ es) a low high = by (nat_le e.level to) refl
    (λ h. levels-front (level_after e.reason l) last to es a.1 h high)
  where
    more : nat_le e.level to ≡ true → level_after e.reason l ≤ to
    more s = rw (sym a.0) (le_is e.level to s)

    less : (r : Option ℕ) → e.level ≡ level_after r l → nat_le e.level to ≡ false → l ≡ to
    less None q s = top l e.level to q s low
      where
        top : (x y z : ℕ) → y ≡ x + 1 → nat_le y z ≡ false → x ≤ z → x ≡ z
        top x y z q s le = grind (arith, common_steps)
    less (Some k) q s = absurd (no_ l e.level to q s low)
      where
        no_ : (x y z : ℕ) → y ≡ x → nat_le y z ≡ false → x ≤ z → ⊥
        no_ x y z q s le = grind (arith, common_steps)

    by : (v : Bool) → nat_le e.level to ≡ v → (level_after e.reason l ≤ to → AreLevels (level_after e.reason l) (front_to to es) to) → AreLevels l (cond v (e ∷ front_to to es) []) to
    by true s go = (a.0, go (more s))
    by false s go = less e.reason a.0 s
