-- Entries kept as literals and causes by variable.
use Rattle.std.proofs.Common.{◌≡◌, ◌⊎◌, inl, inr, ℕ, ◌+◌, ◌/◌, ◌<◌, Bool, true, false, cond, nat_eq, Some, None, List, [], ◌∷◌, ◌++◌, length, take, get_or, refl, sym, ap, subst, ◌∙◌, arith}
use Rattle.std.specs.Prelude.{slice_set, replicate}
use Rattle.std.specs.List.{AllByRecursion}
use Rattle.std.proofs.lemmas.List.{get_or-set_same, get_or-set_other, map-append, map_more}
use Rattle.std.proofs.lemmas.Grind.{common_steps}
use Rattle.gv_logic.specs.Literals.{opposite}
use Rattle.gv_logic.specs.Partial.{is_true, Has}
use Rattle.gv_trail.specs.declared.cause.Cause.{Cause}
use Rattle.gv_trail.specs.Cause.{cause_at, entry_of, entries_of}
use Rattle.gv_trail.specs.Entries.{Entry, made_true, lits_of, reason_of, level_of, value_of}
use Rattle.gv_trail.specs.Marks.{AreFresh}
use Rattle.gv_logic.specs.Opposites.{same_variable, set_is, set_keeps, set_here, none_true, same_half}
use Rattle.gv_trail.proofs.Proper.{no_}

pub lits_are : (causes : List Cause) (lits : List ℕ) → lits ≡ lits_of (entries_of causes lits)
lits_are causes [] = refl
lits_are causes (x ∷ xs) = ap (λ t. x ∷ t) (lits_are causes xs)

pub made_keeps : (on : List Bool) (es : List Entry) (l : ℕ) → is_true on l ≡ true → is_true (made_true on es) l ≡ true
made_keeps on [] l t = t
made_keeps on (e ∷ es) l t = made_keeps (slice_set on e.lit true) es l (set_keeps on e.lit l t)

-- the variable of a literal that isn't assigned is that of no entry
pub apart : (on : List Bool) (es : List Entry) (lit : ℕ) → AreFresh on es → is_true (made_true on es) lit ≡ false → is_true (made_true on es) (opposite lit) ≡ false
    → AllByRecursion (λ e. e.lit / 2 ≡ lit / 2 → ⊥) es
apart on [] lit f n o = tt
apart on (e ∷ es) lit f n o = (
  λ s. let t = made_keeps (slice_set on e.lit true) es e.lit (set_here on e.lit f.0) in
      elim (same_variable e.lit lit s) [
        | inl q ↦ no_ (is_true (made_true (slice_set on e.lit true) es) lit) (subst (λ z. is_true (made_true (slice_set on e.lit true) es) z ≡ true) q t) n
        | inr q ↦ no_ (is_true (made_true (slice_set on e.lit true) es) (opposite lit)) (subst (λ z. is_true (made_true (slice_set on e.lit true) es) z ≡ true) q t) o
      ],
  apart (slice_set on e.lit true) es lit f.3 n o,
)

cause_other : (causes : List Cause) (lits : List ℕ) (v : ℕ) (cause : Cause) → AllByRecursion (λ e. e.lit / 2 ≡ v → ⊥) (entries_of causes lits)
    → entries_of (slice_set causes v cause) lits ≡ entries_of causes lits
cause_other causes [] v cause a = refl
cause_other causes (x ∷ xs) v cause a =
    let same : cause_at (slice_set causes v cause) (x / 2) ≡ cause_at causes (x / 2) = get_or-set_other causes v (x / 2) cause (record { reason = None; level = 0 }) a.0 in
    rw same (ap (λ t. entry_of causes x ∷ t) (cause_other causes xs v cause a.1))

-- one more literal, with the cause of its variable
pub entries_push : (causes : List Cause) (lits : List ℕ) (lit : ℕ) (cause : Cause) → lit / 2 < length causes → AllByRecursion (λ e. e.lit / 2 ≡ lit / 2 → ⊥) (entries_of causes lits)
    → entries_of (slice_set causes (lit / 2) cause) (lits ++ lit ∷ []) ≡ entries_of causes lits ++ (record { lit = lit; reason = cause.reason; level = cause.level }) ∷ []
entries_push causes lits lit cause lt a =
    let here : cause_at (slice_set causes (lit / 2) cause) (lit / 2) ≡ cause = get_or-set_same causes (lit / 2) cause (record { reason = None; level = 0 }) lt in
    map-append (entry_of (slice_set causes (lit / 2) cause)) lits (lit ∷ [])
    ∙ ap (λ t. t ++ entry_of (slice_set causes (lit / 2) cause) lit ∷ []) (cause_other causes lits (lit / 2) cause a)
    ∙ ap (λ (c : Cause). entries_of causes lits ++ (record { lit = lit; reason = c.reason; level = c.level }) ∷ []) here

-- a true literal has an entry, and each entry's literal is true
pub true_has : (on : List Bool) (causes : List Cause) (lits : List ℕ) (l : ℕ) → is_true (made_true on (entries_of causes lits)) l ≡ true → Has l lits ⊎ (is_true on l ≡ true)
true_has on causes [] l t = inr t
true_has on causes (x ∷ xs) l t = elim (true_has (slice_set on x true) causes xs l t) [
  | inl h ↦ inl (inr h)
  | inr s ↦ elim (set_is on x l s) [ inl q ↦ inl (inl (sym q)) | inr g ↦ inr g ]
]

pub has_true : (on : List Bool) (causes : List Cause) (lits : List ℕ) (l : ℕ) → AreFresh on (entries_of causes lits) → Has l lits → is_true (made_true on (entries_of causes lits)) l ≡ true
has_true on causes [] l f h = absurd h
has_true on causes (x ∷ xs) l f h = elim h [
  | inl q ↦ rw (← q) (made_keeps (slice_set on x true) (entries_of causes xs) x (set_here on x f.0))
  | inr g ↦ has_true (slice_set on x true) causes xs l f.3 g
]

equal : (a b : ℕ) → nat_eq a b ≡ true → a ≡ b
equal a b e = grind (arith, common_steps)

self_eq : (k : ℕ) → nat_eq k k ≡ true
self_eq k = grind (arith, common_steps)

other : (a b : ℕ) → nat_eq a b ≡ false → a ≡ b → ⊥
other a b e s = grind (arith, common_steps)

pub reason_found : (causes : List Cause) (lits : List ℕ) (l : ℕ) → Has l lits → (cause_at causes (l / 2)).reason ≡ reason_of l (entries_of causes lits)
reason_found causes [] l h = absurd h
reason_found causes (x ∷ xs) l h = by (nat_eq x l) refl (reason_found causes xs l)
  where
    by : (b : Bool) → nat_eq x l ≡ b → (Has l xs → (cause_at causes (l / 2)).reason ≡ reason_of l (entries_of causes xs))
        → (cause_at causes (l / 2)).reason ≡ cond b (cause_at causes (x / 2)).reason (reason_of l (entries_of causes xs))
    by true e more = rw (equal x l e) refl
    by false e more = elim h [ inl q ↦ absurd (other x l e q) | inr g ↦ more g ]

pub reason_none : (causes : List Cause) (lits : List ℕ) (l : ℕ) → (Has l lits → ⊥) → None ≡ reason_of l (entries_of causes lits)
reason_none causes [] l n = refl
reason_none causes (x ∷ xs) l n = by (nat_eq x l) refl (reason_none causes xs l (λ h. n (inr h)))
  where
    by : (b : Bool) → nat_eq x l ≡ b → None ≡ reason_of l (entries_of causes xs) → None ≡ cond b (cause_at causes (x / 2)).reason (reason_of l (entries_of causes xs))
    by true e more = absurd (n (inl (equal x l e)))
    by false e more = more

pub level_found : (causes : List Cause) (lits : List ℕ) (l k : ℕ) → k / 2 ≡ l / 2 → Has k lits → Some (cause_at causes (l / 2)).level ≡ level_of l (entries_of causes lits)
level_found causes [] l k s h = absurd h
level_found causes (x ∷ xs) l k s h = by (nat_eq (x / 2) (l / 2)) refl (level_found causes xs l k s)
  where
    by : (b : Bool) → nat_eq (x / 2) (l / 2) ≡ b → (Has k xs → Some (cause_at causes (l / 2)).level ≡ level_of l (entries_of causes xs))
        → Some (cause_at causes (l / 2)).level ≡ cond b (Some (cause_at causes (x / 2)).level) (level_of l (entries_of causes xs))
    by true e more = rw (equal (x / 2) (l / 2) e) refl
    by false e more = elim h [ inl q ↦ absurd (other (x / 2) (l / 2) e (ap (λ t. t / 2) q ∙ s)) | inr g ↦ more g ]

pub level_none : (causes : List Cause) (lits : List ℕ) (l : ℕ) → (Has l lits → ⊥) → (Has (opposite l) lits → ⊥) → None ≡ level_of l (entries_of causes lits)
level_none causes [] l n o = refl
level_none causes (x ∷ xs) l n o = by (nat_eq (x / 2) (l / 2)) refl (level_none causes xs l (λ h. n (inr h)) (λ h. o (inr h)))
  where
    by : (b : Bool) → nat_eq (x / 2) (l / 2) ≡ b → None ≡ level_of l (entries_of causes xs) → None ≡ cond b (Some (cause_at causes (x / 2)).level) (level_of l (entries_of causes xs))
    by true e more = elim (same_variable x l (equal (x / 2) (l / 2) e)) [ inl q ↦ absurd (n (inl q)) | inr q ↦ absurd (o (inl q)) ]
    by false e more = more

-- the first entries, and the next
pub entries_next : (causes : List Cause) (lits : List ℕ) (i : ℕ) → i < length lits
    → entries_of causes (take (i + 1) lits) ≡ entries_of causes (take i lits) ++ entry_of causes (get_or lits i 0) ∷ []
entries_next causes lits i lt = map_more (entry_of causes) lits i 0 lt

-- the looks that the trail takes at its fields
pub reason_is : (n : ℕ) (on : List Bool) (causes : List Cause) (lits : List ℕ) (l : ℕ) → on ≡ made_true (replicate n false) (entries_of causes lits) → is_true on l ≡ true
    → (cause_at causes (l / 2)).reason ≡ reason_of l (entries_of causes lits)
reason_is n on causes lits l m t = elim (true_has (replicate n false) causes lits l (rw m at t)) [ inl h ↦ reason_found causes lits l h | inr g ↦ absurd (none_true n l g) ]

absent : (n : ℕ) (on : List Bool) (causes : List Cause) (lits : List ℕ) (l : ℕ) → on ≡ made_true (replicate n false) (entries_of causes lits) → AreFresh (replicate n false) (entries_of causes lits)
    → is_true on l ≡ false → Has l lits → ⊥
absent n on causes lits l m f e h = no_ (is_true on l) (rw m (has_true (replicate n false) causes lits l f h)) e

pub reason_not : (n : ℕ) (on : List Bool) (causes : List Cause) (lits : List ℕ) (l : ℕ) → on ≡ made_true (replicate n false) (entries_of causes lits) → AreFresh (replicate n false) (entries_of causes lits)
    → is_true on l ≡ false → None ≡ reason_of l (entries_of causes lits)
reason_not n on causes lits l m f e = reason_none causes lits l (absent n on causes lits l m f e)

pub level_is : (n : ℕ) (on : List Bool) (causes : List Cause) (lits : List ℕ) (l : ℕ) (b : Bool) → on ≡ made_true (replicate n false) (entries_of causes lits) → value_of on l ≡ Some b
    → Some (cause_at causes (l / 2)).level ≡ level_of l (entries_of causes lits)
level_is n on causes lits l b m v = by (is_true on l) refl (is_true on (opposite l)) refl v
  where
    from : (k : ℕ) → k / 2 ≡ l / 2 → is_true on k ≡ true → Some (cause_at causes (l / 2)).level ≡ level_of l (entries_of causes lits)
    from k s t = elim (true_has (replicate n false) causes lits k (rw m at t)) [ inl h ↦ level_found causes lits l k s h | inr g ↦ absurd (none_true n k g) ]

    by : (u : Bool) → is_true on l ≡ u → (w : Bool) → is_true on (opposite l) ≡ w → cond u (Some true) (cond w (Some false) None) ≡ Some b → Some (cause_at causes (l / 2)).level ≡ level_of l (entries_of causes lits)
    by true t w o v = from l refl t
    by false t true o v = from (opposite l) (same_half l) o
    by false t false o v = cc

pub level_not : (n : ℕ) (on : List Bool) (causes : List Cause) (lits : List ℕ) (l : ℕ) → on ≡ made_true (replicate n false) (entries_of causes lits) → AreFresh (replicate n false) (entries_of causes lits)
    → value_of on l ≡ None → None ≡ level_of l (entries_of causes lits)
level_not n on causes lits l m f v = by (is_true on l) refl (is_true on (opposite l)) refl v
  where
    by : (u : Bool) → is_true on l ≡ u → (w : Bool) → is_true on (opposite l) ≡ w → cond u (Some true) (cond w (Some false) None) ≡ None → None ≡ level_of l (entries_of causes lits)
    by true t w o v = cc
    by false t true o v = cc
    by false t false o v = level_none causes lits l (absent n on causes lits l m f t) (absent n on causes lits (opposite l) m f o)

-- a variable that isn't assigned
pub value_none : (on : List Bool) (l : ℕ) → value_of on l ≡ None → (is_true on l ≡ false) × (is_true on (opposite l) ≡ false)
value_none on l v = by (is_true on l) refl (is_true on (opposite l)) refl v
  where
    by : (u : Bool) → is_true on l ≡ u → (w : Bool) → is_true on (opposite l) ≡ w → cond u (Some true) (cond w (Some false) None) ≡ None → (is_true on l ≡ false) × (is_true on (opposite l) ≡ false)
    by true t w o v = cc
    by false t true o v = cc
    by false t false o v = (t, o)
