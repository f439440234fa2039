-- Places of items that name the same flag.
use Rattle.std.proofs.Common.{◌≡◌, ℕ, suc, zero, ◌+◌, ◌-◌, ◌<◌, Bool, true, false, not, cond, if◌then◌else◌, ◌||◌, List, [], ◌∷◌, ◌++◌, length, take, drop, get_or, refl, sym, ap, ◌∙◌, arith, tests, length-append, Option, Some, None}
use Rattle.std.proofs.lemmas.Bool.{false≢true}
use Rattle.std.proofs.lemmas.Cmp.{nat_list_eq_equiv}
use Rattle.std.proofs.lemmas.List.{get_or_append_left, get_or_at, take-append-drop}
use Rattle.std.proofs.lemmas.List.Elements.{filter-append}
use Rattle.std.specs.Cmp.Lexicographic.{same_text}
use Rattle.std.specs.List.{list_any}
use Rattle.std.specs.Str.{bytes_eq}
use Rattle.gv_atom.specs.declared.items.UseItem.{UseItem}
use Rattle.gv_lower.specs.AtomGates.{naming}
use Rattle.std.specs.Prelude.{nat_eq}
use Rattle.gv_lower.specs.Chains.{HasFlag, later_of, next_naming}

-- the place that is found, j items on
pub record Found (n : ℕ) (flag : List ℕ) (items : List UseItem) (p : ℕ) : Type 0 where
  pub j : ℕ
  pub place : p ≡ n + j
  pub within : j < length items
  pub here : (d : UseItem) → (get_or items j d).flag ≡ flag
  pub rest : naming flag items ≡ naming flag (drop j items)

some_same : (a b : ℕ) → Some a ≡ Some b → a ≡ b
some_same a b e = cc

none_differs : (a : ℕ) → None ≡ Some a → ⊥
none_differs a e = cc

pub found_from : (n : ℕ) (flag : List ℕ) (items : List UseItem) (p : ℕ) → next_naming n flag items ≡ Some p → Found n flag items p
found_from n flag [] p e = absurd (none_differs p e)
found_from n flag (i ∷ items) p e = by (bytes_eq i.flag flag) refl e (found_from (n + 1) flag items p)
  where
    by : (b : Bool) → bytes_eq i.flag flag ≡ b → (if b then Some n else next_naming (n + 1) flag items) ≡ Some p → (next_naming (n + 1) flag items ≡ Some p → Found (n + 1) flag items p)
        → Found n flag (i ∷ items) p
    by true s e later = record {
      j = 0;
      place = omega (arith, some_same n p e);
      within = omega arith;
      here = λ d. same_text i.flag flag (sym s);
      rest = refl;
    }
    by false s e later = let f = later e in record {
      j = suc f.j;
      place = omega (arith, f.place);
      within = omega (arith, f.within);
      here = f.here;
      rest = ap (λ b. cond b (i ∷ naming flag items) (naming flag items)) s ∙ f.rest;
    }

pub none_from : (n : ℕ) (flag : List ℕ) (items : List UseItem) → next_naming n flag items ≡ None → naming flag items ≡ []
none_from n flag [] e = refl
none_from n flag (i ∷ items) e = by (bytes_eq i.flag flag) refl e (none_from (n + 1) flag items)
  where
    by : (b : Bool) → bytes_eq i.flag flag ≡ b → (if b then Some n else next_naming (n + 1) flag items) ≡ None → (next_naming (n + 1) flag items ≡ None → naming flag items ≡ [])
        → naming flag (i ∷ items) ≡ []
    by true s e later = absurd (none_differs n (sym e))
    by false s e later = ap (λ b. cond b (i ∷ naming flag items) (naming flag items)) s ∙ later e

pub length_later : (n : ℕ) (items : List UseItem) → length (later_of n items) ≡ length items
length_later n [] = refl
length_later n (i ∷ items) = omega (arith, length-append (later_of (n + 1) items) (next_naming (n + 1) i.flag items ∷ []), length_later (n + 1) items)

-- of the item at i, behind those of all items after it
pub later_here : (n : ℕ) (items : List UseItem) (i : ℕ) (d : Option ℕ) (e : UseItem) → i < length items
    → get_or (later_of n items) (length items - 1 - i) d ≡ next_naming (n + i + 1) (get_or items i e).flag (drop (i + 1) items)
later_here n [] i d e lt = absurd (omega arith)
later_here n (x ∷ items) zero d e lt =
    let last : length (x ∷ items) - 1 - 0 ≡ length (later_of (n + 1) items) = omega (arith, length_later (n + 1) items) in
    let on : n + 1 ≡ n + 0 + 1 = omega arith in
    get_or_at (later_of (n + 1) items) (next_naming (n + 1) x.flag items) [] d (length (x ∷ items) - 1 - 0) (sym last) ∙ ap (λ k. next_naming k x.flag items) on
later_here n (x ∷ items) (suc i) d e lt =
    let front : length (x ∷ items) - 1 - suc i ≡ length items - 1 - i = omega (arith, lt) in
    let on : n + 1 + i + 1 ≡ n + suc i + 1 = omega arith in
    let more : suc (i + 1) ≡ suc i + 1 = omega arith in
    ap (λ k. get_or (later_of (n + 1) items ++ next_naming (n + 1) x.flag items ∷ []) k d) front
    ∙ (get_or_append_left (later_of (n + 1) items) (next_naming (n + 1) x.flag items ∷ []) d (length items - 1 - i) (omega (arith, length_later (n + 1) items, lt))
    ∙ (later_here (n + 1) items i d e (omega (arith, lt))
    ∙ (ap (λ k. next_naming k (get_or items i e).flag (drop (i + 1) items)) on ∙ ap (λ k. next_naming (n + suc i + 1) (get_or items i e).flag (drop k (x ∷ items))) more)))

-- the item at i is the first that names its flag, or one before it does
pub record FirstOrNot (n : ℕ) (flag : List ℕ) (items : List UseItem) (i : ℕ) : Type 0 where
  pub first : list_any (λ x. bytes_eq flag x.flag) (take i items) ≡ false → next_naming n flag items ≡ Some (n + i)
  pub other : list_any (λ x. bytes_eq flag x.flag) (take i items) ≡ true → (j : ℕ) × (next_naming n flag items ≡ Some j) × (j < n + i)

pub first_or_not : (n : ℕ) (flag : List ℕ) (items : List UseItem) (i : ℕ) → i < length items → ((d : UseItem) → (get_or items i d).flag ≡ flag) → FirstOrNot n flag items i
first_or_not n flag [] i lt here = absurd (omega arith)
first_or_not n flag (x ∷ items) zero lt here = record {
  first = λ h. let on : n ≡ n + 0 = omega arith in
      ap (λ f. if bytes_eq f flag then Some n else next_naming (n + 1) flag items) (here x)
      ∙ (ap (λ b. if b then Some n else next_naming (n + 1) flag items) (nat_list_eq_equiv.refl flag) ∙ ap Some on);
  other = λ h. absurd (false≢true h);
}
first_or_not n flag (x ∷ items) (suc i) lt here = by (bytes_eq x.flag flag) refl (first_or_not (n + 1) flag items i (omega (arith, lt)) here)
  where
    by : (b : Bool) → bytes_eq x.flag flag ≡ b → FirstOrNot (n + 1) flag items i → FirstOrNot n flag (x ∷ items) (suc i)
    by true e later =
        let named : bytes_eq flag x.flag ≡ true = nat_list_eq_equiv.symm flag x.flag ∙ e in record {
          first = λ h. absurd (false≢true (sym h ∙ ap (λ b. b || list_any (λ y. bytes_eq flag y.flag) (take i items)) named));
          other = λ h. (n, ap (λ b. if b then Some n else next_naming (n + 1) flag items) e, omega arith);
        }
    by false e later =
        let named : bytes_eq flag x.flag ≡ false = nat_list_eq_equiv.symm flag x.flag ∙ e in
        let on : n + 1 + i ≡ n + suc i = omega arith in record {
          first = λ h. ap (λ b. if b then Some n else next_naming (n + 1) flag items) e
              ∙ (later.first (sym (ap (λ b. b || list_any (λ y. bytes_eq flag y.flag) (take i items)) named) ∙ h) ∙ ap Some on);
          other = λ h. let found = later.other (sym (ap (λ b. b || list_any (λ y. bytes_eq flag y.flag) (take i items)) named) ∙ h) in
              (found.0, ap (λ b. if b then Some n else next_naming (n + 1) flag items) e ∙ found.1, omega (arith, found.2));
        }

-- where no item before names the flag, those that do are those from there on
none_before : (flag : List ℕ) (items : List UseItem) → list_any (λ x. bytes_eq flag x.flag) items ≡ false → naming flag items ≡ []
none_before flag [] h = refl
none_before flag (x ∷ items) h = by (bytes_eq flag x.flag) refl (none_before flag items)
  where
    by : (b : Bool) → bytes_eq flag x.flag ≡ b → (list_any (λ y. bytes_eq flag y.flag) items ≡ false → naming flag items ≡ []) → naming flag (x ∷ items) ≡ []
    by true e later = absurd (false≢true (sym h ∙ ap (λ b. b || list_any (λ y. bytes_eq flag y.flag) items) e))
    by false e later = ap (λ b. cond b (x ∷ naming flag items) (naming flag items)) (nat_list_eq_equiv.symm x.flag flag ∙ e)
        ∙ later (sym (ap (λ b. b || list_any (λ y. bytes_eq flag y.flag) items) e) ∙ h)

pub from_first : (flag : List ℕ) (items : List UseItem) (i : ℕ) → list_any (λ x. bytes_eq flag x.flag) (take i items) ≡ false → naming flag (drop i items) ≡ naming flag items
from_first flag items i h =
    sym (ap (naming flag) (sym (take-append-drop i items))
    ∙ (filter-append (λ x. bytes_eq x.flag flag) (take i items) (drop i items) ∙ ap (λ xs. xs ++ naming flag (drop i items)) (none_before flag (take i items) h)))

-- what the tree says of an item that names the flag
pub is_first_some : (flag : List ℕ) (items : List UseItem) (i first : ℕ) → HasFlag items i flag → next_naming 0 flag items ≡ Some first
    → nat_eq first i ≡ not (list_any (λ x. bytes_eq flag x.flag) (take i items))
is_first_some flag items i first has found = by (list_any (λ x. bytes_eq flag x.flag) (take i items)) refl
  where
    either : FirstOrNot 0 flag items i
    either = first_or_not 0 flag items i has.0 has.1

    apart : (a b : ℕ) → a < b → nat_eq a b ≡ false
    apart a b lt = grind (arith, tests)

    same : (a b : ℕ) → a ≡ b → nat_eq a b ≡ true
    same a b e = grind (arith, tests)

    by : (b : Bool) → list_any (λ x. bytes_eq flag x.flag) (take i items) ≡ b → nat_eq first i ≡ not b
    by false e = same first i (omega (arith, some_same first (0 + i) (sym found ∙ either.first e)))
    by true e = let other = either.other e in apart first i (omega (arith, some_same first other.0 (sym found ∙ other.1), other.2))

pub is_first_none : (flag : List ℕ) (items : List UseItem) (i : ℕ) → HasFlag items i flag → next_naming 0 flag items ≡ None → ⊥
is_first_none flag items i has none = by (list_any (λ x. bytes_eq flag x.flag) (take i items)) refl
  where
    either : FirstOrNot 0 flag items i
    either = first_or_not 0 flag items i has.0 has.1

    by : (b : Bool) → list_any (λ x. bytes_eq flag x.flag) (take i items) ≡ b → ⊥
    by false e = none_differs (0 + i) (sym none ∙ either.first e)
    by true e = let other = either.other e in none_differs other.0 (sym none ∙ other.1)

pub later_at : (items : List UseItem) (flag : List ℕ) (i : ℕ) (d : Option ℕ) → HasFlag items i flag
    → get_or (later_of 0 items) (length items - 1 - i) d ≡ next_naming (i + 1) flag (drop (i + 1) items)
later_at [] flag i d has = absurd (omega (arith, has.0))
later_at (x ∷ items) flag i d has =
    let on : 0 + i + 1 ≡ i + 1 = omega arith in
    later_here 0 (x ∷ items) i d x has.0
    ∙ (ap (λ f. next_naming (0 + i + 1) f (drop (i + 1) (x ∷ items))) (has.1 x) ∙ ap (λ n. next_naming n flag (drop (i + 1) (x ∷ items))) on)
