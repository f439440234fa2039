-- A proof and no rule. The reports that no earlier one equals, found with a set of those that were seen.
use Rattle.std.proofs.Common.{◌≡◌, Bool, true, false, cond, List, [], ◌∷◌, ◌++◌, Bor, map, refl, sym, ap, ◌∙◌}
use Rattle.std.specs.Prelude.{not, ◌||◌, ◌&&◌}
use Rattle.std.specs.declared.cmp.Ordering.{Ordering}
use Rattle.std.specs.declared.cmp.Ordering.TheVariants.{Less, Equal, Greater}
use Rattle.std.specs.BTreeSet.{insert_key}
use Rattle.std.specs.BTreeMap.{is_at}
use Rattle.std.specs.Cmp.{IsEquivalence}
use Rattle.std.specs.List.{filter, list_any}
use Rattle.std.specs.Ordering.{is_eq, match_ordering}
use Rattle.std.proofs.lemmas.Cmp.{eq_by_cmp_equiv}
use Rattle.std.proofs.lemmas.List.Folds.{list_any-append}
use Rattle.std.proofs.Math.Bool.{or-true}
use Rattle.gv_report.specs.declared.report.Report.{Report}
use Rattle.gv_report.specs.Marks.{are_new, marked}
use Rattle.gv_report.specs.Distinct.{is_same, has_report, firsts}
use Rattle.gv_report.specs.OrderTotal.{whole_total}
use Rattle.gv_report.specs.Order.{whole_cmp}

pub equivalence : IsEquivalence is_same
equivalence = eq_by_cmp_equiv whole_total

-- the keys are these reports
abbrev pub HasSeen : List (Bor Report) → List Report → Type 0
HasSeen keys reports = (report : Report) → has_report (map (λ (k : Bor Report). k.now) keys) report ≡ has_report reports report

once : (a b : Bool) → (a || b) ≡ (a || (a || b))
once true b = refl
once false b = refl

swapped : (a b c : Bool) → (a || (b || c)) ≡ (b || (a || c))
swapped true b c = sym (or-true b)
swapped false b c = refl

tied_alike : (k x q : Report) → whole_cmp k x ≡ Equal → is_same q x ≡ is_same q k
tied_alike k x q e = equivalence.symm q x ∙ sym (ap is_eq (whole_total.congr k x q e)) ∙ equivalence.symm k q

has_put : (keys : List (Bor Report)) (k : Bor Report) (q : Report)
    → has_report (map (λ (x : Bor Report). x.now) (insert_key (λ (x y : Bor Report). whole_cmp x.now y.now) keys k)) q ≡ (is_same q k.now || has_report (map (λ (x : Bor Report). x.now) keys) q)
has_put [] k q = refl
has_put (x ∷ xs) k q = by (whole_cmp k.now x.now) refl (has_put xs k q)
  where
    by : (r : Ordering) → whole_cmp k.now x.now ≡ r
        → has_report (map (λ (y : Bor Report). y.now) (insert_key (λ (y z : Bor Report). whole_cmp y.now z.now) xs k)) q ≡ (is_same q k.now || has_report (map (λ (y : Bor Report). y.now) xs) q)
        → has_report (map (λ (y : Bor Report). y.now) (match_ordering r (k ∷ x ∷ xs) (x ∷ xs) (x ∷ insert_key (λ (y z : Bor Report). whole_cmp y.now z.now) xs k))) q
        ≡ (is_same q k.now || (is_same q x.now || has_report (map (λ (y : Bor Report). y.now) xs) q))
    by Less e h = refl
    by Equal e h = ap (λ b. b || has_report (map (λ (y : Bor Report). y.now) xs) q) (tied_alike k.now x.now q e) ∙ once (is_same q k.now) (has_report (map (λ (y : Bor Report). y.now) xs) q)
        ∙ ap (λ b. is_same q k.now || (b || has_report (map (λ (y : Bor Report). y.now) xs) q)) (sym (tied_alike k.now x.now q e))
    by Greater e h = ap (λ b. is_same q x.now || b) h ∙ swapped (is_same q x.now) (is_same q k.now) (has_report (map (λ (y : Bor Report). y.now) xs) q)

pub found : (keys : List (Bor Report)) (r : Report) → list_any (is_at (λ (y : Bor Report). whole_cmp r y.now)) keys ≡ has_report (map (λ (y : Bor Report). y.now) keys) r
found [] r = refl
found (x ∷ xs) r = ap (λ b. is_same r x.now || b) (found xs r)

or_none : (a b : Bool) → (a || (b || false)) ≡ (b || a)
or_none true true = refl
or_none true false = refl
or_none false true = refl
or_none false false = refl

pub sees : (keys : List (Bor Report)) (reports : List Report) (k : Bor Report) → HasSeen keys reports → HasSeen (insert_key (λ (x y : Bor Report). whole_cmp x.now y.now) keys k) (reports ++ k.now ∷ [])
sees keys reports k seen q =
    has_put keys k q ∙ ap (λ b. is_same q k.now || b) (seen q)
    ∙ sym (list_any-append (is_same q) reports (k.now ∷ []) ∙ or_none (has_report reports q) (is_same q k.now))

-- What is marked.

-- one filter after another
pub filter_both : {X : Type 0} (p q : X → Bool) (xs : List X) → filter p (filter q xs) ≡ filter (λ x. q x && p x) xs
filter_both p q [] = refl
filter_both p q (x ∷ xs) = by (q x) (filter_both p q xs)
  where
    by : (b : Bool) → filter p (filter q xs) ≡ filter (λ y. q y && p y) xs → filter p (cond b (x ∷ filter q xs) (filter q xs)) ≡ cond (b && p x) (x ∷ filter (λ y. q y && p y) xs) (filter (λ y. q y && p y) xs)
    by true h = ap (λ l. cond (p x) (x ∷ l) l) h
    by false h = h

pub filter_alike : {X : Type 0} (p q : X → Bool) → ((x : X) → p x ≡ q x) → (xs : List X) → filter p xs ≡ filter q xs
filter_alike p q same [] = refl
filter_alike p q same (x ∷ xs) = ap (λ b. cond b (x ∷ filter p xs) (filter p xs)) (same x) ∙ ap (λ l. cond (q x) (x ∷ l) l) (filter_alike p q same xs)

pub filter_all : {X : Type 0} (xs : List X) → filter (λ x. true) xs ≡ xs
filter_all [] = refl
filter_all (x ∷ xs) = ap (λ l. x ∷ l) (filter_all xs)

apart : (before : List Report) (r s : Report) → not (has_report (before ++ r ∷ []) s) ≡ (not (is_same r s) && not (has_report before s))
apart before r s = ap not (list_any-append (is_same s) before (r ∷ []) ∙ or_none (has_report before s) (is_same s r) ∙ ap (λ b. b || has_report before s) (equivalence.symm s r)) ∙ turned (is_same r s) (has_report before s)
  where
    turned : (a b : Bool) → not (a || b) ≡ (not a && not b)
    turned true b = refl
    turned false b = refl

marked_from : (before rs : List Report) → marked (are_new before rs) rs ≡ filter (λ s. not (has_report before s)) (firsts rs)
marked_from before [] = refl
marked_from before (r ∷ rs) = by (has_report before r) refl
    (marked_from (before ++ r ∷ []) rs ∙ filter_alike (λ s. not (has_report (before ++ r ∷ []) s)) (λ s. not (is_same r s) && not (has_report before s)) (apart before r) (firsts rs)
    ∙ sym (filter_both (λ s. not (has_report before s)) (λ s. not (is_same r s)) (firsts rs)))
  where
    by : (b : Bool) → has_report before r ≡ b
        → marked (are_new (before ++ r ∷ []) rs) rs ≡ filter (λ s. not (has_report before s)) (filter (λ s. not (is_same r s)) (firsts rs))
        → marked (not b ∷ are_new (before ++ r ∷ []) rs) (r ∷ rs)
        ≡ cond (not b) (r ∷ filter (λ s. not (has_report before s)) (filter (λ s. not (is_same r s)) (firsts rs))) (filter (λ s. not (has_report before s)) (filter (λ s. not (is_same r s)) (firsts rs)))
    by true e h = h
    by false e h = ap (λ l. r ∷ l) h

pub marked_firsts : (rs : List Report) → marked (are_new [] rs) rs ≡ firsts rs
marked_firsts rs = marked_from [] rs ∙ filter_all (firsts rs)
