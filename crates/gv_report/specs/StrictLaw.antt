-- A proof and no rule. Reports that are put in order before equal ones go; where each comes before the next, none has to go.
use Rattle.std.proofs.Common.{◌≡◌, Bool, true, false, cond, List, [], ◌∷◌, refl, sym, ap, ◌∙◌}
use Rattle.std.specs.Prelude.{not, ◌&&◌, ◌||◌}
use Rattle.std.specs.List.{filter, list_all}
use Rattle.std.specs.List.Sorted.{ties}
use Rattle.std.proofs.lemmas.Bool.{and_parts, true≢false}
use Rattle.gv_report.specs.declared.report.Report.{Report}
use Rattle.gv_report.specs.Distinct.{is_before, is_same, has_report, firsts, ordered, AreDistinct}
use Rattle.gv_report.specs.Marks.{are_new, are_strict, marked, strict_behind}
use Rattle.gv_report.specs.Sorting.{in_order, AreAscending}
use Rattle.gv_report.specs.FirstReports.{marked_firsts}
use Rattle.gv_report.specs.OrderedLaw.{are_in_order, only_ordered, ranks}
use Rattle.gv_report.specs.SameReports.{same_report}
use Rattle.gv_report.specs.SelectedLaw.{picked_firsts}
use Rattle.gv_report.specs.SortLemmas.{ascends, one, ties_stay}

both : (a b : Bool) → a ≡ true → b ≡ true → (a && b) ≡ true
both true b e f = f
both false b e f = e

further : (a b c : Report) → is_before a b ≡ true → is_before b c ≡ true → is_before a c ≡ true
further a b c e f = by (is_before a c) refl
  where
    by : (x : Bool) → is_before a c ≡ x → is_before a c ≡ true
    by true h = h
    by false h = absurd (true≢false (sym e ∙ ranks.chain a c b h (ranks.one_way b c f)))

not_itself : (r : Report) → is_before r r ≡ false
not_itself r = by (is_before r r) refl
  where
    by : (x : Bool) → is_before r r ≡ x → is_before r r ≡ false
    by true h = ranks.one_way r r h
    by false h = h

apart : (r s : Report) → is_before r s ≡ true → is_same r s ≡ false
apart r s e = by (is_same r s) refl
  where
    by : (x : Bool) → is_same r s ≡ x → is_same r s ≡ false
    by true h = absurd (true≢false (sym e ∙ sym (ap (is_before r) (same_report r s h)) ∙ not_itself r))
    by false h = h

all_behind : (r s : Report) (rs : List Report) → is_before r s ≡ true → strict_behind s rs ≡ true → list_all (is_before r) rs ≡ true
all_behind r s [] e h = refl
all_behind r s (t ∷ rs) e h =
    let parts = and_parts (is_before s t) (strict_behind t rs) h in
    let next : is_before r t ≡ true = further r s t e parts.0 in
    both (is_before r t) (list_all (is_before r) rs) next (all_behind r t rs next parts.1)

none_same : (r : Report) (rs : List Report) → list_all (is_before r) rs ≡ true → has_report rs r ≡ false
none_same r [] h = refl
none_same r (s ∷ rs) h =
    let parts = and_parts (is_before r s) (list_all (is_before r) rs) h in
    ap (λ b. b || has_report rs r) (apart r s parts.0) ∙ none_same r rs parts.1

behind_distinct : (r : Report) (rs : List Report) → strict_behind r rs ≡ true → AreDistinct (r ∷ rs)
behind_distinct r [] h = (refl, tt)
behind_distinct r (s ∷ rs) h =
    let parts = and_parts (is_before r s) (strict_behind s rs) h in
    (none_same r (s ∷ rs) (both (is_before r s) (list_all (is_before r) rs) parts.0 (all_behind r s rs parts.0 parts.1)), behind_distinct s rs parts.1)

distinct : (rs : List Report) → are_strict rs ≡ true → AreDistinct rs
distinct [] h = tt
distinct (r ∷ rs) h = behind_distinct r rs h

none_goes : (r : Report) (rs : List Report) → has_report rs r ≡ false → filter (λ s. not (is_same r s)) rs ≡ rs
none_goes r [] h = refl
none_goes r (s ∷ rs) h = by (is_same r s) h (none_goes r rs)
  where
    by : (b : Bool) → (b || has_report rs r) ≡ false → (has_report rs r ≡ false → filter (λ t. not (is_same r t)) rs ≡ rs)
        → cond (not b) (s ∷ filter (λ t. not (is_same r t)) rs) (filter (λ t. not (is_same r t)) rs) ≡ s ∷ rs
    by true h later = absurd (true≢false h)
    by false h later = ap (λ l. s ∷ l) (later h)

pub all_stay : (rs : List Report) → AreDistinct rs → firsts rs ≡ rs
all_stay [] d = refl
all_stay (r ∷ rs) d = ap (λ l. r ∷ filter (λ s. not (is_same r s)) l) (all_stay rs d.1) ∙ ap (λ l. r ∷ l) (none_goes r rs d.0)

-- what ascends still does when some are left out
all_kept : (p q : Report → Bool) (rs : List Report) → list_all p rs ≡ true → list_all p (filter q rs) ≡ true
all_kept p q [] h = refl
all_kept p q (r ∷ rs) h =
    let parts = and_parts (p r) (list_all p rs) h in
    by (q r) parts.0 (all_kept p q rs parts.1)
  where
    by : (b : Bool) → p r ≡ true → list_all p (filter q rs) ≡ true → list_all p (cond b (r ∷ filter q rs) (filter q rs)) ≡ true
    by true e k = both (p r) (list_all p (filter q rs)) e k
    by false e k = k

all_firsts : (p : Report → Bool) (rs : List Report) → list_all p rs ≡ true → list_all p (firsts rs) ≡ true
all_firsts p [] h = refl
all_firsts p (r ∷ rs) h =
    let parts = and_parts (p r) (list_all p rs) h in
    both (p r) (list_all p (filter (λ s. not (is_same r s)) (firsts rs))) parts.0 (all_kept p (λ s. not (is_same r s)) (firsts rs) (all_firsts p rs parts.1))

ascending_kept : (q : Report → Bool) (rs : List Report) → AreAscending is_before rs → AreAscending is_before (filter q rs)
ascending_kept q [] a = tt
ascending_kept q (r ∷ rs) a = by (q r) (ascending_kept q rs a.1)
  where
    by : (b : Bool) → AreAscending is_before (filter q rs) → AreAscending is_before (cond b (r ∷ filter q rs) (filter q rs))
    by true k = (all_kept (λ s. not (is_before s r)) q rs a.0, k)
    by false k = k

ascending_firsts : (rs : List Report) → AreAscending is_before rs → AreAscending is_before (firsts rs)
ascending_firsts [] a = tt
ascending_firsts (r ∷ rs) a =
    (all_kept (λ s. not (is_before s r)) (λ s. not (is_same r s)) (firsts rs) (all_firsts (λ s. not (is_before s r)) rs a.0), ascending_kept (λ s. not (is_same r s)) (firsts rs) (ascending_firsts rs a.1))

firsts_in_order : (rs : List Report) → firsts (in_order is_before rs) ≡ ordered rs
firsts_in_order rs =
    one ranks (in_order is_before (firsts rs)) (firsts (in_order is_before rs)) (ascends ranks (firsts rs)) (ascending_firsts (in_order is_before rs) (ascends ranks rs))
    (λ z. picked_firsts (ties is_before z) (in_order is_before rs) ∙ ap firsts (ties_stay ranks rs z) ∙ sym (picked_firsts (ties is_before z) rs) ∙ sym (ties_stay ranks (firsts rs) z))

pub strict_ordered : (given sorted : List Report) → sorted ≡ in_order is_before given → are_strict sorted ≡ true → sorted ≡ ordered given
strict_ordered given sorted sort strict = sym (all_stay sorted (distinct sorted strict)) ∙ ap firsts sort ∙ firsts_in_order given

pub marked_ordered : (given sorted kept : List Report) → sorted ≡ in_order is_before given → kept ≡ marked (are_new [] sorted) sorted → kept ≡ ordered given
marked_ordered given sorted kept sort marks = marks ∙ marked_firsts sorted ∙ ap firsts sort ∙ firsts_in_order given

-- Reports in order stay when they are put in order again.
pub again : (rs : List Report) → ordered (ordered rs) ≡ ordered rs
again rs = sym (only_ordered (ordered rs) (ordered rs) (record {
  ascending = (are_in_order rs).ascending;
  same = λ r. refl;
  once = (are_in_order rs).once;
  stable = λ r. ap (filter (ties is_before r)) (sym (all_stay (ordered rs) (are_in_order rs).once));
}))
