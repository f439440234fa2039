-- A list that is cut into lists: one list more, how many there are, and the n-th.
use Rattle.std.proofs.Common.{◌≡◌, refl, ◌∙◌, ap, sym, subst, ℕ, suc, zero, ◌+◌, ◌-◌, ◌<◌, ◌≤◌, ◌^◌, List, [], ◌∷◌, ◌++◌, length, get_or, take, drop, arith, length-append}
use Rattle.std.proofs.lemmas.List.{take-append-le, drop-append-le, take_all, drop_at, length-drop, length-take-le, get_or_read_under}
use Rattle.std.specs.Prelude.{slice_range}
use Rattle.gv_logic.specs.LitLists.{cut_from, cut_at, lit_count, start_of, AreEnds, IsCut}

pub length_cut : (from : ℕ) (ends lits : List ℕ) → length (cut_from from ends lits) ≡ length ends
length_cut from [] lits = refl
length_cut from (end ∷ ends) lits = ap suc (length_cut end ends lits)

end_below : (from : ℕ) (ends : List ℕ) (all : ℕ) → AreEnds from ends all → from ≤ all
end_below from [] all are = omega (arith, are)
end_below from (end ∷ ends) all are = omega (arith, are.0, end_below end ends all are.1)

length_part : (from end : ℕ) (lits : List ℕ) → from ≤ end → end ≤ length lits → length (slice_range lits from end) ≡ end - from
length_part from end lits up below = length-take-le (end - from) (drop from lits) (omega (arith, up, below, length-drop from lits))

-- no literal stands outside the lists
count_cut : (from : ℕ) (ends lits : List ℕ) → AreEnds from ends (length lits) → from + lit_count (cut_from from ends lits) ≡ length lits
count_cut from [] lits are = omega (arith, are)
count_cut from (end ∷ ends) lits are =
    omega (arith, are.0, length_part from end lits are.0 (end_below end ends (length lits) are.1), count_cut end ends lits are.1)

pub whole_count : (ends lits : List ℕ) (lists : List (List ℕ)) → IsCut ends lits → cut_at ends lits ≡ lists → length lits ≡ lit_count lists
whole_count ends lits lists is view = omega (arith, count_cut 0 ends lits is.rising, ap lit_count view)

part_kept : (from end : ℕ) (lits more : List ℕ) → from ≤ end → end ≤ length lits →
    slice_range (lits ++ more) from end ≡ slice_range lits from end
part_kept from end lits more up below =
    ap (take (end - from)) (drop-append-le from lits more (omega (arith, up, below)))
    ∙ take-append-le (end - from) (drop from lits) more (omega (arith, up, below, length-drop from lits))

last_part : (from end : ℕ) (lits more : List ℕ) → from ≡ length lits → end ≡ length lits + length more →
    slice_range (lits ++ more) from end ≡ more
last_part from end lits more is last =
    ap (take (end - from)) (drop_at lits more from (sym is))
    ∙ take_all (end - from) more (omega (arith, is, last))

cut_more : (from : ℕ) (ends lits more : List ℕ) (end : ℕ) → AreEnds from ends (length lits) → end ≡ length lits + length more →
    cut_from from (ends ++ end ∷ []) (lits ++ more) ≡ cut_from from ends lits ++ more ∷ []
cut_more from [] lits more end are last = ap (λ part. part ∷ []) (last_part from end lits more are last)
cut_more from (e ∷ ends) lits more end are last =
    ap (λ part. part ∷ cut_from e (ends ++ end ∷ []) (lits ++ more)) (part_kept from e lits more are.0 (end_below e ends (length lits) are.1))
    ∙ ap (λ parts. slice_range lits from e ∷ parts) (cut_more e ends lits more end are.1 last)

ends_more : (from : ℕ) (ends : List ℕ) (all end : ℕ) → AreEnds from ends all → all ≤ end → AreEnds from (ends ++ end ∷ []) end
ends_more from [] all end are up = (omega (arith, are, up), refl)
ends_more from (e ∷ ends) all end are up = (are.0, ends_more e ends all end are.1 up)

-- one list more, of lists that are known by equations
module _ (ends ends' lits lits' more : List ℕ) (end : ℕ) (e : ends' ≡ ends ++ end ∷ []) (l : lits' ≡ lits ++ more)
    (last : end ≡ length lits') (is : IsCut ends lits) where
  whole : end ≡ length lits + length more
  whole = last ∙ ap length l ∙ length-append lits more

  pub cut_grown : length ends + 1 < 2 ^ 32 → end < 2 ^ 32 → IsCut ends' lits'
  cut_grown count below =
      let up : length lits ≤ end = omega (arith, whole) in
      record {
        rising = subst (λ n. AreEnds 0 ends' n) last (subst (λ z. AreEnds 0 z end) (sym e) (ends_more 0 ends (length lits) end is.rising up));
        short = subst (λ n. n < 2 ^ 32) last below;
        few = omega (arith, ap length e, length-append ends (end ∷ []), count);
      }

  pub lists_grown : (was : List (List ℕ)) → cut_at ends lits ≡ was → cut_at ends' lits' ≡ was ++ more ∷ []
  lists_grown was view =
      ap (λ z. cut_at z lits') e ∙ ap (λ z. cut_at (ends ++ end ∷ []) z) l
      ∙ cut_more 0 ends lits more end is.rising whole
      ∙ ap (λ lists. lists ++ more ∷ []) view

part_at : (from : ℕ) (ends lits : List ℕ) (n : ℕ) (other : List ℕ) → n < length ends →
    slice_range lits (get_or (from ∷ ends) n 0) (get_or ends n 0) ≡ get_or (cut_from from ends lits) n other
part_at from [] lits n other under = absurd (omega (arith, under))
part_at from (end ∷ ends) lits zero other under = refl
part_at from (end ∷ ends) lits (suc n) other under = part_at end ends lits n other (omega (arith, under))

start_below : (from : ℕ) (ends : List ℕ) (all n : ℕ) → AreEnds from ends all → n < length ends →
    get_or (from ∷ ends) n 0 ≤ get_or ends n 0
start_below from [] all n are under = absurd (omega (arith, under))
start_below from (end ∷ ends) all zero are under = are.0
start_below from (end ∷ ends) all (suc n) are under = start_below end ends all n are.1 (omega (arith, under))

part_below : (from : ℕ) (ends : List ℕ) (all n : ℕ) → AreEnds from ends all → n < length ends →
    get_or ends n 0 ≤ all
part_below from [] all n are under = absurd (omega (arith, under))
part_below from (end ∷ ends) all zero are under = end_below end ends all are.1
part_below from (end ∷ ends) all (suc n) are under = part_below end ends all n are.1 (omega (arith, under))

-- the n-th list lies between these places
pub record IsNth (lists : List (List ℕ)) (n : ℕ) (lits : List ℕ) (from end : ℕ) : Type 0 where
  pub rises : from ≤ end
  pub below : end ≤ length lits
  pub part : (other : List ℕ) → slice_range lits from end ≡ get_or lists n other

pub under_ends : (ends lits : List ℕ) {n : ℕ} {lists : List (List ℕ)} → cut_at ends lits ≡ lists → n < length lists → n < length ends
under_ends ends lits view lt =
    let count = ap (λ (ls : List (List ℕ)). length ls) view in
    omega (arith, lt, count, length_cut 0 ends lits)

-- so it does, where the code reads its start and its end
pub nth_cut : {n from end : ℕ} {ends starts lits all : List ℕ} {lists : List (List ℕ)} → cut_at ends lits ≡ lists →
    IsCut ends lits → n < length lists → starts ≡ ends → from ≡ start_of starts n → end ≡ get_or ends n end → all ≡ lits →
    IsNth lists n all from end
nth_cut {n} {from} {end} {ends} {starts} {lits} {all} {lists} view is lt same start last whole =
    let under : n < length ends = under_ends ends lits view lt in
    let s : from ≡ start_of ends n = start ∙ ap (λ xs. start_of xs n) same in
    let e : end ≡ get_or ends n 0 = get_or_read_under ends n (length ends) end 0 last under refl in
    record {
      rises = omega (arith, s, e, start_below 0 ends (length lits) n is.rising under);
      below = omega (arith, e, part_below 0 ends (length lits) n is.rising under, ap length whole);
      part = λ other. ap (λ xs. slice_range xs from end) whole ∙ ap (λ i. slice_range lits i end) s ∙ ap (λ j. slice_range lits (start_of ends n) j) e
          ∙ part_at 0 ends lits n other under ∙ ap (λ (ls : List (List ℕ)). get_or ls n other) view;
    }

-- the code's two cases of a start
pub first_start : (ends : List ℕ) (n : ℕ) → n ≡ 0 → 0 ≡ start_of ends n
first_start ends zero is = refl
first_start ends (suc n) is = absurd (omega (arith, is))

pub next_start : (ends : List ℕ) (n end : ℕ) → 0 < n → end ≡ get_or ends (n - 1) 0 → end ≡ start_of ends n
next_start ends zero end some is = absurd (omega (arith, some))
next_start ends (suc n) end some is = is ∙ (let same : suc n - 1 ≡ n = omega arith in ap (λ k. get_or ends k 0) same)
