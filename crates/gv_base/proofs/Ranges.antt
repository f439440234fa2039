-- The keys from `path/` up to `path0` are those below the path, since `0` (48) is the byte that follows the slash (47).
use Rattle.std.proofs.Common.{◌≡◌, ℕ, ◌<◌, ◌++◌, List, [], ◌∷◌, Bool, true, false, not, ◌&&◌, ◌⊎◌, inl, inr, cond, length, take, drop, map, Some, None, refl, sym, ap, ◌∙◌, arith}
use Rattle.std.specs.Prelude.{filter, nat_eq, nat_le}
use Rattle.std.specs.declared.cmp.Ordering.{Ordering}
use Rattle.std.specs.declared.cmp.Ordering.TheVariants.{Less, Equal, Greater}
use Rattle.std.specs.declared.ops.Bound.TheVariants.{Included, Excluded}
use Rattle.std.specs.Option.{is_some, option_and_then}
use Rattle.std.specs.Ordering.{nat_cmp, is_le, is_gt, ordering_then, MatchOrdering}
use Rattle.std.specs.Cmp.{ranks}
use Rattle.std.specs.BTreeMap.Range.{range_contains, entries_between}
use Rattle.std.specs.Str.{bytes_eq}
use Rattle.std.proofs.lemmas.Bool.{cases_order, le-leb, lt-leb, eq-eqb, ne_eqb}
use Rattle.gv_base.specs.Order.{byte_cmp}
use Rattle.gv_base.specs.Cut.{after_prefix}
use Rattle.gv_base.specs.ByteMap.{seen_entry}
use Rattle.gv_base.specs.Listing.{below}
use Rattle.gv_base.proofs.ByteMaps.{Bytes, key_cmp}

-- whether the key is from `path/` up to `path0`
abbrev in_range : List ℕ → List ℕ → Bool
in_range path key = is_le (byte_cmp (path ++ 47 ∷ []) key) && not (is_le (byte_cmp (path ++ 48 ∷ []) key))

le_then : (a b : ℕ) (o : Ordering) → is_le o ≡ true → is_le (ordering_then (nat_cmp a b) o) ≡ nat_le a b
le_then a b o h = by (nat_cmp a b) (ranks a b)
  where
    by : (r : Ordering) → MatchOrdering r (a < b) (a ≡ b) (b < a) → is_le (ordering_then r o) ≡ nat_le a b
    by Less lt = sym (le-leb a b (omega arith))
    by Equal e = h ∙ sym (le-leb a b (omega arith))
    by Greater gt = sym (lt-leb a b gt)

none_le : (bs : List ℕ) → is_le (byte_cmp [] bs) ≡ true
none_le [] = refl
none_le (b ∷ bs) = refl

-- from a slash up to the byte that follows it is a slash alone
slash_alone : (b : ℕ) → (nat_le 47 b && not (nat_le 48 b)) ≡ (nat_eq b 47 && true)
slash_alone b = by (cases_order b 47)
  where
    by : (b ≡ 47) ⊎ ((b < 47) ⊎ (47 < b)) → (nat_le 47 b && not (nat_le 48 b)) ≡ (nat_eq b 47 && true)
    by (inl e) = rw e refl
    by (inr (inl lt)) = rw (lt-leb 47 b lt, ne_eqb b 47 (λ e. omega arith)) refl
    by (inr (inr gt)) = rw (le-leb 47 b (omega arith), le-leb 48 b (omega arith), ne_eqb b 47 (λ e. omega arith)) refl

is_some-cond : {X : Type 0} (b : Bool) (x : X) → is_some (cond b (Some x) None) ≡ b
is_some-cond true x = refl
is_some-cond false x = refl

pub in_range-below : (path key : List ℕ) → in_range path key ≡ is_some (below path key)
in_range-below [] [] = refl
in_range-below [] (b ∷ bs) =
    rw (le_then 47 b (byte_cmp [] bs) (none_le bs), le_then 48 b (byte_cmp [] bs) (none_le bs)) (slash_alone b ∙ sym (is_some-cond (nat_eq b 47 && true) bs))
in_range-below (p ∷ ps) [] = refl
in_range-below (p ∷ ps) (b ∷ bs) = by (nat_cmp p b) (ranks p b) (in_range-below ps bs)
  where
    by : (r : Ordering) → MatchOrdering r (p < b) (p ≡ b) (b < p) → in_range ps bs ≡ is_some (below ps bs)
        → (is_le (ordering_then r (byte_cmp (ps ++ 47 ∷ []) bs)) && not (is_le (ordering_then r (byte_cmp (ps ++ 48 ∷ []) bs))))
        ≡ is_some (option_and_then (after_prefix (47 ∷ [])) (cond (nat_eq b p && bytes_eq (take (length ps) bs) ps) (Some (drop (length ps) bs)) None))
    by Less lt h = rw (ne_eqb b p (λ e. omega arith)) refl
    by Equal e h = rw (eq-eqb b p (sym e)) h
    by Greater gt h = rw (ne_eqb b p (λ e. omega arith)) refl

filter_step : {A B : Type 0} (b : Bool) (f : A → B) (x : A) (xs : List A) (ys : List B) → map f xs ≡ ys → map f (cond b (x ∷ xs) xs) ≡ cond b (f x ∷ ys) ys
filter_step true f x xs ys e = ap (λ zs. f x ∷ zs) e
filter_step false f x xs ys e = e

-- the entries of the tree from one key up to the other, as entries of the map
pub between_seen : {X : Type 0} (path : List ℕ) (from to : Bytes) (es : List (Bytes × X)) → from.items ≡ path ++ 47 ∷ [] → to.items ≡ path ++ 48 ∷ []
    → map seen_entry (entries_between key_cmp (Included from) (Excluded to) es) ≡ filter (λ e. is_some (below path e.0)) (map seen_entry es)
between_seen path from to [] f t = refl
between_seen {X} path from to (e ∷ es) f t =
    let here : range_contains key_cmp (Included from) (Excluded to) e.0 ≡ is_some (below path e.0.items) = rw (f, t) (in_range-below path e.0.items) in
    let rest : List (Bytes × X) = entries_between key_cmp (Included from) (Excluded to) es in
    filter_step (range_contains key_cmp (Included from) (Excluded to) e.0) seen_entry e rest _ (between_seen path from to es f t)
    ∙ ap (λ b. cond b (seen_entry e ∷ filter (λ d. is_some (below path d.0)) (map seen_entry es)) (filter (λ d. is_some (below path d.0)) (map seen_entry es))) here

-- the one key isn't behind the other
pub forward : (path : List ℕ) → is_gt (byte_cmp (path ++ 47 ∷ []) (path ++ 48 ∷ [])) ≡ false
forward [] = refl
forward (p ∷ ps) = by (nat_cmp p p) (ranks p p) (forward ps)
  where
    by : (r : Ordering) → MatchOrdering r (p < p) (p ≡ p) (p < p) → is_gt (byte_cmp (ps ++ 47 ∷ []) (ps ++ 48 ∷ [])) ≡ false → is_gt (ordering_then r (byte_cmp (ps ++ 47 ∷ []) (ps ++ 48 ∷ []))) ≡ false
    by Less lt h = refl
    by Equal e h = h
    by Greater gt h = absurd (omega arith)
