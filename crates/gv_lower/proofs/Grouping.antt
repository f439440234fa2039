-- What items ask of flags, flag by flag as they are first named.
use Rattle.std.proofs.Common.{◌≡◌, ℕ, suc, ◌+◌, ◌-◌, ◌<◌, ◌≤◌, Bool, true, false, not, if◌then◌else◌, cond, ◌||◌, List, [], ◌∷◌, ◌++◌, length, map, take, drop, drop-cons, get_or, add-one, refl, sym, ap, ◌∙◌, append_assoc, append-nil, arith, length-drop, Option, Some, None}
use Rattle.std.proofs.Math.ListN.{drop_of_length-le}
use Rattle.std.specs.Prelude.{flat_map}
use Rattle.std.proofs.lemmas.List.{drop-drop, get_or-drop, take_more}
use Rattle.std.proofs.lemmas.List.Folds.{list_any-append}
use Rattle.std.proofs.lemmas.Cmp.{nat_list_eq_equiv}
use Rattle.std.proofs.lemmas.Bool.{false≢true}
use Rattle.std.specs.Cmp.Lexicographic.{same_text}
use Rattle.std.specs.List.{list_any}
use Rattle.std.specs.Str.{bytes_eq}
use Rattle.gv_base.specs.Order.{has_text}
use Rattle.gv_atom.specs.declared.items.UseItem.{UseItem}
use Rattle.gv_lower.specs.AtomGates.{asked_by, first_named, naming}
use Rattle.gv_lower.specs.Asks.{FlagAsks, ask_from, ask_of, asks_of, item_side}
use Rattle.gv_lower.specs.Chains.{HasFlag, next_naming}
use Rattle.gv_lower.specs.TreeGates.{Base}
use Rattle.gv_lower.specs.declared.asks.Side.{Side}
use Rattle.gv_lower.proofs.Chaining.{found_from, from_first, none_from}

-- A walk along the items that name a flag.
abbrev pub StandsAt : List UseItem → List ℕ → Option ℕ → Type 0
StandsAt items flag None = Unit {0}
StandsAt items flag (Some p) = HasFlag items p flag

abbrev pub naming_at : List UseItem → List ℕ → Option ℕ → List UseItem
naming_at items flag None = []
naming_at items flag (Some p) = naming flag (drop p items)

abbrev pub left_at : List UseItem → Option ℕ → ℕ
left_at items None = 0
left_at items (Some p) = length items - p

pub record WalksOn (side : Side) (base : Base) (items : List UseItem) (flag : List ℕ) (first : ℕ) (lits : List ℕ) (at : Option ℕ) : Type 0 where
  pub valid : StandsAt items flag at
  pub left : lits ++ flat_map (item_side side base) (naming_at items flag at) ≡ flat_map (item_side side base) (naming flag (drop first items))

pub walks_first : (side : Side) (base : Base) (items : List UseItem) (flag : List ℕ) (first : ℕ) → HasFlag items first flag → WalksOn side base items flag first [] (Some first)
walks_first side base items flag first has = record { valid = has; left = refl }

module _ (items : List UseItem) (flag : List ℕ) (p : ℕ) (item : UseItem) (lt : p < length items) (here : item ≡ get_or items p item) (named : item.flag ≡ flag) where
  behind : drop p items ≡ item ∷ drop (p + 1) items
  behind = rw add-one (drop-cons items p item lt ∙ ap (λ x. x ∷ drop (suc p) items) (sym here))

  is_named : bytes_eq item.flag flag ≡ true
  is_named = ap (bytes_eq item.flag) (sym named) ∙ nat_list_eq_equiv.refl item.flag

  naming_here : naming flag (drop p items) ≡ item ∷ naming flag (drop (p + 1) items)
  naming_here = ap (naming flag) behind ∙ ap (λ b. cond b (item ∷ naming flag (drop (p + 1) items)) (naming flag (drop (p + 1) items))) is_named

  next_is : (next : Option ℕ) → next ≡ next_naming (p + 1) flag (drop (p + 1) items) → StandsAt items flag next × (naming_at items flag next ≡ naming flag (drop (p + 1) items))
  next_is None is = (tt, sym (none_from (p + 1) flag (drop (p + 1) items) (sym is)))
  next_is (Some q) is =
      let f = found_from (p + 1) flag (drop (p + 1) items) q (sym is) in
      let inside : q < length items = omega (arith, f.place, f.within, length-drop (p + 1) items) in
      let at : (d : UseItem) → (get_or items q d).flag ≡ flag = λ d. ap (λ n. (get_or items n d).flag) f.place ∙ (ap (λ x. x.flag) (sym (get_or-drop (p + 1) items f.j d)) ∙ f.here d) in
      ((inside, at), ap (λ n. naming flag (drop n items)) f.place ∙ (sym (ap (naming flag) (drop-drop f.j (p + 1) items)) ∙ sym f.rest))

  pub next_left : (next : Option ℕ) → next ≡ next_naming (p + 1) item.flag (drop (p + 1) items) → left_at items next < length items - p
  next_left None is = omega (arith, lt)
  next_left (Some q) is =
      let f = found_from (p + 1) item.flag (drop (p + 1) items) q (sym is) in
      omega (arith, f.place, f.within, length-drop (p + 1) items, lt)

  pub walks_next : (side : Side) (base : Base) (first : ℕ) (lits after : List ℕ) (next : Option ℕ) → next ≡ next_naming (p + 1) item.flag (drop (p + 1) items) → after ≡ lits ++ item_side side base item
      → WalksOn side base items flag first lits (Some p) → WalksOn side base items flag first after next
  walks_next side base first lits after next is more on =
      let n = next_is next (is ∙ ap (λ f. next_naming (p + 1) f (drop (p + 1) items)) named) in
      record {
        valid = n.0;
        left = ap (λ xs. after ++ flat_map (item_side side base) xs) n.1
            ∙ (ap (λ xs. xs ++ flat_map (item_side side base) (naming flag (drop (p + 1) items))) more
            ∙ (append_assoc lits (item_side side base item) (flat_map (item_side side base) (naming flag (drop (p + 1) items)))
            ∙ (ap (λ xs. lits ++ flat_map (item_side side base) xs) (sym naming_here) ∙ on.left)));
      }

pub walks_end : (side : Side) (base : Base) (items : List UseItem) (flag : List ℕ) (first : ℕ) (lits : List ℕ) → WalksOn side base items flag first lits None
    → lits ≡ flat_map (item_side side base) (naming flag (drop first items))
walks_end side base items flag first lits on = sym (append-nil lits) ∙ on.left

-- what is left leads to the same end
abbrev before : List UseItem → ℕ → List ℕ → Bool
before items i flag = list_any (λ x. bytes_eq flag x.flag) (take i items)

pub record AsksOn (base : Base) (items : List UseItem) (asks : List FlagAsks) (i : ℕ) : Type 0 where
  pub seen : List (List ℕ)
  pub same : (flag : List ℕ) → has_text seen flag ≡ before items i flag
  pub left : asks ++ map (ask_of base items) (first_named seen (drop i items)) ≡ asks_of base items

pub asks_first : (base : Base) (items : List UseItem) → AsksOn base items [] 0
asks_first base items = record { seen = []; same = λ flag. refl; left = refl }

or_turned : (a b : Bool) → (a || (b || false)) ≡ (b || a)
or_turned true true = refl
or_turned true false = refl
or_turned false true = refl
or_turned false false = refl

or_known : (a b : Bool) → (b ≡ true → a ≡ true) → a ≡ (a || (b || false))
or_known true b h = refl
or_known false true h = absurd (false≢true (h refl))
or_known false false h = refl

pub was_named : (b : Bool) → false ≡ not b → b ≡ true
was_named true h = refl
was_named false h = absurd (false≢true h)

pub was_not : (b : Bool) → true ≡ not b → b ≡ false
was_not true h = absurd (false≢true (sym h))
was_not false h = refl

module _ (base : Base) (items : List UseItem) (asks : List FlagAsks) (i : ℕ) (item : UseItem) (lt : i < length items) (here : item ≡ get_or items i item) where
  at : drop i items ≡ item ∷ drop (i + 1) items
  at = rw add-one (drop-cons items i item lt ∙ ap (λ x. x ∷ drop (suc i) items) (sym here))

  one_more : (flag : List ℕ) → before items (i + 1) flag ≡ (before items i flag || (bytes_eq flag item.flag || false))
  one_more flag =
      ap (list_any (λ x. bytes_eq flag x.flag)) (take_more items i item lt ∙ ap (λ x. take i items ++ x ∷ []) (sym here))
      ∙ list_any-append (λ x. bytes_eq flag x.flag) (take i items) (item ∷ [])

  -- the flag was named
  pub asks_known : before items i item.flag ≡ true → AsksOn base items asks i → AsksOn base items asks (i + 1)
  asks_known has on = record {
    seen = on.seen;
    same = λ flag. on.same flag
        ∙ (or_known (before items i flag) (bytes_eq flag item.flag) (λ e. ap (before items i) (same_text flag item.flag (sym e)) ∙ has) ∙ sym (one_more flag));
    left = ap (λ b. asks ++ map (ask_of base items) (if b then first_named on.seen (drop (i + 1) items) else item.flag ∷ first_named (item.flag ∷ on.seen) (drop (i + 1) items))) (sym (on.same item.flag ∙ has))
        ∙ (ap (λ xs. asks ++ map (ask_of base items) (first_named on.seen xs)) (sym at) ∙ on.left);
  }

  -- it wasn't
  pub asks_new : (ask : FlagAsks) (after : List FlagAsks) → before items i item.flag ≡ false → ask ≡ ask_from item.flag (asked_by base (naming item.flag (drop i items))) → after ≡ asks ++ ask ∷ []
      → AsksOn base items asks i → AsksOn base items after (i + 1)
  asks_new ask after has is more on = record {
    seen = item.flag ∷ on.seen;
    same = λ flag. ap (λ b. bytes_eq flag item.flag || b) (on.same flag) ∙ (sym (or_turned (before items i flag) (bytes_eq flag item.flag)) ∙ sym (one_more flag));
    left = ap (λ xs. xs ++ map (ask_of base items) (first_named (item.flag ∷ on.seen) (drop (i + 1) items))) (more ∙ ap (λ a. asks ++ a ∷ []) whole)
        ∙ (append_assoc asks (ask_of base items item.flag ∷ []) (map (ask_of base items) (first_named (item.flag ∷ on.seen) (drop (i + 1) items)))
        ∙ (ap (λ b. asks ++ map (ask_of base items) (if b then first_named on.seen (drop (i + 1) items) else item.flag ∷ first_named (item.flag ∷ on.seen) (drop (i + 1) items))) (sym (on.same item.flag ∙ has))
        ∙ (ap (λ xs. asks ++ map (ask_of base items) (first_named on.seen xs)) (sym at) ∙ on.left)));
  }
    where
      whole : ask ≡ ask_of base items item.flag
      whole = is ∙ ap (λ xs. ask_from item.flag (asked_by base xs)) (from_first item.flag items i has)

pub asks_last : (base : Base) (items : List UseItem) (asks : List FlagAsks) (i : ℕ) → length items ≤ i → AsksOn base items asks i → asks ≡ asks_of base items
asks_last base items asks i le on =
    sym (append-nil asks) ∙ (ap (λ xs. asks ++ map (ask_of base items) (first_named on.seen xs)) (sym (drop_of_length-le items le)) ∙ on.left)
