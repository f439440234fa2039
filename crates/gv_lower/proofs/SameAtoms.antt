-- Atoms with the same keys are drawn alike.
use Rattle.std.proofs.Common.{◌≡◌, ℕ, ◌+◌, Bool, true, false, cond, if◌then◌else◌, List, [], ◌∷◌, ◌++◌, length, filter, map, refl, sym, ap, ◌∙◌, arith}
use Rattle.std.specs.Prelude.{sum_by, flat_map}
use Rattle.std.specs.List.{AllByRecursion}
use Rattle.std.specs.Str.{bytes_eq}
use Rattle.std.proofs.lemmas.List.{length-map}
use Rattle.std.proofs.lemmas.List.Sums.{sum_by-cons}
use Rattle.gv_base.specs.Order.{has_text}
use Rattle.gv_atom.specs.declared.atom.Atom.{Atom}
use Rattle.gv_atom.specs.declared.atom.Block.TheVariants.{No}
use Rattle.gv_atom.specs.declared.items.UseItem.{UseItem}
use Rattle.gv_atom.specs.declared.items.Ask.{Ask}
use Rattle.gv_atom.specs.declared.items.Ask.TheVariants as asks
use Rattle.gv_atom.specs.Items.{asks_parent, is_blocker}
use Rattle.gv_expr.specs.Mentions.{item_mentions}
use Rattle.gv_facts.specs.States.{state}
use Rattle.gv_facts.specs.declared.kinds.FlagState.{FlagState}
use Rattle.gv_facts.specs.declared.pkg.Pkg.{Pkg}
use Rattle.gv_entry.specs.Allowed.{Parent}
use Rattle.gv_entry.specs.Weight.{atom_weight, candidates}
use Rattle.gv_logic.specs.declared.gates.Op.TheVariants.{Or}
use Rattle.gv_logic.specs.Literals.{opposite}
use Rattle.gv_lower.specs.Plans.{built_on, gate_over, given}
use Rattle.gv_lower.specs.Groups.{all_of}
use Rattle.gv_lower.specs.TreeGates.{Base}
use Rattle.gv_lower.specs.AtomGates.{Asked, asked_by, atom_plan, first_named, flag_plan, item_missing, item_off, item_on, items_plan, naming, off_when, on_when, without_flag}
use Rattle.gv_lower.specs.Keys.{atom_key, candidate_key, other_key}
use Rattle.gv_lower.proofs.SameStates.{all_same, all_weaker, same_state}
use Rattle.gv_lower.proofs.SameTrees.{Agree, base, other}

-- lists of the same length in front of others
pub parts_same : {X : Type 0} (xs ys r s : List X) → length xs ≡ length ys → xs ++ r ≡ ys ++ s → (xs ≡ ys) × (r ≡ s)
parts_same [] [] r s long e = (refl, e)
parts_same [] (y ∷ ys) r s long e = absurd (omega (arith, long))
parts_same (x ∷ xs) [] r s long e = absurd (omega (arith, long))
parts_same (x ∷ xs) (y ∷ ys) r s long e =
    let rest = parts_same xs ys r s (omega (arith, long)) (tail_same e) in
    (ap (λ a. a ∷ xs) (head_same e) ∙ ap (λ as_. y ∷ as_) rest.0, rest.1)
  where
    head_same : {X : Type 0} {n m : X} {ns ms : List X} → n ∷ ns ≡ m ∷ ms → n ≡ m
    head_same h = cc

    tail_same : {X : Type 0} {n m : X} {ns ms : List X} → n ∷ ns ≡ m ∷ ms → ns ≡ ms
    tail_same h = cc

pub append_more : {X : Type 0} (xs ys zs : List X) → (xs ++ ys) ++ zs ≡ xs ++ (ys ++ zs)
append_more [] ys zs = refl
append_more (x ∷ xs) ys zs = ap (λ as_. x ∷ as_) (append_more xs ys zs)

-- Two lists whose items have one by one the same numbers.
module _ {X : Type 0} (k h : X → List ℕ) where
  abbrev pub Paired : List X → List X → Type 0
  Paired [] [] = Unit {0}
  Paired [] (q ∷ qs) = ⊥
  Paired (p ∷ ps) [] = ⊥
  Paired (p ∷ ps) (q ∷ qs) = (k p ≡ h q) × Paired ps qs

  module _ (size : (p q : X) → length (k p) ≡ length (h q)) where
    -- They can be read off their numbers, whatever follows.
    pub cut_same : (ps qs : List X) (r s : List ℕ) → flat_map (λ p. 1 ∷ k p) ps ++ 0 ∷ r ≡ flat_map (λ q. 1 ∷ h q) qs ++ 0 ∷ s → Paired ps qs × (r ≡ s)
    cut_same [] [] r s e = (tt, behind e)
      where
        behind : {n : ℕ} {ns ms : List ℕ} → n ∷ ns ≡ n ∷ ms → ns ≡ ms
        behind h = cc
    cut_same [] (q ∷ qs) r s e = absurd (apart e)
      where
        apart : {ns ms : List ℕ} → 0 ∷ ns ≡ 1 ∷ ms → ⊥
        apart h = cc
    cut_same (p ∷ ps) [] r s e = absurd (apart e)
      where
        apart : {ns ms : List ℕ} → 1 ∷ ns ≡ 0 ∷ ms → ⊥
        apart h = cc
    cut_same (p ∷ ps) (q ∷ qs) r s e =
        let both = parts_same (k p) (h q) (flat_map (λ p. 1 ∷ k p) ps ++ 0 ∷ r) (flat_map (λ q. 1 ∷ h q) qs ++ 0 ∷ s) (size p q)
        (sym (append_more (k p) (flat_map (λ p. 1 ∷ k p) ps) (0 ∷ r)) ∙ (behind e ∙ append_more (h q) (flat_map (λ q. 1 ∷ h q) qs) (0 ∷ s))) in
        let rest = cut_same ps qs r s both.1 in
        ((both.0, rest.0), rest.1)
      where
        behind : {n : ℕ} {ns ms : List ℕ} → n ∷ ns ≡ n ∷ ms → ns ≡ ms
        behind h = cc

  pub paired_map : {Y : Type 0} (f g : X → Y) → ((p q : X) → k p ≡ h q → f p ≡ g q) → (ps qs : List X) → Paired ps qs → map f ps ≡ map g qs
  paired_map f g each [] [] paired = refl
  paired_map f g each [] (q ∷ qs) paired = absurd paired
  paired_map f g each (p ∷ ps) [] paired = absurd paired
  paired_map f g each (p ∷ ps) (q ∷ qs) paired = ap (λ y. y ∷ map f ps) (each p q paired.0) ∙ ap (λ ys. g q ∷ ys) (paired_map f g each ps qs paired.1)

  pub paired_sum : (n : ℕ) (ps qs : List X) → Paired ps qs → sum_by (λ (p : X). n) ps ≡ sum_by (λ (p : X). n) qs
  paired_sum n [] [] paired = refl
  paired_sum n [] (q ∷ qs) paired = absurd paired
  paired_sum n (p ∷ ps) [] paired = absurd paired
  paired_sum n (p ∷ ps) (q ∷ qs) paired =
      sum_by-cons (λ (p : X). n) p ps ∙ (ap (λ m. n + m) (paired_sum n ps qs paired.1) ∙ sym (sum_by-cons (λ (p : X). n) q qs))

map_same : {X Y : Type 0} (f g : X → Y) (xs : List X) → AllByRecursion (λ x. f x ≡ g x) xs → map f xs ≡ map g xs
map_same f g [] all = refl
map_same f g (x ∷ xs) all = ap (λ y. y ∷ map f xs) all.0 ∙ ap (λ ys. g x ∷ ys) (map_same f g xs all.1)

flat_same : {X Y : Type 0} (f g : X → List Y) (xs : List X) → AllByRecursion (λ x. f x ≡ g x) xs → flat_map f xs ≡ flat_map g xs
flat_same f g [] all = refl
flat_same f g (x ∷ xs) all = ap (λ y. y ++ flat_map f xs) all.0 ∙ ap (λ ys. g x ++ ys) (flat_same f g xs all.1)

all_kept : {X : Type 0} (P : X → Type 0) (t : X → Bool) (xs : List X) → AllByRecursion P xs → AllByRecursion P (filter t xs)
all_kept P t [] all = tt
all_kept P t (x ∷ xs) all = by (t x) (all_kept P t xs all.1)
  where
    by : (b : Bool) → AllByRecursion P (filter t xs) → AllByRecursion P (cond b (x ∷ filter t xs) (filter t xs))
    by true rest = (all.0, rest)
    by false rest = rest

-- what holds of the flags of all items holds of each that is named first
all_named : (P : List ℕ → Type 0) (seen : List (List ℕ)) (items : List UseItem) → AllByRecursion (λ (i : UseItem). P i.flag) items → AllByRecursion P (first_named seen items)
all_named P seen [] all = tt
all_named P seen (i ∷ items) all = by (has_text seen i.flag) (all_named P seen items all.1) (all_named P (i.flag ∷ seen) items all.1)
  where
    by : (b : Bool) → AllByRecursion P (first_named seen items) → AllByRecursion P (first_named (i.flag ∷ seen) items)
        → AllByRecursion P (if b then first_named seen items else i.flag ∷ first_named (i.flag ∷ seen) items)
    by true later fresh = later
    by false later fresh = (all.0, fresh)

module _ (f g : List ℕ → ℕ) (on off : ℕ) where
  abbrev b : Base
  b = base f g on off

  abbrev o : Base
  o = other f g on off

  on_same : (ask : Ask) (p q : ℕ) → (asks_parent ask ≡ true → p ≡ q) → (on_when b ask p ≡ on_when o ask q) × (off_when b ask p ≡ off_when o ask q)
  on_same asks.On p q e = (refl, refl)
  on_same asks.Off p q e = (refl, refl)
  on_same asks.Same p q e = (ap (λ l. l ∷ []) (e refl), ap (λ l. opposite l ∷ []) (e refl))
  on_same asks.Opposite p q e = (ap (λ l. opposite l ∷ []) (e refl), ap (λ l. l ∷ []) (e refl))
  on_same asks.OnIf p q e = (ap (λ l. l ∷ []) (e refl), refl)
  on_same asks.OffIfNot p q e = (refl, ap (λ l. opposite l ∷ []) (e refl))

  abbrev ItemSame : UseItem → Type 0
  ItemSame i = (item_on b i ≡ item_on o i) × (item_off b i ≡ item_off o i)

  items_same : (items : List UseItem) → AllByRecursion (Agree f g on off) (item_mentions No items) → AllByRecursion ItemSame items
  items_same [] agree = tt
  items_same (i ∷ items) agree = by (asks_parent i.ask) refl agree (items_same items)
    where
      by : (t : Bool) → asks_parent i.ask ≡ t → AllByRecursion (Agree f g on off) (map (λ (i : UseItem). i.flag) (cond t (i ∷ filter (λ (i : UseItem). asks_parent i.ask) items) (filter (λ (i : UseItem). asks_parent i.ask) items)))
          → (AllByRecursion (Agree f g on off) (item_mentions No items) → AllByRecursion ItemSame items) → AllByRecursion ItemSame (i ∷ items)
      by true is known rest = (on_same i.ask (f i.flag) (g i.flag) (λ asked. known.0), rest known.1)
      by false is known rest = (on_same i.ask (f i.flag) (g i.flag) (λ asked. absurd (never (asks_parent i.ask) is asked)), rest known)
        where
          never : (t : Bool) → t ≡ false → t ≡ true → ⊥
          never t e h = cc

  abbrev asked : (on off missing : List ℕ) → Asked
  asked x y z = record { on = x; off = y; missing = z }

  asked_same : (items : List UseItem) → AllByRecursion ItemSame items → asked_by b items ≡ asked_by o items
  asked_same items all =
      made (flat_same (item_on b) (item_on o) items (all_weaker ItemSame (λ i. item_on b i ≡ item_on o i) (λ i s. s.0) items all))
      (flat_same (item_off b) (item_off o) items (all_weaker ItemSame (λ i. item_off b i ≡ item_off o i) (λ i s. s.1) items all))
      (flat_same (item_missing b) (item_missing o) items (all_weaker ItemSame (λ i. item_missing b i ≡ item_missing o i)
      (λ i s. ap (λ l. without_flag i.missing l (item_off b i)) s.0 ∙ ap (λ l. without_flag i.missing (item_on o i) l) s.1) items all))
    where
      made : {x y z u v w : List ℕ} → x ≡ u → y ≡ v → z ≡ w → asked x y z ≡ asked u v w
      made e1 e2 e3 = rw (e1, e2, e3) refl

  plan_same : (items : List UseItem) (states others : List ℕ → FlagState) → AllByRecursion ItemSame items → AllByRecursion (λ (i : UseItem). states i.flag ≡ others i.flag) items
      → items_plan b states items ≡ items_plan o others items
  plan_same items states others same alike =
      ap (built_on all_of) (map_same (λ flag. flag_plan (states flag) (asked_by b (naming flag items))) (λ flag. flag_plan (others flag) (asked_by o (naming flag items))) (first_named [] items)
      (all_weaker (λ flag. states flag ≡ others flag) (λ flag. flag_plan (states flag) (asked_by b (naming flag items)) ≡ flag_plan (others flag) (asked_by o (naming flag items)))
      (λ flag e. ap (λ s. flag_plan s (asked_by b (naming flag items))) e ∙ ap (flag_plan (others flag)) (asked_same (naming flag items) (all_kept ItemSame (λ i. bytes_eq i.flag flag) items same)))
      (first_named [] items) (all_named (λ flag. states flag ≡ others flag) [] items alike)))

abbrev pub states_key : Parent → Atom → Pkg → List ℕ
states_key c atom p = map (λ (i : UseItem). other_key (state p c.profile c.level i.flag)) atom.items

-- the candidates of the atom, one by one
abbrev pub PairedAt : Parent → Parent → Atom → Type 0
PairedAt c d atom = Paired (states_key c atom) (states_key d atom) (candidates c atom) (candidates d atom)

module _ (c d : Parent) (f g : List ℕ → ℕ) (on off : ℕ) where
  pub blocked_same : (a : Atom) → is_blocker a.block ≡ true → atom_plan c (base f g on off) a ≡ atom_plan d (other f g on off) a
  blocked_same a is = rw is refl

  pub atom_same : (a : Atom) → PairedAt c d a → AllByRecursion (Agree f g on off) (item_mentions No a.items) → atom_plan c (base f g on off) a ≡ atom_plan d (other f g on off) a
  atom_same a paired agree =
      ap (λ plans. if is_blocker a.block then given on else built_on (gate_over Or) plans)
      (paired_map (states_key c a) (states_key d a) (λ p. items_plan (base f g on off) (state p c.profile c.level) a.items) (λ p. items_plan (other f g on off) (state p d.profile d.level) a.items)
      (λ p q e. plan_same f g on off a.items (state p c.profile c.level) (state q d.profile d.level) (items_same f g on off a.items agree)
      (all_weaker (λ (i : UseItem). other_key (state p c.profile c.level i.flag) ≡ other_key (state q d.profile d.level i.flag)) (λ (i : UseItem). state p c.profile c.level i.flag ≡ state q d.profile d.level i.flag)
      (λ i. same_state (state p c.profile c.level i.flag) (state q d.profile d.level i.flag)) a.items
      (all_same (λ (i : UseItem). other_key (state p c.profile c.level i.flag)) (λ (i : UseItem). other_key (state q d.profile d.level i.flag)) a.items e)))
      (candidates c a) (candidates d a) paired)

  pub weight_same : (a : Atom) → PairedAt c d a → atom_weight c a ≡ atom_weight d a
  weight_same a paired = paired_sum (states_key c a) (states_key d a) (1 + length a.items) (candidates c a) (candidates d a) paired

  pub atoms_paired : (atoms : List Atom) → flat_map (atom_key c) atoms ≡ flat_map (atom_key d) atoms → AllByRecursion (PairedAt c d) atoms
  atoms_paired [] e = tt
  atoms_paired (a ∷ atoms) e =
      let cut = cut_same (states_key c a) (states_key d a) (λ p q. length-map a.items _ ∙ sym (length-map a.items _)) (candidates c a) (candidates d a) (flat_map (atom_key c) atoms) (flat_map (atom_key d) atoms)
      (sym (append_more (flat_map (λ p. candidate_key (state p c.profile c.level) a.items) (candidates c a)) (0 ∷ []) (flat_map (atom_key c) atoms))
      ∙ (e ∙ append_more (flat_map (λ p. candidate_key (state p d.profile d.level) a.items) (candidates d a)) (0 ∷ []) (flat_map (atom_key d) atoms))) in
      (cut.0, atoms_paired atoms cut.1)
