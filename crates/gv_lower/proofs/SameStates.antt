-- What flags whose states have the same keys have in common.
use Rattle.std.proofs.Common.{◌≡◌, ℕ, Bool, nat_eq, cond, List, [], ◌∷◌, ◌++◌, filter, map, refl, sym, ap, ◌∙◌}
use Rattle.std.specs.Prelude.{fold}
use Rattle.std.specs.List.{AllByRecursion}
use Rattle.std.specs.BTreeSet.{insert_key}
use Rattle.std.specs.Ordering.{match_ordering}
use Rattle.std.specs.declared.cmp.Ordering.{Ordering}
use Rattle.std.specs.declared.cmp.Ordering.TheVariants.{Less, Equal, Greater}
use Rattle.gv_base.specs.Order.{byte_cmp, in_order}
use Rattle.gv_facts.specs.declared.kinds.FlagState.{FlagState}
use Rattle.gv_facts.specs.declared.kinds.FlagState.TheVariants.{Absent, Off, On, Free}
use Rattle.gv_entry.specs.Allowed.{Parent, is_forced, is_free, parent_state, query_flags}
use Rattle.gv_lower.specs.Keys.{flags_key, other_key, own_key}

free_by : (s : FlagState) → is_free s ≡ nat_eq (own_key s) 2
free_by Absent = refl
free_by Off = refl
free_by On = refl
free_by Free = refl

forced_by : (s : FlagState) → is_forced s ≡ nat_eq (own_key s) 1
forced_by Absent = refl
forced_by Off = refl
forced_by On = refl
forced_by Free = refl

pub same_free : (s t : FlagState) → own_key s ≡ own_key t → is_free s ≡ is_free t
same_free s t e = free_by s ∙ ap (λ n. nat_eq n 2) e ∙ sym (free_by t)

pub same_forced : (s t : FlagState) → own_key s ≡ own_key t → is_forced s ≡ is_forced t
same_forced s t e = forced_by s ∙ ap (λ n. nat_eq n 1) e ∙ sym (forced_by t)

-- a state by its key
abbrev by_key : ℕ → FlagState
by_key n = cond (nat_eq n 0) Absent (cond (nat_eq n 1) Off (cond (nat_eq n 2) On Free))

key_of : (s : FlagState) → by_key (other_key s) ≡ s
key_of Absent = refl
key_of Off = refl
key_of On = refl
key_of Free = refl

pub same_state : (s t : FlagState) → other_key s ≡ other_key t → s ≡ t
same_state s t e = sym (key_of s) ∙ ap by_key e ∙ key_of t

-- what holds of each flag
pub all_front : {X : Type 0} (P : X → Type 0) (xs ys : List X) → AllByRecursion P (xs ++ ys) → AllByRecursion P xs
all_front P [] ys all = tt
all_front P (x ∷ xs) ys all = (all.0, all_front P xs ys all.1)

pub all_back : {X : Type 0} (P : X → Type 0) (xs ys : List X) → AllByRecursion P (xs ++ ys) → AllByRecursion P ys
all_back P [] ys all = all
all_back P (x ∷ xs) ys all = all_back P xs ys all.1

pub all_same : {X : Type 0} (f g : X → ℕ) (xs : List X) → map f xs ≡ map g xs → AllByRecursion (λ x. f x ≡ g x) xs
all_same f g [] e = tt
all_same f g (x ∷ xs) e = (head_same e, all_same f g xs (tail_same e))
  where
    head_same : {n m : ℕ} {ns ms : List ℕ} → n ∷ ns ≡ m ∷ ms → n ≡ m
    head_same h = cc

    tail_same : {n m : ℕ} {ns ms : List ℕ} → n ∷ ns ≡ m ∷ ms → ns ≡ ms
    tail_same h = cc

pub all_weaker : {X : Type 0} (P Q : X → Type 0) → ((x : X) → P x → Q x) → (xs : List X) → AllByRecursion P xs → AllByRecursion Q xs
all_weaker P Q more [] all = tt
all_weaker P Q more (x ∷ xs) all = (more x all.0, all_weaker P Q more xs all.1)

all_insert : (P : List ℕ → Type 0) (ks : List (List ℕ)) (k : List ℕ) → AllByRecursion P ks → P k → AllByRecursion P (insert_key byte_cmp ks k)
all_insert P [] k kept new = (new, tt)
all_insert P (x ∷ xs) k kept new = by (byte_cmp k x) (all_insert P xs k kept.1 new)
  where
    by : (o : Ordering) → AllByRecursion P (insert_key byte_cmp xs k) → AllByRecursion P (match_ordering o (k ∷ x ∷ xs) (x ∷ xs) (x ∷ insert_key byte_cmp xs k))
    by Less later = (new, kept)
    by Equal later = kept
    by Greater later = (kept.0, later)

all_put : (P : List ℕ → Type 0) (ks xs : List (List ℕ)) → AllByRecursion P ks → AllByRecursion P xs → AllByRecursion P (fold (insert_key byte_cmp) ks xs)
all_put P ks [] kept all = kept
all_put P ks (x ∷ xs) kept all = all_put P (insert_key byte_cmp ks x) xs (all_insert P ks x kept all.0) all.1

all_in_order : (P : List ℕ → Type 0) (xs : List (List ℕ)) → AllByRecursion P xs → AllByRecursion P (in_order xs)
all_in_order P xs all = all_put P [] xs tt all

filter_same : {X : Type 0} (p q : X → Bool) (xs : List X) → AllByRecursion (λ x. p x ≡ q x) xs → filter p xs ≡ filter q xs
filter_same p q [] all = refl
filter_same p q (x ∷ xs) all = ap (λ b. cond b (x ∷ filter p xs) (filter p xs)) all.0 ∙ ap (λ ys. cond (q x) (x ∷ ys) ys) (filter_same p q xs all.1)

-- the flags of a query
pub same_flags : (c d : Parent) (mentions : List (List ℕ)) → flags_key c mentions ≡ flags_key d mentions → query_flags c mentions ≡ query_flags d mentions
same_flags c d mentions e =
    filter_same (λ flag. is_free (parent_state c flag)) (λ flag. is_free (parent_state d flag)) (in_order mentions)
    (all_in_order (λ flag. is_free (parent_state c flag) ≡ is_free (parent_state d flag)) mentions
    (all_weaker (λ flag. own_key (parent_state c flag) ≡ own_key (parent_state d flag)) (λ flag. is_free (parent_state c flag) ≡ is_free (parent_state d flag))
    (λ flag. same_free (parent_state c flag) (parent_state d flag)) mentions
    (all_same (λ flag. own_key (parent_state c flag)) (λ flag. own_key (parent_state d flag)) mentions e)))
