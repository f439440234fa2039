-- Files that are fetched one after another.
use Rattle.std.proofs.Common.{◌≡◌, ℕ, zero, suc, ◌+◌, ◌<◌, ◌≤◌, Bool, ◌||◌, get_or, true, false, List, [], ◌∷◌, ◌++◌, length, drop, refl, sym, ap, subst, ◌∙◌, inl, inr, arith, append_assoc, append-nil, drop-cons}
use Rattle.std.specs.Prelude.{Option}
use Rattle.std.specs.Str.{bytes_eq}
use Rattle.std.proofs.lemmas.Cmp.{nat_list_eq_equiv}
use Rattle.gv_base.specs.Causes.{Rose}
use Rattle.gv_base.specs.FileMap.{FileMap}
use Rattle.gv_base.specs.Order.{has_text}
use Rattle.gv_cert.specs.Known.{KnownRecord}
use Rattle.gv_ending.specs.declared.refusal.Refusal.{Refusal}
use Rattle.gv_ending.specs.declared.refusal.Refusal.TheVariants.{StoreFailed, NoMemory, Limit}
use Rattle.gv_ending.specs.Causes.{FailsAt, FailsAtOne, Why, of_store}
use Rattle.gv_ending.specs.Fetching.{AreJoined, AreRecordsAt}

or_true : (a b : Bool) → b ≡ true → (a || b) ≡ true
or_true true b h = refl
or_true false b h = h

-- a path that stands among others is one of them
is_among : (paths : List (List ℕ)) (i : ℕ) (path : List ℕ) → i < length paths → path ≡ get_or paths i path → has_text paths path ≡ true
is_among [] i path few is = absurd (omega (arith, few))
is_among (p ∷ ps) zero path few is = ap (λ b. b || has_text ps path) (subst (λ q. bytes_eq path q ≡ true) is (nat_list_eq_equiv.refl path))
is_among (p ∷ ps) (suc i) path few is = or_true (bytes_eq path p) (has_text ps path) (is_among ps i path (omega (arith, few)) is)

pub one_fails : (paths : List (List ℕ)) (i : ℕ) (path : List ℕ) → i < length paths → path ≡ get_or paths i path → (before middle now : ℕ) → middle ≡ before → (refusal : Refusal) → Why (of_store (FailsAt path middle now)) refusal
    → Why (of_store (FailsAtOne paths before now)) refusal
one_fails paths i path few is before middle now calm (StoreFailed place) fails =
    (subst (λ p. has_text paths p ≡ true) (sym fails.0) (is_among paths i path few is), subst (λ n. Rose n now) calm fails.1)
one_fails paths i path few is before middle now calm NoMemory any = tt
one_fails paths i path few is before middle now calm (Limit place number) (inl none) = absurd none
one_fails paths i path few is before middle now calm (Limit place number) (inr (inl none)) = absurd none
one_fails paths i path few is before middle now calm (Limit place number) (inr (inr none)) = absurd none
one_fails paths i path few is before middle now calm other none = absurd none

none_left : (paths : List (List ℕ)) (i : ℕ) → length paths ≤ i → drop i paths ≡ []
none_left [] i all = drop_none i
  where
    drop_none : (n : ℕ) → ◌≡◌ {A = List (List ℕ)} (drop n []) []
    drop_none zero = refl
    drop_none (suc n) = refl
none_left (p ∷ ps) zero all = absurd (omega (arith, all))
none_left (p ∷ ps) (suc i) all = none_left ps i (omega (arith, all))

pub all_joined : (kept : Option FileMap) (paths : List (List ℕ)) (i : ℕ) (joined : List KnownRecord) → length paths ≤ i
    → ((rest : List KnownRecord) → AreJoined kept (drop i paths) rest → AreJoined kept paths (joined ++ rest)) → AreJoined kept paths joined
all_joined kept paths i joined all joins = subst (AreJoined kept paths) (append-nil joined) (joins [] (subst (λ ps. AreJoined kept ps []) (sym (none_left paths i all)) refl))

dropped : (paths : List (List ℕ)) (i : ℕ) (path : List ℕ) → i < length paths → path ≡ get_or paths i path → drop i paths ≡ path ∷ drop (i + 1) paths
dropped paths i path few is = let next : suc i ≡ i + 1 = omega arith in drop-cons paths i path few ∙ (ap (λ p. p ∷ drop (suc i) paths) (sym is) ∙ ap (λ k. path ∷ drop k paths) next)

-- one file more
pub joins_more : (kept kept' : Option FileMap) (paths : List (List ℕ)) (i : ℕ) (path : List ℕ) → i < length paths → path ≡ get_or paths i path → kept' ≡ kept → (joined known more : List KnownRecord) → AreRecordsAt kept' path known
    → more ≡ joined ++ known → ((rest : List KnownRecord) → AreJoined kept (drop i paths) rest → AreJoined kept paths (joined ++ rest)) → (rest : List KnownRecord) → AreJoined kept (drop (i + 1) paths) rest
    → AreJoined kept paths (more ++ rest)
joins_more kept kept' paths i path few is same joined known more reads longer joins rest after =
    let all : AreJoined kept (path ∷ drop (i + 1) paths) (known ++ rest) = (known, rest, subst (λ k. AreRecordsAt k path known) same reads, after, refl) in
    let here : AreJoined kept (drop i paths) (known ++ rest) = subst (λ ps. AreJoined kept ps (known ++ rest)) (sym (dropped paths i path few is)) all in
    subst (AreJoined kept paths) (sym (append_assoc joined known rest) ∙ ap (λ xs. xs ++ rest) (sym longer)) (joins (known ++ rest) here)
