-- What is known in each of some profiles holds in one of them.
use Rattle.std.proofs.Common.{◌≡◌, ℕ, zero, suc, Bool, true, false, ◌||◌, ◌&&◌, List, [], ◌∷◌, ◌++◌, refl, sym, ap, ◌∙◌, Some}
use Rattle.std.specs.Prelude.{if◌then◌else◌, fold, slice_get}
use Rattle.std.specs.List.{list_any}
use Rattle.std.specs.Str.{bytes_eq}
use Rattle.std.proofs.lemmas.Bool.{false≢true}
use Rattle.gv_base.specs.Order.{has_text}
use Rattle.gv_facts.specs.Effective.{expand_flags, unprefixed_flags}
use Rattle.gv_facts.specs.Places.{names_flag}
use Rattle.gv_facts.specs.States.{applies, is_same, state}
use Rattle.gv_facts.specs.declared.kinds.FlagState.TheVariants.{Free}
use Rattle.gv_facts.specs.declared.kinds.Level.{Level}
use Rattle.gv_facts.specs.declared.pkg.Pkg.{Pkg}
use Rattle.gv_facts.specs.declared.profile.Profile.{Profile}
use Rattle.gv_facts.specs.declared.rules.Effect.{Effect}
use Rattle.gv_facts.specs.declared.rules.Effect.TheVariants.{Force, Mask}
use Rattle.gv_facts.specs.declared.rules.Rule.{Rule}
use Rattle.gv_usestate.specs.Kinds.{IsKind, IsOneOf, flag_kind, is_ruled}
use Rattle.gv_usestate.specs.declared.ruled.FlagKind.TheVariants.{Plain, Listed, Other}

one : {A : Type 0} {a b : A} → Some a ≡ Some b → a ≡ b
one h = cc

none_at : {A : Type 0} (test : A → Bool) (xs : List A) (n : ℕ) (x : A) → slice_get xs n ≡ Some x → list_any test xs ≡ false → test x ≡ false
none_at test [] n x there h = cc
none_at test (y ∷ ys) zero x there h = by (test y) refl h
  where
    by : (b : Bool) → test y ≡ b → (b || list_any test ys) ≡ false → test x ≡ false
    by true e i = absurd (false≢true (sym i))
    by false e i = ap test (sym (one there)) ∙ e
none_at test (y ∷ ys) (suc n) x there h = by (test y) h (none_at test ys n x there)
  where
    by : (b : Bool) → (b || list_any test ys) ≡ false → (list_any test ys ≡ false → test x ≡ false) → test x ≡ false
    by true i later = absurd (false≢true (sym i))
    by false i later = later i

pub kind_in : (profiles : List Profile) (profile : Profile) (p : Pkg) (flag : List ℕ) → IsOneOf profiles profile → IsKind profile p flag (flag_kind profiles p flag)
kind_in profiles profile p flag here = by (has_text p.iuse flag) refl (is_ruled profiles flag) refl
  where
    by : (b : Bool) → has_text p.iuse flag ≡ b → (r : Bool) → is_ruled profiles flag ≡ r → IsKind profile p flag (if b then (if r then Listed else Plain) else Other)
    by true e true f = e
    by true e false f = (e, none_at (λ profile. list_any (names_flag flag) profile.rules) profiles here.place profile here.there f)
    by false e r f = e

-- A flag of IUSE that no rule names is free.
any_front : {A : Type 0} (test : A → Bool) (xs ys : List A) → list_any test xs ≡ true → list_any test (xs ++ ys) ≡ true
any_front test [] ys h = absurd (false≢true h)
any_front test (x ∷ xs) ys h = by (test x) h (any_front test xs ys)
  where
    by : (b : Bool) → (b || list_any test xs) ≡ true → (list_any test xs ≡ true → list_any test (xs ++ ys) ≡ true) → (b || list_any test (xs ++ ys)) ≡ true
    by true i rest = refl
    by false i rest = rest i

no_effect : (effect : Effect) (p : Pkg) (profile : Profile) (level : Level) (flag : List ℕ) (rules : List Rule) → list_any (names_flag flag) rules ≡ false → (on : Bool)
    → fold (λ on r. if is_same effect r.effect && (bytes_eq r.flag flag && applies p profile level r) then r.on else on) on rules ≡ on
no_effect effect p profile level flag [] none on = refl
no_effect effect p profile level flag (r ∷ rules) none on = by (bytes_eq r.flag flag) refl (is_same effect r.effect) refl none (λ i. no_effect effect p profile level flag rules i on)
  where
    by : (b : Bool) → bytes_eq r.flag flag ≡ b → (s : Bool) → is_same effect r.effect ≡ s → (b || list_any (names_flag flag) rules) ≡ false
        → (list_any (names_flag flag) rules ≡ false → fold (λ on r. if is_same effect r.effect && (bytes_eq r.flag flag && applies p profile level r) then r.on else on) on rules ≡ on)
        → fold (λ on r. if is_same effect r.effect && (bytes_eq r.flag flag && applies p profile level r) then r.on else on) on (r ∷ rules) ≡ on
    by true e s f i rest = absurd (false≢true (sym i))
    by false e true f i rest = rw (f, e) (rest i)
    by false e false f i rest = rw f (rest i)

pub plain_free : (p : Pkg) (profile : Profile) (level : Level) (flag : List ℕ) → has_text p.iuse flag ≡ true → list_any (names_flag flag) profile.rules ≡ false → Free ≡ state p profile level flag
plain_free p profile level flag own none =
    rw (
      any_front (λ t. bytes_eq flag t) p.iuse (profile.iuse_implicit ++ (expand_flags profile ++ unprefixed_flags profile)) own,
      no_effect Mask p profile level flag profile.rules none false,
      no_effect Force p profile level flag profile.rules none false,
    ) refl
