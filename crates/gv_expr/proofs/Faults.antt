-- The first fault of tokens that are written of trees, in any language; `good` says at which depth the trees are good.
use Rattle.std.proofs.Common.{◌≡◌, ℕ, ◌+◌, ◌-◌, ◌<◌, ◌≤◌, Bool, true, false, cond, nat_lt, List, [], ◌∷◌, ◌++◌, length, Option, Some, None, refl, ap, sym, ◌∙◌, append_assoc, add-zero, append-nil, length-append, arith}
use Rattle.std.proofs.lemmas.Grind.{common_steps}
use Rattle.gv_expr.specs.declared.token.Token.{Token}
use Rattle.gv_expr.specs.declared.token.Token.TheVariants.{Open, Close}
use Rattle.gv_expr.specs.declared.fault.ExprKind.{ExprKind}
use Rattle.gv_expr.specs.declared.fault.ExprKind.TheVariants.{Depth}
use Rattle.gv_expr.specs.TokenFaults.{Language, is_head, depth_after, unless, fault_of, fault_here, or_else, fault_from, first_fault}

or_else_none : (k : ℕ) (o : Option ExprKind) (l : Option (ℕ × ExprKind)) → or_else k o l ≡ None → (o ≡ None) × (l ≡ None)
or_else_none k None l e = (refl, e)
or_else_none k (Some f) l e = cc

cond_later : (b : Bool) (f : ExprKind) (o : Option ExprKind) → cond b (Some f) o ≡ None → (b ≡ false) × (o ≡ None)
cond_later true f o e = cc
cond_later false f o e = (refl, e)

pub unless_none : (b : Bool) (f : ExprKind) → unless b f ≡ None → b ≡ true
unless_none true f e = refl
unless_none false f e = cc

within_limit : (k : ℕ) → nat_lt 100000 k ≡ false → k ≤ 100000
within_limit k e = grind (arith, common_steps)

within_depth : (d : ℕ) → nat_lt d 64 ≡ true → d < 64
within_depth d e = grind (arith, common_steps)

-- one token that is not at fault
pub record Passes (l : Language) (t : Token) (head : Bool) (depth k : ℕ) (ts : List Token) : Type 0 where
  pub few : k ≤ 100000
  pub good : fault_of l t head depth ≡ None
  pub later : fault_from l (is_head t) (depth_after t depth) (k + 1) ts ≡ None

pub passes : (l : Language) (t : Token) (head : Bool) (depth k : ℕ) (ts : List Token) → fault_from l head depth k (t ∷ ts) ≡ None → Passes l t head depth k ts
passes l t head depth k ts e =
    let p = or_else_none k (fault_here l k t head depth) _ e in
    let q = cond_later (nat_lt 100000 k) _ _ p.0 in
    record { few = within_limit k q.0; good = q.1; later = p.1 }

-- behind a token that opens and closes nothing
pub behind_token : (l : Language) (t : Token) (head : Bool) (depth k : ℕ) (ts : List Token) → is_head t ≡ head → depth_after t depth ≡ depth
    → fault_from l (is_head t) (depth_after t depth) k ts ≡ fault_from l head depth k ts
behind_token l t head depth k ts h d = ap (λ x. fault_from l x (depth_after t depth) k ts) h ∙ ap (λ x. fault_from l head x k ts) d

after_close : (l : Language) (depth k : ℕ) (rest : List Token) → fault_from l false (depth + 1) k (Close ∷ rest) ≡ None → (k ≤ 100000) × (fault_from l false depth (k + 1) rest ≡ None)
after_close l depth k rest e =
    let p = passes l Close false (depth + 1) k rest e in
    let d : depth + 1 - 1 ≡ depth = omega arith in
    (p.few, rw d at p.later)

-- tokens that others follow, without a fault
pub record Spelled (l : Language) (ts : List Token) (is_good : Type 0) (depth k : ℕ) (rest : List Token) : Type 0 where
  pub good : is_good
  pub few : k + length ts ≤ 100001
  pub later : fault_from l false depth (k + length ts) rest ≡ None

-- tokens without a fault are those of good trees, within the limits
unfoldable pub Spells : Language → List Token → (ℕ → Type 0) → Type 0
Spells l ts good = (rest : List Token) (depth k : ℕ) → k ≤ 100001 → fault_from l false depth k (ts ++ rest) ≡ None → Spelled l ts (good depth) depth k rest

pub none_spells : (l : Language) → Spells l [] (λ depth. Unit {0})
unfolding Spells
none_spells l rest depth k few e = record { good = tt; few = omega arith; later = rw add-zero e }

-- a token that is no head before others
pub leaf_spells : (l : Language) (t : Token) (ts : List Token) (one : Type 0) (more : ℕ → Type 0) → is_head t ≡ false → ((n : ℕ) → depth_after t n ≡ n)
    → ((depth : ℕ) → fault_of l t false depth ≡ None → one) → Spells l ts more → Spells l (t ∷ ts) (λ depth. one × more depth)
unfolding Spells
leaf_spells l t ts one more h d good of_ts rest depth k few e =
    let p = passes l t false depth k _ e in
    let r = of_ts rest depth (k + 1) (omega (arith, p.few)) (sym (behind_token l t false depth (k + 1) (ts ++ rest) h (d depth)) ∙ p.later) in
    let n : k + 1 + length ts ≡ k + length (t ∷ ts) = omega arith in
    record { good = (good depth p.good, r.good); few = rw n at r.few; later = rw n at r.later }

-- a group from its `(` on, and what follows it
abbrev pub group : List Token → List Token → List Token
group items ts = Open ∷ (items ++ Close ∷ ts)

abbrev pub IsGroup : (ℕ → Type 0) → (ℕ → Type 0) → ℕ → Type 0
IsGroup inside behind depth = (depth < 64) × inside (depth + 1) × behind depth

grouped : (l : Language) (items ts : List Token) (inside behind : ℕ → Type 0) → Spells l items inside → Spells l ts behind → (head : Bool) (rest : List Token) (depth k : ℕ)
    → fault_from l head depth k (group items ts ++ rest) ≡ None → Spelled l (group items ts) (IsGroup inside behind depth) depth k rest
unfolding Spells
grouped l items ts inside behind of_items of_ts head rest depth k e =
    let p = passes l Open head depth k _ e in
    let within : fault_from l false (depth + 1) (k + 1) (items ++ Close ∷ (ts ++ rest)) ≡ None = rw append_assoc at p.later in
    let a = of_items (Close ∷ (ts ++ rest)) (depth + 1) (k + 1) (omega (arith, p.few)) within in
    let c = after_close l depth (k + 1 + length items) (ts ++ rest) a.later in
    let b = of_ts rest depth (k + 1 + length items + 1) (omega (arith, c.0)) c.1 in
    let n : k + 1 + length items + 1 + length ts ≡ k + length (group items ts) = omega (arith, length-append items (Close ∷ ts)) in
    record { good = (within_depth depth (unless_none (nat_lt depth 64) Depth p.good), a.good, b.good); few = rw n at b.few; later = rw n at b.later }

pub group_spells : (l : Language) (items ts : List Token) (inside behind : ℕ → Type 0) → Spells l items inside → Spells l ts behind → Spells l (group items ts) (IsGroup inside behind)
unfolding Spells
group_spells l items ts inside behind of_items of_ts rest depth k few e = grouped l items ts inside behind of_items of_ts false rest depth k e

-- a head before a group
pub head_spells : (l : Language) (t : Token) (items ts : List Token) (inside behind whole : ℕ → Type 0) → is_head t ≡ true → ((n : ℕ) → depth_after t n ≡ n)
    → ((depth : ℕ) → fault_of l t false depth ≡ None → IsGroup inside behind depth → whole depth) → Spells l items inside → Spells l ts behind → Spells l (t ∷ group items ts) whole
unfolding Spells
head_spells l t items ts inside behind whole h d good of_items of_ts rest depth k few e =
    let p = passes l t false depth k (group items ts ++ rest) e in
    let g = grouped l items ts inside behind of_items of_ts true rest depth (k + 1) (sym (behind_token l t true depth (k + 1) (group items ts ++ rest) h (d depth)) ∙ p.later) in
    let n : k + 1 + length (group items ts) ≡ k + length (t ∷ group items ts) = omega arith in
    record { good = good depth p.good g.good; few = rw n at g.few; later = rw n at g.later }

pub no_fault : (l : Language) (ts : List Token) (good : ℕ → Type 0) → Spells l ts good → first_fault l ts ≡ None → good 0 × (length ts ≤ 100000)
unfolding Spells
no_fault l ts good of_ts e =
    let s = of_ts [] 0 1 (omega arith) (rw append-nil e) in
    (s.good, omega (arith, s.few))
