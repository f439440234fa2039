-- Tokens without a fault, in any language: what stands behind a head, and at the end.
use Rattle.std.proofs.Common.{◌≡◌, ℕ, ◌<◌, Bool, true, false, cond, nat_eq, List, [], ◌∷◌, Option, Some, None, refl, arith}
use Rattle.std.specs.Prelude.{not}
use Rattle.std.proofs.lemmas.Grind.{common_steps}
use Rattle.gv_expr.specs.declared.token.Token.{Token}
use Rattle.gv_expr.specs.declared.token.Token.TheVariants.{Close}
use Rattle.gv_expr.specs.declared.fault.ExprKind.{ExprKind}
use Rattle.gv_expr.specs.declared.fault.ExprKind.TheVariants.{Stray, Unclosed}
use Rattle.gv_expr.specs.TokenFaults.{Language, fault_of, fault_from}
use Rattle.gv_expr.proofs.Faults.{passes, unless_none}

some_fault : (x : ℕ × ExprKind) → Some x ≡ None → ⊥
some_fault x e = cc

-- what is told at the end
abbrev last_fault : Bool → ℕ → Option (ℕ × ExprKind)
last_fault bad k = cond {A = Option (ℕ × ExprKind)} bad (Some (k, Unclosed)) None

-- behind a head there is a token
pub none_behind : (l : Language) (depth k : ℕ) → fault_from l true depth k [] ≡ None → ⊥
none_behind l depth k e = some_fault (k, Unclosed) e

-- and it is `(`
pub only_open : (l : Language) (t : Token) (depth k : ℕ) (ts : List Token) → fault_of l t true depth ≡ Some Stray → fault_from l true depth k (t ∷ ts) ≡ None → ⊥
only_open l t depth k ts stray e = let p = passes l t true depth k ts e in absurd (apart (fault_of l t true depth) stray p.good)
  where
    apart : (o : Option ExprKind) → o ≡ Some Stray → o ≡ None → ⊥
    apart None a b = cc
    apart (Some f) a b = cc

is_zero : (d : ℕ) → nat_eq d 0 ≡ true → d ≡ 0
is_zero d e = grind (arith, common_steps)

not_zero : (d : ℕ) → nat_eq d 0 ≡ false → 0 < d
not_zero d e = grind (arith, common_steps)

-- at the end no group is open
pub at_end : (l : Language) (depth k : ℕ) → fault_from l false depth k [] ≡ None → depth ≡ 0
at_end l depth k e = by (nat_eq depth 0) refl e
  where
    by : (u : Bool) → nat_eq depth 0 ≡ u → last_fault (not u) k ≡ None → depth ≡ 0
    by true h e = is_zero depth h
    by false h e = absurd (some_fault (k, Unclosed) e)

-- at `)` one is
pub at_close : (l : Language) (depth : ℕ) → fault_of l Close false depth ≡ None → 0 < depth
at_close l depth e = by (nat_eq depth 0) refl (unless_none (not (nat_eq depth 0)) Stray e)
  where
    by : (u : Bool) → nat_eq depth 0 ≡ u → not u ≡ true → 0 < depth
    by true h e = absurd (cc)
    by false h e = not_zero depth h
