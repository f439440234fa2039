-- By records alone.
use Rattle.std.proofs.Common.{◌≡◌, ℕ, zero, suc, ◌<◌, ◌^◌, true, List, [], sym, subst, arith}
use Rattle.gv_cert.specs.Backing.{IsFirstBacked, NoneBacked}
use Rattle.gv_cert.specs.Known.{KnownRecord}
use Rattle.gv_cert.specs.declared.claim.Claim.{Claim}
use Rattle.gv_logic.specs.Circuits.{Circuit}
use Rattle.gv_query.specs.Asking.{IsAnswered, IsSpent}
use Rattle.gv_query.specs.Truth.{IsSo}

-- what the records know of gates, with whatever budget
pub is_recalled : (g : Circuit) (budget : ℕ) (given : List KnownRecord) (claim : Claim) → IsFirstBacked g given claim → IsSo g claim → IsAnswered g budget given claim true
is_recalled g budget given claim first so = record { so = so; backed = first.backs; comes = first }

some_bits : (n : ℕ) → 0 < 2 ^ n
some_bits zero = omega arith
some_bits (suc n) = let h = some_bits n in omega (arith, h)

-- and where there is no budget, that none is backed
pub none_recalled : (g : Circuit) (budget : ℕ) (given : List KnownRecord) → budget ≡ 0 → NoneBacked g given → IsSpent g budget given []
none_recalled g budget given e none = record { none = none; kept = tt; count = sym e; wide = subst (λ b. b < 2 ^ g.inputs) (sym e) (some_bits g.inputs) }
