use Rattle.std.proofs.Common.{◌≡◌, ◌<◌, ◌++◌, length}
use Rattle.std.specs.List.{AllByRecursion}
use Rattle.gv_logic.specs.Bytes.{numbers_bytes}
use Rattle.gv_logic.proofs.cursor.Reader.literals.Given as goal

abbrev pub invariant-loop-n : goal.invariant-loop-n
invariant-loop-n l =
    record { count : length l.lits ≡ l.n; below : AllByRecursion (λ x. x < l.bound) l.lits; bytes : l.initial.self ≡ numbers_bytes l.lits ++ l.self }
