-- Of queries that are judged at most one is lowered, and at most one solved, for each.
use Rattle.std.proofs.Common.{◌≡◌, inl, inr, ℕ, ◌+◌, ◌≤◌, Bool, true, false, not, List, [], ◌∷◌, ◌++◌, length, map, filter, refl, ap, length-append, arith}
use Rattle.std.specs.Prelude.{fold, if◌then◌else◌}
use Rattle.std.proofs.lemmas.List.{length-map}
use Rattle.gv_base.specs.Counts.{Counts}
use Rattle.gv_cert.specs.Known.{KnownRecord}
use Rattle.gv_logic.specs.Circuits.{Circuit}
use Rattle.gv_query.specs.Asking.{MayCount}
use Rattle.gv_checks.specs.Certs.{AreCerts, Cert, CountsAtMost, has_gates, new_count, with_use}
use Rattle.gv_checks.specs.Queries.{Query, gates_of}
use Rattle.gv_checks.specs.Shared.{MayLower}

pub at_most : (a b c n : ℕ) → b ≤ c → n ≡ a + b → n ≤ a + c
at_most a b c n le is = omega (arith, le, is)

filter_few : (p : Cert → Bool) (cs : List Cert) → length (filter p cs) ≤ length cs
filter_few p [] = omega arith
filter_few p (c ∷ cs) = by (p c) refl (filter_few p cs)
  where
    by : (b : Bool) → p c ≡ b → length (filter p cs) ≤ length cs → length (filter p (c ∷ cs)) ≤ length (c ∷ cs)
    by true e k = rw e (omega (arith, k))
    by false e k = rw e (omega (arith, k))

uses_few : (done gs : List Circuit) → length (fold with_use done gs) ≤ length done + length gs
uses_few done [] = omega arith
uses_few done (g ∷ gs) = by (has_gates done g) refl (uses_few done gs) (uses_few (done ++ g ∷ []) gs)
  where
    by : (b : Bool) → has_gates done g ≡ b → length (fold with_use done gs) ≤ length done + length gs → length (fold with_use (done ++ g ∷ []) gs) ≤ length (done ++ g ∷ []) + length gs
        → length (fold with_use (if has_gates done g then done else done ++ g ∷ []) gs) ≤ length done + length (g ∷ gs)
    by true e k more = rw e (omega (arith, k))
    by false e k more = let l = length-append done (g ∷ []) in rw e (omega (arith, more, l))

pub new_few : (budget : ℕ) (given : List KnownRecord) (qs : List Query) (certs : List Cert) → AreCerts budget given (map gates_of qs) certs → new_count certs ≤ length qs
new_few budget given qs certs are =
    let new : new_count certs ≤ length certs = filter_few (λ c. not c.reused) certs in
    let each : length (map (λ (c : Cert). c.gates) certs) ≡ length certs = length-map certs (λ c. c.gates) in
    let distinct : length (map (λ (c : Cert). c.gates) certs) ≡ length (fold with_use [] (map gates_of qs)) = ap length are.gates_are in
    let few : length (fold with_use [] (map gates_of qs)) ≤ 0 + length (map gates_of qs) = uses_few [] (map gates_of qs) in
    let all : length (map gates_of qs) ≡ length qs = length-map qs gates_of in
    omega (arith, new, each, distinct, few, all)

-- ---- whatever judging answers

-- nothing is counted
pub nothing_counted : (most : ℕ) (c : Counts) → CountsAtMost most c c
nothing_counted most c = record { lowered = omega arith; solved = omega arith }

-- of one query
lower_once : (before now : Counts) → MayLower before now → CountsAtMost 1 before now × (now.solve ≡ before.solve)
lower_once before now (inl e) =
    let l : now.lower ≡ before.lower = ap (λ (c : Counts). c.lower) e in
    let s : now.solve ≡ before.solve = ap (λ (c : Counts). c.solve) e in
    (record { lowered = omega (arith, l); solved = omega (arith, s) }, s)
lower_once before now (inr e) =
    let l : now.lower ≡ before.lower + 1 = ap (λ (c : Counts). c.lower) e in
    let s : now.solve ≡ before.solve = ap (λ (c : Counts). c.solve) e in
    (record { lowered = omega (arith, l); solved = omega (arith, s) }, s)

pub lowered_once : (before now : Counts) → MayLower before now → CountsAtMost 1 before now
lowered_once before now may = (lower_once before now may).0

pub judged_once : (before between now : Counts) → MayLower before between → MayCount between now → CountsAtMost 1 before now
judged_once before between now may (inl e) =
    let once = lower_once before between may in
    let few = once.0 in
    let l : now.lower ≡ between.lower = ap (λ (c : Counts). c.lower) e in
    let s : now.solve ≡ between.solve = ap (λ (c : Counts). c.solve) e in
    record { lowered = omega (arith, few.lowered, l); solved = omega (arith, few.solved, s) }
judged_once before between now may (inr e) =
    let once = lower_once before between may in
    let few = once.0 in
    let l : now.lower ≡ between.lower = ap (λ (c : Counts). c.lower) e in
    let s : now.solve ≡ between.solve + 1 = ap (λ (c : Counts). c.solve) e in
    record { lowered = omega (arith, few.lowered, l); solved = omega (arith, once.1, s) }

-- of some, and of some more
pub counted_more : (xs ys whole : List Query) (n0 n1 n2 : Counts) → whole ≡ xs ++ ys → CountsAtMost (length xs) n0 n1 → CountsAtMost (length ys) n1 n2 → CountsAtMost (length whole) n0 n2
counted_more xs ys whole n0 n1 n2 e some more =
    let all : length whole ≡ length (xs ++ ys) = ap length e in
    let both : length (xs ++ ys) ≡ length xs + length ys = length-append xs ys in
    record { lowered = omega (arith, all, both, some.lowered, more.lowered); solved = omega (arith, all, both, some.solved, more.solved) }

pub counted_first : (xs ys whole : List Query) (n0 n1 : Counts) → whole ≡ xs ++ ys → CountsAtMost (length xs) n0 n1 → CountsAtMost (length whole) n0 n1
counted_first xs ys whole n0 n1 e some = counted_more xs ys whole n0 n1 n1 e some (nothing_counted (length ys) n1)
