-- How the prover stores a REQUIRED_USE as the value of its model; no rule, and cited by the model of `UseExpr` alone.
use Rattle.std.specs.Prelude.{◌≡◌, ℕ, ◌+◌, ◌⊎◌, Bool, true, false, List, [], ◌∷◌, refl, Option, None, Some}
use Rattle.std.proofs.Common.{◌∙◌, ap, inl, inr}
use Rattle.std.specs.Coded.{Coded, code_by, coded×, coded⊎, coded_ℕ, coded_bool, coded_list, coded_option}
use Rattle.gv_expr.specs.Required.{Req, Reqs, leaf, all, any, one, most, when, end, more, reqs, listed, top}

pub listed-reqs : (ts : List Req) → listed (reqs ts) ≡ ts
listed-reqs [] = refl
listed-reqs (t ∷ ts) = ap (λ r. t ∷ r) (listed-reqs ts)

-- the number of trees at every level
abbrev pub count : Reqs → ℕ
count end = 0
count (more (leaf f n) rest) = count rest + 1
count (more (all items) rest) = count items + count rest + 1
count (more (any items) rest) = count items + count rest + 1
count (more (one items) rest) = count items + count rest + 1
count (more (most items) rest) = count items + count rest + 1
count (more (when f n items) rest) = count items + count rest + 1

abbrev pub size_of : List Req → ℕ
size_of ts = count (reqs ts)

-- A list of trees is stored as the steps that build it, the rest of a list before its first tree:
-- None is the empty list, a flag is a leaf or a conditional, and two bits tell the other groups.
abbrev Step : Type 0
Step = Option ((Bool × (List ℕ × Bool)) ⊎ (Bool × Bool))

abbrev steps : Reqs → List Step → List Step
steps end k = None ∷ k
steps (more (leaf f n) rest) k = steps rest (Some (inl (false, (f, n))) ∷ k)
steps (more (all items) rest) k = steps rest (steps items (Some (inr (false, false)) ∷ k))
steps (more (any items) rest) k = steps rest (steps items (Some (inr (false, true)) ∷ k))
steps (more (one items) rest) k = steps rest (steps items (Some (inr (true, false)) ∷ k))
steps (more (most items) rest) k = steps rest (steps items (Some (inr (true, true)) ∷ k))
steps (more (when f n items) rest) k = steps rest (steps items (Some (inl (true, (f, n))) ∷ k))

abbrev step : Step → List Reqs → List Reqs
step None s = end ∷ s
step (Some (inl (false, (f, n)))) (rest ∷ s) = more (leaf f n) rest ∷ s
step (Some (inr (false, false))) (items ∷ rest ∷ s) = more (all items) rest ∷ s
step (Some (inr (false, true))) (items ∷ rest ∷ s) = more (any items) rest ∷ s
step (Some (inr (true, false))) (items ∷ rest ∷ s) = more (one items) rest ∷ s
step (Some (inr (true, true))) (items ∷ rest ∷ s) = more (most items) rest ∷ s
step (Some (inl (true, (f, n)))) (items ∷ rest ∷ s) = more (when f n items) rest ∷ s
step _ s = s

abbrev built : List Step → List Reqs → List Reqs
built [] s = s
built (o ∷ k) s = built k (step o s)

-- a group's items and then the rest are built before the group
built-steps : (ts : Reqs) (k : List Step) (s : List Reqs) → built (steps ts k) s ≡ built k (ts ∷ s)
built-steps end k s = refl
built-steps (more (leaf f n) rest) k s = built-steps rest (Some (inl (false, (f, n))) ∷ k) s
built-steps (more (all items) rest) k s =
    built-steps rest (steps items (Some (inr (false, false)) ∷ k)) s ∙ built-steps items (Some (inr (false, false)) ∷ k) (rest ∷ s)
built-steps (more (any items) rest) k s =
    built-steps rest (steps items (Some (inr (false, true)) ∷ k)) s ∙ built-steps items (Some (inr (false, true)) ∷ k) (rest ∷ s)
built-steps (more (one items) rest) k s =
    built-steps rest (steps items (Some (inr (true, false)) ∷ k)) s ∙ built-steps items (Some (inr (true, false)) ∷ k) (rest ∷ s)
built-steps (more (most items) rest) k s =
    built-steps rest (steps items (Some (inr (true, true)) ∷ k)) s ∙ built-steps items (Some (inr (true, true)) ∷ k) (rest ∷ s)
built-steps (more (when f n items) rest) k s =
    built-steps rest (steps items (Some (inl (true, (f, n))) ∷ k)) s ∙ built-steps items (Some (inl (true, (f, n))) ∷ k) (rest ∷ s)

pub back : (ts : List Req) → listed (top (built (steps (reqs ts) []) [])) ≡ ts
back ts = ap (λ s. listed (top s)) (built-steps (reqs ts) [] []) ∙ listed-reqs ts

abbrev pub reqs_code : Coded (List Req)
reqs_code =
    code_by (List Step) (coded_list (coded_option (coded⊎ (coded× coded_bool (coded× (coded_list coded_ℕ) coded_bool)) (coded× coded_bool coded_bool)))) (λ ts. steps (reqs ts) []) (λ k. listed (top (built k []))) back
