-- How the prover stores a dependency as the value of its model; no rule, and cited by the model of `DepExpr` alone.
use Rattle.std.specs.Prelude.{◌≡◌, ℕ, ◌+◌, ◌⊎◌, Bool, true, false, List, [], ◌∷◌, refl, Option, None, Some}
use Rattle.std.proofs.Common.{◌∙◌, ap, inl, inr}
use Rattle.std.specs.Coded.{Coded, code_by, coded×, coded⊎, coded_ℕ, coded_bool, coded_list, coded_option}
use Rattle.gv_atom.specs.declared.atom.Atom.{Atom}
use Rattle.gv_atom.specs.contracts.atom.Atom as atom
use Rattle.gv_expr.specs.Dep.{Dep, Deps, leaf, all, any, when, end, more, deps, listed, top}

pub listed-deps : (ts : List Dep) → listed (deps ts) ≡ ts
listed-deps [] = refl
listed-deps (t ∷ ts) = ap (λ r. t ∷ r) (listed-deps ts)

-- the number of trees at every level
abbrev pub count : Deps → ℕ
count end = 0
count (more (leaf a) rest) = count rest + 1
count (more (all items) rest) = count items + count rest + 1
count (more (any items) rest) = count items + count rest + 1
count (more (when f n items) rest) = count items + count rest + 1

abbrev pub size_of : List Dep → ℕ
size_of ts = count (deps ts)

-- A list of trees is stored as the steps that build it, the rest of a list before its first tree:
-- None is the empty list, an atom a leaf, and else a group, with its flag where it is conditional.
abbrev Step : Type 0
Step = Option (Atom ⊎ (Bool × Option (List ℕ × Bool)))

abbrev steps : Deps → List Step → List Step
steps end k = None ∷ k
steps (more (leaf a) rest) k = steps rest (Some (inl a) ∷ k)
steps (more (all items) rest) k = steps rest (steps items (Some (inr (false, None)) ∷ k))
steps (more (any items) rest) k = steps rest (steps items (Some (inr (true, None)) ∷ k))
steps (more (when f n items) rest) k = steps rest (steps items (Some (inr (true, Some (f, n))) ∷ k))

abbrev step : Step → List Deps → List Deps
step None s = end ∷ s
step (Some (inl a)) (rest ∷ s) = more (leaf a) rest ∷ s
step (Some (inr (false, None))) (items ∷ rest ∷ s) = more (all items) rest ∷ s
step (Some (inr (true, None))) (items ∷ rest ∷ s) = more (any items) rest ∷ s
step (Some (inr (true, Some (f, n)))) (items ∷ rest ∷ s) = more (when f n items) rest ∷ s
step _ s = s

abbrev built : List Step → List Deps → List Deps
built [] s = s
built (o ∷ k) s = built k (step o s)

built-steps : (ts : Deps) (k : List Step) (s : List Deps) → built (steps ts k) s ≡ built k (ts ∷ s)
built-steps end k s = refl
built-steps (more (leaf a) rest) k s = built-steps rest (Some (inl a) ∷ k) s
built-steps (more (all items) rest) k s =
    built-steps rest (steps items (Some (inr (false, None)) ∷ k)) s ∙ built-steps items (Some (inr (false, None)) ∷ k) (rest ∷ s)
built-steps (more (any items) rest) k s =
    built-steps rest (steps items (Some (inr (true, None)) ∷ k)) s ∙ built-steps items (Some (inr (true, None)) ∷ k) (rest ∷ s)
built-steps (more (when f n items) rest) k s =
    built-steps rest (steps items (Some (inr (true, Some (f, n))) ∷ k)) s ∙ built-steps items (Some (inr (true, Some (f, n))) ∷ k) (rest ∷ s)

pub back : (ts : List Dep) → listed (top (built (steps (deps ts) []) [])) ≡ ts
back ts = ap (λ s. listed (top s)) (built-steps (deps ts) [] []) ∙ listed-deps ts

abbrev pub deps_code : Coded (List Dep)
deps_code =
    code_by (List Step) (coded_list (coded_option (coded⊎ atom.the_row.coded (coded× coded_bool (coded_option (coded× (coded_list coded_ℕ) coded_bool)))))) (λ ts. steps (deps ts) []) (λ k. listed (top (built k []))) back
