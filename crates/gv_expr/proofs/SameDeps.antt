-- Trees that are seen as one have the same trees in them.
use Rattle.std.proofs.Common.{◌≡◌, ℕ, Bool, List, [], ◌∷◌, refl, sym, ap, ◌∙◌}
use Rattle.gv_expr.specs.Dep.{Dep, all, any, deps, leaf, listed, when}
use Rattle.gv_expr.specs.DepView.{dep_of}
use Rattle.gv_expr.specs.declared.dep.DepTree.{DepTree}
use Rattle.gv_expr.specs.declared.dep.DepTree.TheVariants.{All, Any, If}

listed-deps : (ts : List Dep) → listed (deps ts) ≡ ts
listed-deps [] = refl
listed-deps (t ∷ ts) = ap (λ l. t ∷ l) (listed-deps ts)

abbrev items_in : Dep → List Dep
items_in (leaf atom) = []
items_in (all ts) = listed ts
items_in (any ts) = listed ts
items_in (when flag negated ts) = listed ts

abbrev items_of : DepTree → List Dep
items_of t = items_in (dep_of t)

module _ (s o : DepTree) (a b : List Dep) (e : dep_of s ≡ dep_of o) where
  pub in_all : s ≡ All a → o ≡ All b → a ≡ b
  in_all is other = sym (listed-deps a) ∙ (ap items_of (sym is) ∙ (ap items_in e ∙ (ap items_of other ∙ listed-deps b)))

  pub in_any : s ≡ Any a → o ≡ Any b → a ≡ b
  in_any is other = sym (listed-deps a) ∙ (ap items_of (sym is) ∙ (ap items_in e ∙ (ap items_of other ∙ listed-deps b)))

  pub in_if : (f g : List ℕ) (m n : Bool) → s ≡ If f m a → o ≡ If g n b → a ≡ b
  in_if f g m n is other = sym (listed-deps a) ∙ (ap items_of (sym is) ∙ (ap items_in e ∙ (ap items_of other ∙ listed-deps b)))
