-- A query's name that stands at a place of the names of a repository's queries.
use Rattle.std.proofs.Common.{◌≡◌, ℕ, zero, suc, ◌<◌, List, [], ◌∷◌, length, arith}
use Rattle.std.specs.Prelude.{slice_index_or}
use Rattle.std.specs.List.{AllByRecursion}
use Rattle.gv_checks.specs.Named.{HasNamed}
use Rattle.gv_checks.specs.declared.names.QueryName.{QueryName}
use Rattle.gv_load.specs.declared.loading.Repo.{Repo}
use Rattle.gv_report.specs.declared.options.Options.{Options}

here : {A : Type 0} (P : A → Type 0) (xs : List A) (i : ℕ) (d : A) → AllByRecursion P xs → i < length xs → P (slice_index_or xs i d)
here P [] i d all lt = absurd (nothing_less i lt)
  where
    nothing_less : (n : ℕ) → n < 0 → ⊥
    nothing_less n h = omega (arith, h)
here P (y ∷ ys) zero d all lt = all.0
here P (y ∷ ys) (suc i) d all lt = here P ys i d all.1 (omega (arith, lt))

pub named_here : (o : Options) (r : Repo) (xs : List QueryName) (i : ℕ) (d : QueryName) → AllByRecursion (HasNamed o r) xs → i < length xs → HasNamed o r (slice_index_or xs i d)
named_here o r xs i d all lt = here (HasNamed o r) xs i d all lt
