-- Flags in order that pass a test are in order.
use Rattle.std.proofs.Common.{◌≡◌, ℕ, Bool, List, filter, sym, subst, ap, ◌∙◌}
use Rattle.std.proofs.lemmas.List.Kept.{IsStrictlySortedBy-filter}
use Rattle.gv_base.specs.Order.{IsAscending, byte_cmp, in_order}
use Rattle.gv_base.specs.Laws.{InOrderLaw}

pub filtered_ascends : InOrderLaw → (test : List ℕ → Bool) (texts mentioned flags : List (List ℕ)) → mentioned ≡ in_order texts → flags ≡ filter test mentioned → IsAscending flags
filtered_ascends law test texts mentioned flags is kept =
    subst IsAscending (sym (kept ∙ ap (filter test) is)) (IsStrictlySortedBy-filter byte_cmp test (in_order texts) (law.ascends texts))
