use Rattle.std.proofs.Common.{◌≡◌, ◌∷◌, [], ◌++◌, List, ℕ, refl, sym, ap, ◌∙◌}
use Rattle.std.specs.Prelude.{filter, flat_map}
use Rattle.gv_base.specs.Order.{has_text, in_order}
use Rattle.gv_load.specs.Categories.{ebuilds_in, folders, is_pf, listed}
use Rattle.gv_load.specs.Order.{folder_lists}
use Rattle.gv_reading.specs.Reading.{list}
use Rattle.gv_reading.specs.Passing.{ended_first, ended_front, ended_then, faulted, no_memory, read_then}
use Rattle.gv_load.proofs.categories.list_category.Goals as goal

pub returns-in_err-entries-clause-reads : goal.returns-in_err-entries-clause-reads
returns-in_err-entries-clause-reads g c =
    let category = c.args.category.now in
    rw (faulted c.from_residual.result c.from_residual.ensures.1) (ended_first (λ look. (list category ∷ []) ++ folder_lists category (folders look category)) c.in_err-entries.ensures (λ look. refl))

pub returns-in_err-names-clause-reads : goal.returns-in_err-names-clause-reads
returns-in_err-names-clause-reads g c =
    let category = c.args.category.now in
    let rest = ended_front (λ look. folder_lists category (folders look category)) c.in_err-names.ensures in
    rw (faulted c.from_residual-in_err-names.result c.from_residual-in_err-names.ensures.1) (ended_then c.in_ok-entries.ensures rest (λ look is. refl))

pub returns-in_err-ebuilds-clause-reads : goal.returns-in_err-ebuilds-clause-reads
returns-in_err-ebuilds-clause-reads g c =
    let category = c.args.category.now in
    let rest = ended_then {zs = λ look. (list category ∷ []) ++ folder_lists category (folders look category)} c.in_ok-names.ensures c.in_err-ebuilds.ensures
    (λ look is. ap (λ (ns : List (List ℕ)). (list category ∷ []) ++ folder_lists category ns) (sym is)) in
    rw (faulted c.from_residual-in_err-ebuilds.result c.from_residual-in_err-ebuilds.ensures.1) (ended_then c.in_ok-entries.ensures rest (λ look is. refl))

pub returns-in_err-with_both-clause-reads : goal.returns-in_err-with_both-clause-reads
returns-in_err-with_both-clause-reads g c = rw (faulted c.from_residual-in_err-with_both.result c.from_residual-in_err-with_both.ensures.1) (no_memory (c.in_ok-ebuilds.ensures.same ∙ c.in_ok-names.ensures.same ∙ c.in_ok-entries.ensures.same))

pub returns-clause-reads : goal.returns-clause-reads
returns-clause-reads g c =
    let category = c.args.category.now in
    let ebuilds = c.in_ok-ebuilds.ebuilds in
    let rest = read_then {zs = λ look. (list category ∷ []) ++ folder_lists category (folders look category)} {R = λ look. ebuilds ≡ flat_map (ebuilds_in look category) (folders look category)} c.in_ok-names.ensures c.in_ok-ebuilds.ensures
    (λ look is these. ap (λ (ns : List (List ℕ)). (list category ∷ []) ++ folder_lists category ns) (sym is)) (λ look is these. these ∙ ap (flat_map (ebuilds_in look category)) is) in
    read_then c.in_ok-entries.ensures rest (λ look is these. refl) (λ look is these. record {
      names = λ text. c.in_ok-with_both.ensures.listed text ∙ ap (λ (ns : List (List ℕ)). has_text ns text) is;
      pfs = c.in_ok-with_both.ensures.value ∙ ap (λ (es : List (List ℕ)). filter is_pf (in_order (es ++ ebuilds))) is ∙ ap (λ (bs : List (List ℕ)). filter is_pf (in_order (listed look category ++ bs))) these;
    })
