use Rattle.std.proofs.Common.{◌∷◌, List, refl, sym, ap, ◌∙◌}
use Rattle.gv_reading.specs.NamedFiles.{file_steps}
use Rattle.gv_reading.specs.Look.{Look}
use Rattle.gv_reading.specs.Reading.{Step, need}
use Rattle.gv_load.specs.declared.lists.TopPaths.{TopPaths}
use Rattle.gv_reading.specs.Passing.{ended_behind, ended_first, ended_front, ended_then, faulted, no_memory, read_both, read_then}
use Rattle.gv_load.proofs.lists.read_lists.Goals as goal

abbrev steps : Look → TopPaths → List Step
steps look paths = need paths.desc ∷ need paths.categories ∷ file_steps look paths.masks

pub returns-in_err-desc-clause-reads : goal.returns-in_err-desc-clause-reads
returns-in_err-desc-clause-reads g c = rw (faulted c.from_residual.result c.from_residual.ensures.1) (ended_first (λ look. need c.args.paths.now.categories ∷ file_steps look c.args.paths.now.masks) c.in_err-desc.ensures (λ look. ap (steps look) (sym c.requires.paths)))

pub returns-in_err-categories-clause-reads : goal.returns-in_err-categories-clause-reads
returns-in_err-categories-clause-reads g c =
    let rest = ended_front (λ look. file_steps look c.args.paths.now.masks) c.in_err-categories.ensures in
    rw (faulted c.from_residual-in_err-categories.result c.from_residual-in_err-categories.ensures.1) (ended_then c.in_ok-desc.ensures rest (λ look is. ap (steps look) (sym c.requires.paths)))

pub returns-in_err-masks-clause-reads : goal.returns-in_err-masks-clause-reads
returns-in_err-masks-clause-reads g c =
    let rest = ended_behind c.in_ok-categories.ensures c.in_err-masks.ensures in
    rw (faulted c.from_residual-in_err-masks.result c.from_residual-in_err-masks.ensures.1) (ended_then c.in_ok-desc.ensures rest (λ look is. ap (steps look) (sym c.requires.paths)))

pub returns-in_err-lists_with-clause-reads : goal.returns-in_err-lists_with-clause-reads
returns-in_err-lists_with-clause-reads g c = rw (faulted c.from_residual-in_err-lists_with.result c.from_residual-in_err-lists_with.ensures.1) (no_memory (c.in_ok-masks.ensures.same ∙ c.in_ok-categories.ensures.same ∙ c.in_ok-desc.ensures.same))

pub returns-clause-reads : goal.returns-clause-reads
returns-clause-reads g c =
    let rest = read_both c.in_ok-categories.ensures c.in_ok-masks.ensures in
    read_then c.in_ok-desc.ensures rest (λ look desc more. ap (steps look) (sym c.requires.paths)) (λ look desc more. c.in_ok-lists_with.ensures.lists ∙ rw (desc, more.0, more.1, c.requires.paths) refl)
