use Rattle.std.proofs.Common.{◌++◌, ◌+◌, List, ℕ, length, refl, ap, sym, ◌∙◌}
use Rattle.gv_base.specs.Order.{in_order}
use Rattle.gv_load.specs.Order.{eclass_steps}
use Rattle.gv_load.specs.Given.{all_said, given_reads, pf_steps}
use Rattle.gv_load.specs.declared.entries.PfRead.{PfRead}
use Rattle.gv_load.proofs.GivenReading.{all_read}
use Rattle.gv_reading.specs.Passing.{ended_first, ended_then, faulted, no_memory, read_then}
use Rattle.gv_load.proofs.given.read_given.Goals as goal

pub returns-in_err-reads-clause-reads : goal.returns-in_err-reads-clause-reads
returns-in_err-reads-clause-reads g c =
    rw (faulted c.from_residual.result c.from_residual.ensures.1) (ended_first (λ look. eclass_steps (in_order (all_said (given_reads look c.args.given.now)))) c.in_err-reads.ensures (λ look. refl))

pub returns-in_err-said-clause-reads : goal.returns-in_err-said-clause-reads
returns-in_err-said-clause-reads g c = rw (faulted c.from_residual-in_err-said.result c.from_residual-in_err-said.ensures.1) (no_memory c.in_ok-reads.ensures.same)

pub returns-in_err-names-clause-reads : goal.returns-in_err-names-clause-reads
returns-in_err-names-clause-reads g c = rw (faulted c.from_residual-in_err-names.result c.from_residual-in_err-names.ensures.1) (no_memory c.in_ok-reads.ensures.same)

pub returns-in_err-digests-clause-reads : goal.returns-in_err-digests-clause-reads
returns-in_err-digests-clause-reads g c =
    let names_are = c.in_ok-names.ensures.value ∙ ap in_order c.in_ok-said.ensures in
    rw (faulted c.from_residual-in_err-digests.result c.from_residual-in_err-digests.ensures.1) (ended_then c.in_ok-reads.ensures c.in_err-digests.ensures
    (λ look is. ap (λ (ns : List (List ℕ)). pf_steps c.args.given.now ++ eclass_steps ns) (sym (names_are ∙ ap (λ (rs : List PfRead). in_order (all_said rs)) is))))

pub returns-in_err-more-clause-reads : goal.returns-in_err-more-clause-reads
returns-in_err-more-clause-reads g c = rw (faulted c.from_residual-in_err-more.result c.from_residual-in_err-more.ensures.1) (no_memory (c.in_ok-digests.ensures.same ∙ c.in_ok-reads.ensures.same))

pub returns-in_err-kepts-clause-reads : goal.returns-in_err-kepts-clause-reads
returns-in_err-kepts-clause-reads g c = rw (faulted c.from_residual-in_err-kepts.result c.from_residual-in_err-kepts.ensures.1) (no_memory (c.in_ok-digests.ensures.same ∙ c.in_ok-reads.ensures.same))

pub returns-clause-reads : goal.returns-clause-reads
returns-clause-reads g c =
    let names_are = c.in_ok-names.ensures.value ∙ ap in_order c.in_ok-said.ensures in
    read_then c.in_ok-reads.ensures c.in_ok-digests.ensures
    (λ look is keeps. ap (λ (ns : List (List ℕ)). pf_steps c.args.given.now ++ eclass_steps ns) (sym (names_are ∙ ap (λ (rs : List PfRead). in_order (all_said rs)) is)))
    (λ look is keeps. all_read look c.args.given.now c.in_ok-reads.reads c.in_ok-kepts.kepts c.in_ok-more.more c.in_ok-given_with.field-0 is
    (c.in_ok-kepts.ensures.there look c.in_ok-names.names keeps c.in_ok-names.ensures.named)
    (c.in_ok-more.ensures ∙ (λ i. length (c.items.ensures i) + (length (c.items.ensures i) + length ((c.items-2.ensures ∙ c.in_ok-said.ensures) i)))) c.in_ok-given_with.ensures.value)

pub returns-in_err-given_with-clause-reads : goal.returns-in_err-given_with-clause-reads
returns-in_err-given_with-clause-reads g c = rw (faulted c.from_residual-in_err-given_with.result c.from_residual-in_err-given_with.ensures.1) (no_memory (c.in_ok-digests.ensures.same ∙ c.in_ok-reads.ensures.same))
