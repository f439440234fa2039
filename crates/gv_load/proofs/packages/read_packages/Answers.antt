use Rattle.std.proofs.Common.{◌++◌, List, ℕ, refl, ap, sym, ◌∙◌, map}
use Rattle.gv_load.specs.Entries.{all_reads, eclass_digest, eclass_names}
use Rattle.gv_load.specs.Freshness.{pf_kept}
use Rattle.gv_load.specs.Order.{categories_steps, eclass_steps}
use Rattle.gv_reading.specs.Passing.{ended_first, ended_then, faulted, no_memory, read_then}
use Rattle.gv_load.proofs.packages.read_packages.Goals as goal

pub returns-in_err-reads : goal.returns-in_err-reads
returns-in_err-reads g c = rw (faulted c.from_residual.result c.from_residual.ensures.1) (ended_first (λ look. eclass_steps (eclass_names (all_reads look c.args.categories.now))) c.in_err-reads.ensures (λ look. refl))

pub returns-in_err-names : goal.returns-in_err-names
returns-in_err-names g c = rw (faulted c.from_residual-in_err-names.result c.from_residual-in_err-names.ensures.1) (no_memory c.in_ok-reads.ensures.same)

pub returns-in_err-digests : goal.returns-in_err-digests
returns-in_err-digests g c =
    rw (faulted c.from_residual-in_err-digests.result c.from_residual-in_err-digests.ensures.1) (ended_then c.in_ok-reads.ensures c.in_err-digests.ensures
    (λ look is. ap (λ (ns : List (List ℕ)). categories_steps look c.args.categories.now ++ eclass_steps ns) (sym (c.in_ok-names.ensures.value ∙ ap eclass_names is))))

pub returns-in_err-judge_all : goal.returns-in_err-judge_all
returns-in_err-judge_all g c = rw (faulted c.from_residual-in_err-judge_all.result c.from_residual-in_err-judge_all.ensures.1) (no_memory (c.in_ok-digests.ensures.same ∙ c.in_ok-reads.ensures.same))

pub returns : goal.returns
returns g c =
    read_then c.in_ok-reads.ensures c.in_ok-digests.ensures
    (λ look is keeps. ap (λ (ns : List (List ℕ)). categories_steps look c.args.categories.now ++ eclass_steps ns) (sym (c.in_ok-names.ensures.value ∙ ap eclass_names is)))
    (λ look is keeps. c.in_ok-judge_all.ensures.there look c.in_ok-names.names keeps c.in_ok-names.ensures.named ∙ ap (map (pf_kept (eclass_digest look))) is)
