use Rattle.std.proofs.Common.{◌++◌, ◌∙◌, subst, sym}
use Rattle.gv_load.specs.OwnLines.{HaveOwnLines}
use Rattle.gv_load.specs.declared.loading.Repo.{Repo}
use Rattle.gv_load.specs.Order.{categories, desc_lines, packages_steps, profiles_steps}
use Rattle.gv_load.proofs.LoadLemmas.{first_steps, read_is, steps_are}
use Rattle.gv_reading.specs.Passing.{ended_behind, ended_first, ended_front, ended_then, faulted, no_memory, read_both, read_then}
use Rattle.gv_load.proofs.loading.read_repo.Goals as goal

pub returns-in_err-lists-clause-reads : goal.returns-in_err-lists-clause-reads
returns-in_err-lists-clause-reads g c = rw (faulted c.from_residual.result c.from_residual.ensures.1) (ended_first (λ look. profiles_steps look (desc_lines look) ++ packages_steps look (categories look)) c.in_err-lists.ensures.reads (λ look. first_steps look))

pub returns-in_err-profiled-clause-reads : goal.returns-in_err-profiled-clause-reads
returns-in_err-profiled-clause-reads g c =
    let lists = c.in_ok-lists.lists in
    let rest = ended_front (λ look. packages_steps look lists.categories) c.in_err-profiled.ensures.reads in
    rw (faulted c.from_residual-in_err-profiled.result c.from_residual-in_err-profiled.ensures.1) (ended_then c.in_ok-lists.ensures.reads rest (λ look is. steps_are look lists is))

pub returns-in_err-kepts-clause-reads : goal.returns-in_err-kepts-clause-reads
returns-in_err-kepts-clause-reads g c =
    let rest = ended_behind c.in_ok-profiled.ensures.reads c.in_err-kepts.ensures in
    rw (faulted c.from_residual-in_err-kepts.result c.from_residual-in_err-kepts.ensures.1) (ended_then c.in_ok-lists.ensures.reads rest (λ look is. steps_are look c.in_ok-lists.lists is))

pub returns-in_err-repo_with-clause-reads : goal.returns-in_err-repo_with-clause-reads
returns-in_err-repo_with-clause-reads g c = rw (faulted c.from_residual-in_err-repo_with.result c.from_residual-in_err-repo_with.ensures.1) (no_memory (c.in_ok-kepts.ensures.same ∙ c.in_ok-profiled.ensures.reads.same ∙ c.in_ok-lists.ensures.reads.same))

pub returns-clause-reads : goal.returns-clause-reads
returns-clause-reads g c =
    let lists = c.in_ok-lists.lists in
    let rest = read_both c.in_ok-profiled.ensures.reads c.in_ok-kepts.ensures in
    read_then c.in_ok-lists.ensures.reads rest (λ look is more. steps_are look lists is)
    (λ look is more. read_is look lists c.in_ok-profiled.profiled c.in_ok-kepts.kepts _ c.in_ok-repo_with.ensures.repo c.in_ok-repo_with.ensures.folders is more.0 more.1)

pub returns-clause-own : goal.returns-clause-own
returns-clause-own g c = subst (λ (r : Repo). HaveOwnLines r.profiles) (sym c.in_ok-repo_with.ensures.repo) c.in_ok-profiled.ensures.own
