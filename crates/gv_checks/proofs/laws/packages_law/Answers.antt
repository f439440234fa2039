use Rattle.gv_checks.proofs.PackagesLemmas.{packages_law, packages_named}
use Rattle.gv_checks.proofs.laws.packages_law.Goals as goal

pub returns-clause-chosen : goal.returns-clause-chosen
returns-clause-chosen c = λ bits options repo. packages_law c.told_law.ensures bits options repo

pub returns-clause-named : goal.returns-clause-named
returns-clause-named c = λ bits options repo. packages_named bits options repo
