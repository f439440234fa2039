-- What contracts see of a walk.
use Rattle.gv_report.specs.declared.options.Options.{Options}
use Rattle.gv_load.specs.declared.loading.Repo.{Repo}

-- a repository under options
pub record Walk : Type 0 where
  pub repo : Repo
  pub options : Options
