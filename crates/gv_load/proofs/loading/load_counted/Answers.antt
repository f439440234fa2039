use Rattle.gv_load.proofs.LoadLemmas.{cause_told, finds_told, folders_told, passes_told, repo_told}
use Rattle.gv_load.proofs.loading.load_counted.Goals as goal

pub read_repo-requires-clause-knows : goal.read_repo-requires-clause-knows
read_repo-requires-clause-knows g c = c.new-reader.ensures.knows (g.T.Tree.files c.args.tree.now)

pub returns-in-Ok-clause-repo : goal.returns-in-Ok-clause-repo
returns-in-Ok-clause-repo g c = repo_told c.new-reader.ensures.is c.in-Ok.read c.in-Ok.ensures.reads

pub returns-in-Ok-clause-found : goal.returns-in-Ok-clause-found
returns-in-Ok-clause-found g c = passes_told c.new-reader.ensures.is c.in-Ok.read c.found.result c.found.ensures c.in-Ok.ensures.reads

pub returns-in-Ok-clause-exact : goal.returns-in-Ok-clause-exact
returns-in-Ok-clause-exact g c = finds_told c.new-reader.ensures.is c.in-Ok.read c.found.result c.found.ensures c.in-Ok.ensures.reads

pub returns-in-Ok-clause-folders : goal.returns-in-Ok-clause-folders
returns-in-Ok-clause-folders g c = folders_told c.new-reader.ensures.is c.in-Ok.read c.in-Ok.ensures.reads

pub returns-clause-cause : goal.returns-clause-cause
returns-clause-cause g c = cause_told c.new-reader.ensures.is c.in-Err.fault c.in-Err.ensures.reads
