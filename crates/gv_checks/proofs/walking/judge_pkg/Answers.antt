use Rattle.std.proofs.Common.{ap, subst}
use Rattle.gv_checks.specs.Keys.{AreSitesOf}
use Rattle.gv_checks.proofs.walking.judge_pkg.Goals as goal

pub judge_views-outcome-requires-clause-sites : goal.judge_views-outcome-requires-clause-sites
judge_views-outcome-requires-clause-sites g c =
    subst (λ ps. AreSitesOf ps c.args.one.now.pkg.now c.args.errand.now.walk.now.repo.pkgs c.args.one.now.body.now c.in_ok-sites.sites) c.ruled.ensures
    (subst (λ ps. AreSitesOf c.ruled.result.now c.args.one.now.pkg.now ps c.args.one.now.body.now c.in_ok-sites.sites) (ap (λ r. r.pkgs) c.repo-repo.ensures) c.in_ok-sites.ensures)
