use Rattle.std.proofs.Common.{◌≡◌, true, sym, subst, ap, ◌∙◌}
use Rattle.gv_version.specs.Form.{is_version}
use Rattle.gv_load.specs.Categories.{version_of}
use Rattle.gv_load.proofs.PfVersions.{version_is}
use Rattle.gv_load.proofs.categories.pf_subject.Goals as goal

pub of-requires-2 : goal.of-requires-2
of-requires-2 c = subst (λ t. is_version t ≡ true) (sym (c.in_ok-version.ensures ∙ ap version_of c.bytes-2.ensures)) (version_is c.split_pf_law.ensures c.args.pf.now c.requires)
