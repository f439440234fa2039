use Rattle.std.proofs.Common.{ap, refl, ◌∙◌}
use Rattle.gv_usestate.specs.NamedPkgs.{has_key}
use Rattle.gv_usestate.proofs.NamedLemmas.{one_more_pkg}
use Rattle.gv_usestate.proofs.named_pkgs.add_named.Goals as goal

pub returns-in_ok-insert : goal.returns-in_ok-insert
returns-in_ok-insert c =
    λ category name. ap (λ keys. has_key keys category name) c.in_ok-insert.ensures.keys
    ∙ one_more_pkg c.args.keys.now.keys (c.bytes-category.result, c.bytes-name.result) c.in-Some.shared (c.bytes-category.ensures ∙ ap (λ atom. atom.category) c.atom-atom.ensures) (c.bytes-name.ensures ∙ ap (λ atom. atom.name) c.atom-atom.ensures) category name
    ∙ rw c.in-Some.is refl
