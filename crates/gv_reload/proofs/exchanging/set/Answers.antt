use Rattle.std.proofs.Common.{List, length, ap, sym, ◌∙◌}
use Rattle.gv_entry.specs.declared.entry.Body.{Body}
use Rattle.gv_facts.specs.declared.pkg.Pkg.{Pkg}
use Rattle.gv_reload.specs.Exchanged.{are_at}
use Rattle.gv_reload.proofs.Exchanges.{counts_set, rest_at}
use Rattle.gv_reload.proofs.exchanging.set.Goals as goal

pub returns-clause-count : goal.returns-clause-count
returns-clause-count c =
    let packages = c.args.packages.now in
    ap (λ (bs : List Body). length bs) c.set-2.ensures ∙ counts_set packages.pkgs packages.bodies c.args.place c.args.member.pkg c.args.member.body c.requires.count
    ∙ sym (ap (λ (ps : List Pkg). length ps) c.set.ensures)

pub returns-clause-others : goal.returns-clause-others
returns-clause-others c = λ places ps e.
    ap (λ (qs : List Pkg). are_at qs places ps) c.set.ensures ∙ rest_at c.args.packages.now.pkgs c.args.place places c.args.member.pkg ps e
