use Rattle.std.proofs.Common.{◌+◌, ◌*◌, List, length, refl, sym, ap, ◌∙◌, arith}
use Rattle.std.proofs.Math.Nat.{min-eq_left}
use Rattle.gv_facts.specs.declared.pkg.Pkg.{Pkg}
use Rattle.gv_lower.specs.Weigh.{capped}
use Rattle.gv_lower.proofs.Naming.{every_times}
use Rattle.gv_visible.specs.Candidates.{pkgs_of}
use Rattle.gv_lower.proofs.weigh.every_weight.Goals as goal

pub returns : goal.returns
returns g c =
    every_times (1 + length c.args.atom.now.items) c.times.result (pkgs_of c.args.candidates.now)
    (c.times.ensures (1 + length c.args.atom.now.items) (length c.items-pkgs.result.now)
    (c.plus-each.ensures 1 (length c.args.atom.now.items) refl (c.count.ensures ∙ ap (λ xs. capped (length xs)) c.items.ensures))
    (sym (min-eq_left (omega (arith, c.items-pkgs.type_inv.0))))
    ∙ ap (λ (pkgs : List Pkg). capped ((1 + length c.args.atom.now.items) * length pkgs)) (c.items-pkgs.ensures ∙ c.pkgs.ensures))
