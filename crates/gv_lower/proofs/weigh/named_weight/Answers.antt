use Rattle.std.proofs.Common.{◌+◌, length, refl, sym, ap, ◌∙◌, arith}
use Rattle.std.proofs.Math.Nat.{min-eq_left}
use Rattle.gv_lower.specs.Weigh.{capped}
use Rattle.gv_lower.proofs.Naming.{named_times}
use Rattle.gv_visible.specs.Candidates.{pkgs_of}
use Rattle.gv_lower.proofs.weigh.named_weight.Goals as goal

pub returns : goal.returns
returns g c =
    named_times (1 + length c.args.atom.now.items) c.times.result (pkgs_of c.args.candidates.now) c.args.atom.now.category c.args.atom.now.name c.args.atom.now.category c.args.atom.now.name c.places-places.result.now
    refl refl c.places-places.ensures.items
    (c.times.ensures (1 + length c.args.atom.now.items) (length c.places-places.result.now)
    (c.plus-each.ensures 1 (length c.args.atom.now.items) refl (c.count.ensures ∙ ap (λ xs. capped (length xs)) c.items.ensures))
    (sym (min-eq_left (omega (arith, c.places-places.type_inv.0)))))
