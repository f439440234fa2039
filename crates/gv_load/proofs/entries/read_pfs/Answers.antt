use Rattle.std.proofs.Common.{◌≡◌, ◌∷◌, [], ◌+◌, ◌≤◌, drop, length, refl, ap, arith, map, sym, ◌∙◌}
use Rattle.std.specs.List.{list_all}
use Rattle.gv_load.specs.Categories.{is_pf}
use Rattle.gv_load.specs.Entries.{pf_read}
use Rattle.gv_load.specs.Order.{pfs_steps}
use Rattle.gv_reading.specs.Passing.{all_gone, amid_end, amid_ended, amid_next, faulted, last_values, more_values, next_item}
use Rattle.gv_load.proofs.PfLemmas.{later}
use Rattle.gv_load.proofs.entries.read_pfs.Goals as goal

pub returns-in_err-read_next : goal.returns-in_err-read_next
returns-in_err-read_next g c =
    let pfs = c.args.pfs.now in
    let i = c.loop-pf.pf-index in
    let next : drop i pfs ≡ c.pf-item.result ∷ drop (i + 1) pfs = rw c.items-pf-items.ensures at (next_item c.items-pf-items.result.now i c.pf-item.result (omega arith) c.pf-item.is) in
    rw (faulted c.from_residual.result c.from_residual.ensures.1) (amid_ended (λ look. pfs_steps c.args.listed.now.keys c.args.category.now (drop (i + 1) pfs)) c.loop-pf.invariant.amid c.in_err-read_next.ensures (λ look. ap (pfs_steps c.args.listed.now.keys c.args.category.now) next))

pub loop-pf-preserved : goal.loop-pf-preserved
loop-pf-preserved g c =
    let keys = c.args.listed.now.keys in
    let category = c.args.category.now in
    let pfs = c.args.pfs.now in
    let i = c.loop-pf.pf-index in
    let pf = c.pf-item.result in
    let next : drop i pfs ≡ pf ∷ drop (i + 1) pfs = rw c.items-pf-items.ensures at (next_item c.items-pf-items.result.now i pf (omega arith) c.pf-item.is) in
    record {
      amid = amid_next c.loop-pf.invariant.amid c.in_ok-read_next.ensures (λ look. ap (pfs_steps keys category) next)
          (λ look so_far here. more_values (λ p. pf_read look keys category p ∷ []) (map (pf_read look keys category)) c.loop-pf.reads c.read_next.new.reads _ (drop i pfs) (drop (i + 1) pfs) pf (λ y ys. refl) next so_far here);
      pfs = later is_pf pf (drop (i + 1) pfs) (sym (ap (list_all is_pf) next) ∙ c.loop-pf.invariant.pfs);
    }

pub returns : goal.returns
returns g c =
    let keys = c.args.listed.now.keys in
    let category = c.args.category.now in
    let pfs = c.args.pfs.now in
    let i = c.loop-pf.pf-index in
    let past : length c.items-pf-items.result.now ≤ i = omega arith in
    let gone : drop i pfs ≡ [] = all_gone c.items-pf-items.result.now pfs i c.items-pf-items.ensures past in
    amid_end c.loop-pf.invariant.amid (λ look. ap (pfs_steps keys category) gone) (λ look so_far. last_values (map (pf_read look keys category)) c.loop-pf.reads _ (drop i pfs) refl gone so_far)
