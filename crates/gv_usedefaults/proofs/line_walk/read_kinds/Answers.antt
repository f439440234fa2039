use Rattle.std.proofs.Common.{◌≡◌, ◌∷◌, ◌+◌, ◌<◌, ℕ, List, drop, length, get_or, drop-cons, add-one, refl, sym, ap, ◌∙◌, arith}
use Rattle.gv_usedefaults.specs.LineFiles.{kind_files, kinds_files, kinds_steps}
use Rattle.gv_reading.specs.Passing.{amid_ended, amid_next, faulted, more_values}
use Rattle.gv_usedefaults.proofs.line_walk.read_kinds.Goals as goal

at_place : {X : Type 0} (xs : List X) (i : ℕ) (d : X) → i < length xs → drop i xs ≡ get_or xs i d ∷ drop (i + 1) xs
at_place xs i d within = drop-cons xs i d within ∙ ap (λ n. get_or xs i d ∷ drop n xs) (sym (add-one i))

pub returns-in_err-read_kind : goal.returns-in_err-read_kind
returns-in_err-read_kind g c =
    let all = c.args.kinds.now in
    let i = c.loop-kind.kind-index in
    rw (faulted c.from_residual.result c.from_residual.ensures.1)
    (amid_ended (λ look. kinds_steps look c.args.dir.now (drop (i + 1) all)) c.loop-kind.invariant c.in_err-read_kind.ensures (λ look. ap (kinds_steps look c.args.dir.now) (at_place all i _ (omega arith))))

pub loop-kind-preserved : goal.loop-kind-preserved
loop-kind-preserved g c =
    let all = c.args.kinds.now in
    let i = c.loop-kind.kind-index in
    amid_next c.loop-kind.invariant c.in_ok-read_kind.ensures (λ look. ap (kinds_steps look c.args.dir.now) (at_place all i _ (omega arith)))
    (λ look so_far here. more_values (kind_files look c.args.dir.now) (kinds_files look c.args.dir.now) c.loop-kind.files.items c.read_kind.new.files.items _ (drop i all) (drop (i + 1) all) _ (λ y ys. refl) (at_place all i _ (omega arith)) so_far here)
