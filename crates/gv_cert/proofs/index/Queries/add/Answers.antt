use Rattle.std.proofs.Common.{[], ◌∷◌, ap, sym, ◌∙◌, refl, subst}
use Rattle.std.specs.Prelude.{unwrap_or}
use Rattle.gv_cert.proofs.Entries.{new_entry, on_err, number_added, numbers_kept, set_entry, Sets}
use Rattle.gv_cert.proofs.index.Queries.add.Goals as goal

pub returns-in_err-add-in-Some-clause-err : goal.returns-in_err-add-in-Some-clause-err
returns-in_err-add-in-Some-clause-err c =
    let map = c.get_mut.follows.lender c.add.new.self in
    on_err c.from_residual.result
    (numbers_kept c.args.self.now.map.entries map.entries c.args.query.now c.in-Some.numbers.now (ap (λ o. unwrap_or o []) (sym c.in-Some.ensures.value))
    (subst (Sets c.args.self.now.map.entries map.entries c.args.query.now) c.in_err-add-in-Some.ensures.err
    (set_entry c.args.self.now.map.entries map.entries c.args.query.now c.add.new.self c.in-Some.numbers.now (sym c.in-Some.ensures.value) (c.get_mut.follows.holds c.add.new.self).0)))

pub returns-in_ok-add-in-Some-clause-ok : goal.returns-in_ok-add-in-Some-clause-ok
returns-in_ok-add-in-Some-clause-ok c =
    let map = c.get_mut.follows.lender c.add.new.self in
    number_added c.args.self.now.map.entries map.entries c.args.query.now c.in-Some.numbers.now c.args.number (ap (λ o. unwrap_or o []) (sym c.in-Some.ensures.value))
    (subst (Sets c.args.self.now.map.entries map.entries c.args.query.now) c.in_ok-add-in-Some.ensures.ok
    (set_entry c.args.self.now.map.entries map.entries c.args.query.now c.add.new.self c.in-Some.numbers.now (sym c.in-Some.ensures.value) (c.get_mut.follows.holds c.add.new.self).0))

pub returns-in_ok-insert-in-None-clause-ok : goal.returns-in_ok-insert-in-None-clause-ok
returns-in_ok-insert-in-None-clause-ok c =
    number_added c.args.self.now.map.entries c.insert.new.self.entries c.args.query.now [] c.args.number (ap (λ o. unwrap_or o []) (sym c.in-None.ensures.value))
    (new_entry c.args.self.now.map.entries c.insert.new.self.entries c.args.query.now c.in_ok-key-in-None.key (c.args.number ∷ [])
    (c.in_ok-insert-in-None.ensures.entries ∙ rw (c.get_mut.follows.holds-at-none, c.in_ok-add-in-None.ensures.ok, c.new-numbers.ensures) refl)
    c.in_ok-key-in-None.ensures.items)
