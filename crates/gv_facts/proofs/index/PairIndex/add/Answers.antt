use Rattle.std.proofs.Common.{[], ◌∷◌, ◌++◌, ap, sym, ◌∙◌, refl}
use Rattle.std.specs.Prelude.{if◌then◌else◌}
use Rattle.std.specs.Str.{bytes_eq}
use Rattle.gv_facts.proofs.IndexLemmas.{names_in, new_entry, on_err, pair_added, pair_kept, set_entry}
use Rattle.gv_facts.proofs.index.PairIndex.add.Goals as goal

pub returns-in_err-add-in-Some-clause-err : goal.returns-in_err-add-in-Some-clause-err
returns-in_err-add-in-Some-clause-err c =
    let map = c.get_mut.follows.lender c.add.new.self in
    on_err c.from_residual.result
    (pair_kept c.args.self.now.map.entries map.entries c.args.category.now c.add.new.self
    (set_entry c.args.self.now.map.entries map.entries c.args.category.now c.add.new.self c.in-Some.names.now (sym c.in-Some.ensures.value) (c.get_mut.follows.holds c.add.new.self).0)
    (λ n. c.in_err-add-in-Some.ensures.err n ∙ ap (λ o. names_in o n) c.in-Some.ensures.value))

pub returns-in_ok-add-in-Some-clause-ok : goal.returns-in_ok-add-in-Some-clause-ok
returns-in_ok-add-in-Some-clause-ok c =
    let map = c.get_mut.follows.lender c.add.new.self in
    pair_added c.args.self.now.map.entries map.entries c.args.category.now c.add.new.self
    (set_entry c.args.self.now.map.entries map.entries c.args.category.now c.add.new.self c.in-Some.names.now (sym c.in-Some.ensures.value) (c.get_mut.follows.holds c.add.new.self).0)
    c.args.name.now c.args.place
    (λ n. c.in_ok-add-in-Some.ensures.ok n
    ∙ ap (λ o. if bytes_eq n c.args.name.now then names_in o n ++ c.args.place ∷ [] else names_in o n) c.in-Some.ensures.value)

pub returns-in_ok-insert-in-None-clause-ok : goal.returns-in_ok-insert-in-None-clause-ok
returns-in_ok-insert-in-None-clause-ok c =
    pair_added c.args.self.now.map.entries c.insert.new.self.entries c.args.category.now c.add-in-None.new.self
    (new_entry c.args.self.now.map.entries c.insert.new.self.entries c.args.category.now c.in_ok-key-in-None.key c.add-in-None.new.self
    (c.in_ok-insert-in-None.ensures.entries ∙ rw c.get_mut.follows.holds-at-none refl)
    c.in_ok-key-in-None.ensures.items)
    c.args.name.now c.args.place
    (λ n. c.in_ok-add-in-None.ensures.ok n
    ∙ rw (c.new-names.ensures n) (ap (λ o. if bytes_eq n c.args.name.now then names_in o n ++ c.args.place ∷ [] else names_in o n) c.in-None.ensures.value))
