use Rattle.std.proofs.Common.{nat_lt, sym, subst, ap, ◌∙◌, filter}
use Rattle.std.specs.List.Sorted.{IsPartitionedBy}
use Rattle.gv_cert.specs.Index.{is_from}
use Rattle.gv_cert.proofs.Found.{below_first, found_in, found_none, found_some}
use Rattle.gv_cert.proofs.known.Known.find.Goals as goal

pub numbers_from-requires : goal.numbers_from-requires
numbers_from-requires c =
    subst (IsPartitionedBy (λ n. nat_lt n c.args.from)) (sym (c.at.ensures ∙ c.self.invariant.numbers c.args.query.now)) (below_first c.args.query.now c.self.inside.records.items c.args.from)

pub returns-in-empty-clause-finds : goal.returns-in-empty-clause-finds
returns-in-empty-clause-finds c =
    found_none c.args.query.now c.args.from c.args.self.now c.numbers_from.result.now
    (found_in c.args.query.now c.args.from c.self.inside.records.items c.args.self.now c.numbers_from.result.now c.self.view_is
    (c.numbers_from.ensures ∙ ap (filter (is_from c.args.from)) (c.at.ensures ∙ c.self.invariant.numbers c.args.query.now)))
    c.in-empty.len_below

pub returns-in-len1-up-clause-finds : goal.returns-in-len1-up-clause-finds
returns-in-len1-up-clause-finds c =
    found_some c.args.query.now c.args.from c.args.self.now c.numbers_from.result.now
    (found_in c.args.query.now c.args.from c.self.inside.records.items c.args.self.now c.numbers_from.result.now c.self.view_is
    (c.numbers_from.ensures ∙ ap (filter (is_from c.args.from)) (c.at.ensures ∙ c.self.invariant.numbers c.args.query.now)))
    c.in-len1-up.len_at_least
