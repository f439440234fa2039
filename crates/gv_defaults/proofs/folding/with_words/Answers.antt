use Rattle.std.proofs.Common.{ap, ◌∙◌, not, filter}
use Rattle.gv_defaults.specs.Passed.{takes, HasPassed}
use Rattle.gv_defaults.proofs.FoldLemmas.{by_passing}
use Rattle.gv_defaults.proofs.folding.with_words.Goals as goal

pub returns : goal.returns
returns c =
    let all : HasPassed c.args.words.now c.in_ok-behind.behind = rw c.items.ensures at c.in_ok-behind.ensures in
    by_passing c.args.before.now c.args.words.now c.in_ok-left.left.words _ c.in_ok-behind.behind all (c.in_ok-left.ensures.words ∙ ap (filter (λ word. not (takes c.in_ok-behind.behind word))) c.items-2.ensures) c.in_ok-indexed.ensures
