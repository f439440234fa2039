use Rattle.std.proofs.Common.{ap, sym, ◌∙◌}
use Rattle.gv_defaults.specs.Lasting.{from_last}
use Rattle.gv_defaults.proofs.FoldLemmas.{from_last_push}
use Rattle.gv_defaults.proofs.folding.add_from_last.Goals as goal

pub loop-word-preserved : goal.loop-word-preserved
loop-word-preserved c =
    let left = c.pop.new.self.items in (
      ap (λ ws. from_last ws left) c.in_ok-more.ensures.words
          ∙ sym (from_last_push c.loop-word.more.words left c.in-Some.word)
          ∙ ap (from_last c.loop-word.more.words) (sym c.in-Some.ensures.items)
          ∙ c.loop-word.invariant.0,
      c.in_ok-more.ensures.indexed,
    )
