use Rattle.std.proofs.Common.{◌<◌, length, arith, rules}
use Rattle.gv_usedefaults.proofs.FlagLemmas.{ended_within}
use Rattle.gv_usedefaults.proofs.flag_values.word_behind.Goals as goal

pub returns-in-empty : goal.returns-in-empty
returns-in-empty c =
    let short : length c.loop-letter.rest.now < 1 = search rules in
    ended_within c.args.name.now c.loop-letter.rest.now c.args.flag.now c.loop-letter.letter-index (omega arith) short c.loop-letter.invariant
