use Rattle.std.proofs.Common.{◌≡◌, drop}
use Rattle.std.specs.List.{list_all}
use Rattle.gv_profile.specs.FlagLines.{is_flag_word}
use Rattle.gv_profile.proofs.flag_lines.all_flag_words.Given as goal

abbrev pub invariant-loop-word : goal.invariant-loop-word
invariant-loop-word l = list_all is_flag_word (drop l.word-index l.words) ≡ list_all is_flag_word l.words
