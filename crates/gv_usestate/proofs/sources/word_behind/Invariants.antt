use Rattle.std.proofs.Common.{◌≡◌, ℕ, List, drop}
use Rattle.std.specs.Str.{bytes_eq}
use Rattle.gv_facts.specs.Effective.{prefixed}
use Rattle.gv_usestate.proofs.sources.word_behind.Given as goal

abbrev pub invariant-loop-letter : goal.invariant-loop-letter
invariant-loop-letter l = (word : List ℕ) → bytes_eq l.rest (prefixed (drop l.letter-index l.name) word) ≡ bytes_eq l.flag (prefixed l.name word)
