use Rattle.std.proofs.Common.{refl, ◌∙◌}
use Rattle.gv_entry.proofs.entry_read.head_of.Goals as goal

pub returns-clause-head : goal.returns-clause-head
returns-clause-head c = c.in_ok-head.ensures ∙ rw (c.in_ok-slots.ensures, c.bad_keyword.ensures, c.bad_flag.ensures, c.in_ok-words.ensures.keywords, c.in_ok-words.ensures.iuse, c.in_ok-words.ensures.properties, c.value_of.ensures) refl

pub returns-clause-errors : goal.returns-clause-errors
returns-clause-errors c = c.in_ok-note_head.ensures ∙ rw (c.is_some.ensures, c.in_ok-slots.ensures, c.bad_keyword.ensures, c.bad_flag.ensures, c.in_ok-words.ensures.keywords, c.in_ok-words.ensures.iuse, c.value_of.ensures) refl
