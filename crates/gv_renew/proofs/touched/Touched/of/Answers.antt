use Rattle.std.proofs.Common.{ap, ◌∙◌}
use Rattle.gv_facts.specs.declared.kinds.Class.TheVariants.{Depend, Bdepend, Rdepend, Pdepend, Idepend}
use Rattle.gv_renew.specs.Mentioned.{numbers_of}
use Rattle.gv_renew.proofs.MarkLemmas.{unmarked}
use Rattle.gv_renew.proofs.touched.Touched.of.Goals as goal

pub near_mentions-requires : goal.near_mentions-requires
near_mentions-requires c = unmarked c.args.edits.now c.args.marks.now c.requires.marks c.args.body.now c.numbers.result.now c.some_marked-near.result c.some_marked-near.ensures (c.numbers.ensures ∙ ap numbers_of c.requires.names) Depend

pub near_mentions-requires-2 : goal.near_mentions-requires-2
near_mentions-requires-2 c = unmarked c.args.edits.now c.args.marks.now c.requires.marks c.args.body.now c.numbers.result.now c.some_marked-near.result c.some_marked-near.ensures (c.numbers.ensures ∙ ap numbers_of c.requires.names) Bdepend

pub near_mentions-requires-3 : goal.near_mentions-requires-3
near_mentions-requires-3 c = unmarked c.args.edits.now c.args.marks.now c.requires.marks c.args.body.now c.numbers.result.now c.some_marked-near.result c.some_marked-near.ensures (c.numbers.ensures ∙ ap numbers_of c.requires.names) Rdepend

pub near_mentions-requires-4 : goal.near_mentions-requires-4
near_mentions-requires-4 c = unmarked c.args.edits.now c.args.marks.now c.requires.marks c.args.body.now c.numbers.result.now c.some_marked-near.result c.some_marked-near.ensures (c.numbers.ensures ∙ ap numbers_of c.requires.names) Pdepend

pub near_mentions-requires-5 : goal.near_mentions-requires-5
near_mentions-requires-5 c = unmarked c.args.edits.now c.args.marks.now c.requires.marks c.args.body.now c.numbers.result.now c.some_marked-near.result c.some_marked-near.ensures (c.numbers.ensures ∙ ap numbers_of c.requires.names) Idepend
