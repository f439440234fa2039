use Rattle.gv_reload.proofs.Rereads.{no_file, no_room, refused_of, reread_of, untold_of}
use Rattle.gv_reload.proofs.rereading.reread_entries.Goals as goal

pub read_edited-requires : goal.read_edited-requires
read_edited-requires g c = record { knows = c.new-reader.ensures.knows (g.T.Tree.files c.args.tree.now) }

pub returns-in-Ok-put_together-clause-reread : goal.returns-in-Ok-put_together-clause-reread
returns-in-Ok-put_together-clause-reread g c =
    reread_of c.in_order_law.ensures c.split_pf_law.ensures c.args.edits.now c.args.old c.requires.old_order c.requires.entries
    c.paths.result.now c.in-Ok.read c.paths.ensures c.new-reader.ensures.is c.in-Ok.ensures.classless c.in-Ok.ensures.reads c.in-Ok-put_together.reread c.in-Ok-put_together.ensures.made

pub returns-in-Ok-put_together-clause-unclear : goal.returns-in-Ok-put_together-clause-unclear
returns-in-Ok-put_together-clause-unclear g c =
    untold_of c.args.edits.now c.args.old c.paths.result.now c.in-Ok.read c.paths.ensures c.in-Ok.ensures.reads c.in-Ok-put_together.reread c.in-Ok-put_together.ensures.untold

pub returns-in-Err-NotARepository-clause-unclear : goal.returns-in-Err-NotARepository-clause-unclear
returns-in-Err-NotARepository-clause-unclear g c =
    refused_of c.args.edits.now c.args.old (g.T.Tree.files c.args.tree.now) c.paths.result.now _ c.paths.ensures c.new-reader.ensures.is (no_file (g.T.Tree.files c.args.tree.now) (g.T.Tree.faults c.args.tree.now) (g.T.Tree.faults c.read_edited.new.tree) c.in-Err-NotARepository.field-0-is c.in-Err-NotARepository.ensures.reads.cause)

pub returns-in-Err-Limit-clause-unclear : goal.returns-in-Err-Limit-clause-unclear
returns-in-Err-Limit-clause-unclear g c =
    refused_of c.args.edits.now c.args.old (g.T.Tree.files c.args.tree.now) c.paths.result.now _ c.paths.ensures c.new-reader.ensures.is (no_room (g.T.Tree.files c.args.tree.now) (g.T.Tree.faults c.args.tree.now) (g.T.Tree.faults c.read_edited.new.tree) c.in-Err-Limit.field-0-is c.in-Err-Limit.ensures.reads.cause)
