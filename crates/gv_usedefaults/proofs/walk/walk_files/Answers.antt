use Rattle.std.proofs.Common.{◌≡◌, rules}
use Rattle.gv_usedefaults.specs.Walk.{starts_of}
use Rattle.gv_usedefaults.proofs.WalkLemmas.{faulted, made_cause, made_walk, read_cause}
use Rattle.gv_usedefaults.proofs.walk.walk_files.Goals as goal

pub returns-in_err-files-clause-cause : goal.returns-in_err-files-clause-cause
returns-in_err-files-clause-cause g c =
    let ps = c.args.repo.now.profiles in
    let begin : c.in_ok-starts.starts ≡ starts_of ps = search rules in
    rw (faulted c.from_residual-in_err-files.result c.from_residual-in_err-files.ensures.1)
    (read_cause (g.T.Tree.files c.args.tree.now) (g.T.Tree.faults c.args.tree.now) (g.T.Tree.faults c.read_line_files.new.tree) ps c.in_ok-starts.starts c.in_err-files.field-0.0 begin c.in_err-files.ensures.cause)

pub returns-clause-walk : goal.returns-clause-walk
returns-clause-walk g c =
    let ps = c.args.repo.now.profiles in
    let begin : c.in_ok-starts.starts ≡ starts_of ps = search rules in
    made_walk (g.T.Tree.files c.args.tree.now) ps c.in_ok-starts.starts c.in_ok-files.files.items begin c.in_ok-files.ensures.read c.stacked.result c.stacked.ensures.files c.stacked.ensures.stacks c.stacked.ensures.short

pub returns-clause-cause : goal.returns-clause-cause
returns-clause-cause g c =
    let ps = c.args.repo.now.profiles in
    let begin : c.in_ok-starts.starts ≡ starts_of ps = search rules in
    made_cause (g.T.Tree.files c.args.tree.now) ps c.in_ok-starts.starts c.in_ok-files.files.items begin c.in_ok-files.ensures.read (g.T.Tree.faults c.args.tree.now) (g.T.Tree.faults c.read_line_files.new.tree) c.stacked.result c.in_ok-files.ensures.calm c.stacked.ensures.cause
