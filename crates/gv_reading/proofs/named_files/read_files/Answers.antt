use Rattle.std.proofs.Common.{◌≡◌, ◌∷◌, List, refl, sym, ap, ◌∙◌}
use Rattle.gv_base.specs.declared.tree.Found.{Found}
use Rattle.gv_base.specs.declared.tree.Found.TheVariants.{Dir}
use Rattle.gv_reading.specs.Causes.{view}
use Rattle.gv_reading.specs.NamedFiles.{file_steps, files_as, files_at, folder_steps}
use Rattle.gv_reading.specs.Passing.{ended_first, faulted, reads_then}
use Rattle.gv_reading.specs.Reading.{read}
use Rattle.gv_reading.specs.declared.files.NamedFile.{NamedFile}
use Rattle.gv_reading.proofs.named_files.read_files.Goals as goal

pub returns-in_err-bytes : goal.returns-in_err-bytes
returns-in_err-bytes g c =
    let path = c.args.path.now in
    rw (faulted c.from_residual.result c.from_residual.ensures.1) (ended_first (λ look. folder_steps look path (look.found path)) c.in_err-bytes.ensures (λ look. refl))

pub returns-in-Dir : goal.returns-in-Dir
returns-in-Dir g c =
    let path = c.args.path.now in
    reads_then g.T.Tree.failed_at (view g.T.Tree.files g.T.Tree.faults g.T.Tree.entered g.T.Tree.lent) (λ look. folder_steps look path Dir) (λ look. file_steps look path)
    (λ look (named : List NamedFile). named ≡ files_as look path Dir) (λ look (named : List NamedFile). named ≡ files_at look path) c.read_folder.new.tree c.read_folder.new.reader c.read_folder.result c.in_ok-bytes.ensures c.read_folder.ensures
    (λ look is. ap (λ (f : Found). read path ∷ folder_steps look path f) (sym is ∙ c.in-Dir.is))
    (λ look named is said. said ∙ ap (files_as look path) (sym (sym is ∙ c.in-Dir.is)))
