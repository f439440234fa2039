use Rattle.std.proofs.Common.{◌≡◌, ◌∷◌, List, ℕ, filter, refl, sym, ap, ◌∙◌}
use Rattle.gv_reading.specs.Causes.{view}
use Rattle.gv_reading.specs.NamedFiles.{counts, folder_files, folder_names, folder_steps, name_steps}
use Rattle.gv_reading.specs.Passing.{ended_first, faulted, reads_then}
use Rattle.gv_reading.specs.Reading.{list}
use Rattle.gv_reading.specs.declared.files.NamedFile.{NamedFile}
use Rattle.gv_base.specs.declared.tree.Found.TheVariants.{Dir}
use Rattle.gv_reading.proofs.named_files.read_folder.Goals as goal

pub returns-in_err-listed : goal.returns-in_err-listed
returns-in_err-listed g c =
    let path = c.args.path.now in
    rw (faulted c.from_residual.result c.from_residual.ensures.1) (ended_first (λ look. name_steps path (folder_names look path)) c.in_err-listed.ensures (λ look. refl))

pub returns : goal.returns
returns g c =
    let path = c.args.path.now in
    let names = c.in_ok-names.names in
    reads_then g.T.Tree.failed_at (view g.T.Tree.files g.T.Tree.faults g.T.Tree.entered g.T.Tree.lent) (λ look. name_steps path names) (λ look. folder_steps look path Dir)
    (λ look (named : List NamedFile). named ≡ folder_files look path names) (λ look (named : List NamedFile). named ≡ folder_files look path (folder_names look path)) c.read_names.new.tree c.read_names.new.reader c.read_names.result c.in_ok-listed.ensures c.read_names.ensures
    (λ look is. ap (λ (ns : List (List ℕ)). list path ∷ name_steps path ns) (sym (c.in_ok-names.ensures ∙ ap (filter counts) is)))
    (λ look named is said. said ∙ ap (folder_files look path) (c.in_ok-names.ensures ∙ ap (filter counts) is))
