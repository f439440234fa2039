use Rattle.std.proofs.Common.{◌≡◌, true, false, Some, None, sym, ap, ◌∙◌}
use Rattle.std.specs.FinMap.{get, contains_key}
use Rattle.gv_base.specs.Listing.{is_folder}
use Rattle.gv_base.specs.FileMap.{FileMap}
use Rattle.gv_base.specs.Outside.{found_at, IsLarge}
use Rattle.gv_base.specs.declared.tree.Found.TheVariants as found
use Rattle.gv_edits.specs.Inner.{told_files}
use Rattle.gv_edits.specs.Kept.{put_files, cut_paths}
use Rattle.gv_edits.proofs.Overlays.{small_put}
use Rattle.gv_edits.proofs.Looks.{if_told, told_of, put_there, cut_there, file_stays, dir_is, dir_there, absent_there, large_stays}
use Rattle.gv_edits.proofs.looking.read_edited.Goals as goal

pub returns-in-Some-clause-found : goal.returns-in-Some-clause-found
returns-in-Some-clause-found g c =
    let told = g.T.Tree.files c.args.tree.now in
    let es = c.args.edits.now in
    let path = c.args.path.now in
    let at : get (put_files es) path ≡ Some c.in_ok-of.field-0 = sym (rw c.bytes.ensures at c.in-Some.ensures.value) ∙ ap Some (sym c.in_ok-of.ensures) in
    if_told told es (λ (m : FileMap). found.File c.in_ok-of.field-0 ≡ found_at m path) (λ t. put_there (told_files told) es path c.in_ok-of.field-0 at)

pub returns-in-Some-clause-small : goal.returns-in-Some-clause-small
returns-in-Some-clause-small g c =
    let es = c.args.edits.now in
    let path = c.args.path.now in
    let at : get (put_files es) path ≡ Some c.in_ok-of.field-0 = sym (rw c.bytes.ensures at c.in-Some.ensures.value) ∙ ap Some (sym c.in_ok-of.ensures) in
    small_put es path c.in_ok-of.field-0 c.in-Some.ensures.short at

pub returns-then-is_cut-clause-found : goal.returns-then-is_cut-clause-found
returns-then-is_cut-clause-found g c =
    let told = g.T.Tree.files c.args.tree.now in
    let es = c.args.edits.now in
    let path = c.args.path.now in
    let put : get (put_files es) path ≡ None = sym (rw c.bytes.ensures at c.in_default.ensures.value) in
    let cut : contains_key (cut_paths es) path ≡ true = rw c.bytes-2.ensures at (sym c.if-is_cut.ensures) in
    if_told told es (λ (m : FileMap). c.folder_or_absent.result ≡ found_at m path)
    (λ t. c.folder_or_absent.ensures ∙ cut_there (told_files told) es path c.in_ok-is_folder.is_folder put cut (c.in_ok-is_folder.ensures.is t))

pub is_folder_left-requires : goal.is_folder_left-requires
is_folder_left-requires g c =
    let told = g.T.Tree.files c.args.tree.now in
    let path = c.args.path.now in
    rw c.read.ensures.files (λ t. dir_is (told_files told) path (told_of told (λ (m : FileMap). found.Dir ≡ found_at m path) (rw c.in-Ok-Dir.field-0-is at c.in-Ok-Dir.ensures.found) t))

pub returns-in-Ok-File-clause-found : goal.returns-in-Ok-File-clause-found
returns-in-Ok-File-clause-found g c =
    let told = g.T.Tree.files c.args.tree.now in
    let es = c.args.edits.now in
    let path = c.args.path.now in
    let put : get (put_files es) path ≡ None = sym (rw c.bytes.ensures at c.in_default.ensures.value) in
    let cut : contains_key (cut_paths es) path ≡ false = rw c.bytes-2.ensures at (sym c.if-is_cut.ensures) in
    if_told told es (λ (m : FileMap). found.File c.in-Ok-File.text ≡ found_at m path)
    (λ t. file_stays (told_files told) es path c.in-Ok-File.text put cut (told_of told (λ (m : FileMap). found.File c.in-Ok-File.text ≡ found_at m path) (rw c.in-Ok-File.field-0-is at c.in-Ok-File.ensures.found) t))

pub returns-in_ok-is_folder-in-Ok-Dir-clause-found : goal.returns-in_ok-is_folder-in-Ok-Dir-clause-found
returns-in_ok-is_folder-in-Ok-Dir-clause-found g c =
    let told = g.T.Tree.files c.args.tree.now in
    let es = c.args.edits.now in
    let path = c.args.path.now in
    let put : get (put_files es) path ≡ None = sym (rw c.bytes.ensures at c.in_default.ensures.value) in
    let cut : contains_key (cut_paths es) path ≡ false = rw c.bytes-2.ensures at (sym c.if-is_cut.ensures) in
    let is = rw c.read.ensures.files at c.in_ok-is_folder-in-Ok-Dir.ensures.is in
    if_told told es (λ (m : FileMap). c.folder_or_absent-in-Ok-Dir.result ≡ found_at m path)
    (λ t. c.folder_or_absent-in-Ok-Dir.ensures ∙ dir_there (told_files told) es path c.in_ok-is_folder-in-Ok-Dir.is_folder put cut
    (told_of told (λ (m : FileMap). found.Dir ≡ found_at m path) (rw c.in-Ok-Dir.field-0-is at c.in-Ok-Dir.ensures.found) t) (is t))

pub returns-in_ok-is_folder-in-Ok-Absent-clause-found : goal.returns-in_ok-is_folder-in-Ok-Absent-clause-found
returns-in_ok-is_folder-in-Ok-Absent-clause-found g c =
    let told = g.T.Tree.files c.args.tree.now in
    let es = c.args.edits.now in
    let path = c.args.path.now in
    let put : get (put_files es) path ≡ None = sym (rw c.bytes.ensures at c.in_default.ensures.value) in
    let cut : contains_key (cut_paths es) path ≡ false = rw c.bytes-2.ensures at (sym c.if-is_cut.ensures) in
    let is : c.in_ok-is_folder-in-Ok-Absent.is_folder ≡ is_folder (put_files es) path = rw c.bytes-in-Ok-Absent.ensures at c.in_ok-is_folder-in-Ok-Absent.ensures in
    if_told told es (λ (m : FileMap). c.folder_or_absent-in-Ok-Absent.result ≡ found_at m path)
    (λ t. c.folder_or_absent-in-Ok-Absent.ensures ∙ absent_there (told_files told) es path c.in_ok-is_folder-in-Ok-Absent.is_folder put cut
    (told_of told (λ (m : FileMap). found.Absent ≡ found_at m path) (rw c.in-Ok-Absent.field-0-is at c.in-Ok-Absent.ensures.found) t) is)

pub returns-in-Err-clause-large : goal.returns-in-Err-clause-large
returns-in-Err-clause-large g c =
    let told = g.T.Tree.files c.args.tree.now in
    let es = c.args.edits.now in
    let path = c.args.path.now in
    let put : get (put_files es) path ≡ None = sym (rw c.bytes.ensures at c.in_default.ensures.value) in
    let cut : contains_key (cut_paths es) path ≡ false = rw c.bytes-2.ensures at (sym c.if-is_cut.ensures) in
    λ e. if_told told es (λ (m : FileMap). IsLarge 16777216 m path) (λ t. large_stays (told_files told) es path put cut (told_of told (λ (m : FileMap). IsLarge 16777216 m path) (c.in-Err.ensures.large e) t))
