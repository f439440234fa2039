-- What is kept of the files of directories stays what they say.
use Rattle.std.proofs.Common.{◌≡◌, ℕ, List, [], Bool, true, false, cond, Option, Some, None, refl, sym, ap, ◌∙◌}
use Rattle.std.proofs.lemmas.Map.Text.{is_eq-slice_cmp}
use Rattle.std.proofs.lemmas.Slice.Eq.{bytes_eq-Decides}
use Rattle.std.specs.Cmp.Lexicographic.{nat_list_cmp_total}
use Rattle.std.specs.FinMap.{get, insert, get-empty, get-insert}
use Rattle.std.specs.Prelude.{Result, Ok, Err, OnOk, OnErr}
use Rattle.std.specs.Str.{bytes_eq}
use Rattle.gv_base.specs.ByteMap.{ByteMap, Bytes, map_of}
use Rattle.gv_base.specs.Order.{byte_cmp}
use Rattle.gv_profile.specs.Dirs.{DirMap}
use Rattle.gv_profile.specs.MaskLines.{mask_lines}
use Rattle.gv_profile.specs.declared.files.DirFiles.{DirFiles}
use Rattle.gv_profile.specs.declared.mask_lines.MaskLine.{MaskLine}
use Rattle.gv_profile.specs.declared.sources.DirLines.{DirLines}
use Rattle.gv_profile.specs.Sources.{AreParsed, lines_of}
use Rattle.gv_reading.specs.declared.files.NamedFile.{NamedFile}

-- a look-up behind an insertion
got : (kept : ByteMap DirLines) (key : List ℕ) (lines : DirLines) (path : List ℕ) → get (insert kept key lines) path ≡ cond (bytes_eq path key) (Some lines) (get kept path)
got kept key lines path = get-insert nat_list_cmp_total kept key lines path ∙ ap (λ (b : Bool). cond b (Some lines) (get kept path)) (is_eq-slice_cmp path key)

-- one more directory
pub one_more : (dirs : DirMap) (kept : ByteMap DirLines) (first : List NamedFile) (first_lines : Option (List MaskLine)) (dir : List ℕ) (files : DirFiles) →
    AreParsed dirs kept first first_lines → get dirs dir ≡ Some files → AreParsed dirs (insert kept dir (lines_of files)) first first_lines
one_more dirs kept first first_lines dir files all is = record {
  at = λ path those said there kept_at.
      elim (bytes_eq path dir) as (λ b. bytes_eq path dir ≡ b → said ≡ lines_of those) [
        | true ↦ λ equal.
            let same : path ≡ dir = (bytes_eq-Decides path dir).0 equal in
            let here : Some files ≡ Some those = sym is ∙ ap (get dirs) (sym same) ∙ there in
            let new : Some (lines_of files) ≡ Some said = rw equal at (sym (got kept dir (lines_of files) path) ∙ kept_at) in
            cc
        | false ↦ λ differs.
            let old : get kept path ≡ Some said = rw differs at (sym (got kept dir (lines_of files) path) ∙ kept_at) in
            all.at path those said there old
      ] refl;
  before = all.before;
}

no_lines : {X : Type 0} → (x y : X) → None ≡ Some x → x ≡ y
no_lines x y is = cc

-- before the first visit
pub nothing_kept : (dirs : DirMap) (first : List NamedFile) → AreParsed dirs (map_of []) first None
nothing_kept dirs first = record {
  at = λ path files said there kept. no_lines said (lines_of files) (sym (get-empty byte_cmp path) ∙ kept);
  before = λ said kept. no_lines said (mask_lines first) kept;
}

-- one more directory, where there was memory for it
pub after : {T E : Type 0} (result : Result T E) (dirs : DirMap) (old new : List (Bytes × DirLines)) (first : List NamedFile) (first_lines : Option (List MaskLine)) (dir : List ℕ) (files : DirFiles) (lines : DirLines) →
    AreParsed dirs (map_of old) first first_lines → get dirs dir ≡ Some files → lines ≡ lines_of files →
    OnOk result (map_of new ≡ insert (map_of old) dir lines) → OnErr result (new ≡ old) → AreParsed dirs (map_of new) first first_lines
after (Ok value) dirs old new first first_lines dir files lines all there is ok err = rw (ok, is) (one_more dirs (map_of old) first first_lines dir files all there)
after (Err fault) dirs old new first first_lines dir files lines all there is ok err = rw err all
