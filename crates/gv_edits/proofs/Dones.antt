-- Edits as they are kept: a path, and what is put behind the edit.
use Rattle.std.proofs.Common.{◌≡◌, ◌≤◌, ℕ, List, [], ◌∷◌, ◌++◌, true, ◌&&◌, map, length, Some, None, refl, sym, ap, ◌∙◌, arith}
use Rattle.std.specs.Prelude.{nat_le}
use Rattle.std.specs.FinMap.{empty, get, insert, remove, get-insert, get-remove}
use Rattle.std.specs.Cmp.Lexicographic.{nat_list_cmp_total}
use Rattle.std.proofs.lemmas.Map.Text.{is_eq-slice_cmp}
use Rattle.std.proofs.lemmas.List.{map-append}
use Rattle.std.proofs.lemmas.List.Folds.{list_all-append}
use Rattle.std.proofs.lemmas.List.Sums.{fold-append}
use Rattle.gv_base.specs.FileMap.{FileMap}
use Rattle.gv_edits.specs.declared.edit.Edit.{Edit}
use Rattle.gv_edits.specs.declared.edit.Edit.TheVariants.{Put, Cut}
use Rattle.gv_edits.specs.declared.edits.Done.{Done}
use Rattle.gv_edits.specs.Edits.{after_edit}
use Rattle.gv_edits.specs.Kept.{put_files, after_cut, cut_paths, is_short, are_short, edit_with, edit_of}
use Rattle.gv_base.specs.Folders.{equal_bytes, and_both}

pub put_then : (puts : FileMap) (path bytes : List ℕ) → edit_of path (insert puts path bytes) ≡ Put path bytes
put_then puts path bytes =
    let there : get (insert puts path bytes) path ≡ Some bytes = get-insert nat_list_cmp_total puts path bytes path ∙ rw (is_eq-slice_cmp path path, equal_bytes path) refl in
    ap (edit_with path) there

pub cut_then : (puts : FileMap) (path : List ℕ) → edit_of path (remove puts path) ≡ Cut path
cut_then puts path =
    let gone : get (remove puts path) path ≡ None = get-remove nat_list_cmp_total puts path path ∙ rw (is_eq-slice_cmp path path, equal_bytes path) refl in
    ap (edit_with path) gone

-- ---- one more edit
abbrev pub kept : List Done → List Edit
kept dones = map (λ d. edit_of d.path d.puts.value) dones

pub put_kept : (dones more : List Done) (d : Done) (puts : FileMap) (path bytes : List ℕ) → more ≡ dones ++ d ∷ [] → d.path ≡ path → d.puts.value ≡ insert puts path bytes → kept more ≡ kept dones ++ Put path bytes ∷ []
put_kept dones more d puts path bytes is at after =
    ap kept is ∙ map-append (λ (d : Done). edit_of d.path d.puts.value) dones (d ∷ [])
    ∙ ap (λ e. kept dones ++ e ∷ []) (ap (λ p. edit_of p d.puts.value) at ∙ ap (edit_of path) after ∙ put_then puts path bytes)

pub cut_kept : (dones more : List Done) (d : Done) (puts : FileMap) (path : List ℕ) → more ≡ dones ++ d ∷ [] → d.path ≡ path → d.puts.value ≡ remove puts path → kept more ≡ kept dones ++ Cut path ∷ []
cut_kept dones more d puts path is at after =
    ap kept is ∙ map-append (λ (d : Done). edit_of d.path d.puts.value) dones (d ∷ [])
    ∙ ap (λ e. kept dones ++ e ∷ []) (ap (λ p. edit_of p d.puts.value) at ∙ ap (edit_of path) after ∙ cut_then puts path)

-- what is kept of edits is what they come to
abbrev pub Come : List Edit → FileMap → FileMap → Type 0
Come es puts cuts = (puts ≡ put_files es) × (cuts ≡ cut_paths es) × (are_short es ≡ true)

come_more : (es : List Edit) (e : Edit) (puts cuts : FileMap) → Come es puts cuts → is_short e ≡ true → Come (es ++ e ∷ []) (after_edit puts e) (after_cut cuts e)
come_more es e puts cuts h short = (
  ap (λ (m : FileMap). after_edit m e) h.0 ∙ sym (fold-append after_edit empty es (e ∷ [])),
  ap (λ (m : FileMap). after_cut m e) h.1 ∙ sym (fold-append after_cut empty es (e ∷ [])),
  list_all-append is_short es (e ∷ []) ∙ and_both (are_short es) (is_short e && true) h.2 (and_both (is_short e) true short refl),
)

pub put_comes : (es new : List Edit) (puts cuts more less : FileMap) (path bytes : List ℕ) → new ≡ es ++ Put path bytes ∷ [] → more ≡ insert puts path bytes → less ≡ remove cuts path
    → Come es puts cuts → length path ≤ 4096 → length bytes ≤ 16777216 → Come new more less
put_comes es new puts cuts more less path bytes is p c h short small =
    let few : nat_le (length path) 4096 ≡ true = grind arith in
    let low : nat_le (length bytes) 16777216 ≡ true = grind arith in
    rw (is, p, c) (come_more es (Put path bytes) puts cuts h (and_both (nat_le (length path) 4096) (nat_le (length bytes) 16777216) few low))

pub cut_comes : (es new : List Edit) (puts cuts less more : FileMap) (path : List ℕ) → new ≡ es ++ Cut path ∷ [] → less ≡ remove puts path → more ≡ insert cuts path []
    → Come es puts cuts → length path ≤ 4096 → Come new less more
cut_comes es new puts cuts less more path is p c h short =
    let few : nat_le (length path) 4096 ≡ true = grind arith in
    rw (is, p, c) (come_more es (Cut path) puts cuts h few)
