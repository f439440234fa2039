-- The texts by which edited entries are looked up, with one path more.
use Rattle.std.proofs.Common.{◌≡◌, ◌≢◌, ℕ, false, ◌||◌, List, [], ◌∷◌, ◌++◌, map, refl, sym, ap, ◌∙◌}
use Rattle.std.specs.Prelude.{codes}
use Rattle.std.specs.Str.{bytes_eq}
use Rattle.std.proofs.lemmas.List.{append_cancel_left}
use Rattle.gv_base.specs.Order.{has_text}
use Rattle.gv_reading.specs.Paths.{within}
use Rattle.gv_reload.specs.EditKeys.{AreKeys}
use Rattle.gv_reload.specs.EntryEdits.{entry_name}
use Rattle.gv_load.specs.Paths.{cache_dir, entry_path}
use Rattle.gv_reload.proofs.JoinedLemmas.{at_end, begins_not, texts_so}

map_end : (texts : List (List ℕ)) (more : List ℕ) → map entry_name (texts ++ more ∷ []) ≡ map entry_name texts ++ entry_name more ∷ []
map_end [] more = refl
map_end (t ∷ ts) more = ap (λ ns. entry_name t ∷ ns) (map_end ts more)

abbrev folder : List ℕ
folder = codes "metadata/md5-cache/"

path_is : (category pf : List ℕ) → entry_path category pf ≡ folder ++ within category pf
unfolding cache_dir
path_is category pf = refl

-- a path of an entry, and another one
pub entry_there : (path rest category pf : List ℕ) → path ≡ folder ++ rest → bytes_eq (entry_path category pf) path ≡ bytes_eq (within category pf) rest
entry_there path rest category pf is = texts_so (entry_path category pf) path (within category pf) rest
    (λ e. append_cancel_left folder (within category pf) rest (sym (path_is category pf) ∙ e ∙ is))
    (λ e. path_is category pf ∙ ap (λ end. folder ++ end) e ∙ sym is)

pub entry_none : (path category pf : List ℕ) → ((rest : List ℕ) → path ≢ folder ++ rest) → bytes_eq (entry_path category pf) path ≡ false
entry_none path category pf none = ap (λ text. bytes_eq text path) (path_is category pf) ∙ begins_not folder (within category pf) path none

pub entry_added : (path rest : List ℕ) (entries more : List (List ℕ)) → path ≡ folder ++ rest → more ≡ entries ++ rest ∷ []
    → (category pf : List ℕ) → has_text more (within category pf) ≡ (bytes_eq (entry_path category pf) path || has_text entries (within category pf))
entry_added path rest entries more is are category pf =
    ap (λ texts. has_text texts (within category pf)) are ∙ at_end entries rest (within category pf)
    ∙ ap (λ b. b || has_text entries (within category pf)) (sym (entry_there path rest category pf is))

pub keys_with : (paths entries names more_entries more_names : List (List ℕ)) (path : List ℕ) → AreKeys paths entries names
    → ((category pf : List ℕ) → has_text more_entries (within category pf) ≡ (bytes_eq (entry_path category pf) path || has_text entries (within category pf)))
    → more_names ≡ names ++ entry_name path ∷ []
    → AreKeys (paths ++ path ∷ []) more_entries more_names
keys_with paths entries names more_entries more_names path are e n = record {
  entries_are = λ category pf. e category pf ∙ ap (λ b. bytes_eq (entry_path category pf) path || b) (are.entries_are category pf)
      ∙ sym (at_end paths path (entry_path category pf));
  names_are = n ∙ ap (λ ns. ns ++ entry_name path ∷ []) are.names_are ∙ sym (map_end paths path);
}
