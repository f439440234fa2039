-- The overlay that was loaded, or the first refusal.
use Rattle.std.proofs.Common.{◌≡◌, ◌<◌, ◌≤◌, ◌+◌, ℕ, zero, suc, true, false, List, [], ◌∷◌, ◌++◌, length, map, get_or, take, drop, Some, None, refl, sym, ap, subst, ◌∙◌, append_assoc, append-nil, arith}
use Rattle.std.specs.Prelude.{Option, IfSome, Result, Ok, Err}
use Rattle.std.proofs.Math.Seq.{drop-cons}
use Rattle.std.proofs.lemmas.List.{take-append-drop, take_more, map-append}
use Rattle.gv_base.specs.FileMap.{FileMap}
use Rattle.gv_load.specs.OwnLines.{HaveOwnLines}
use Rattle.gv_reading.specs.declared.faults.LoadFault.{LoadFault}
use Rattle.gv_load.specs.declared.loading.Repo.{Repo}
use Rattle.gv_views.specs.Told.{IsTold, told_files}
use Rattle.gv_views.specs.Views.{layers_of}
use Rattle.gv_views.specs.declared.layers.Layers.{Layers}
use Rattle.gv_overlay.specs.declared.combining.Entry.{Entry}
use Rattle.gv_overlay.specs.declared.faults.OverlayFault.{OverlayFault}
use Rattle.gv_overlay.specs.declared.faults.OverlayFault.TheVariants.{Limit, NoMemory, NotARepository, Tree}
use Rattle.gv_overlay.specs.declared.overlay.Overlay.{Overlay}
use Rattle.gv_overlay.specs.Combined.{AreCombined, entries_of, master_entries, repo_entries}
use Rattle.gv_overlay.specs.Loaded.{HasAdded, IsPutTogether}
use Rattle.gv_overlay.specs.Overlays.{IsOverlay, OverlayCause, layered_loading, master_fault, master_loading, master_refusal, masters_named, masters_refusal, overlay_refusal, own_fault, own_loading, own_refusal, refusal_by}
use Rattle.gv_overlay.specs.Refused.{IsFaultOf, IsMasterRefused, IsMastersFault, Refused}

-- what holds of the files that are told holds where they are told
if_told : (told : Option FileMap) (P : FileMap → Type 0) → (IsTold told → P (told_files told)) → IfSome told P
unfolding told_files
if_told None P h = tt
if_told (Some m) P h = h refl

-- ---- masters that are all loaded refuse nothing
all_loaded : (files : FileMap) (folders : List (List ℕ)) (repos : List Repo) (rest : Option OverlayFault) → map (master_loading files) folders ≡ map Ok repos → masters_refusal files folders rest ≡ rest
all_loaded files [] repos rest e = refl
all_loaded files (folder ∷ folders) [] rest e = cc
all_loaded files (folder ∷ folders) (repo ∷ repos) rest e =
    let here : master_loading files folder ≡ Ok repo = cc in
    let later : map (master_loading files) folders ≡ map Ok repos = cc in
    ap (λ r. master_refusal folder r (masters_refusal files folders rest)) here ∙ all_loaded files folders repos rest later

pub excludes_refusal : (files : FileMap) (name : List ℕ) (over : Overlay) → IsOverlay files name over → overlay_refusal files name ≡ None
excludes_refusal files name over is =
    ap (refusal_by files name) is.named
    ∙ (all_loaded files is.masters is.repos (own_refusal (own_loading files name is.masters)) is.loaded ∙ ap own_refusal is.own_loaded)

refusal_append : (files : FileMap) (xs ys : List (List ℕ)) (rest : Option OverlayFault) → masters_refusal files (xs ++ ys) rest ≡ masters_refusal files xs (masters_refusal files ys rest)
refusal_append files [] ys rest = refl
refusal_append files (x ∷ xs) ys rest = ap (λ r. master_refusal x (master_loading files x) r) (refusal_append files xs ys rest)

-- ---- one master more
module _ (told : Option FileMap) (folders : List (List ℕ)) where
  abbrev loads : List (List ℕ) → List (Result Repo LoadFault)
  loads fs = map (master_loading (told_files told)) fs

  pub none_added : (entries : List Entry) (i : ℕ) → i ≡ 0 → IsTold told → HasAdded (loads (take i folders)) entries entries
  none_added entries i e t = subst (λ (n : ℕ). HasAdded (loads (take n folders)) entries entries) (sym e) (record { repos = []; loaded = refl; added = sym (append-nil entries) })

  entries_append : (xs ys : List Repo) → master_entries (xs ++ ys) ≡ master_entries xs ++ master_entries ys
  entries_append [] ys = refl
  entries_append (x ∷ xs) ys = ap (λ l. repo_entries false x ++ l) (entries_append xs ys) ∙ sym (append_assoc (repo_entries false x) (master_entries xs) (master_entries ys))

  pub more_added : (before mid now : List Entry) (i : ℕ) (folder : List ℕ) → i < length folders → folder ≡ get_or folders i folder → (IsTold told → HasAdded (loads (take i folders)) before mid)
      → (IsTold told → HasAdded (loads (folder ∷ [])) mid now) → IsTold told → HasAdded (loads (take (i + 1) folders)) before now
  more_added before mid now i folder lt here first second t =
      let one = first t in
      let two = second t in
      record {
        repos = one.repos ++ two.repos;
        loaded = ap loads (take_more folders i folder lt ∙ ap (λ f. take i folders ++ f ∷ []) (sym here))
            ∙ (map-append (master_loading (told_files told)) (take i folders) (folder ∷ [])
            ∙ (ap (λ l. l ++ loads (folder ∷ [])) one.loaded ∙ (ap (λ l. map Ok one.repos ++ l) two.loaded ∙ sym (map-append Ok one.repos two.repos))));
        added = two.added ∙ (ap (λ l. l ++ master_entries two.repos) one.added ∙ (append_assoc before (master_entries one.repos) (master_entries two.repos) ∙ ap (λ l. before ++ l) (sym (entries_append one.repos two.repos))));
      }

  whole : (xs : List (List ℕ)) (i : ℕ) → length xs ≤ i → take i xs ≡ xs
  whole [] zero le = refl
  whole [] (suc i) le = refl
  whole (x ∷ xs) zero le = absurd (omega arith)
  whole (x ∷ xs) (suc i) le = ap (λ ys. x ∷ ys) (whole xs i (omega arith))

  pub all_added : (before now : List Entry) (i : ℕ) → length folders ≤ i → (IsTold told → HasAdded (loads (take i folders)) before now) → IsTold told → HasAdded (loads folders) before now
  all_added before now i le h t = subst (λ (fs : List (List ℕ)). HasAdded (loads fs) before now) (whole folders i le) (h t)

  is_refused : (before now : List Entry) (i : ℕ) (folder : List ℕ) (fault : OverlayFault) → i < length folders → folder ≡ get_or folders i folder → HasAdded (loads (take i folders)) before now
      → IsMasterRefused (folder ∷ []) (told_files told) fault → IsMasterRefused folders (told_files told) fault
  is_refused before now i folder fault lt here added refused rest =
      let behind : drop i folders ≡ folder ∷ drop (suc i) folders = drop-cons folders i folder lt ∙ ap (λ (f : List ℕ). f ∷ drop (suc i) folders) (sym here) in
      let split : folders ≡ take i folders ++ (folder ∷ drop (suc i) folders) = sym (take-append-drop i folders) ∙ ap (λ (l : List (List ℕ)). take i folders ++ l) behind in
      ap (λ fs. masters_refusal (told_files told) fs rest) split
      ∙ (refusal_append (told_files told) (take i folders) (folder ∷ drop (suc i) folders) rest
      ∙ (all_loaded (told_files told) (take i folders) added.repos (masters_refusal (told_files told) (folder ∷ drop (suc i) folders) rest) added.loaded
      ∙ (refusal_append (told_files told) (folder ∷ []) (drop (suc i) folders) rest
      ∙ refused (masters_refusal (told_files told) (drop (suc i) folders) rest))))

  pub master_cause : (b n : ℕ) (before now : List Entry) (i : ℕ) (folder : List ℕ) (fault : OverlayFault) → i < length folders → folder ≡ get_or folders i folder → (IsTold told → HasAdded (loads (take i folders)) before now)
      → Refused told b n (IsMasterRefused (folder ∷ [])) fault → Refused told b n (IsMasterRefused folders) fault
  master_cause b n before now i folder NoMemory lt here added h = tt
  master_cause b n before now i folder (Tree p) lt here added h = h
  master_cause b n before now i folder (NotARepository p) lt here added h = (h.0, λ t. is_refused before now i folder (NotARepository p) lt here (added t) (h.1 t))
  master_cause b n before now i folder (Limit p k) lt here added h = (h.0, λ t. is_refused before now i folder (Limit p k) lt here (added t) (h.1 t))

-- ---- one master
one_refused : (files : FileMap) (folder : List ℕ) (fault : OverlayFault) → IsFaultOf (master_fault folder) (λ fs. master_loading fs folder) files fault → IsMasterRefused (folder ∷ []) files fault
one_refused files folder fault h rest = ap (λ r. master_refusal folder r rest) h.1 ∙ ap Some (sym h.2)

pub one_cause : (told : Option FileMap) (b n : ℕ) (folder : List ℕ) (fault : OverlayFault) → Refused told b n (IsFaultOf (master_fault folder) (λ files. master_loading files folder)) fault → Refused told b n (IsMasterRefused (folder ∷ [])) fault
one_cause told b n folder NoMemory h = tt
one_cause told b n folder (Tree p) h = h
one_cause told b n folder (NotARepository p) h = (h.0, λ t. one_refused (told_files told) folder (NotARepository p) (h.1 t))
one_cause told b n folder (Limit p k) h = (h.0, λ t. one_refused (told_files told) folder (Limit p k) (h.1 t))

pub one_added : (told : Option FileMap) (folder : List ℕ) (repo : Repo) (before now : List Entry) → (IsTold told → master_loading (told_files told) folder ≡ Ok repo) → now ≡ before ++ entries_of false repo.pkgs repo.bodies
    → IsTold told → HasAdded (map (master_loading (told_files told)) (folder ∷ [])) before now
one_added told folder repo before now loaded e t = record { repos = repo ∷ []; loaded = ap (λ r. r ∷ []) (loaded t); added = e ∙ ap (λ l. before ++ l) (sym (append-nil (repo_entries false repo))) }

-- ---- all of it
pub own_lines : (entries : List Entry) (own : Repo) (over : Overlay) → HaveOwnLines own.profiles → IsPutTogether entries own over → HaveOwnLines over.repo.profiles
own_lines entries own over lines put = subst HaveOwnLines (sym put.profiles_are) lines

module _ (told : Option FileMap) (name : List ℕ) where
  pub overlay_is : (masters : List (List ℕ)) (layers : Layers) (given entries : List Entry) (own : Repo) (over : Overlay) → given ≡ [] → layers ≡ layers_of name masters → (IsTold told → masters_named (told_files told) name ≡ Ok masters)
      → (IsTold told → HasAdded (map (master_loading (told_files told)) masters) given entries) → (IsTold told → layered_loading (told_files told) layers ≡ Ok own) → IsPutTogether entries own over
      → IfSome told (λ files. IsOverlay files name over)
  overlay_is masters layers given entries own over none e named added loaded put = if_told told (λ files. IsOverlay files name over) made
    where
      made : IsTold told → IsOverlay (told_files told) name over
      made t =
          let a = added t in
          let all : entries ≡ master_entries a.repos = a.added ∙ ap (λ l. l ++ master_entries a.repos) none in
          record {
            masters = masters;
            named = named t;
            repos = a.repos;
            loaded = a.loaded;
            own = own;
            own_loaded = ap (layered_loading (told_files told)) (sym e) ∙ loaded t;
            combined = record {
              entries = put.entries;
              combined = subst (λ (l : List Entry). AreCombined (l ++ repo_entries true own) put.entries) all put.combined;
              pkgs_are = put.pkgs_are;
              bodies_are = put.bodies_are;
              own_are = put.own_are;
              profiles_are = put.profiles_are;
              lines_are = put.lines_are;
              no_notes = put.no_notes;
              notes_are = put.notes_are;
            };
          }

  cause_by : (b n : ℕ) (Is : FileMap → OverlayFault → Type 0) (fault : OverlayFault) → (IsTold told → Is (told_files told) fault → overlay_refusal (told_files told) name ≡ Some fault) → Refused told b n Is fault → OverlayCause told name b n fault
  cause_by b n Is NoMemory to h = tt
  cause_by b n Is (Tree p) to h = h
  cause_by b n Is (NotARepository p) to h = (h.0, if_told told (λ files. overlay_refusal files name ≡ Some (NotARepository p)) (λ t. to t (h.1 t)))
  cause_by b n Is (Limit p k) to h = (h.0, if_told told (λ files. overlay_refusal files name ≡ Some (Limit p k)) (λ t. to t (h.1 t)))

  pub layout_cause : (b n : ℕ) (fault : OverlayFault) → Refused told b n (IsMastersFault (λ files. masters_named files name)) fault → OverlayCause told name b n fault
  layout_cause b n fault = cause_by b n (IsMastersFault (λ files. masters_named files name)) fault (λ t h. ap (refusal_by (told_files told) name) h)

  pub masters_cause : (b n : ℕ) (masters : List (List ℕ)) (fault : OverlayFault) → (IsTold told → masters_named (told_files told) name ≡ Ok masters) → Refused told b n (IsMasterRefused masters) fault → OverlayCause told name b n fault
  masters_cause b n masters fault named = cause_by b n (IsMasterRefused masters) fault
      (λ t h. ap (refusal_by (told_files told) name) (named t) ∙ h (own_refusal (own_loading (told_files told) name masters)))

  pub own_cause : (b n : ℕ) (masters : List (List ℕ)) (layers : Layers) (before now : List Entry) (fault : OverlayFault) → layers ≡ layers_of name masters → (IsTold told → masters_named (told_files told) name ≡ Ok masters)
      → (IsTold told → HasAdded (map (master_loading (told_files told)) masters) before now) → Refused told b n (IsFaultOf own_fault (λ files. layered_loading files layers)) fault → OverlayCause told name b n fault
  own_cause b n masters layers before now fault e named added = cause_by b n (IsFaultOf own_fault (λ files. layered_loading files layers)) fault
      (λ t h. ap (refusal_by (told_files told) name) (named t)
      ∙ (all_loaded (told_files told) masters (added t).repos (own_refusal (own_loading (told_files told) name masters)) (added t).loaded
      ∙ (ap own_refusal (ap (layered_loading (told_files told)) (sym e) ∙ h.1) ∙ ap Some (sym h.2))))

-- the same by the files as each step found them
module _ (told told1 told2 : Option FileMap) (same1 : told1 ≡ told) (same2 : told2 ≡ told) (name : List ℕ) (masters folders : List (List ℕ)) (items : folders ≡ masters) (layers : Layers) (is : layers ≡ layers_of name masters)
    (named : IsTold told → masters_named (told_files told) name ≡ Ok masters) (before now : List Entry) (added : IsTold told1 → HasAdded (map (master_loading (told_files told1)) folders) before now) where
  added_here : IsTold told → HasAdded (map (master_loading (told_files told)) masters) before now
  added_here =
      subst (λ (fs : List (List ℕ)). IsTold told → HasAdded (map (master_loading (told_files told)) fs) before now) items
      (subst (λ (t : Option FileMap). IsTold t → HasAdded (map (master_loading (told_files t)) folders) before now) same1 added)

  pub stepped_cause : (b b' n : ℕ) → b' ≡ b → (fault : OverlayFault) → Refused told2 b' n (IsFaultOf own_fault (λ files. layered_loading files layers)) fault → OverlayCause told name b n fault
  stepped_cause b b' n calm fault refused =
      own_cause told name b n masters layers before now fault is named added_here
      (subst (λ (t : Option FileMap). Refused t b n (IsFaultOf own_fault (λ files. layered_loading files layers)) fault) same2
      (subst (λ (k : ℕ). Refused told2 k n (IsFaultOf own_fault (λ files. layered_loading files layers)) fault) calm refused))

  pub stepped_overlay : (own : Repo) (over : Overlay) → before ≡ [] → (IsTold told2 → layered_loading (told_files told2) layers ≡ Ok own) → IsPutTogether now own over → IfSome told (λ files. IsOverlay files name over)
  stepped_overlay own over none loaded put =
      overlay_is told name masters layers before now own over none is named added_here
      (subst (λ (t : Option FileMap). IsTold t → layered_loading (told_files t) layers ≡ Ok own) same2 loaded) put
