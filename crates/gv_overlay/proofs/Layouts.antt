-- What a layout that was read names, or why it is refused.
use Rattle.std.proofs.Common.{◌≡◌, ◌<◌, ◌≤◌, ℕ, List, Bool, true, false, length, Some, None, refl, sym, ap, subst, ◌∙◌, arith}
use Rattle.std.specs.Prelude.{Option, IfOk, IfErr, IfSome, Result, Ok, Err, nat_lt, if◌then◌else◌}
use Rattle.std.specs.FinMap.{get}
use Rattle.gv_base.specs.FileMap.{FileMap}
use Rattle.gv_base.specs.Listing.{is_folder}
use Rattle.gv_base.specs.Outside.{found_as, found_at, IsLarge}
use Rattle.gv_base.specs.declared.tree.Found.TheVariants.{File, Dir, Absent}
use Rattle.gv_views.specs.Layout.{masters_in}
use Rattle.gv_views.specs.Told.{IsTold, told_files}
use Rattle.gv_views.specs.declared.layout.LayoutFault.{LayoutFault}
use Rattle.gv_views.specs.declared.layout.LayoutFault.TheVariants as layout
use Rattle.gv_overlay.specs.declared.faults.OverlayFault.{OverlayFault}
use Rattle.gv_overlay.specs.declared.faults.OverlayFault.TheVariants.{Limit, NoMemory, NotARepository, Tree}
use Rattle.gv_overlay.specs.Overlays.{layout_path, masters_at, masters_named, masters_of_file, of_layout}
use Rattle.gv_overlay.specs.Refused.{IsMastersFault, Names, Refused}

-- ---- the path
pub long_path : (told : Option FileMap) (before : ℕ) (name path : List ℕ) → path ≡ layout_path name → 4096 < length path → Refused told before before (IsMastersFault (λ files. masters_named files name)) (Limit path 4096)
long_path told before name path e lt = (refl, λ t. subst (λ (p : List ℕ). masters_at (told_files told) name p ≡ Err (Limit path 4096)) e (rw (long refl) refl))
  where
    long : (nat_lt 4096 (length path) ≡ nat_lt 4096 (length path)) → nat_lt 4096 (length path) ≡ true
    long same = grind (arith, lt)

short : (files : FileMap) (name path : List ℕ) → path ≡ layout_path name → length path ≤ 4096 → masters_named files name ≡ masters_of_file name path (get files path)
short files name path e le =
    let not_long : nat_lt 4096 (length path) ≡ false = grind (arith, le) in
    ap (masters_at files name) (sym e) ∙ rw not_long refl

pub named_at : (told : Option FileMap) (name path : List ℕ) (masters : List (List ℕ)) → path ≡ layout_path name → length path ≤ 4096 → (IsTold told → masters_of_file name path (get (told_files told) path) ≡ Ok masters)
    → IsTold told → masters_named (told_files told) name ≡ Ok masters
named_at told name path masters e le h t = short (told_files told) name path e le ∙ h t

pub refused_at : (told : Option FileMap) (before now : ℕ) (name path : List ℕ) (fault : OverlayFault) → path ≡ layout_path name → length path ≤ 4096 → Refused told before now (IsMastersFault (λ files. masters_of_file name path (get files path))) fault
    → Refused told before now (IsMastersFault (λ files. masters_named files name)) fault
refused_at told before now name path NoMemory e le h = tt
refused_at told before now name path (Tree p) e le h = h
refused_at told before now name path (NotARepository p) e le h = (h.0, λ t. short (told_files told) name path e le ∙ h.1 t)
refused_at told before now name path (Limit p n) e le h = (h.0, λ t. short (told_files told) name path e le ∙ h.1 t)

-- ---- the file
file_is : (o : Option (List ℕ)) (b : Bool) (bytes : List ℕ) → File bytes ≡ found_as o b → o ≡ Some bytes
file_is (Some x) b bytes e = cc
file_is None true bytes e = cc
file_is None false bytes e = cc

dir_is : (o : Option (List ℕ)) (b : Bool) → Dir ≡ found_as o b → o ≡ None
dir_is (Some x) b e = cc
dir_is None true e = refl
dir_is None false e = cc

absent_is : (o : Option (List ℕ)) (b : Bool) → Absent ≡ found_as o b → o ≡ None
absent_is (Some x) b e = cc
absent_is None true e = cc
absent_is None false e = refl

told_is : (told : Option FileMap) (P : FileMap → Type 0) → IfSome told P → IsTold told → P (told_files told)
unfolding told_files
told_is None P h t = cc
told_is (Some m) P h t = h

module _ (told : Option FileMap) (name path : List ℕ) where
  abbrev all : FileMap
  all = told_files told

  file_names : (bytes : List ℕ) → IfSome told (λ m. File bytes ≡ found_at m path) → length bytes ≤ 16777216 → IsTold told → masters_of_file name path (get all path) ≡ of_layout path (masters_in name bytes)
  file_names bytes found le t =
      let is : get all path ≡ Some bytes = file_is (get all path) (is_folder all path) bytes (told_is told (λ m. File bytes ≡ found_at m path) found t) in
      let small : nat_lt 16777216 (length bytes) ≡ false = grind (arith, le) in
      ap (masters_of_file name path) is ∙ rw small refl

  pub named_by : (bytes : List ℕ) (result : Result (List (List ℕ)) OverlayFault) → IfSome told (λ m. File bytes ≡ found_at m path) → length bytes ≤ 16777216 → Names (of_layout path (masters_in name bytes)) result
      → IfOk result (λ masters. IsTold told → masters_of_file name path (get all path) ≡ Ok masters)
  named_by bytes (Ok masters) found le h = λ t. file_names bytes found le t ∙ h
  named_by bytes (Err fault) found le h = tt

  no_tree : (r : Result (List (List ℕ)) LayoutFault) (p : List ℕ) → of_layout path r ≡ Err (Tree p) → ⊥
  no_tree (Ok ms) p e = cc
  no_tree (Err layout.TooMany) p e = cc
  no_tree (Err layout.Bad) p e = cc
  no_tree (Err layout.NoMemory) p e = cc

  pub refused_by : (before now : ℕ) (bytes : List ℕ) (result : Result (List (List ℕ)) OverlayFault) → now ≡ before → IfSome told (λ m. File bytes ≡ found_at m path) → length bytes ≤ 16777216 → Names (of_layout path (masters_in name bytes)) result
      → IfErr result (Refused told before now (IsMastersFault (λ files. masters_of_file name path (get files path))))
  refused_by before now bytes (Ok masters) same found le h = tt
  refused_by before now bytes (Err NoMemory) same found le h = tt
  refused_by before now bytes (Err (Tree p)) same found le h = absurd (no_tree (masters_in name bytes) p h)
  refused_by before now bytes (Err (NotARepository p)) same found le h = (same, λ t. file_names bytes found le t ∙ h)
  refused_by before now bytes (Err (Limit p n)) same found le h = (same, λ t. file_names bytes found le t ∙ h)

  pub dir_named : (before now : ℕ) → now ≡ before → IfSome told (λ m. Dir ≡ found_at m path) → Refused told before now (IsMastersFault (λ files. masters_of_file name path (get files path))) (NotARepository path)
  dir_named before now same found = (same, λ t. ap (masters_of_file name path) (dir_is (get all path) (is_folder all path) (told_is told (λ m. Dir ≡ found_at m path) found t)))

  pub absent_named : (before now : ℕ) → now ≡ before → IfSome told (λ m. Absent ≡ found_at m path) → Refused told before now (IsMastersFault (λ files. masters_of_file name path (get files path))) (NotARepository path)
  absent_named before now same found = (same, λ t. ap (masters_of_file name path) (absent_is (get all path) (is_folder all path) (told_is told (λ m. Absent ≡ found_at m path) found t)))

  pub large_layout : (before now : ℕ) → now ≡ before → IfSome told (λ m. IsLarge 16777216 m path) → Refused told before now (IsMastersFault (λ files. masters_of_file name path (get files path))) (Limit path 16777216)
  large_layout before now same large = (same, λ t. too_large (told_is told (λ m. IsLarge 16777216 m path) large t))
    where
      too_large : IsLarge 16777216 all path → masters_of_file name path (get all path) ≡ Err (Limit path 16777216)
      too_large l = let much : nat_lt 16777216 (length l.0) ≡ true = grind (arith, l.2) in ap (masters_of_file name path) l.1 ∙ rw much refl
