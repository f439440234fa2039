-- The stacks of a walk are those of the profiles.
use Rattle.std.proofs.Common.{◌≡◌, ℕ, Bool, true, false, ◌&&◌, ◌||◌, List, [], ◌∷◌, ◌++◌, map, filter, cond, Some, None, refl, sym, ap, subst, ◌∙◌, append_assoc, append-nil}
use Rattle.std.specs.Prelude.{if◌then◌else◌, flat_map, filter_map, Option, unwrap_or}
use Rattle.std.specs.Str.{bytes_eq}
use Rattle.gv_base.specs.Order.{has_text}
use Rattle.gv_base.specs.declared.tree.Found.{Found}
use Rattle.gv_base.specs.declared.tree.Found.TheVariants.{File, Dir, Absent}
use Rattle.gv_profile.specs.Names.{profiles}
use Rattle.gv_profile.specs.ParentFiles.{parent_lines, parents_of}
use Rattle.gv_reading.specs.Paths.{within}
use Rattle.gv_profile.specs.Stacks.{AreParents, paths_of, stack_below}
use Rattle.gv_profile.specs.Walking.{line_dir, line_walk, most_visits, stack_fault, stack_of}
use Rattle.gv_profile.specs.declared.desc.DescLine.{DescLine}
use Rattle.gv_profile.specs.declared.files.DirFiles.{DirFiles}
use Rattle.gv_reading.specs.declared.files.NamedFile.{NamedFile}
use Rattle.gv_reading.specs.Look.{Look, bytes_at, bytes_in}
use Rattle.gv_reading.specs.NamedFiles.{files_at, plain_file}
use Rattle.gv_load.specs.Directories.{dir_as, dir_at, dir_files}
use Rattle.gv_load.specs.Layout.{layout}
use Rattle.gv_usedefaults.specs.LineFiles.{are_all, dir_line_files, dirs_files, dirs_from, kind_files, kind_name, kinds_behind, kinds_files, line_file, line_files, most_turns, own_files, parents_at, parents_by, path_files, paths_in}
use Rattle.gv_load.specs.Paths.{mask_path}
use Rattle.gv_usedefaults.specs.declared.file_kinds.FileKind.{FileKind}
use Rattle.gv_usedefaults.specs.declared.file_kinds.FileKind.TheVariants.{Parent, Defaults, Use, Mask, UseMask, UseForce, StableMask, StableForce}
use Rattle.gv_usedefaults.specs.declared.file_kinds.LineFile.{LineFile}
use Rattle.gv_usedefaults.specs.Stacks.{file_parents, in_dir, is_parent, parents_in, stack_from}
use Rattle.gv_usedefaults.proofs.GoingLemmas.{from_below}
use Rattle.gv_usedefaults.proofs.Reached.{AreOnce, all_ahead, all_parents, each_once, itself, same_bytes}

-- ---- the parents among files, part by part
parents-append : (xs ys : List LineFile) (d : List ℕ) → parents_in (xs ++ ys) d ≡ parents_in xs d ++ parents_in ys d
parents-append [] ys d = refl
parents-append (x ∷ xs) ys d = by (in_dir d x) (parents-append xs ys d)
  where
    by : (b : Bool) → flat_map file_parents (filter (in_dir d) (xs ++ ys)) ≡ flat_map file_parents (filter (in_dir d) xs) ++ flat_map file_parents (filter (in_dir d) ys) →
        flat_map file_parents (cond b (x ∷ filter (in_dir d) (xs ++ ys)) (filter (in_dir d) (xs ++ ys)))
        ≡ flat_map file_parents (cond b (x ∷ filter (in_dir d) xs) (filter (in_dir d) xs)) ++ flat_map file_parents (filter (in_dir d) ys)
    by true h = ap (λ l. file_parents x ++ l) h ∙ sym (append_assoc (file_parents x) (flat_map file_parents (filter (in_dir d) xs)) (flat_map file_parents (filter (in_dir d) ys)))
    by false h = h

-- files of another kind
other_kind : (dir : List ℕ) (kind : FileKind) → is_parent kind ≡ false → (fs : List NamedFile) (d : List ℕ) → parents_in (map (line_file dir kind) fs) d ≡ []
other_kind dir kind other [] d = refl
other_kind dir kind other (f ∷ fs) d = by (bytes_eq d dir) (other_kind dir kind other fs d)
  where
    nothing : file_parents (line_file dir kind f) ≡ []
    nothing = rw other refl

    by : (b : Bool) → flat_map file_parents (filter (in_dir d) (map (line_file dir kind) fs)) ≡ [] →
        flat_map file_parents (cond b (line_file dir kind f ∷ filter (in_dir d) (map (line_file dir kind) fs)) (filter (in_dir d) (map (line_file dir kind) fs))) ≡ []
    by true h = ap (λ l. l ++ flat_map file_parents (filter (in_dir d) (map (line_file dir kind) fs))) nothing ∙ h
    by false h = h

-- those of `parent`
of_parent : (dir : List ℕ) (fs : List NamedFile) (d : List ℕ) → parents_in (map (line_file dir Parent) fs) d ≡ (if bytes_eq d dir then parents_by dir fs else [])
of_parent dir [] d = by (bytes_eq d dir)
  where
    by : (b : Bool) → (let l : List (List ℕ) = [] in l) ≡ (if b then [] else [])
    by true = refl
    by false = refl
of_parent dir (f ∷ fs) d = by (bytes_eq d dir) (of_parent dir fs d)
  where
    by : (b : Bool) → flat_map file_parents (filter (in_dir d) (map (line_file dir Parent) fs)) ≡ (if b then parents_by dir fs else []) →
        flat_map file_parents (cond b (line_file dir Parent f ∷ filter (in_dir d) (map (line_file dir Parent) fs)) (filter (in_dir d) (map (line_file dir Parent) fs))) ≡ (if b then parents_by dir (f ∷ fs) else [])
    by true h = ap (λ l. paths_in dir f.bytes ++ l) h
    by false h = h

module _ (look : Look) where
  kind_none : (dir : List ℕ) (kind : FileKind) → is_parent kind ≡ false → (d : List ℕ) → parents_in (kind_files look dir kind) d ≡ []
  kind_none dir kind other d = other_kind dir kind other _ d

  kinds_none : (dir d : List ℕ) → parents_in (kinds_files look dir kinds_behind) d ≡ []
  kinds_none dir d =
      next Defaults (Use ∷ Mask ∷ UseMask ∷ UseForce ∷ StableMask ∷ StableForce ∷ []) refl
      (next Use (Mask ∷ UseMask ∷ UseForce ∷ StableMask ∷ StableForce ∷ []) refl
      (next Mask (UseMask ∷ UseForce ∷ StableMask ∷ StableForce ∷ []) refl
      (next UseMask (UseForce ∷ StableMask ∷ StableForce ∷ []) refl
      (next UseForce (StableMask ∷ StableForce ∷ []) refl
      (next StableMask (StableForce ∷ []) refl
      (next StableForce [] refl refl))))))
    where
      next : (kind : FileKind) (kinds : List FileKind) → is_parent kind ≡ false → parents_in (kinds_files look dir kinds) d ≡ [] → parents_in (kinds_files look dir (kind ∷ kinds)) d ≡ []
      next kind kinds other h =
          parents-append (kind_files look dir kind) (kinds_files look dir kinds) d ∙ ap (λ l. l ++ parents_in (kinds_files look dir kinds) d) (kind_none dir kind other d) ∙ h

  of_dir : (dir d : List ℕ) → parents_in (dir_line_files look dir) d ≡ (if bytes_eq d dir then parents_at look dir else [])
  of_dir dir d =
      parents-append (kind_files look dir Parent) (kinds_files look dir kinds_behind) d
      ∙ ap (λ l. parents_in (kind_files look dir Parent) d ++ l) (kinds_none dir d) ∙ append-nil _ ∙ of_parent dir _ d

  -- of a directory that isn't among them, and of one that is there once
  not_there : (dirs : List (List ℕ)) (d : List ℕ) → has_text dirs d ≡ false → parents_in (dirs_files look dirs) d ≡ []
  not_there [] d not = refl
  not_there (dir ∷ dirs) d not =
      let parts = both_false (bytes_eq d dir) (has_text dirs d) not in
      parents-append (dir_line_files look dir) (dirs_files look dirs) d ∙ ap (λ l. l ++ parents_in (dirs_files look dirs) d) (of_dir dir d ∙ here (bytes_eq d dir) parts.0) ∙ not_there dirs d parts.1
    where
      here : (b : Bool) → b ≡ false → (let l : List (List ℕ) = if b then parents_at look dir else [] in l) ≡ []
      here true is = cc
      here false is = refl

      both_false : (a b : Bool) → (a || b) ≡ false → (a ≡ false) × (b ≡ false)
      both_false true b is = cc
      both_false false b is = (refl, is)

  there_once : (dirs : List (List ℕ)) → AreOnce (parents_at look) dirs → (d : List ℕ) → has_text dirs d ≡ true → parents_in (dirs_files look dirs) d ≡ parents_at look d
  there_once [] once d is = cc
  there_once (dir ∷ dirs) once d is = parents-append (dir_line_files look dir) (dirs_files look dirs) d ∙ ap (λ l. l ++ parents_in (dirs_files look dirs) d) (of_dir dir d) ∙ by (bytes_eq d dir) refl is (λ h. there_once dirs once.1 d h)
    where
      by : (b : Bool) → bytes_eq d dir ≡ b → (b || has_text dirs d) ≡ true → (has_text dirs d ≡ true → parents_in (dirs_files look dirs) d ≡ parents_at look d) → (let l : List (List ℕ) = if b then parents_at look dir else [] in l) ++ parents_in (dirs_files look dirs) d ≡ parents_at look d
      by true same is rest =
          let e : d ≡ dir = same_bytes d dir same in
          ap (λ l. parents_at look dir ++ l) (not_there dirs d (subst (λ x. has_text dirs x ≡ false) (sym e) once.0)) ∙ append-nil (parents_at look dir) ∙ ap (parents_at look) (sym e)
      by false other is rest = rest is

  own_none : (d : List ℕ) → parents_in (own_files look) d ≡ []
  own_none d = other_kind profiles Mask refl (files_at look mask_path) d

  -- ---- the parents of a directory that is there
  parent_name : layout.parent ≡ kind_name Parent
  unfolding layout kind_name
  parent_name = refl

  no_lines : (dir : List ℕ) → paths_in dir [] ≡ []
  no_lines dir = refl

  by_found : (dir path : List ℕ) (found : Found) → parents_by dir (plain_file path found) ≡ paths_in dir (unwrap_or (bytes_in found) [])
  by_found dir path (File bytes) = append-nil (paths_in dir bytes)
  by_found dir path Dir = sym (no_lines dir)
  by_found dir path Absent = sym (no_lines dir)

  there_as : (dir : List ℕ) (found : Found) (files : DirFiles) → dir_as look dir found ≡ Some files → files ≡ dir_files look dir
  there_as dir (File bytes) files is = cc
  there_as dir Dir files is = cc
  there_as dir Absent files is = cc

  agree : (dir : List ℕ) (files : DirFiles) → dir_at look dir ≡ Some files → parents_at look dir ≡ paths_of dir files
  unfolding dir_at
  agree dir files is =
      by_found dir (within dir (kind_name Parent)) (look.found (within dir (kind_name Parent)))
      ∙ ap (λ name. paths_in dir (unwrap_or (bytes_at look (within dir name)) [])) (sym parent_name)
      ∙ ap (paths_of dir) (sym (there_as dir (look.found dir) files is))

  -- ---- the whole
  module _ (starts : List (List ℕ)) (all : are_all look starts ≡ true) where
    abbrev known : List ℕ → Bool
    known d = has_text (dirs_from look starts) d

    parents_are : (d : List ℕ) → known d ≡ true → parents_in (line_files look starts) d ≡ parents_at look d
    parents_are d is =
        parents-append (own_files look) (dirs_files look (dirs_from look starts)) d ∙ ap (λ l. l ++ parents_in (dirs_files look (dirs_from look starts)) d) (own_none d)
        ∙ there_once (dirs_from look starts) (each_once (parents_at look) most_turns [] starts) d is

    are : AreParents (dir_at look) known (parents_in (line_files look starts))
    are = record {
      agree = λ path files there is. parents_are path is ∙ agree path files there;
      closed = λ path parent is named. all_parents (parents_at look) most_turns [] starts all path parent is (ap (λ ps. has_text ps parent) (sym (parents_are path is)) ∙ named);
    }

    started : (d : List ℕ) → has_text starts d ≡ true → known d ≡ true
    started d is = all_ahead (parents_at look) most_turns [] starts all d is

abbrev pub StackLaw : Type 0
StackLaw = (look : List ℕ → Option DirFiles) (known : List ℕ → Bool) (parents : List ℕ → List (List ℕ)) (line : DescLine) (dir : List ℕ) → AreParents look known parents → known dir ≡ true →
    stack_fault look line ≡ None → line_dir line ≡ Some dir → stack_of (line_walk look line) ≡ stack_below most_visits parents [] dir

pub same_stack : StackLaw → (look : Look) (starts : List (List ℕ)) (line : DescLine) (dir : List ℕ) → are_all look starts ≡ true → has_text starts dir ≡ true → stack_fault (dir_at look) line ≡ None →
    line_dir line ≡ Some dir → stack_from (line_files look starts) dir ≡ stack_of (line_walk (dir_at look) line)
same_stack law look starts line dir all start good is =
    sym (law (dir_at look) (known look starts all) (parents_in (line_files look starts)) line dir (are look starts all) (started look starts all dir start) good is ∙ from_below (line_files look starts) dir)
