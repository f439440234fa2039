-- The stack of a profile directory (PMS chapter 5): the stacks of its parents, left to right, then the directory itself.
use Rattle.std.specs.Prelude.{◌≡◌, ℕ, zero, suc, Bool, true, if◌then◌else◌, List, [], ◌∷◌, ◌++◌, Some, filter_map, flat_map}
use Rattle.gv_base.specs.Order.{has_text}
use Rattle.gv_profile.specs.declared.desc.DescLine.{DescLine}
use Rattle.gv_profile.specs.declared.files.DirFiles.{DirFiles}
use Rattle.gv_profile.specs.declared.parent_files.ParentLine.{ParentLine}
use Rattle.gv_profile.specs.ParentFiles.{parents_of}
use Rattle.gv_profile.specs.Walking.{Look, line_dir}

-- the stacks of parents, one after the other
pub data AreStacks (look : Look) : List ParentLine → List (List ℕ) → Type 0 where
  none : AreStacks look [] []
  next : (path : List ℕ) (line : ℕ) (files : DirFiles) (above rest : List (List ℕ)) (parents : List ParentLine) →
      look path ≡ Some files → AreStacks look (parents_of path files) above → AreStacks look parents rest →
      AreStacks look (record { path = Some path; line = line } ∷ parents) (above ++ path ∷ rest)

-- the stack of the directory at a path
pub record IsStack (look : Look) (dir : List ℕ) (stack : List (List ℕ)) : Type 0 where
  pub files : DirFiles
  pub above : List (List ℕ)
  pub there : look dir ≡ Some files
  pub parents : AreStacks look (parents_of dir files) above
  pub whole : stack ≡ above ++ dir ∷ []

-- that of a line of `profiles.desc`
pub record IsLineStack (look : Look) (line : DescLine) (stack : List (List ℕ)) : Type 0 where
  pub dir : List ℕ
  pub at : line_dir line ≡ Some dir
  pub is : IsStack look dir stack

-- ---- the same by the paths of parents alone, whatever is there: a directory among those that led to it isn't followed
-- again, and below a chain of `depth` more no parents are
abbrev pub stack_below : ℕ → (List ℕ → List (List ℕ)) → (above : List (List ℕ)) → List ℕ → List (List ℕ)
stack_below zero parents above dir = dir ∷ []
stack_below (suc depth) parents above dir =
    flat_map (λ parent. if has_text (dir ∷ above) parent then [] else stack_below depth parents (dir ∷ above) parent) (parents dir) ++ dir ∷ []

-- the paths of a directory's parents
abbrev pub paths_of : List ℕ → DirFiles → List (List ℕ)
paths_of dir files = filter_map (λ p. p.path) (parents_of dir files)

-- these are the parents of what is there among the known paths, and no known path leads to another one
pub record AreParents (look : Look) (known : List ℕ → Bool) (parents : List ℕ → List (List ℕ)) : Type 0 where
  pub agree : (path : List ℕ) (files : DirFiles) → look path ≡ Some files → known path ≡ true → parents path ≡ paths_of path files
  pub closed : (path parent : List ℕ) → known path ≡ true → has_text (parents path) parent ≡ true → known parent ≡ true
