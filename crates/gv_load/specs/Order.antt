-- What a load reads, in order.
use Rattle.std.specs.Prelude.{ℕ, if◌then◌else◌, List, [], ◌∷◌, ◌++◌, map, flat_map, Option, Some}
use Rattle.gv_base.specs.Order.{has_text}
use Rattle.gv_profile.specs.Desc.{desc_read}
use Rattle.gv_reading.specs.Paths.{within}
use Rattle.gv_profile.specs.Walking.{stack_fault, most_visits}
use Rattle.gv_profile.specs.declared.desc.DescLine.{DescLine}
use Rattle.gv_profile.specs.declared.faults.ProfileFault.{ProfileFault}
use Rattle.gv_profile.specs.declared.faults.ProfileFault.TheVariants.{TooMany}
use Rattle.std.specs.Prelude.{Bool, true, false}
use Rattle.gv_load.specs.Directories.{steps_of, dir_at}
use Rattle.gv_reading.specs.Look.{Look, text_at}
use Rattle.gv_reading.specs.NamedFiles.{file_steps}
use Rattle.gv_load.specs.Categories.{categories_in, listed, folders, pfs_of, name_of}
use Rattle.gv_load.specs.Entries.{all_reads, eclass_names}
use Rattle.gv_profile.specs.Names.{desc_path}
use Rattle.gv_load.specs.Paths.{categories_path, mask_path, cache_dir, entry_path, ebuild_path, eclass_path, stack_place}
use Rattle.gv_load.specs.Reaching.{Dirs, reached_by}
use Rattle.gv_reading.specs.Reading.{Step, list, need, bound, once}

-- what the two lists at the top say
abbrev pub desc_lines : Look → List DescLine
desc_lines look = (desc_read (text_at look desc_path)).lines

abbrev pub categories : Look → List (List ℕ)
categories look = categories_in (text_at look categories_path)

-- the lists, which have to be there, and the repository's own masks
abbrev pub list_steps : Look → List Step
list_steps look = need desc_path ∷ need categories_path ∷ file_steps look mask_path

-- the directories that lines reach
abbrev pub reached : Look → List DescLine → List (List ℕ)
reached look lines = reached_by (dir_at look) [] lines

-- the stacks are folded, line by line: here too many visits end the load
abbrev pub is_too_many : Option ProfileFault → Bool
is_too_many (Some TooMany) = true
is_too_many other = false

abbrev pub stack_step : Dirs → DescLine → Step
stack_step dirs line = bound (stack_place line.path) most_visits (is_too_many (stack_fault dirs line))

abbrev pub stack_steps : Dirs → List DescLine → List Step
stack_steps dirs lines = map (stack_step dirs) lines

-- the profiles: the directories, then the stacks
abbrev pub profiles_steps : Look → List DescLine → List Step
profiles_steps look lines = steps_of look (reached look lines) ++ stack_steps (dir_at look) lines

-- a PF: its entry where it was listed, then its ebuild. No later step reads these paths; a directory of profiles may be
-- one of them, and it was read before then
abbrev pub entry_steps : (listed : List (List ℕ)) → (category pf : List ℕ) → List Step
entry_steps listed category pf = if has_text listed pf then once (entry_path category pf) ∷ [] else []

abbrev pub pf_steps : (listed : List (List ℕ)) → (category pf : List ℕ) → List Step
pf_steps listed category pf = entry_steps listed category pf ++ once (ebuild_path category (name_of pf) pf) ∷ []

abbrev pub pfs_steps : (listed : List (List ℕ)) → (category : List ℕ) → (pfs : List (List ℕ)) → List Step
pfs_steps listed category pfs = flat_map (pf_steps listed category) pfs

abbrev pub folder_lists : (category : List ℕ) → (names : List (List ℕ)) → List Step
folder_lists category names = map (λ name. list (within category name)) names

-- a category: three kinds of listings, then its PFs in byte order
abbrev pub listing_steps : Look → List ℕ → List Step
listing_steps look category = (list (cache_dir category) ∷ []) ++ ((list category ∷ []) ++ folder_lists category (folders look category))

abbrev pub category_steps : Look → List ℕ → List Step
category_steps look category = listing_steps look category ++ pfs_steps (listed look category) category (pfs_of look category)

abbrev pub categories_steps : Look → List (List ℕ) → List Step
categories_steps look categories = flat_map (category_steps look) categories

abbrev pub eclass_steps : List (List ℕ) → List Step
eclass_steps names = map (λ name. once (eclass_path name)) names

-- the packages: the categories, then the eclasses that entries name
abbrev pub packages_steps : Look → List (List ℕ) → List Step
packages_steps look categories = categories_steps look categories ++ eclass_steps (eclass_names (all_reads look categories))

-- all of it
unfoldable pub load_steps : Look → List Step
load_steps look = list_steps look ++ (profiles_steps look (desc_lines look) ++ packages_steps look (categories look))
