-- What is read before the packages passes alike over two trees that are alike where it reads.
use Rattle.std.proofs.Common.{◌≡◌, ℕ, true, List, [], ◌∷◌, ◌++◌, Some, None, length, refl, sym, ap, ◌∙◌}
use Rattle.std.specs.Prelude.{Option, Ok, Err, nat_lt, if◌then◌else◌, filter, unwrap_or}
use Rattle.std.specs.FinMap.{get}
use Rattle.std.specs.Option.{is_some}
use Rattle.std.specs.Str.{bytes_eq}
use Rattle.gv_base.specs.Order.{has_text}
use Rattle.gv_base.specs.declared.tree.Found.{Found}
use Rattle.gv_base.specs.declared.tree.Found.TheVariants.{File, Dir, Absent}
use Rattle.gv_profile.specs.Desc.{desc_read}
use Rattle.gv_reading.specs.Paths.{within}
use Rattle.gv_profile.specs.declared.desc.DescLine.{DescLine}
use Rattle.gv_reading.specs.declared.faults.LoadFault.TheVariants.{Limit}
use Rattle.gv_reload.specs.Counting.{front_steps}
use Rattle.gv_reading.specs.Look.{Look, bytes_in}
use Rattle.gv_reading.specs.NamedFiles.{counts, file_steps, folder_names, folder_steps, name_steps}
use Rattle.gv_load.specs.Directories.{dir_at, dir_steps, flag_steps, head_steps, inside_steps, package_steps, pair_steps, steps_as, steps_of}
use Rattle.gv_load.specs.Layout.{layout}
use Rattle.gv_load.specs.Order.{desc_lines, list_steps, profiles_steps, reached, stack_steps}
use Rattle.gv_profile.specs.Names.{desc_path}
use Rattle.gv_load.specs.Paths.{categories_path, mask_path}
use Rattle.gv_reading.specs.Reader.{Seen}
use Rattle.gv_reading.specs.Reading.{Out, Step, read, list, need, and_then, if_file, most_path, passed, with_new}
use Rattle.gv_load.specs.StackLimits.{first_limit}
use Rattle.gv_reading.specs.Passing.{passed-append}
use Rattle.gv_load.specs.StackSteps.{stacks_pass, stacks_refused}
use Rattle.gv_load.specs.ListLemmas.{itself, on_right}

-- a path is read where this stands
abbrev read_as : Seen → List ℕ → Found → Out
read_as seen path found = if is_some (get seen.known path) then Ok seen else (if nat_lt most_path (length path) then Err (Limit path most_path) else with_new seen path found)

-- ---- over paths of a kind, to which all below them belong, where the trees are alike
module _ (old new : Look) (Alike : List ℕ → Type 0) (below : (path name : List ℕ) → Alike path → Alike (within path name))
    (found : (path : List ℕ) → Alike path → new.found path ≡ old.found path) (names : (path : List ℕ) → Alike path → new.names path ≡ old.names path) where
  -- steps over the new tree pass as others over the old
  abbrev Pass : List Step → List Step → Type 0
  Pass xs ys = (seen : Seen) → passed new seen xs ≡ passed old seen ys

  in_turn : (xs xs' ys ys' : List Step) → Pass xs xs' → Pass ys ys' → Pass (xs ++ ys) (xs' ++ ys')
  in_turn xs xs' ys ys' first second seen =
      passed-append new seen xs ys ∙ ap (λ (o : Out). and_then o (λ n. passed new n ys)) (first seen) ∙ by (passed old seen xs') ∙ sym (passed-append old seen xs' ys')
    where
      by : (o : Out) → and_then o (λ n. passed new n ys) ≡ and_then o (λ n. passed old n ys')
      by (Ok n) = second n
      by (Err fault) = refl

  one_read : (path : List ℕ) → Alike path → Pass (read path ∷ []) (read path ∷ [])
  one_read path alike seen = ap (λ (f : Found). and_then (read_as seen path f) (λ n. let o : Out = Ok n in o)) (found path alike)

  one_need : (path : List ℕ) → Alike path → Pass (need path ∷ []) (need path ∷ [])
  one_need path alike seen = ap (λ (f : Found). and_then (and_then (read_as seen path f) (if_file path f)) (λ n. let o : Out = Ok n in o)) (found path alike)

  -- ---- a file, or a folder of files
  each_name : (path : List ℕ) (ns : List (List ℕ)) → Alike path → Pass (name_steps path ns) (name_steps path ns)
  each_name path [] alike seen = refl
  each_name path (n ∷ ns) alike seen =
      in_turn (read (within path n) ∷ []) (read (within path n) ∷ []) (name_steps path ns) (name_steps path ns) (one_read (within path n) (below path n alike)) (each_name path ns alike) seen

  one_folder : (path : List ℕ) (f : Found) → Alike path → Pass (folder_steps new path f) (folder_steps old path f)
  one_folder path (File bytes) alike seen = refl
  one_folder path Dir alike seen =
      in_turn (list path ∷ []) (list path ∷ []) (name_steps path (folder_names new path)) (name_steps path (folder_names old path)) (λ s. refl)
      (λ s. ap (λ ns. passed new s (name_steps path (filter counts ns))) (names path alike) ∙ each_name path (folder_names old path) alike s) seen
  one_folder path Absent alike seen = refl

  one_file : (path : List ℕ) → Alike path → Pass (file_steps new path) (file_steps old path)
  one_file path alike seen =
      in_turn (read path ∷ []) (read path ∷ []) (folder_steps new path (new.found path)) (folder_steps old path (old.found path)) (one_read path alike)
      (λ s. ap (λ f. passed new s (folder_steps new path f)) (found path alike) ∙ one_folder path (old.found path) alike s) seen

  -- ---- a directory
  one_pair : (dir mask force : List ℕ) → Alike dir → Pass (pair_steps new dir mask force) (pair_steps old dir mask force)
  one_pair dir mask force alike =
      in_turn (file_steps new (within dir mask)) (file_steps old (within dir mask)) (file_steps new (within dir force)) (file_steps old (within dir force))
      (one_file (within dir mask) (below dir mask alike)) (one_file (within dir force) (below dir force alike))

  heads : (dir : List ℕ) → Alike dir → Pass (head_steps dir) (head_steps dir)
  heads dir alike =
      in_turn (read (within dir layout.eapi) ∷ []) (read (within dir layout.eapi) ∷ []) (read (within dir layout.parent) ∷ read (within dir layout.defaults) ∷ []) (read (within dir layout.parent) ∷ read (within dir layout.defaults) ∷ [])
      (one_read (within dir layout.eapi) (below dir layout.eapi alike))
      (in_turn (read (within dir layout.parent) ∷ []) (read (within dir layout.parent) ∷ []) (read (within dir layout.defaults) ∷ []) (read (within dir layout.defaults) ∷ [])
      (one_read (within dir layout.parent) (below dir layout.parent alike)) (one_read (within dir layout.defaults) (below dir layout.defaults alike)))

  flags : (dir : List ℕ) → Alike dir → Pass (flag_steps new dir) (flag_steps old dir)
  flags dir alike =
      in_turn (pair_steps new dir layout.use_mask layout.use_force) (pair_steps old dir layout.use_mask layout.use_force)
      (pair_steps new dir layout.use_stable_mask layout.use_stable_force) (pair_steps old dir layout.use_stable_mask layout.use_stable_force)
      (one_pair dir layout.use_mask layout.use_force alike) (one_pair dir layout.use_stable_mask layout.use_stable_force alike)

  packages : (dir : List ℕ) → Alike dir → Pass (package_steps new dir) (package_steps old dir)
  packages dir alike =
      in_turn (file_steps new (within dir layout.package_mask)) (file_steps old (within dir layout.package_mask))
      (pair_steps new dir layout.package_use_mask layout.package_use_force ++ pair_steps new dir layout.package_use_stable_mask layout.package_use_stable_force)
      (pair_steps old dir layout.package_use_mask layout.package_use_force ++ pair_steps old dir layout.package_use_stable_mask layout.package_use_stable_force)
      (one_file (within dir layout.package_mask) (below dir layout.package_mask alike))
      (in_turn (pair_steps new dir layout.package_use_mask layout.package_use_force) (pair_steps old dir layout.package_use_mask layout.package_use_force)
      (pair_steps new dir layout.package_use_stable_mask layout.package_use_stable_force) (pair_steps old dir layout.package_use_stable_mask layout.package_use_stable_force)
      (one_pair dir layout.package_use_mask layout.package_use_force alike) (one_pair dir layout.package_use_stable_mask layout.package_use_stable_force alike))

  inside : (dir : List ℕ) → Alike dir → Pass (inside_steps new dir) (inside_steps old dir)
  inside dir alike =
      in_turn (head_steps dir) (head_steps dir) (flag_steps new dir ++ package_steps new dir) (flag_steps old dir ++ package_steps old dir) (heads dir alike)
      (in_turn (flag_steps new dir) (flag_steps old dir) (package_steps new dir) (package_steps old dir) (flags dir alike) (packages dir alike))

  one_dir : (dir : List ℕ) → Alike dir → Pass (dir_steps new dir) (dir_steps old dir)
  unfolding dir_steps
  one_dir dir alike =
      in_turn (read dir ∷ []) (read dir ∷ []) (steps_as new dir (new.found dir)) (steps_as old dir (old.found dir)) (one_read dir alike)
      (λ s. ap (λ f. passed new s (steps_as new dir f)) (found dir alike) ∙ by (old.found dir) s)
    where
      by : (f : Found) → Pass (steps_as new dir f) (steps_as old dir f)
      by (File bytes) seen = refl
      by Dir seen = inside dir alike seen
      by Absent seen = refl

  each_dir : (dirs : List (List ℕ)) → ((dir : List ℕ) → has_text dirs dir ≡ true → Alike dir) → Pass (steps_of new dirs) (steps_of old dirs)
  each_dir [] alike seen = refl
  each_dir (dir ∷ dirs) alike seen =
      in_turn (dir_steps new dir) (dir_steps old dir) (steps_of new dirs) (steps_of old dirs) (one_dir dir (alike dir (itself dir dirs)))
      (each_dir dirs (λ d there. alike d (on_right (bytes_eq d dir) _ there))) seen

  -- ---- the stacks, and all of it
  stacks : (lines : List DescLine) → first_limit (dir_at new) lines ≡ first_limit (dir_at old) lines → Pass (stack_steps (dir_at new) lines) (stack_steps (dir_at old) lines)
  stacks lines same seen = by (first_limit (dir_at old) lines) refl
    where
      by : (o : Option (List ℕ)) → first_limit (dir_at old) lines ≡ o → passed new seen (stack_steps (dir_at new) lines) ≡ passed old seen (stack_steps (dir_at old) lines)
      by None is = stacks_pass new seen (dir_at new) lines (same ∙ is) ∙ sym (stacks_pass old seen (dir_at old) lines is)
      by (Some place) is = stacks_refused new seen (dir_at new) lines place (same ∙ is) ∙ sym (stacks_refused old seen (dir_at old) lines place is)

  lists : Alike desc_path → Alike categories_path → Alike mask_path → Pass (list_steps new) (list_steps old)
  lists desc cats mask =
      in_turn (need desc_path ∷ []) (need desc_path ∷ []) (need categories_path ∷ file_steps new mask_path) (need categories_path ∷ file_steps old mask_path) (one_need desc_path desc)
      (in_turn (need categories_path ∷ []) (need categories_path ∷ []) (file_steps new mask_path) (file_steps old mask_path) (one_need categories_path cats) (one_file mask_path mask))

  same_lines : Alike desc_path → desc_lines new ≡ desc_lines old
  same_lines desc = ap (λ (f : Found). (desc_read (unwrap_or (bytes_in f) [])).lines) (found desc_path desc)

  -- where the same directories are reached, and the stacks come to the same limit
  pub front_passes : Alike desc_path → Alike categories_path → Alike mask_path → ((dir : List ℕ) → has_text (reached old (desc_lines old)) dir ≡ true → Alike dir) →
      reached new (desc_lines new) ≡ reached old (desc_lines old) → first_limit (dir_at new) (desc_lines old) ≡ first_limit (dir_at old) (desc_lines old) →
      (seen : Seen) → passed new seen (front_steps new) ≡ passed old seen (front_steps old)
  front_passes desc cats mask dirs same limit =
      in_turn (list_steps new) (list_steps old) (profiles_steps new (desc_lines new)) (profiles_steps old (desc_lines old)) (lists desc cats mask)
      (in_turn (steps_of new (reached new (desc_lines new))) (steps_of old (reached old (desc_lines old))) (stack_steps (dir_at new) (desc_lines new)) (stack_steps (dir_at old) (desc_lines old))
      (λ s. ap (λ ds. passed new s (steps_of new ds)) same ∙ each_dir (reached old (desc_lines old)) dirs s)
      (λ s. ap (λ ls. passed new s (stack_steps (dir_at new) ls)) (same_lines desc) ∙ stacks (desc_lines old) limit s))
