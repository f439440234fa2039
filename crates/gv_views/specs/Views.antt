-- Views of repositories that stand as folders in one map of files.
use Rattle.std.specs.Prelude.{ℕ, List, [], ◌∷◌, ◌++◌, Option, Some, None, flat_map, filter_map, reverse}
use Rattle.std.specs.Option.{option_map}
use Rattle.std.specs.FinMap.{from_entries, get, keys}
use Rattle.gv_base.specs.FileMap.{FileMap}
use Rattle.gv_base.specs.Listing.{below}
use Rattle.gv_views.specs.declared.areas.Area.{Area}
use Rattle.gv_views.specs.declared.areas.Area.TheVariants.{Categories, Eclasses, InEclasses, InProfiles, Other, Profiles}
use Rattle.gv_views.specs.declared.layers.Layers.{Layers}
use Rattle.gv_views.specs.Areas.{area_of, categories_path}

-- a path of a folder
abbrev pub inside : (folder path : List ℕ) → List ℕ
inside folder path = folder ++ 47 ∷ path

-- the files that a look-up has, at paths that are all at which it has one
abbrev pub entry_at : (List ℕ → Option (List ℕ)) → List ℕ → Option (List ℕ × List ℕ)
entry_at look path = option_map (λ bytes. (path, bytes)) (look path)

unfoldable pub files_by : (look : List ℕ → Option (List ℕ)) → (paths : List (List ℕ)) → FileMap
files_by look paths = from_entries (filter_map (entry_at look) paths)

-- the paths of the files in a folder
abbrev pub paths_in : FileMap → (folder : List ℕ) → List (List ℕ)
paths_in files folder = filter_map (below folder) (keys files)

-- The files of a folder, by their paths in it: what a master has.
abbrev pub file_in : FileMap → (folder path : List ℕ) → Option (List ℕ)
file_in files folder path = get files (inside folder path)

abbrev pub folder_files : FileMap → (folder : List ℕ) → FileMap
folder_files files folder = files_by (file_in files folder) (paths_in files folder)

-- What an overlay has over its masters. The first of these folders that has a file at the path
abbrev pub or_else : Option (List ℕ) → Option (List ℕ) → Option (List ℕ)
or_else (Some bytes) other = Some bytes
or_else None other = other

abbrev pub first_file : FileMap → (folders : List (List ℕ)) → (path : List ℕ) → Option (List ℕ)
first_file files [] path = None
first_file files (folder ∷ folders) path = or_else (file_in files folder path) (first_file files folders path)

-- the files of the folders at the path, in order
abbrev pub all_files : FileMap → (folders : List (List ℕ)) → (path : List ℕ) → List (List ℕ)
all_files files folders path = filter_map (λ folder. file_in files folder path) folders

-- each followed by a line feed, if there are any
abbrev pub fed : List (List ℕ) → List ℕ
fed texts = flat_map (λ text. text ++ 10 ∷ []) texts

abbrev pub joined_file : List (List ℕ) → Option (List ℕ)
joined_file [] = None
joined_file (text ∷ texts) = Some (fed (text ∷ texts))

-- The list of categories is that of the folder of the profiles and those of some more, joined; below `profiles` is what one folder has, below `eclass` what the first of
-- some folders has; and elsewhere what one folder has.
abbrev pub layered_in : FileMap → Layers → (path : List ℕ) → Area → Option (List ℕ)
layered_in files layers path Categories = joined_file (all_files files (layers.profiles ∷ layers.lists) path)
layered_in files layers path InProfiles = file_in files layers.profiles path
layered_in files layers path InEclasses = first_file files layers.eclasses path
layered_in files layers path Profiles = file_in files layers.own path
layered_in files layers path Eclasses = file_in files layers.own path
layered_in files layers path Other = file_in files layers.own path

abbrev pub layered_at : FileMap → Layers → (path : List ℕ) → Option (List ℕ)
layered_at files layers path = layered_in files layers path (area_of path)

abbrev pub layered_paths : FileMap → Layers → List (List ℕ)
layered_paths files layers = categories_path ∷ flat_map (paths_in files) (layers.own ∷ (layers.profiles ∷ layers.eclasses))

abbrev pub layered_files : FileMap → Layers → FileMap
layered_files files layers = files_by (layered_at files layers) (layered_paths files layers)

-- The folders of an overlay and its masters: the profiles are those of the first master; the lists of categories those of the
-- masters in order and the overlay; an eclass is that of the overlay, or else of the last master that has one.
abbrev pub first_of : List (List ℕ) → List ℕ
first_of [] = []
first_of (text ∷ texts) = text

abbrev pub behind_first : List (List ℕ) → List (List ℕ)
behind_first [] = []
behind_first (text ∷ texts) = texts

abbrev pub layers_of : (name : List ℕ) → (masters : List (List ℕ)) → Layers
layers_of name masters = record {
  own = name;
  profiles = first_of masters;
  lists = behind_first masters ++ name ∷ [];
  eclasses = name ∷ reverse masters;
}

-- the same of a tree's files, where they are told
abbrev pub folder_told : Option FileMap → (folder : List ℕ) → Option FileMap
folder_told told folder = option_map (λ files. folder_files files folder) told

abbrev pub layered_told : Option FileMap → Layers → Option FileMap
layered_told told layers = option_map (λ files. layered_files files layers) told
