-- The categories of a repository and the PFs of each (PMS chapters 4 and 14).
use Rattle.std.specs.Prelude.{ℕ, ◌+◌, ◌-◌, ◌&&◌, nat_eq, Bool, if◌then◌else◌, List, [], ◌∷◌, ◌++◌, length, take, drop, filter, flat_map, filter_map, Option, Some, None}
use Rattle.std.specs.List.{ends_with}
use Rattle.std.specs.Option.{is_some, unwrap_or}
use Rattle.std.specs.Str.{bytes_eq}
use Rattle.gv_base.specs.Order.{in_order}
use Rattle.gv_version.specs.Names.{is_category, is_package, split_pf}
use Rattle.gv_report.specs.declared.report.Subject.{Subject}
use Rattle.gv_report.specs.declared.report.Subject.TheVariants.{Package}
use Rattle.gv_profile.specs.Lines.{line_words, file_lines}
use Rattle.gv_reading.specs.Paths.{within}
use Rattle.gv_reading.specs.Look.{Look}
use Rattle.gv_load.specs.Paths.{cache_dir, ebuild_end}

-- a good line of `categories` has one word, a category
abbrev pub category_in : List (List ℕ) → Option (List ℕ)
category_in [] = None
category_in (word ∷ []) = if is_category word then Some word else None
category_in (word ∷ next ∷ words) = None

-- in byte order, each once
abbrev pub categories_in : List ℕ → List (List ℕ)
categories_in bytes = in_order (filter_map (λ line. category_in (line_words line)) (file_lines bytes))

abbrev pub is_pf : List ℕ → Bool
is_pf name = is_some (split_pf name)

-- the package name in a PF
abbrev pub name_of : List ℕ → List ℕ
name_of pf = take (unwrap_or (split_pf pf) 0) pf

-- the text behind the hyphen
abbrev pub version_of : List ℕ → List ℕ
version_of pf = drop (unwrap_or (split_pf pf) 0 + 1) pf

-- the package that a PF of a category is of
abbrev pub pf_subject : (category pf : List ℕ) → Subject
pf_subject category pf = Package category (name_of pf) (version_of pf) pf

-- the names that are listed among the entries of a category, in byte order
abbrev pub listed : Look → List ℕ → List (List ℕ)
listed look category = look.names (cache_dir category)

-- the folders of a category that may hold ebuilds: package names
abbrev pub folders : Look → List ℕ → List (List ℕ)
folders look category = filter is_package (look.names category)

-- what stands before `.ebuild` in the name of a file
abbrev pub ends_as_ebuild : List ℕ → Bool
ends_as_ebuild file = ends_with nat_eq file ebuild_end

abbrev pub front_of : List ℕ → List ℕ
front_of file = take (length file - length ebuild_end) file

-- the ebuild that a file in the folder of a name is: one of that name
abbrev pub ebuild_in : (name file : List ℕ) → Option (List ℕ)
ebuild_in name file = if ends_as_ebuild file && bytes_eq (name_of (front_of file)) name then Some (front_of file) else None

abbrev pub ebuilds_in : Look → (category name : List ℕ) → List (List ℕ)
ebuilds_in look category name = filter_map (ebuild_in name) (look.names (within category name))

-- the PFs of a category, in byte order: those among its entries, and those whose ebuild stands in the folder of their own
-- name. Other names are passed over
abbrev pub pfs_of : Look → List ℕ → List (List ℕ)
pfs_of look category = filter is_pf (in_order (listed look category ++ flat_map (ebuilds_in look category) (folders look category)))
