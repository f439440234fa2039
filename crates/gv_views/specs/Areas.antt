-- Which part of a repository a path belongs to, by its first part and whether more parts follow.
use Rattle.std.specs.Prelude.{ℕ, nat_lt, Bool, if◌then◌else◌, List, length, codes}
use Rattle.std.specs.Str.{bytes_eq}
use Rattle.gv_base.specs.Cut.{up_to_first}
use Rattle.gv_views.specs.declared.areas.Area.{Area}
use Rattle.gv_views.specs.declared.areas.Area.TheVariants.{Categories, Eclasses, InEclasses, InProfiles, Other, Profiles}

unfoldable pub profiles_path : List ℕ
profiles_path = codes "profiles"

unfoldable pub eclasses_path : List ℕ
eclasses_path = codes "eclass"

unfoldable pub categories_path : List ℕ
categories_path = codes "profiles/categories"

abbrev pub first_part : List ℕ → List ℕ
first_part path = up_to_first 47 path

abbrev pub has_more : List ℕ → Bool
has_more path = nat_lt (length (first_part path)) (length path)

abbrev pub top_area : (first : List ℕ) → (more : Bool) → Area
top_area first more =
    if bytes_eq first profiles_path then (if more then InProfiles else Profiles)
    else (if bytes_eq first eclasses_path then (if more then InEclasses else Eclasses) else Other)

-- the list of categories; below `profiles` and below `eclass`; these two themselves; and all else
abbrev pub area_of : List ℕ → Area
area_of path = if bytes_eq path categories_path then Categories else top_area (first_part path) (has_more path)
