-- The effective flags of a package (PMS chapter 11): IUSE, IUSE_IMPLICIT, and the values of implicit USE_EXPAND variables.
use Rattle.std.specs.Prelude.{ℕ, Bool, List, ◌∷◌, ◌++◌, map, filter, flat_map}
use Rattle.std.specs.Str.{bytes_eq, byte, str_to_ascii_lowercase}
use Rattle.gv_base.specs.Order.{in_order, has_text}
use Rattle.gv_facts.specs.declared.pkg.Pkg.{Pkg}
use Rattle.gv_facts.specs.declared.profile.Profile.{Profile}
use Rattle.gv_facts.specs.declared.value_lists.ValueList.{ValueList}

-- the words of USE_EXPAND_VALUES of this name
abbrev pub values_of : List ValueList → List ℕ → List (List ℕ)
values_of lists name = flat_map (λ l. l.words) (filter (λ l. bytes_eq l.name name) lists)

-- the name in small letters, `_` and the word, as `elibc_musl` for ELIBC and `musl`
abbrev pub prefixed : (name word : List ℕ) → List ℕ
prefixed name word = str_to_ascii_lowercase name ++ byte "_" ∷ word

-- those of the names that are implicit too
abbrev pub implicit : Profile → List (List ℕ) → List (List ℕ)
implicit profile names = filter (has_text profile.expand_implicit) names

abbrev pub expand_flags : Profile → List (List ℕ)
expand_flags profile = flat_map (λ name. map (prefixed name) (values_of profile.values name)) (implicit profile profile.expand)

abbrev pub unprefixed_flags : Profile → List (List ℕ)
unprefixed_flags profile = flat_map (values_of profile.values) (implicit profile profile.unprefixed)

-- the four sources, one behind the other
abbrev pub flag_sources : Pkg → Profile → List (List ℕ)
flag_sources p profile = p.iuse ++ (profile.iuse_implicit ++ (expand_flags profile ++ unprefixed_flags profile))

abbrev pub is_effective : Pkg → Profile → List ℕ → Bool
is_effective p profile flag = has_text (flag_sources p profile) flag

-- in byte order, each once
abbrev pub effective : Pkg → Profile → List (List ℕ)
effective p profile = in_order (flag_sources p profile)
