-- Versions that a greater one with their keywords makes needless.
use Rattle.std.specs.Prelude.{ℕ, ◌==◌, Bool, true, false, ◌&&◌, ◌||◌, not, if◌then◌else◌, List, [], ◌∷◌, Option, Some, None, filter_map}
use Rattle.std.specs.List.{find, list_all, list_any}
use Rattle.std.specs.Option.{option_map}
use Rattle.std.specs.Ordering.{is_lt}
use Rattle.std.specs.Str.{byte, bytes_eq}
use Rattle.gv_base.specs.Order.{has_text}
use Rattle.gv_version.specs.Order.{compare}
use Rattle.gv_facts.specs.Places.{is_pkg_of}
use Rattle.gv_facts.specs.declared.pkg.Pkg.{Pkg}
use Rattle.gv_report.specs.declared.keyword.Keyword.TheVariants.{RedundantVersion}
use Rattle.gv_report.specs.declared.report.Report.{Report}
use Rattle.gv_report.specs.declared.report.Subject.TheVariants.{Package}

-- a keyword is an arch, `~` and an arch, or `-` and what is left out
abbrev pub is_offer : List ℕ → Bool
is_offer [] = true
is_offer (b ∷ bs) = not (b == byte "-")

-- whether the keywords of another version have it: an arch as it stands, `~` and an arch also without the `~`
abbrev pub has_offer : List (List ℕ) → List ℕ → Bool
has_offer keywords [] = has_text keywords []
has_offer keywords (b ∷ bs) =
    if b == byte "-" then true
    else (if b == byte "~" then has_text keywords bs || has_text keywords (b ∷ bs) else has_text keywords (b ∷ bs))

abbrev pub have_offers : (keywords of : List (List ℕ)) → Bool
have_offers keywords of = list_all (has_offer keywords) of

-- a version that isn't live, of the same slot, greater, and with the keywords
abbrev pub betters : Pkg → Pkg → Bool
betters p q = not q.live && (bytes_eq p.slot q.slot && (is_lt (compare p.version q.version) && have_offers q.keywords p.keywords))

-- of the same category and name
abbrev pub makes_needless : Pkg → Pkg → Bool
makes_needless p q = is_pkg_of p.category p.name q && betters p q

-- a version that isn't live and is offered for an arch
abbrev pub is_offered : Pkg → Bool
is_offered p = not p.live && list_any is_offer p.keywords

abbrev pub redundant_by : Pkg → Pkg → Report
redundant_by p q = record {
  subject = Package p.category p.name p.version p.pf;
  keyword = RedundantVersion;
  class = None;
  context = None;
  witness = None;
  detail = Some q.pf;
}

-- the first such version in package order is told
abbrev pub redundant_in : List Pkg → Pkg → Option Report
redundant_in pkgs p = if is_offered p then option_map (redundant_by p) (find (makes_needless p) pkgs) else None

abbrev pub redundant : List Pkg → List Report
redundant pkgs = filter_map (redundant_in pkgs) pkgs
