-- Values of the definitions on worked examples.
use Rattle.std.specs.Prelude.{◌≡◌, ℕ, Bool, true, false, List, [], ◌∷◌, Option, None, Some, map, codes, refl}
use Rattle.std.specs.Option.{is_some}
use Rattle.gv_facts.specs.declared.kinds.Eapi.TheVariants.{Eight}
use Rattle.gv_facts.specs.declared.pkg.Pkg.{Pkg}
use Rattle.gv_usedefaults.specs.declared.file_kinds.FileKind.TheVariants.{Mask, StableMask, Use}
use Rattle.gv_profile.specs.Lines.{line_words}
use Rattle.gv_profile.specs.MaskLines.{file_atom}
use Rattle.gv_profcheck.specs.Redundant.{betters, have_offers, is_offered}
use Rattle.gv_profcheck.specs.Unknown.{atom_in}

-- app/p of this version, with these keywords
abbrev p_of : (version : List ℕ) → List (List ℕ) → Pkg
p_of version keywords = record {
  category = codes "app";
  name = codes "p";
  version = version;
  pf = codes "p-1";
  eapi = Eight;
  slot = codes "0";
  sub = codes "0";
  keywords = keywords;
  iuse = [];
  iuse_plus = [];
  live = false;
}

-- an arch wants itself, `~` and an arch either, and what is left out nothing
offers : (have_offers (codes "amd64" ∷ []) (codes "~amd64" ∷ codes "-*" ∷ []) ≡ true) × (have_offers (codes "~amd64" ∷ []) (codes "amd64" ∷ []) ≡ false)
    × (have_offers (codes "amd64" ∷ []) (codes "amd64" ∷ codes "~x86" ∷ []) ≡ false)
offers = (refl, refl, refl)

better : (betters (p_of (codes "1") (codes "amd64" ∷ [])) (p_of (codes "2") (codes "amd64" ∷ [])) ≡ true) × (betters (p_of (codes "2") (codes "amd64" ∷ [])) (p_of (codes "1") (codes "amd64" ∷ [])) ≡ false)
    × (betters (p_of (codes "1") (codes "amd64" ∷ [])) (p_of (codes "1-r0") (codes "amd64" ∷ [])) ≡ false) × (is_offered (p_of (codes "1") (codes "-*" ∷ [])) ≡ false)
better = (refl, refl, refl, refl)

-- good lines
lines : (map (λ line. is_some (atom_in Mask (line_words line))) (codes "x/gone" ∷ codes "-x/gone" ∷ codes "x/gone y" ∷ codes "x/gone # why" ∷ codes "x/y[a]" ∷ []) ≡ true ∷ false ∷ false ∷ true ∷ false ∷ [])
    × (map (λ line. is_some (atom_in Use (line_words line))) (codes "x/gone a" ∷ codes "x/gone" ∷ codes "=x/y-9 -a b" ∷ codes "x/gone .a" ∷ []) ≡ true ∷ false ∷ true ∷ false ∷ [])
unfolding file_atom
lines = (refl, refl)
