-- The place of the hyphen of a PF lies within it, and a version stands behind it.
use Rattle.std.proofs.Common.{◌≡◌, ℕ, ◌+◌, ◌-◌, ◌<◌, List, ◌∷◌, length, take, drop, ap, ◌∙◌, arith, length-append, length-drop}
use Rattle.std.proofs.lemmas.List.{drop-drop, take_all}
use Rattle.gv_version.specs.Laws.{Divides}

pub within : (pf : List ℕ) (at : ℕ) → Divides pf at → at < length pf
within pf at d = omega (arith, d.place, ap length d.written, length-append d.name (45 ∷ d.version))

dropped : (pf : List ℕ) (at : ℕ) → drop 1 (drop at pf) ≡ drop (at + 1) pf
dropped pf at = drop-drop 1 at pf

-- as a pattern `[_, version @ ..]` is seen
pub behind_hyphen : (pf : List ℕ) (at : ℕ) → take (length (drop at pf) - 1) (drop 1 (drop at pf)) ≡ drop (at + 1) pf
behind_hyphen pf at = take_all (length (drop at pf) - 1) (drop 1 (drop at pf)) (omega (arith, length-drop 1 (drop at pf))) ∙ dropped pf at
