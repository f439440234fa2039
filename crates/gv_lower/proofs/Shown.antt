-- Drawing for those of a list of places at which something is found.
use Rattle.std.proofs.Common.{◌≡◌, ℕ, ◌+◌, ◌<◌, ◌≤◌, List, ◌∷◌, ◌++◌, [], length, map, drop, drop-cons, get_or, Some, None, refl, sym, ap, subst, add-one}
use Rattle.std.specs.Prelude.{Option}
use Rattle.std.specs.Option.{option_map}
use Rattle.std.specs.List.{cons_option, filter_map}
use Rattle.std.proofs.Math.ListN.{drop_of_length-le}
use Rattle.gv_logic.specs.Circuits.{Draft}
use Rattle.gv_lower.specs.Drawn.{Drew, DrewEach, DrewIf}
use Rattle.gv_lower.specs.Plans.{Plan}
use Rattle.gv_lower.proofs.Drawing.{DrawsOn, draws_first, draws_last, draws_step}

pub drew_none : {Y : Type 0} (plan : Y → Plan) (o : Option Y) (now : Draft) (lits : List ℕ) → None ≡ o → DrewIf (option_map plan o) now now lits lits
drew_none plan o now lits none = subst (λ x. DrewIf (option_map plan x) now now lits lits) none (refl, refl)

pub drew_some : {Y : Type 0} (plan : Y → Plan) (o : Option Y) (y : Y) (now next : Draft) (lits lits2 : List ℕ) (lit : ℕ) → Some y ≡ o → Drew (plan y) now next lit → lits2 ≡ lits ++ lit ∷ []
    → DrewIf (option_map plan o) now next lits lits2
drew_some plan o y now next lits lits2 lit some drew adds = subst (λ x. DrewIf (option_map plan x) now next lits lits2) some (record { lit = lit; drew = drew; adds = adds })

module _ {X Y : Type 0} (found : X → Option Y) (plan : Y → Plan) (whole : List Plan) (old : Draft) where
  pub first_shown : (lits : List ℕ) (xs : List X) → lits ≡ [] → map plan (filter_map found xs) ≡ whole → DrawsOn whole old old lits (map plan (filter_map found xs))
  first_shown lits xs none all =
      subst (λ ls. DrawsOn whole old old ls (map plan (filter_map found xs))) (sym none) (subst (DrawsOn whole old old []) (sym all) (draws_first whole old))

  pub shown_next : (now next : Draft) (lits lits2 : List ℕ) (xs : List X) (i : ℕ) (d : X) → i < length xs
      → DrawsOn whole old now lits (map plan (filter_map found (drop i xs))) → DrewIf (option_map plan (found (get_or xs i d))) now next lits lits2
      → DrawsOn whole old next lits2 (map plan (filter_map found (drop (i + 1) xs)))
  shown_next now next lits lits2 xs i d lt on drew =
      let here : drop i xs ≡ get_or xs i d ∷ drop (i + 1) xs = rw add-one (drop-cons xs i d lt) in
      by (found (get_or xs i d)) (subst (DrawsOn whole old now lits) (ap (λ ys. map plan (filter_map found ys)) here) on) drew
    where
      by : (o : Option Y) → DrawsOn whole old now lits (map plan (cons_option o (filter_map found (drop (i + 1) xs)))) → DrewIf (option_map plan o) now next lits lits2
          → DrawsOn whole old next lits2 (map plan (filter_map found (drop (i + 1) xs)))
      by None o e =
          subst (λ ls. DrawsOn whole old next ls (map plan (filter_map found (drop (i + 1) xs)))) (sym e.1)
          (subst (λ s. DrawsOn whole old s lits (map plan (filter_map found (drop (i + 1) xs)))) (sym e.0) o)
      by (Some y) o e = draws_step whole old now next lits lits2 e.lit (plan y) (map plan (filter_map found (drop (i + 1) xs))) o e.drew e.adds

  pub all_shown : (now : Draft) (lits : List ℕ) (xs : List X) (i : ℕ) → length xs ≤ i → DrawsOn whole old now lits (map plan (filter_map found (drop i xs))) → DrewEach whole old now lits
  all_shown now lits xs i le on = draws_last whole old now lits (subst (DrawsOn whole old now lits) (ap (λ ys. map plan (filter_map found ys)) (drop_of_length-le xs le)) on)
