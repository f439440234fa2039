-- A place more in the map of places.
use Rattle.std.proofs.Common.{◌≡◌, ℕ, Bool, true, false, cond, List, [], ◌∷◌, ◌++◌, Some, None, refl, sym, ap, ◌∙◌}
use Rattle.std.specs.Prelude.{Option, if◌then◌else◌}
use Rattle.std.specs.declared.alloc.Global.{Global}
use Rattle.std.specs.declared.vec.Vec.{Vec}
use Rattle.std.specs.Cmp.Lexicographic.{nat_list_cmp_total}
use Rattle.std.specs.FinMap.{get, insert, remove, get-empty, get-insert, get-remove}
use Rattle.std.specs.Option.{option_map_or}
use Rattle.std.specs.Str.{bytes_eq}
use Rattle.std.proofs.lemmas.Map.Text.{is_eq-slice_cmp}
use Rattle.std.proofs.lemmas.Slice.Eq.{bytes_eq-Decides}
use Rattle.gv_base.specs.ByteMap.{Bytes, map_of}
use Rattle.gv_base.specs.Order.{byte_cmp}
use Rattle.gv_usedefaults.specs.PlaceMaps.{PlaceMap, places_in}

abbrev given : Option (Vec ℕ Global) → List ℕ
given o = option_map_or (λ (places : Vec ℕ Global). places.items) o []

pub no_places : (es : List (Bytes × Vec ℕ Global)) → es ≡ [] → (dir : List ℕ) → places_in (map_of es) dir ≡ []
no_places es is dir = ap (λ (ds : List (Bytes × Vec ℕ Global)). places_in (map_of ds) dir) is ∙ ap given (get-empty byte_cmp dir)

pub when_taken : (m n : PlaceMap) (dir : List ℕ) → n ≡ remove m dir → (q : List ℕ) → bytes_eq q dir ≡ false → places_in n q ≡ places_in m q
when_taken m n dir is q other =
    ap (λ (k : PlaceMap). places_in k q) is ∙ ap given (get-remove nat_list_cmp_total m dir q)
    ∙ ap (λ b. given (cond b None (get m q))) (is_eq-slice_cmp q dir ∙ other)

pub place_added : (old mid new : PlaceMap) (dir places : List ℕ) (more : Vec ℕ Global) (n : ℕ)
    → places ≡ places_in old dir
    → ((q : List ℕ) → bytes_eq q dir ≡ false → places_in mid q ≡ places_in old q)
    → more.items ≡ places ++ n ∷ []
    → new ≡ insert mid dir more
    → (q : List ℕ) → places_in new q ≡ (if bytes_eq q dir then places_in old q ++ n ∷ [] else places_in old q)
place_added old mid new dir places more n these others added is q =
    ap (λ (k : PlaceMap). places_in k q) is ∙ ap given (get-insert nat_list_cmp_total mid dir more q ∙ ap (λ b. cond b (Some more) (get mid q)) (is_eq-slice_cmp q dir))
    ∙ by (bytes_eq q dir) refl
  where
    by : (e : Bool) → bytes_eq q dir ≡ e → given (cond e (Some more) (get mid q)) ≡ (if e then places_in old q ++ n ∷ [] else places_in old q)
    by true at = added ∙ ap (λ ps. ps ++ n ∷ []) (these ∙ ap (places_in old) (sym ((bytes_eq-Decides q dir).0 at)))
    by false at = others q at
