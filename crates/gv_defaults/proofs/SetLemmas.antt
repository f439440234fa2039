-- Values set over what was set before, name by name.
use Rattle.std.proofs.Common.{◌≡◌, ℕ, List, [], ◌∷◌, Bool, true, false, cond, ◌&&◌, ◌||◌, T, map, Some, None, refl, sym, ap, subst, ◌∙◌}
use Rattle.std.specs.Prelude.{Option, fold, if◌then◌else◌}
use Rattle.std.specs.Option.{unwrap_or, is_some}
use Rattle.std.specs.Str.{bytes_eq}
use Rattle.std.specs.declared.cmp.Ordering.{Ordering}
use Rattle.std.specs.declared.cmp.Ordering.TheVariants.{Less, Equal, Greater}
use Rattle.std.specs.Ordering.{is_lt}
use Rattle.std.specs.List.Sorted.{IsStrictlySortedBy}
use Rattle.std.specs.Map.{keys_of}
use Rattle.std.specs.FinMap.{get, insert, entries, entries_sorted, get-entries, same_map}
use Rattle.std.specs.FinMap.Entries.{find, below_all, is_sorted}
use Rattle.std.specs.Cmp.Lexicographic.{nat_list_cmp_total}
use Rattle.std.proofs.lemmas.Map.Lookups.{exact_bytes}
use Rattle.std.proofs.lemmas.Map.Text.{is_eq-slice_cmp}
use Rattle.gv_base.specs.ByteMap.{Bytes, key_cmp, seen_entry, map_of}
use Rattle.gv_base.specs.Laws.{InOrderLaw, MapLaw}
use Rattle.gv_base.specs.Order.{byte_cmp, has_text, in_order}
use Rattle.gv_defaults.specs.declared.vars.Setting.{Setting}
use Rattle.gv_defaults.specs.Settings.{VarMap, set_over}
use Rattle.gv_defaults.specs.Values.{Values, value_in, names_in}
use Rattle.gv_defaults.specs.Defaults.{values_after, with_folded, vars_after, set_to, setting_after}
use Rattle.gv_defaults.proofs.ReadLemmas.{got, same_bytes}

-- one entry after another is set over what was set before
abbrev pub set_each : VarMap → VarMap → List (List ℕ × List ℕ) → VarMap
set_each before vars [] = vars
set_each before vars (e ∷ es) = set_each before (insert vars e.0 (set_over e.0 e.1 (get before e.0))) es

first : (a b : Bool) → T (a && b) → T a
first true b p = tt
first false b p = p

second : (a b : Bool) → T (a && b) → T b
second true b p = p
second false b p = absurd p

less : (o : Ordering) → T (is_lt o) → o ≡ Less
less Less p = refl
less Equal p = absurd p
less Greater p = absurd p

find_none : (k : List ℕ) (es : List (List ℕ × List ℕ)) → T (below_all byte_cmp k es) → find byte_cmp k es ≡ None
find_none k [] h = refl
find_none k (e ∷ es) h = rw (less (byte_cmp k e.0) (first _ _ h)) (find_none k es (second _ _ h))

-- set again over what was set before the file
set_twice : (name : List ℕ) (value : Option (List ℕ)) (now before : Option Setting) → Option Setting
set_twice name None now before = now
set_twice name (Some value) now before = Some (set_over name value before)

got_each : (before vars : VarMap) (es : List (List ℕ × List ℕ)) (q : List ℕ) → T (is_sorted byte_cmp es) →
    get (set_each before vars es) q ≡ set_twice q (find byte_cmp q es) (get vars q) (get before q)
unfolding set_twice
got_each before vars [] q h = refl
got_each before vars (e ∷ es) q h =
    got_each before (insert vars e.0 (set_over e.0 e.1 (get before e.0))) es q (second _ _ h)
    ∙ ap (λ (o : Option Setting). set_twice q (find byte_cmp q es) o (get before q)) (got vars e.0 (set_over e.0 e.1 (get before e.0)) q)
    ∙ by (bytes_eq q e.0) refl
    ∙ ap (λ (b : Bool). set_twice q (cond b (Some e.1) (find byte_cmp q es)) (get vars q) (get before q)) (sym (is_eq-slice_cmp q e.0))
  where
    by : (b : Bool) → bytes_eq q e.0 ≡ b →
        set_twice q (find byte_cmp q es) (cond b (Some (set_over e.0 e.1 (get before e.0))) (get vars q)) (get before q)
        ≡ set_twice q (cond b (Some e.1) (find byte_cmp q es)) (get vars q) (get before q)
    by true is =
        let same : q ≡ e.0 = same_bytes q e.0 is in
        ap (λ (k : List ℕ). set_twice q (find byte_cmp k es) (Some (set_over e.0 e.1 (get before e.0))) (get before q)) same
        ∙ ap (λ (o : Option (List ℕ)). set_twice q o (Some (set_over e.0 e.1 (get before e.0))) (get before q)) (find_none e.0 es (first _ _ h))
        ∙ ap (λ (k : List ℕ). Some (set_over k e.1 (get before k))) (sym same)
    by false is = refl

over_before : (q : List ℕ) (value : Option (List ℕ)) (before : Option Setting) → set_twice q value before before ≡ set_to q value before
unfolding set_twice
over_before q None before = refl
over_before q (Some value) before = refl

-- the entries of a tree set over what was set before
pub set_entries : (law : MapLaw (List ℕ)) (before : VarMap) (es : List (Bytes × List ℕ)) → IsStrictlySortedBy key_cmp (keys_of es) → (q : List ℕ) →
    get (set_each before before (map seen_entry es)) q ≡ set_to q (get (map_of es) q) (get before q)
set_entries law before es h q =
    let is : entries (map_of es) ≡ map seen_entry es = law.entries es h in
    got_each before before (map seen_entry es) q (subst (λ xs. T (is_sorted byte_cmp xs)) is (entries_sorted (map_of es)))
    ∙ ap (λ xs. set_twice q (find byte_cmp q xs) (get before q) (get before q)) (sym is)
    ∙ ap (λ (o : Option (List ℕ)). set_twice q o (get before q) (get before q)) (sym (get-entries (map_of es) q))
    ∙ over_before q (get (map_of es) q) (get before q)

-- ---- the fold of the names in byte order
is_there : (values : Values) (q : List ℕ) → has_text (names_in values) q ≡ is_some (value_in values q)
is_there [] q = refl
is_there (v ∷ vs) q = by (bytes_eq q v.0) (is_there vs q)
  where
    by : (b : Bool) → has_text (names_in vs) q ≡ is_some (value_in vs q) → (b || has_text (names_in vs) q) ≡ is_some (if b then Some v.1 else value_in vs q)
    by true h = refl
    by false h = h

-- a name that is folded has its setting, another has what it had
folds : (before : VarMap) (values : Values) (vars : VarMap) (names : List (List ℕ)) (q : List ℕ) →
    get (fold (with_folded before values) vars names) q ≡ cond (has_text names q) (Some (set_over q (unwrap_or (value_in values q) []) (get before q))) (get vars q)
folds before values vars [] q = refl
folds before values vars (name ∷ names) q =
    folds before values (with_folded before values vars name) names q
    ∙ ap (cond (has_text names q) (Some (set_over q (unwrap_or (value_in values q) []) (get before q)))) (got vars name (set_over name (unwrap_or (value_in values name) []) (get before name)) q)
    ∙ by (has_text names q) (bytes_eq q name) refl
  where
    by : (a b : Bool) → bytes_eq q name ≡ b →
        cond a (Some (set_over q (unwrap_or (value_in values q) []) (get before q))) (cond b (Some (set_over name (unwrap_or (value_in values name) []) (get before name))) (get vars q))
        ≡ cond (b || a) (Some (set_over q (unwrap_or (value_in values q) []) (get before q))) (get vars q)
    by true true is = refl
    by true false is = refl
    by false true is = let same : q ≡ name = same_bytes q name is in ap (λ (k : List ℕ). Some (set_over k (unwrap_or (value_in values k) []) (get before k))) (sym same)
    by false false is = refl

set_where_there : (q : List ℕ) (value : Option (List ℕ)) (before : Option Setting) → cond (is_some value) (Some (set_over q (unwrap_or value []) before)) before ≡ set_to q value before
set_where_there q None before = refl
set_where_there q (Some value) before = refl

-- what each name is set to behind the file
pub got_after : (law : InOrderLaw) (before : VarMap) (bytes q : List ℕ) → get (vars_after before bytes) q ≡ setting_after (get before) bytes q
got_after law before bytes q =
    let values = values_after (get before) bytes in
    folds before values before (in_order (names_in values)) q
    ∙ ap (λ (b : Bool). cond b (Some (set_over q (unwrap_or (value_in values q) []) (get before q))) (get before q)) (sym (law.members (names_in values) q) ∙ is_there values q)
    ∙ set_where_there q (value_in values q) (get before q)

-- so a map that answers the same is that map
pub is_after : (law : InOrderLaw) (before vars : VarMap) (bytes : List ℕ) → ((q : List ℕ) → get vars q ≡ setting_after (get before) bytes q) → vars ≡ vars_after before bytes
is_after law before vars bytes each = same_map nat_list_cmp_total exact_bytes vars (vars_after before bytes) (λ q. each q ∙ sym (got_after law before bytes q))
