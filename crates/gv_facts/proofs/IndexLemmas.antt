-- What an entry that is written, or comes, does to the places of an index.
use Rattle.std.proofs.Common.{◌≡◌, ℕ, Bool, true, false, cond, ◌&&◌, List, [], ◌∷◌, ◌++◌, Some, None, refl, sym, ap, subst, ◌∙◌}
use Rattle.std.specs.Prelude.{Option, Result, Ok, Err, OnErr, unwrap_or, if◌then◌else◌}
use Rattle.std.proofs.lemmas.Bool.{false≢true}
use Rattle.std.specs.Cmp.Lexicographic.{same_text}
use Rattle.std.specs.declared.alloc.Global.{Global}
use Rattle.std.specs.declared.vec.Vec.{Vec}
use Rattle.std.specs.Map.{lookup, set_value}
use Rattle.std.specs.Option.{option_map_or}
use Rattle.std.specs.Str.{bytes_eq}
use Rattle.indexmap.specs.IndexMap.{insert_entry}
use Rattle.gv_facts.specs.declared.index.Index.{Index}
use Rattle.gv_facts.specs.Index.{is_key, places_at}

abbrev Bytes : Type 0
Bytes = Vec ℕ Global

abbrev key_eq : Bytes → Bytes → Bool
key_eq x y = bytes_eq x.items y.items

-- a key that equals one text equals another where the texts are equal
other_key : (q key : List ℕ) (k : Bytes) → is_key key k ≡ true → is_key q k ≡ bytes_eq q key
other_key q key k hit = ap (bytes_eq q) (sym (same_text key k.items (sym hit)))

module _ {X : Type 0} where
  -- one key has a value now, and the others have theirs
  abbrev pub Sets : (es fs : List (Bytes × X)) → (key : List ℕ) → X → Type 0
  Sets es fs key w = (q : List ℕ) → lookup (is_key q) fs ≡ (if bytes_eq q key then Some w else lookup (is_key q) es)

  set_sets : (es : List (Bytes × X)) (key : List ℕ) (w old : X) → lookup (is_key key) es ≡ Some old → Sets es (set_value (is_key key) es w) key w
  set_sets [] key w old there q = absurd cc
  set_sets (e ∷ es) key w old there q = by (is_key key e.0) refl (λ h. set_sets es key w old h q)
    where
      by : (b : Bool) → is_key key e.0 ≡ b → (lookup (is_key key) es ≡ Some old → lookup (is_key q) (set_value (is_key key) es w) ≡ (if bytes_eq q key then Some w else lookup (is_key q) es))
          → lookup (is_key q) (cond b ((e.0, w) ∷ es) (e ∷ set_value (is_key key) es w)) ≡ (if bytes_eq q key then Some w else lookup (is_key q) (e ∷ es))
      by true hit later = rw (other_key q key e.0 hit) (here (bytes_eq q key))
        where
          here : (s : Bool) → cond s (Some w) (lookup (is_key q) es) ≡ (if s then Some w else cond s (Some e.1) (lookup (is_key q) es))
          here true = refl
          here false = refl
      by false miss later = there_or (is_key q e.0) refl (later (rw miss at there))
        where
          there_or : (s : Bool) → is_key q e.0 ≡ s → lookup (is_key q) (set_value (is_key key) es w) ≡ (if bytes_eq q key then Some w else lookup (is_key q) es)
              → cond s (Some e.1) (lookup (is_key q) (set_value (is_key key) es w)) ≡ (if bytes_eq q key then Some w else cond s (Some e.1) (lookup (is_key q) es))
          there_or true h l = rw (apart (bytes_eq q key) refl) refl
            where
              apart : (s : Bool) → bytes_eq q key ≡ s → s ≡ false
              apart true f = absurd (false≢true (sym miss ∙ (ap (λ z. is_key z e.0) (sym (same_text q key (sym f))) ∙ h)))
              apart false f = refl
          there_or false h l = l

  insert_sets : (es : List (Bytes × X)) (k : Bytes) (w : X) → Sets es (insert_entry key_eq es k w) k.items w
  insert_sets [] k w q = here (bytes_eq q k.items)
    where
      here : (s : Bool) → cond s (Some w) None ≡ (if s then Some w else None)
      here true = refl
      here false = refl
  insert_sets (e ∷ es) k w q = by (key_eq k e.0) refl (insert_sets es k w q)
    where
      by : (b : Bool) → key_eq k e.0 ≡ b → lookup (is_key q) (insert_entry key_eq es k w) ≡ (if bytes_eq q k.items then Some w else lookup (is_key q) es)
          → lookup (is_key q) (if b then (e.0, w) ∷ es else e ∷ insert_entry key_eq es k w) ≡ (if bytes_eq q k.items then Some w else lookup (is_key q) (e ∷ es))
      by true hit later = rw (other_key q k.items e.0 hit) (here (bytes_eq q k.items))
        where
          here : (s : Bool) → cond s (Some w) (lookup (is_key q) es) ≡ (if s then Some w else cond s (Some e.1) (lookup (is_key q) es))
          here true = refl
          here false = refl
      by false miss later = there_or (is_key q e.0) refl later
        where
          there_or : (s : Bool) → is_key q e.0 ≡ s → lookup (is_key q) (insert_entry key_eq es k w) ≡ (if bytes_eq q k.items then Some w else lookup (is_key q) es)
              → cond s (Some e.1) (lookup (is_key q) (insert_entry key_eq es k w)) ≡ (if bytes_eq q k.items then Some w else cond s (Some e.1) (lookup (is_key q) es))
          there_or true h l = rw (apart (bytes_eq q k.items) refl) refl
            where
              apart : (s : Bool) → bytes_eq q k.items ≡ s → s ≡ false
              apart true f = absurd (false≢true (sym miss ∙ (ap (λ z. is_key z e.0) (sym (same_text q k.items (sym f))) ∙ h)))
              apart false f = refl
          there_or false h l = l

  -- what an entry was written through
  pub set_entry : (es fs : List (Bytes × X)) (key : List ℕ) (w old : X) → lookup (is_key key) es ≡ Some old → fs ≡ set_value (is_key key) es w → Sets es fs key w
  set_entry es fs key w old there is = subst (λ xs. Sets es xs key w) (sym is) (set_sets es key w old there)

  -- what an entry came to
  pub new_entry : (es fs : List (Bytes × X)) (key : List ℕ) (k : Bytes) (w : X) → fs ≡ insert_entry key_eq es k w → k.items ≡ key → Sets es fs key w
  new_entry es fs key k w is same =
      subst (λ bytes. Sets es fs bytes w) same (subst (λ xs. Sets es xs k.items w) (sym is) (insert_sets es k w))

  -- at the key itself
  at_key : (es : List (Bytes × X)) (q key : List ℕ) → bytes_eq q key ≡ true → lookup (is_key q) es ≡ lookup (is_key key) es
  at_key es q key same = ap (λ z. lookup (is_key z) es) (same_text q key (sym same))

-- One name.
pub place_added : (es fs : List (Bytes × List ℕ)) (key places : List ℕ) (n : ℕ) → unwrap_or (lookup (is_key key) es) [] ≡ places → Sets es fs key (places ++ n ∷ [])
    → (q : List ℕ) → unwrap_or (lookup (is_key q) fs) [] ≡ (if bytes_eq q key then unwrap_or (lookup (is_key q) es) [] ++ n ∷ [] else unwrap_or (lookup (is_key q) es) [])
place_added es fs key places n were sets q = ap (λ o. unwrap_or o []) (sets q) ∙ by (bytes_eq q key) refl
  where
    by : (s : Bool) → bytes_eq q key ≡ s → unwrap_or (if s then Some (places ++ n ∷ []) else lookup (is_key q) es) [] ≡ (if s then unwrap_or (lookup (is_key q) es) [] ++ n ∷ [] else unwrap_or (lookup (is_key q) es) [])
    by true same = ap (λ ps. ps ++ n ∷ []) (sym were ∙ ap (λ o. unwrap_or o []) (sym (at_key es q key same)))
    by false same = refl

pub places_kept : (es fs : List (Bytes × List ℕ)) (key places : List ℕ) → unwrap_or (lookup (is_key key) es) [] ≡ places → Sets es fs key places
    → (q : List ℕ) → unwrap_or (lookup (is_key q) fs) [] ≡ unwrap_or (lookup (is_key q) es) []
places_kept es fs key places were sets q = ap (λ o. unwrap_or o []) (sets q) ∙ by (bytes_eq q key) refl
  where
    by : (s : Bool) → bytes_eq q key ≡ s → unwrap_or (if s then Some places else lookup (is_key q) es) [] ≡ unwrap_or (lookup (is_key q) es) []
    by true same = sym were ∙ ap (λ o. unwrap_or o []) (sym (at_key es q key same))
    by false same = refl

-- A category and a name in it.
abbrev pub names_in : Option Index → List ℕ → List ℕ
names_in names name = option_map_or (λ (i : Index). places_at i name) names []

module _ (es fs : List (Bytes × Index)) (category : List ℕ) (names : Index) (sets : Sets es fs category names) where
  pub pair_added : (name : List ℕ) (place : ℕ)
      → ((n : List ℕ) → places_at names n ≡ (if bytes_eq n name then names_in (lookup (is_key category) es) n ++ place ∷ [] else names_in (lookup (is_key category) es) n))
      → (c n : List ℕ) → names_in (lookup (is_key c) fs) n ≡ (if bytes_eq c category && bytes_eq n name then names_in (lookup (is_key c) es) n ++ place ∷ [] else names_in (lookup (is_key c) es) n)
  pair_added name place added c n = ap (λ o. names_in o n) (sets c) ∙ by (bytes_eq c category) refl
    where
      by : (s : Bool) → bytes_eq c category ≡ s → names_in (if s then Some names else lookup (is_key c) es) n
          ≡ (if s && bytes_eq n name then names_in (lookup (is_key c) es) n ++ place ∷ [] else names_in (lookup (is_key c) es) n)
      by true same = added n ∙ ap (λ o. if bytes_eq n name then names_in o n ++ place ∷ [] else names_in o n) (sym (at_key es c category same))
      by false same = refl

  pub pair_kept : ((n : List ℕ) → places_at names n ≡ names_in (lookup (is_key category) es) n) → (c n : List ℕ) → names_in (lookup (is_key c) fs) n ≡ names_in (lookup (is_key c) es) n
  pair_kept kept c n = ap (λ o. names_in o n) (sets c) ∙ by (bytes_eq c category) refl
    where
      by : (s : Bool) → bytes_eq c category ≡ s → names_in (if s then Some names else lookup (is_key c) es) n ≡ names_in (lookup (is_key c) es) n
      by true same = kept n ∙ ap (λ o. names_in o n) (sym (at_key es c category same))
      by false same = refl

pub on_err : {T E P : Type 0} (r : Result T E) → P → OnErr r P
on_err (Ok x) p = tt
on_err (Err e) p = p
