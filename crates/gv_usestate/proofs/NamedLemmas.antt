-- Packages that atoms of rules name, in a hash set; and a package that none names, for which the rules for every package alone count.
use Rattle.std.proofs.Common.{◌≡◌, ℕ, Bool, true, false, ◌&&◌, ◌||◌, List, [], ◌∷◌, refl, sym, ap, ◌∙◌}
use Rattle.std.specs.Prelude.{Option, None, Some, filter, fold, if◌then◌else◌, not}
use Rattle.std.specs.Cmp.Lexicographic.{same_text}
use Rattle.std.specs.List.{list_any}
use Rattle.std.specs.Option.{option_map_or}
use Rattle.std.specs.Str.{bytes_eq}
use Rattle.std.proofs.lemmas.Bool.{false≢true}
use Rattle.indexmap.specs.IndexSet.{insert_key}
use Rattle.gv_atom.specs.declared.atom.Atom.{Atom}
use Rattle.gv_facts.specs.States.{applies, is_restricted, is_same}
use Rattle.gv_facts.specs.Visible.{matches_pkg}
use Rattle.gv_facts.specs.declared.kinds.Level.{Level}
use Rattle.gv_facts.specs.declared.pkg.Pkg.{Pkg}
use Rattle.gv_facts.specs.declared.profile.Profile.{Profile}
use Rattle.gv_facts.specs.declared.rules.Effect.{Effect}
use Rattle.gv_facts.specs.declared.rules.Rule.{Rule}
use Rattle.gv_usestate.specs.NamedPkgs.{Key, has_key, is_general, is_key, names_pkg}
use Rattle.gv_usestate.proofs.FlagSetLemmas.{flipped, one_more_key}

abbrev pub pair_eq : Key → Key → Bool
pair_eq a b = bytes_eq a.0.now b.0.now && bytes_eq a.1.now b.1.now

both : (a b : Bool) → (a && b) ≡ true → (a ≡ true) × (b ≡ true)
both true b h = (refl, h)
both false b h = absurd (false≢true h)

-- a category and a name are asked for
abbrev is_asked : List ℕ × List ℕ → Key → Bool
is_asked q key = is_key q.0 q.1 key

alike : (q : List ℕ × List ℕ) (a b : Key) → pair_eq a b ≡ true → is_asked q a ≡ is_asked q b
alike q a b h =
    let each = both (bytes_eq a.0.now b.0.now) (bytes_eq a.1.now b.1.now) h in
    rw (same_text a.0.now b.0.now (sym each.0), same_text a.1.now b.1.now (sym each.1)) refl

pub one_more_pkg : (keys : List Key) (key : Key) (a : Atom) → key.0.now ≡ a.category → key.1.now ≡ a.name → (category name : List ℕ)
    → has_key (insert_key pair_eq keys key) category name ≡ (has_key keys category name || (bytes_eq category a.category && bytes_eq name a.name))
one_more_pkg keys key a first second category name =
    one_more_key is_asked pair_eq alike (category, name) key keys
    ∙ rw (first, second) refl

pub no_more_pkg : (b : Bool) → b ≡ (b || false)
no_more_pkg true = refl
no_more_pkg false = refl

module _ (effect : Effect) (p : Pkg) (profile : Profile) (level : Level) (flag : List ℕ) where
  abbrev in_turn : Bool → Rule → Bool
  in_turn on r = if is_same effect r.effect && (bytes_eq r.flag flag && applies p profile level r) then r.on else on

  -- a rule whose atom names other packages
  no_match : (a : Atom) → (bytes_eq p.category a.category && bytes_eq p.name a.name) ≡ false → matches_pkg a p ≡ false
  no_match a h = by (bytes_eq p.category a.category) refl (bytes_eq p.name a.name) refl h
    where
      by : (c : Bool) → bytes_eq p.category a.category ≡ c → (n : Bool) → bytes_eq p.name a.name ≡ n → (c && n) ≡ false → matches_pkg a p ≡ false
      by true e true f h = absurd (false≢true (sym h))
      by true e false f h = rw (sym (flipped p.category a.category) ∙ e, sym (flipped p.name a.name) ∙ f) refl
      by false e n f h = rw (sym (flipped p.category a.category) ∙ e) refl

  unchanged : (on now same named plain : Bool) → on ≡ (if same && (named && (plain && false)) then now else on)
  unchanged on now false named plain = refl
  unchanged on now true false plain = refl
  unchanged on now true true false = refl
  unchanged on now true true true = refl

  -- where no atom names the package, the rules for every package do what all do
  pub general_alone : (rules : List Rule) (on : Bool) → list_any (names_pkg p.category p.name) rules ≡ false → fold in_turn on (filter is_general rules) ≡ fold in_turn on rules
  general_alone [] on none = refl
  general_alone (r ∷ rules) on none = by r.atom refl none (general_alone rules)
    where
      by : (o : Option Atom) → r.atom ≡ o → (option_map_or (λ a. bytes_eq p.category a.category && bytes_eq p.name a.name) o false || list_any (names_pkg p.category p.name) rules) ≡ false
          → ((now : Bool) → list_any (names_pkg p.category p.name) rules ≡ false → fold in_turn now (filter is_general rules) ≡ fold in_turn now rules)
          → fold in_turn on (filter is_general (r ∷ rules)) ≡ fold in_turn on (r ∷ rules)
      by None e h later = rw e (later _ h)
      by (Some a) e h later = rw e (other (bytes_eq p.category a.category && bytes_eq p.name a.name) refl h)
        where
          other : (b : Bool) → (bytes_eq p.category a.category && bytes_eq p.name a.name) ≡ b → (b || list_any (names_pkg p.category p.name) rules) ≡ false
              → fold in_turn on (filter is_general rules)
              ≡ fold in_turn (if is_same effect r.effect && (bytes_eq r.flag flag && ((not r.stable || is_restricted p profile level) && matches_pkg a p)) then r.on else on) rules
          other true f i = absurd (false≢true (sym i))
          other false f i = rw (no_match a f) (later on i ∙ ap (λ now. fold in_turn now rules) (unchanged on r.on (is_same effect r.effect) (bytes_eq r.flag flag) (not r.stable || is_restricted p profile level)))
