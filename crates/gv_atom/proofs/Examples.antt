-- Values of the definitions.
use Rattle.std.specs.Prelude.{◌≡◌, ℕ, Bool, true, false, List, [], ◌∷◌, map, Option, None, Some, option_map, codes, refl}
use Rattle.gv_atom.specs.declared.fault.AtomKind.TheVariants.{Category, Package, Version, Repo, Slot, Item}
use Rattle.gv_atom.specs.declared.atom.Block.TheVariants.{No, Weak, Strong}
use Rattle.gv_atom.specs.declared.items.Ask.TheVariants.{On, Off, Same, Opposite, OnIf, OffIfNot}
use Rattle.gv_atom.specs.Matching.{matches}
use Rattle.gv_atom.specs.Reading.{atom_fault, read_atom}
use Rattle.gv_atom.specs.Grammar.{atom_text, is_atom}
use Rattle.gv_atom.specs.Items.{asked, asks_parent, is_blocker}

-- whether an atom of these bytes matches x/y of this version in slot 0
abbrev match_y : List ℕ → List ℕ → Option Bool
match_y bytes version = option_map (λ a. matches a (codes "x") (codes "y") version (codes "0") (codes "0")) (read_atom bytes)

star_longer : match_y (codes "=x/y-1.2*") (codes "1.2.1") ≡ Some true
star_longer = refl

star_other : match_y (codes "=x/y-1.2*") (codes "1.20") ≡ Some false
star_other = refl

revisions_apart : match_y (codes "~x/y-1-r2") (codes "1-r7") ≡ Some true
revisions_apart = refl

slot_differs : match_y (codes ">=x/y-1:2") (codes "3") ≡ Some false
slot_differs = refl

slot_with_sub : match_y (codes "x/y:0/0=[a?,-b(+)]") (codes "3") ≡ Some true
slot_with_sub = refl

no_slash : atom_fault (codes "y") ≡ Some (Category, 0)
no_slash = refl

version_without_operator : atom_fault (codes "x/y-1") ≡ Some (Package, 2)
version_without_operator = refl

star_elsewhere : atom_fault (codes ">=x/y-1.2*") ≡ Some (Version, 4)
star_elsewhere = refl

repository : atom_fault (codes "x/y::gentoo") ≡ Some (Repo, 3)
repository = refl

slot_empty : atom_fault (codes "x/y:") ≡ Some (Slot, 3)
slot_empty = refl

bracket_open : atom_fault (codes "x/y[f") ≡ Some (Item, 3)
bracket_open = refl

item_missing : atom_fault (codes "x/y[f,,g]") ≡ Some (Item, 6)
item_missing = refl

items_empty : atom_fault (codes "x/y[]") ≡ Some (Item, 4)
items_empty = refl

-- what each item asks, where the parent's flag is on and where it is off, and which look at it
asked_on : map (λ a. asked a true) (On ∷ Off ∷ Same ∷ Opposite ∷ OnIf ∷ OffIfNot ∷ [])
    ≡ Some true ∷ Some false ∷ Some true ∷ Some false ∷ Some true ∷ None ∷ []
asked_on = refl

asked_off : map (λ a. asked a false) (On ∷ Off ∷ Same ∷ Opposite ∷ OnIf ∷ OffIfNot ∷ [])
    ≡ Some true ∷ Some false ∷ Some false ∷ Some true ∷ None ∷ Some false ∷ []
asked_off = refl

look_at_parent : map asks_parent (On ∷ Off ∷ Same ∷ Opposite ∷ OnIf ∷ OffIfNot ∷ []) ≡ false ∷ false ∷ true ∷ true ∷ true ∷ true ∷ []
look_at_parent = refl

blockers : map is_blocker (No ∷ Weak ∷ Strong ∷ []) ≡ false ∷ true ∷ true ∷ []
blockers = refl

-- what is read is written again
abbrev again : List ℕ → Option (List ℕ)
again bytes = option_map atom_text (read_atom bytes)

again_full : again (codes "!!=dev-lang/python-3.13.0_rc1*:3.13/3=[a,-b(+),c=,!d=,e(-)?,!f?]") ≡ Some (codes "!!=dev-lang/python-3.13.0_rc1*:3.13/3=[a,-b(+),c=,!d=,e(-)?,!f?]")
again_full = refl

good : option_map is_atom (read_atom (codes "~x/y-2-r1:0=[f(-)]")) ≡ Some true
good = refl
