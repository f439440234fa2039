-- How an atom is written (PMS chapter 8), and which records are atoms: the grammar of atoms.
use Rattle.std.specs.Prelude.{◌≡◌, ℕ, Bool, true, false, ◌&&◌, List, [], ◌∷◌, ◌++◌, Option, None, Some, codes}
use Rattle.std.specs.List.{list_all, join_by}
use Rattle.std.specs.Str.{byte}
use Rattle.gv_version.specs.Names.{is_category, is_package, is_slot, is_flag}
use Rattle.gv_version.specs.Form.{is_version}
use Rattle.gv_atom.specs.declared.atom.Atom.{Atom}
use Rattle.gv_atom.specs.declared.atom.Block.{Block}
use Rattle.gv_atom.specs.declared.atom.Block.TheVariants.{No, Weak, Strong}
use Rattle.gv_atom.specs.declared.atom.CompareOp.{CompareOp}
use Rattle.gv_atom.specs.declared.atom.CompareOp.TheVariants as ops
use Rattle.gv_atom.specs.declared.atom.SlotNeed.{SlotNeed}
use Rattle.gv_atom.specs.declared.atom.SlotNeed.TheVariants.{Any, Slot, Both}
use Rattle.gv_atom.specs.declared.atom.SlotMark.{SlotMark}
use Rattle.gv_atom.specs.declared.atom.SlotMark.TheVariants.{Plain, Star, Equals}
use Rattle.gv_atom.specs.declared.items.UseItem.{UseItem}
use Rattle.gv_atom.specs.declared.items.Ask.{Ask}
use Rattle.gv_atom.specs.declared.items.Ask.TheVariants.{On, Off, Same, Opposite, OnIf, OffIfNot}

abbrev pub block_text : Block → List ℕ
block_text No = []
block_text Weak = codes "!"
block_text Strong = codes "!!"

abbrev pub op_text : Option CompareOp → List ℕ
op_text None = []
op_text (Some ops.Less) = codes "<"
op_text (Some ops.LessEqual) = codes "<="
op_text (Some ops.Equal) = codes "="
op_text (Some ops.Same) = codes "~"
op_text (Some ops.GreaterEqual) = codes ">="
op_text (Some ops.Greater) = codes ">"

abbrev pub version_part : Option (List ℕ) → Bool → List ℕ
version_part None star = []
version_part (Some version) false = byte "-" ∷ version
version_part (Some version) true = byte "-" ∷ (version ++ codes "*")

abbrev pub mark_text : SlotMark → List ℕ
mark_text Plain = []
mark_text Star = codes "*"
mark_text Equals = codes "="

abbrev pub slot_text : SlotNeed → SlotMark → List ℕ
slot_text Any Plain = []
slot_text Any Star = codes ":*"
slot_text Any Equals = codes ":="
slot_text (Slot slot) mark = byte ":" ∷ (slot ++ mark_text mark)
slot_text (Both slot sub) mark = byte ":" ∷ (slot ++ byte "/" ∷ (sub ++ mark_text mark))

abbrev pub default_text : Option Bool → List ℕ
default_text None = []
default_text (Some true) = codes "(+)"
default_text (Some false) = codes "(-)"

abbrev pub asked_text : Ask → List ℕ → List ℕ
asked_text On flag = flag
asked_text Off flag = byte "-" ∷ flag
asked_text Same flag = flag ++ codes "="
asked_text Opposite flag = byte "!" ∷ (flag ++ codes "=")
asked_text OnIf flag = flag ++ codes "?"
asked_text OffIfNot flag = byte "!" ∷ (flag ++ codes "?")

abbrev pub item_text : UseItem → List ℕ
item_text i = asked_text i.ask (i.flag ++ default_text i.missing)

abbrev pub items_text : List UseItem → List ℕ
items_text [] = []
items_text (i ∷ is) = byte "[" ∷ (join_by item_text (codes ",") (i ∷ is) ++ codes "]")

abbrev pub atom_text : Atom → List ℕ
atom_text a = block_text a.block ++ (op_text a.op ++ (a.category ++ byte "/" ∷ (a.name
    ++ (version_part a.version a.star ++ (slot_text a.slot a.mark ++ items_text a.items)))))

-- an operator and a version, or neither; a star only with `=`
abbrev pub is_versioned : Option CompareOp → Option (List ℕ) → Bool → Bool
is_versioned None None false = true
is_versioned (Some ops.Equal) (Some version) star = is_version version
is_versioned (Some op) (Some version) false = is_version version
is_versioned op version star = false

-- a star stands alone
abbrev pub is_slotted : SlotNeed → SlotMark → Bool
is_slotted Any mark = true
is_slotted (Slot slot) Star = false
is_slotted (Slot slot) mark = is_slot slot
is_slotted (Both slot sub) Star = false
is_slotted (Both slot sub) mark = is_slot slot && is_slot sub

abbrev pub is_atom : Atom → Bool
is_atom a = is_category a.category && (is_package a.name && (is_versioned a.op a.version a.star
    && (is_slotted a.slot a.mark && list_all (λ i. is_flag i.flag) a.items)))

-- the bytes are this atom
pub record IsAtomOf (bytes : List ℕ) (a : Atom) : Type 0 where
  pub good : is_atom a ≡ true
  pub written : atom_text a ≡ bytes
