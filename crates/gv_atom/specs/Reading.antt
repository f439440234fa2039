-- How an atom's bytes are divided, and the first bad part (the place of a fault is a format of this project).
use Rattle.std.specs.Prelude.{ℕ, ◌+◌, ◌==◌, Bool, true, false, ◌&&◌, ◌||◌, not, is_some, is_none, if◌then◌else◌, List, [], ◌∷◌, length, drop, take, Option, None, Some, option_map, codes, filter_map}
use Rattle.std.specs.List.{list_any, slice_split}
use Rattle.std.specs.Option.{option_or, option_map_or}
use Rattle.std.specs.Str.{bytes_eq, byte}
use Rattle.gv_base.specs.Cut.{from_first, up_to_first, ends_in, without_last}
use Rattle.gv_version.specs.Bytes.{begins_with}
use Rattle.gv_version.specs.Names.{is_category, is_package, is_slot, is_flag, split_pf}
use Rattle.gv_atom.specs.declared.atom.Atom.{Atom}
use Rattle.gv_atom.specs.declared.fault.AtomKind.{AtomKind}
use Rattle.gv_atom.specs.declared.fault.AtomKind.TheVariants as kinds
use Rattle.gv_atom.specs.declared.atom.Block.{Block}
use Rattle.gv_atom.specs.declared.atom.Block.TheVariants.{No, Weak, Strong}
use Rattle.gv_atom.specs.declared.atom.CompareOp.{CompareOp}
use Rattle.gv_atom.specs.declared.atom.CompareOp.TheVariants as ops
use Rattle.gv_atom.specs.declared.atom.SlotNeed.{SlotNeed}
use Rattle.gv_atom.specs.declared.atom.SlotNeed.TheVariants.{Any, Slot, Both}
use Rattle.gv_atom.specs.declared.atom.SlotMark.{SlotMark}
use Rattle.gv_atom.specs.declared.atom.SlotMark.TheVariants.{Plain, Star, Equals}
use Rattle.gv_atom.specs.declared.items.UseItem.{UseItem}
use Rattle.gv_atom.specs.declared.items.Ask.{Ask}
use Rattle.gv_atom.specs.declared.items.Ask.TheVariants.{On, Off, Same, Opposite, OnIf, OffIfNot}

-- The parts of the bytes; a slot part begins with `:`, an item part with `[`, and each is empty where there is none.
pub record Division : Type 0 where
  pub block : Block
  pub op : Option CompareOp
  pub start : ℕ
  pub name_part : List ℕ
  pub slot_part : List ℕ
  pub item_part : List ℕ

abbrev pub block_of : List ℕ → Block
block_of bytes =
    if bytes_eq (take 2 bytes) (codes "!!") then Strong else
    if bytes_eq (take 1 bytes) (codes "!") then Weak else No

abbrev pub block_length : Block → ℕ
block_length No = 0
block_length Weak = 1
block_length Strong = 2

-- the longest operator that the bytes begin with
abbrev pub op_of : List ℕ → Option CompareOp
op_of bytes =
    if bytes_eq (take 2 bytes) (codes "<=") then Some ops.LessEqual else
    if bytes_eq (take 2 bytes) (codes ">=") then Some ops.GreaterEqual else
    if bytes_eq (take 1 bytes) (codes "<") then Some ops.Less else
    if bytes_eq (take 1 bytes) (codes "=") then Some ops.Equal else
    if bytes_eq (take 1 bytes) (codes "~") then Some ops.Same else
    if bytes_eq (take 1 bytes) (codes ">") then Some ops.Greater else None

abbrev pub op_length : Option CompareOp → ℕ
op_length None = 0
op_length (Some ops.LessEqual) = 2
op_length (Some ops.GreaterEqual) = 2
op_length (Some op) = 1

abbrev pub division_of : Block → Option CompareOp → ℕ → List ℕ → Division
division_of block op start rest = record {
  block = block;
  op = op;
  start = start;
  name_part = up_to_first (byte ":") (up_to_first (byte "[") rest);
  slot_part = from_first (byte ":") (up_to_first (byte "[") rest);
  item_part = from_first (byte "[") rest;
}

abbrev pub divided : List ℕ → Division
divided bytes =
    let block = block_of bytes in
    let op = op_of (drop (block_length block) bytes) in
    let start = block_length block + op_length op in
    division_of block op start (drop start bytes)

-- The parts of the name part.
abbrev pub category_of : List ℕ → List ℕ
category_of name_part = up_to_first (byte "/") name_part

abbrev pub after_slash : List ℕ → List ℕ
after_slash name_part = drop 1 (from_first (byte "/") name_part)

-- with `=` one `*` at the end is no part of the version
abbrev pub is_starred : Option CompareOp → List ℕ → Bool
is_starred (Some ops.Equal) text = ends_in (byte "*") text
is_starred op text = false

abbrev pub pf_part : Option CompareOp → List ℕ → List ℕ
pf_part op text = if is_starred op text then without_last text else text

-- The slot part.
abbrev pub need_of : List (List ℕ) → Option SlotNeed
need_of (slot ∷ []) = if is_slot slot then Some (Slot slot) else None
need_of (slot ∷ sub ∷ []) = if is_slot slot && is_slot sub then Some (Both slot sub) else None
need_of parts = None

abbrev pub with_mark : SlotMark → Option SlotNeed → Option (SlotNeed × SlotMark)
with_mark mark need = option_map (λ n. (n, mark)) need

abbrev pub slot_of : List ℕ → Option (SlotNeed × SlotMark)
slot_of [] = Some (Any, Plain)
slot_of (colon ∷ text) =
    if bytes_eq text (codes "*") then Some (Any, Star) else
    if bytes_eq text (codes "=") then Some (Any, Equals) else
    if ends_in (byte "=") text then with_mark Equals (need_of (slice_split (λ b. b == byte "/") (without_last text)))
    else with_mark Plain (need_of (slice_split (λ b. b == byte "/") text))

-- the place of the first `::`, where the bytes begin at that place
abbrev pub double_colon : ℕ → List ℕ → Option ℕ
double_colon at [] = None
double_colon at (b ∷ bs) = if b == byte ":" && begins_with (λ c. c == byte ":") bs then Some at else double_colon (at + 1) bs

-- The item part.
abbrev pub default_of : List ℕ → Option (Option Bool)
default_of text =
    if bytes_eq text [] then Some None else
    if bytes_eq text (codes "(+)") then Some (Some true) else
    if bytes_eq text (codes "(-)") then Some (Some false) else None

abbrev pub item_with : Ask → List ℕ → Option (Option Bool) → Option UseItem
item_with ask flag None = None
item_with ask flag (Some missing) = if is_flag flag then Some (record { flag = flag; ask = ask; missing = missing }) else None

-- a flag and its default
abbrev pub named : Ask → List ℕ → Option UseItem
named ask text = item_with ask (up_to_first (byte "(") text) (default_of (from_first (byte "(") text))

abbrev pub item_of : List ℕ → Option UseItem
item_of text =
    if begins_with (λ b. b == byte "-") text then named Off (drop 1 text) else
    if begins_with (λ b. b == byte "!") text then
    (if ends_in (byte "=") text then named Opposite (without_last (drop 1 text)) else
    if ends_in (byte "?") text then named OffIfNot (without_last (drop 1 text)) else None) else
    if ends_in (byte "=") text then named Same (without_last text) else
    if ends_in (byte "?") text then named OnIf (without_last text) else named On text

-- the texts between the commas
abbrev pub item_texts : List ℕ → List (List ℕ)
item_texts item_part = slice_split (λ b. b == byte ",") (without_last (drop 1 item_part))

abbrev pub is_bracket : ℕ → Bool
is_bracket b = b == byte "[" || b == byte "]"

abbrev pub is_bracketed : List ℕ → Bool
is_bracketed item_part = ends_in (byte "]") item_part && not (list_any is_bracket (without_last (drop 1 item_part)))

-- the place of the first text that is no item, where the texts begin at that place
abbrev pub bad_item : ℕ → List (List ℕ) → Option ℕ
bad_item at [] = None
bad_item at (text ∷ texts) = if is_some (item_of text) then bad_item (at + length text + 1) texts else Some at

abbrev pub bad_items : ℕ → List ℕ → Option ℕ
bad_items at [] = None
bad_items at (b ∷ bs) = if is_bracketed (b ∷ bs) then bad_item (at + 1) (item_texts (b ∷ bs)) else Some at

-- The first bad part.
abbrev pub Fault : Type 0
Fault = AtomKind × ℕ

abbrev pub when : Bool → AtomKind → ℕ → Option Fault
when bad kind at = if bad then Some (kind, at) else None

abbrev pub placed : AtomKind → Option ℕ → Option Fault
placed kind at = option_map (λ n. (kind, n)) at

abbrev pub name_fault : Division → Option Fault
name_fault d =
    let name_at = d.start + length (category_of d.name_part) + 1 in
    let text = after_slash d.name_part in
    option_or (when (bytes_eq (from_first (byte "/") d.name_part) [] || not (is_category (category_of d.name_part))) kinds.Category d.start)
    (option_map_or (λ op. when (is_none (split_pf (pf_part (Some op) text))) kinds.Version name_at) d.op
    (when (not (is_package text)) kinds.Package name_at))

abbrev pub slot_fault : Division → Option Fault
slot_fault d =
    let slot_at = d.start + length d.name_part in
    option_or (placed kinds.Repo (double_colon slot_at d.slot_part)) (when (is_none (slot_of d.slot_part)) kinds.Slot slot_at)

abbrev pub item_fault : Division → Option Fault
item_fault d = placed kinds.Item (bad_items (d.start + length d.name_part + length d.slot_part) d.item_part)

abbrev pub division_fault : Division → Option Fault
division_fault d = option_or (name_fault d) (option_or (slot_fault d) (item_fault d))

abbrev pub atom_fault : List ℕ → Option Fault
atom_fault bytes = division_fault (divided bytes)

-- The atom of bytes without a fault.
abbrev pub items_of : List ℕ → List UseItem
items_of [] = []
items_of (b ∷ bs) = filter_map item_of (item_texts (b ∷ bs))

abbrev pub atom_with : Division → List ℕ → Option ℕ → Option (SlotNeed × SlotMark) → Option Atom
atom_with d text hyphen None = None
atom_with d text hyphen (Some slot) = Some (record {
  block = d.block;
  op = d.op;
  category = category_of d.name_part;
  name = option_map_or (λ at. take at text) hyphen text;
  version = option_map (λ at. drop (at + 1) text) hyphen;
  star = is_starred d.op (after_slash d.name_part);
  slot = slot.0;
  mark = slot.1;
  items = items_of d.item_part;
})

abbrev pub hyphen_of : Option CompareOp → List ℕ → Option ℕ
hyphen_of None text = None
hyphen_of (Some op) text = split_pf text

abbrev pub atom_in : Division → Option Atom
atom_in d =
    let text = pf_part d.op (after_slash d.name_part) in
    atom_with d text (hyphen_of d.op text) (slot_of d.slot_part)

abbrev pub read_atom : List ℕ → Option Atom
read_atom bytes = if is_none (atom_fault bytes) then atom_in (divided bytes) else None
