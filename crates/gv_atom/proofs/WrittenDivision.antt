-- The text of an atom is divided into the texts of its parts.
use Rattle.std.proofs.Common.{◌≡◌, ℕ, ◌+◌, true, false, List, [], ◌∷◌, ◌++◌, drop, refl, ap, sym, ◌∙◌, Option, Some, None, append-nil, ◌⊎◌, inl, inr}
use Rattle.std.proofs.lemmas.List.{drop-drop}
use Rattle.std.specs.Prelude.{◌==◌}
use Rattle.std.specs.Str.{byte}
use Rattle.gv_base.specs.Cut.{from_first, up_to_first}
use Rattle.gv_atom.specs.declared.atom.Block.{Block}
use Rattle.gv_atom.specs.declared.atom.Block.TheVariants.{No, Weak, Strong}
use Rattle.gv_atom.specs.declared.atom.CompareOp.{CompareOp}
use Rattle.gv_atom.specs.declared.atom.CompareOp.TheVariants as ops
use Rattle.gv_atom.specs.Reading.{block_of, block_length, op_of, op_length, division_of, divided}
use Rattle.gv_atom.specs.Grammar.{block_text, op_text}
use Rattle.gv_atom.proofs.Lacks.{lacks, front_none, rest_none, front_there, rest_there}

-- a byte that begins neither a block nor an operator
pub record IsPlain (b : ℕ) : Type 0 where
  pub no_bang : (b == byte "!") ≡ false
  pub no_less : (b == byte "<") ≡ false
  pub no_equals : (b == byte "=") ≡ false
  pub no_tilde : (b == byte "~") ≡ false
  pub no_greater : (b == byte ">") ≡ false

block_there : (block : Block) (b : ℕ) (bs : List ℕ) → (b == byte "!") ≡ false → block_of (block_text block ++ b ∷ bs) ≡ block
block_there No b bs h = rw h refl
block_there Weak b bs h = rw h refl
block_there Strong b bs h = refl

block_again : (block : Block) (op : Option CompareOp) (b : ℕ) (bs : List ℕ) → IsPlain b → block_of (block_text block ++ (op_text op ++ b ∷ bs)) ≡ block
block_again block None b bs p = block_there block b bs p.no_bang
block_again block (Some ops.Less) b bs p = block_there block (byte "<") (b ∷ bs) refl
block_again block (Some ops.LessEqual) b bs p = block_there block (byte "<") (byte "=" ∷ b ∷ bs) refl
block_again block (Some ops.Equal) b bs p = block_there block (byte "=") (b ∷ bs) refl
block_again block (Some ops.Same) b bs p = block_there block (byte "~") (b ∷ bs) refl
block_again block (Some ops.GreaterEqual) b bs p = block_there block (byte ">") (byte "=" ∷ b ∷ bs) refl
block_again block (Some ops.Greater) b bs p = block_there block (byte ">") (b ∷ bs) refl

op_again : (op : Option CompareOp) (b : ℕ) (bs : List ℕ) → IsPlain b → op_of (op_text op ++ b ∷ bs) ≡ op
op_again None b bs p = rw (p.no_less, p.no_greater, p.no_equals, p.no_tilde) refl
op_again (Some ops.Less) b bs p = rw p.no_equals refl
op_again (Some ops.LessEqual) b bs p = refl
op_again (Some ops.Equal) b bs p = refl
op_again (Some ops.Same) b bs p = refl
op_again (Some ops.GreaterEqual) b bs p = refl
op_again (Some ops.Greater) b bs p = rw p.no_equals refl

behind_block : (block : Block) (text : List ℕ) → drop (block_length block) (block_text block ++ text) ≡ text
behind_block No text = refl
behind_block Weak text = refl
behind_block Strong text = refl

behind_op : (op : Option CompareOp) (text : List ℕ) → drop (op_length op) (op_text op ++ text) ≡ text
behind_op None text = refl
behind_op (Some ops.Less) text = refl
behind_op (Some ops.LessEqual) text = refl
behind_op (Some ops.Equal) text = refl
behind_op (Some ops.Same) text = refl
behind_op (Some ops.GreaterEqual) text = refl
behind_op (Some ops.Greater) text = refl

behind_both : (block : Block) (op : Option CompareOp) (text : List ℕ) → drop (block_length block + op_length op) (block_text block ++ (op_text op ++ text)) ≡ text
behind_both block op text =
    sym (drop-drop (op_length op) (block_length block) (block_text block ++ (op_text op ++ text)))
    ∙ (ap (drop (op_length op)) (behind_block block (op_text op ++ text)) ∙ behind_op op text)

division_by : (bytes rest : List ℕ) (block : Block) (op : Option CompareOp) → block_of bytes ≡ block → op_of (drop (block_length block) bytes) ≡ op
    → drop (block_length block + op_length op) bytes ≡ rest → divided bytes ≡ division_of block op (block_length block + op_length op) rest
division_by bytes rest block op e f g = rw (e, f, g) refl

pub divided_again : (block : Block) (op : Option CompareOp) (b : ℕ) (bs : List ℕ) → IsPlain b
    → divided (block_text block ++ (op_text op ++ b ∷ bs)) ≡ division_of block op (block_length block + op_length op) (b ∷ bs)
divided_again block op b bs p =
    division_by (block_text block ++ (op_text op ++ b ∷ bs)) (b ∷ bs) block op (block_again block op b bs p)
    (ap op_of (behind_block block (op_text op ++ b ∷ bs)) ∙ op_again op b bs p) (behind_both block op (b ∷ bs))

-- empty, or begins with the byte
abbrev pub IsPart : ℕ → List ℕ → Type 0
IsPart c part = (part ≡ []) ⊎ ((text : List ℕ) × (part ≡ c ∷ text))

front_at : (c : ℕ) (x y : List ℕ) → lacks c x ≡ true → IsPart c y → up_to_first c (x ++ y) ≡ x
front_at c x y h (inl e) = ap (λ z. up_to_first c (x ++ z)) e ∙ (ap (up_to_first c) (append-nil x) ∙ front_none c x h)
front_at c x y h (inr (text, e)) = ap (λ z. up_to_first c (x ++ z)) e ∙ front_there c x text h

rest_at : (c : ℕ) (x y : List ℕ) → lacks c x ≡ true → IsPart c y → from_first c (x ++ y) ≡ y
rest_at c x y h (inl e) = ap (λ z. from_first c (x ++ z)) e ∙ (ap (from_first c) (append-nil x) ∙ (rest_none c x h ∙ sym e))
rest_at c x y h (inr (text, e)) = ap (λ z. from_first c (x ++ z)) e ∙ (rest_there c x text h ∙ sym e)

division_with : (block : Block) (op : Option CompareOp) (start : ℕ) (name_part slot_part item_part rest front : List ℕ) → up_to_first (byte "[") rest ≡ front → from_first (byte "[") rest ≡ item_part
    → up_to_first (byte ":") front ≡ name_part → from_first (byte ":") front ≡ slot_part
    → division_of block op start rest ≡ record { block = block; op = op; start = start; name_part = name_part; slot_part = slot_part; item_part = item_part }
division_with block op start name_part slot_part item_part rest front e f g h = rw (e, f, g, h) refl

pub parts_again : (block : Block) (op : Option CompareOp) (start : ℕ) (name_part slot_part item_part : List ℕ) → lacks (byte ":") name_part ≡ true → lacks (byte "[") (name_part ++ slot_part) ≡ true
    → IsPart (byte ":") slot_part → IsPart (byte "[") item_part
    → division_of block op start ((name_part ++ slot_part) ++ item_part)
    ≡ record { block = block; op = op; start = start; name_part = name_part; slot_part = slot_part; item_part = item_part }
parts_again block op start name_part slot_part item_part no_colon no_bracket slot items =
    division_with block op start name_part slot_part item_part ((name_part ++ slot_part) ++ item_part) (name_part ++ slot_part)
    (front_at (byte "[") (name_part ++ slot_part) item_part no_bracket items) (rest_at (byte "[") (name_part ++ slot_part) item_part no_bracket items)
    (front_at (byte ":") name_part slot_part no_colon slot) (rest_at (byte ":") name_part slot_part no_colon slot)
