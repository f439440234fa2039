-- The text of an atom has no fault, and is read as that atom.
use Rattle.std.proofs.Common.{◌≡◌, ℕ, ◌+◌, true, false, ◌&&◌, List, [], ◌∷◌, ◌++◌, length, drop, refl, ap, sym, ◌∙◌, Some, None, append_assoc, inl, inr}
use Rattle.std.proofs.lemmas.Bool.{false≢true, and_parts}
use Rattle.std.specs.Prelude.{◌==◌, codes}
use Rattle.std.specs.List.{list_all, join_by}
use Rattle.std.specs.Str.{byte}
use Rattle.gv_base.specs.Cut.{from_first}
use Rattle.gv_version.specs.Laws.{IsDivided}
use Rattle.gv_version.specs.Names.{is_category, is_category_byte, is_package, is_flag}
use Rattle.gv_atom.specs.declared.atom.Atom.{Atom}
use Rattle.gv_atom.specs.declared.items.UseItem.{UseItem}
use Rattle.gv_atom.specs.Reading.{Division, block_length, op_length, divided, division_of, category_of, after_slash, name_fault, slot_fault, item_fault, division_fault, atom_fault, atom_in}
use Rattle.gv_atom.specs.Grammar.{block_text, op_text, version_part, slot_text, items_text, item_text, atom_text, is_versioned, is_slotted, is_atom}
use Rattle.gv_atom.specs.Laws.{IsWritten}
use Rattle.gv_atom.proofs.Lacks.{lacks, lacks_failing, lacks_both, other, not_true, front_there, rest_there}
use Rattle.gv_atom.proofs.Splitting.{slot_bytes}
use Rattle.gv_atom.proofs.WrittenDivision.{IsPlain, IsPart, divided_again, parts_again}
use Rattle.gv_atom.proofs.WrittenItems.{items_again}
use Rattle.gv_atom.proofs.WrittenNames.{tail_again, tail_lacks}
use Rattle.gv_atom.proofs.WrittenSlot.{slot_again}

category_lacks : (c : ℕ) (category : List ℕ) → is_category_byte c ≡ false → is_category category ≡ true → lacks c category ≡ true
category_lacks c category h good = lacks_failing is_category_byte c category h (slot_bytes category good)

plain_first : (b : ℕ) → is_category_byte b ≡ true → IsPlain b
plain_first b h = record {
  no_bang = not_true (b == byte "!") (other is_category_byte (byte "!") b refl h);
  no_less = not_true (b == byte "<") (other is_category_byte (byte "<") b refl h);
  no_equals = not_true (b == byte "=") (other is_category_byte (byte "=") b refl h);
  no_tilde = not_true (b == byte "~") (other is_category_byte (byte "~") b refl h);
  no_greater = not_true (b == byte ">") (other is_category_byte (byte ">") b refl h);
}

items_part : (items : List UseItem) → IsPart (byte "[") (items_text items)
items_part [] = inl refl
items_part (i ∷ is) = inr (join_by item_text (codes ",") (i ∷ is) ++ codes "]", refl)

-- the parts in a row
regrouped : (category text slot items : List ℕ) → category ++ byte "/" ∷ (text ++ (slot ++ items)) ≡ ((category ++ byte "/" ∷ text) ++ slot) ++ items
regrouped category text slot items =
    ap (λ x. category ++ byte "/" ∷ x) (sym (append_assoc text slot items))
    ∙ (sym (append_assoc category (byte "/" ∷ (text ++ slot)) items) ∙ ap (λ x. x ++ items) (sym (append_assoc category (byte "/" ∷ text) slot)))

module _ (a : Atom) (law : (bytes : List ℕ) → IsDivided bytes) where
  abbrev text : List ℕ
  text = a.name ++ version_part a.version a.star

  abbrev d : Division
  d = record {
    block = a.block;
    op = a.op;
    start = block_length a.block + op_length a.op;
    name_part = a.category ++ byte "/" ∷ text;
    slot_part = slot_text a.slot a.mark;
    item_part = items_text a.items;
  }

  record Good : Type 0 where
    category : is_category a.category ≡ true
    name : is_package a.name ≡ true
    versioned : is_versioned a.op a.version a.star ≡ true
    slotted : is_slotted a.slot a.mark ≡ true
    flags : list_all (λ i. is_flag i.flag) a.items ≡ true

  goods : is_atom a ≡ true → Good
  goods h =
      let category = and_parts (is_category a.category) (is_package a.name && (is_versioned a.op a.version a.star && (is_slotted a.slot a.mark && list_all (λ i. is_flag i.flag) a.items))) h in
      let name = and_parts (is_package a.name) (is_versioned a.op a.version a.star && (is_slotted a.slot a.mark && list_all (λ i. is_flag i.flag) a.items)) category.1 in
      let versioned = and_parts (is_versioned a.op a.version a.star) (is_slotted a.slot a.mark && list_all (λ i. is_flag i.flag) a.items) name.1 in
      let rest = and_parts (is_slotted a.slot a.mark) (list_all (λ i. is_flag i.flag) a.items) versioned.1 in
      record { category = category.0; name = name.0; versioned = versioned.0; slotted = rest.0; flags = rest.1 }

  name_lacks : (c : ℕ) → Good → is_category_byte c ≡ false → lacks c (codes "/") ≡ true → lacks c text ≡ true → lacks c (a.category ++ byte "/" ∷ text) ≡ true
  name_lacks c g h slash tail = lacks_both c a.category (byte "/" ∷ text) (category_lacks c a.category h g.category) (lacks_both c (codes "/") text slash tail)

  division_again : Good → division_of a.block a.op (block_length a.block + op_length a.op) (((a.category ++ byte "/" ∷ text) ++ slot_text a.slot a.mark) ++ items_text a.items) ≡ d
  division_again g =
      let slot = slot_again a.slot a.mark g.slotted in
      parts_again a.block a.op (block_length a.block + op_length a.op) (a.category ++ byte "/" ∷ text) (slot_text a.slot a.mark) (items_text a.items)
      (name_lacks (byte ":") g refl refl (tail_lacks (byte ":") a.op a.name a.version a.star refl refl refl refl g.name g.versioned))
      (lacks_both (byte "[") (a.category ++ byte "/" ∷ text) (slot_text a.slot a.mark)
      (name_lacks (byte "[") g refl refl (tail_lacks (byte "[") a.op a.name a.version a.star refl refl refl refl g.name g.versioned)) slot.no_bracket)
      slot.begins (items_part a.items)

  text_divided : Good → divided (atom_text a) ≡ d
  text_divided g = by a.category g.category (regrouped a.category text (slot_text a.slot a.mark) (items_text a.items)) (division_again g)
    where
      by : (category : List ℕ) → is_category category ≡ true
          → category ++ byte "/" ∷ (text ++ (slot_text a.slot a.mark ++ items_text a.items)) ≡ ((category ++ byte "/" ∷ text) ++ slot_text a.slot a.mark) ++ items_text a.items
          → division_of a.block a.op (block_length a.block + op_length a.op) (((category ++ byte "/" ∷ text) ++ slot_text a.slot a.mark) ++ items_text a.items) ≡ d
          → divided (block_text a.block ++ (op_text a.op ++ (category ++ byte "/" ∷ (a.name ++ (version_part a.version a.star ++ (slot_text a.slot a.mark ++ items_text a.items)))))) ≡ d
      by [] h e f = absurd (false≢true h)
      by (b ∷ bs) h e f =
          let first = (and_parts (is_category_byte b) (list_all is_category_byte bs) (slot_bytes (b ∷ bs) h)).0 in
          let rest : List ℕ = bs ++ byte "/" ∷ (text ++ (slot_text a.slot a.mark ++ items_text a.items)) in
          ap (λ x. divided (block_text a.block ++ (op_text a.op ++ b ∷ (bs ++ byte "/" ∷ x)))) (sym (append_assoc a.name (version_part a.version a.star) (slot_text a.slot a.mark ++ items_text a.items)))
          ∙ (divided_again a.block a.op b rest (plain_first b first) ∙ (ap (division_of a.block a.op (block_length a.block + op_length a.op)) e ∙ f))

  category_again : Good → category_of (a.category ++ byte "/" ∷ text) ≡ a.category
  category_again g = front_there (byte "/") a.category text (category_lacks (byte "/") a.category refl g.category)

  slash_again : Good → from_first (byte "/") (a.category ++ byte "/" ∷ text) ≡ byte "/" ∷ text
  slash_again g = rest_there (byte "/") a.category text (category_lacks (byte "/") a.category refl g.category)

  text_again : Good → after_slash (a.category ++ byte "/" ∷ text) ≡ text
  text_again g = ap (drop 1) (slash_again g)

  no_name_fault : Good → name_fault d ≡ None
  no_name_fault g =
      let tail = tail_again a.op a.name a.version a.star law g.name g.versioned in
      rw (slash_again g, category_again g, g.category) (tail.fault (block_length a.block + op_length a.op + length a.category + 1))

  no_slot_fault : Good → slot_fault d ≡ None
  no_slot_fault g =
      let slot = slot_again a.slot a.mark g.slotted in
      rw (slot.none (block_length a.block + op_length a.op + length (a.category ++ byte "/" ∷ text)), slot.read) refl

  no_item_fault : Good → item_fault d ≡ None
  no_item_fault g =
      rw ((items_again a.items g.flags).none (block_length a.block + op_length a.op + length (a.category ++ byte "/" ∷ text) + length (slot_text a.slot a.mark))) refl

  no_fault : Good → division_fault d ≡ None
  no_fault g = rw (no_name_fault g, no_slot_fault g, no_item_fault g) refl

  atom_again : Good → atom_in d ≡ Some a
  atom_again g =
      let tail = tail_again a.op a.name a.version a.star law g.name g.versioned in
      let slot = slot_again a.slot a.mark g.slotted in
      let items = items_again a.items g.flags in
      rw (slot.read, text_again g, category_again g, tail.name_again, tail.version_again, tail.starred, items.again) refl

pub written_again : (a : Atom) → ((bytes : List ℕ) → IsDivided bytes) → is_atom a ≡ true → IsWritten a
written_again a law h =
    let g = goods a law h in
    let none : atom_fault (atom_text a) ≡ None = ap division_fault (text_divided a law g) ∙ no_fault a law g in
    record { fault = none; read = rw none (ap atom_in (text_divided a law g) ∙ atom_again a law g) }
