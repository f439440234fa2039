-- What is read of bytes without a fault is an atom that is written so.
use Rattle.std.proofs.Common.{◌≡◌, ℕ, ◌+◌, Bool, true, false, ◌&&◌, ◌||◌, not, List, [], ◌∷◌, ◌++◌, length, drop, refl, ap, sym, ◌∙◌, subst, Option, Some, None, append_assoc, ◌⊎◌, inl, inr}
use Rattle.std.proofs.lemmas.Bool.{false≢true, and_from}
use Rattle.std.proofs.lemmas.List.{drop-drop}
use Rattle.std.specs.Prelude.{◌==◌, is_none}
use Rattle.std.specs.Option.{option_map_or, option_or}
use Rattle.std.specs.List.{list_all}
use Rattle.std.specs.Str.{bytes_eq, byte}
use Rattle.gv_base.specs.Cut.{from_first, up_to_first}
use Rattle.gv_version.specs.Bytes.{begins_with}
use Rattle.gv_version.specs.Laws.{IsDivided}
use Rattle.gv_version.specs.Names.{is_category, is_package, is_flag, split_pf}
use Rattle.gv_atom.specs.declared.atom.Atom.{Atom}
use Rattle.gv_atom.specs.declared.fault.AtomKind.{AtomKind}
use Rattle.gv_atom.specs.declared.fault.AtomKind.TheVariants as kinds
use Rattle.gv_atom.specs.declared.atom.Block.{Block}
use Rattle.gv_atom.specs.declared.atom.CompareOp.{CompareOp}
use Rattle.gv_atom.specs.declared.atom.SlotNeed.{SlotNeed}
use Rattle.gv_atom.specs.declared.atom.SlotMark.{SlotMark}
use Rattle.gv_atom.specs.Reading.{Division, division_of, block_of, block_length, op_of, op_length, category_of, after_slash, pf_part, is_starred, hyphen_of, slot_of, double_colon, items_of, bad_items, when, placed, name_fault, slot_fault, item_fault, division_fault, atom_fault, atom_with, atom_in, read_atom}
use Rattle.gv_atom.specs.Grammar.{block_text, op_text, slot_text, items_text, version_part, atom_text, is_slotted, is_versioned, is_atom, IsAtomOf}
use Rattle.gv_atom.proofs.Pieces.{some_is, cut, begins_there, first_byte}
use Rattle.gv_atom.proofs.SlotLaw.{SlotWritten, slot_written}
use Rattle.gv_atom.proofs.ItemsLaw.{ItemsWritten, items_written}
use Rattle.gv_atom.proofs.DivisionLaw.{block_written, op_written, slash_written, name_in, version_in, TailWritten, name_tail, pf_tail}

some_not_none : {X : Type 0} (x : X) → Some x ≡ None → ⊥
some_not_none x h = cc

or_none : {X : Type 0} (x y : Option X) → option_or x y ≡ None → (x ≡ None) × (y ≡ None)
or_none None y h = (refl, h)
or_none (Some x) y h = absurd (some_not_none x h)

when_none : (bad : Bool) (kind : AtomKind) (at : ℕ) → when bad kind at ≡ None → bad ≡ false
when_none false kind at h = refl
when_none true kind at h = absurd (some_not_none _ h)

placed_none : (kind : AtomKind) (at : Option ℕ) → placed kind at ≡ None → at ≡ None
placed_none kind None h = refl
placed_none kind (Some n) h = absurd (some_not_none _ h)

not_false : (b : Bool) → not b ≡ false → b ≡ true
not_false true h = refl
not_false false h = absurd (false≢true (sym h))

or_off : (x y : Bool) → (x || y) ≡ false → (x ≡ false) × (y ≡ false)
or_off true y h = absurd (false≢true (sym h))
or_off false y h = (refl, h)

-- the name part, the slot part, the item part
slot_part_written : (part : List ℕ) → (part ≡ []) ⊎ (begins_with (λ b. b == byte ":") part ≡ true) → (s : SlotNeed × SlotMark) → slot_of part ≡ Some s → SlotWritten part s
slot_part_written [] first s h = rw (← some_is _ s h) (record { text_is = refl; good = refl })
slot_part_written (b ∷ bs) (inl e) s h = absurd (not_nil e)
  where
    not_nil : b ∷ bs ≡ [] → ⊥
    not_nil k = cc
slot_part_written (b ∷ bs) (inr first) s h = subst (λ x. slot_of x ≡ Some s → SlotWritten x s) (first_byte (byte ":") (b ∷ bs) first) (slot_written bs s) h

tail_of : ((bytes : List ℕ) → IsDivided bytes) → (op : Option CompareOp) (text : List ℕ) (at : ℕ)
    → option_map_or (λ o. when (is_none (split_pf (pf_part (Some o) text))) kinds.Version at) op (when (not (is_package text)) kinds.Package at) ≡ None
    → TailWritten op text (hyphen_of op (pf_part op text))
tail_of law None text at h = name_tail text (not_false (is_package text) (when_none _ kinds.Package at h))
tail_of law (Some o) text at h = by (split_pf (pf_part (Some o) text)) refl (when_none _ kinds.Version at h)
  where
    by : (found : Option ℕ) → split_pf (pf_part (Some o) text) ≡ found → is_none found ≡ false → TailWritten (Some o) text found
    by None e k = absurd (false≢true (sym k))
    by (Some n) e k = pf_tail o text n (law (pf_part (Some o) text)) e

-- the parts side by side
join_parts : (category name version slot items text name_part slot_part item_part rest : List ℕ) → name ++ version ≡ text → category ++ byte "/" ∷ text ≡ name_part
    → slot ≡ slot_part → items ≡ item_part → (name_part ++ slot_part) ++ item_part ≡ rest → category ++ byte "/" ∷ (name ++ (version ++ (slot ++ items))) ≡ rest
join_parts category name version slot items text name_part slot_part item_part rest t n s i r =
    ap (λ x. category ++ byte "/" ∷ x) (sym (append_assoc name version (slot ++ items)) ∙ ap (λ x. x ++ (slot ++ items)) t)
    ∙ (sym (append_assoc category (byte "/" ∷ text) (slot ++ items))
    ∙ (ap (λ x. x ++ (slot ++ items)) n
    ∙ (ap (λ x. name_part ++ (x ++ items)) s
    ∙ (ap (λ x. name_part ++ (slot_part ++ x)) i ∙ (sym (append_assoc name_part slot_part item_part) ∙ r)))))

-- the atom of a division is good, and is written as these bytes
record DivisionRead (d : Division) (bytes : List ℕ) : Type 0 where
  atom : Atom
  found : atom_in d ≡ Some atom
  good : is_atom atom ≡ true
  written : atom_text atom ≡ bytes

module _ (law : (bytes : List ℕ) → IsDivided bytes) (block : Block) (op : Option CompareOp) (start : ℕ) (rest : List ℕ) where
  abbrev d : Division
  d = division_of block op start rest

  abbrev text : List ℕ
  text = after_slash d.name_part

  abbrev hyphen : Option ℕ
  hyphen = hyphen_of op (pf_part op text)

  slotted : bytes_eq (from_first (byte "/") d.name_part) [] ≡ false → is_category (category_of d.name_part) ≡ true → TailWritten op text hyphen → ItemsWritten d.item_part
      → (found : Option (SlotNeed × SlotMark)) → slot_of d.slot_part ≡ found → is_none found ≡ false → DivisionRead d (block_text block ++ (op_text op ++ rest))
  slotted slash category tail items None e k = absurd (false≢true (sym k))
  slotted slash category tail items (Some s) e k =
      let slot = slot_part_written d.slot_part (begins_there (byte ":") (up_to_first (byte "[") rest)) s e in
      let name : List ℕ = name_in hyphen (pf_part op text) in
      let version : Option (List ℕ) = version_in hyphen (pf_part op text) in
      let star : Bool = is_starred op text in
      record {
        atom = record {
          block = block;
          op = op;
          category = category_of d.name_part;
          name = name;
          version = version;
          star = star;
          slot = s.0;
          mark = s.1;
          items = items_of d.item_part;
        };
        found = ap (atom_with d (pf_part op text) hyphen) e;
        good = and_from (is_category (category_of d.name_part)) (is_package name && (is_versioned op version star && (is_slotted s.0 s.1 && list_all (λ i. is_flag i.flag) (items_of d.item_part)))) category
            (and_from (is_package name) (is_versioned op version star && (is_slotted s.0 s.1 && list_all (λ i. is_flag i.flag) (items_of d.item_part))) tail.name_good
            (and_from (is_versioned op version star) (is_slotted s.0 s.1 && list_all (λ i. is_flag i.flag) (items_of d.item_part)) tail.versioned
            (and_from (is_slotted s.0 s.1) (list_all (λ i. is_flag i.flag) (items_of d.item_part)) slot.good items.flags_good)));
        written = ap (λ x. block_text block ++ (op_text op ++ x)) (join_parts (category_of d.name_part) name (version_part version star) (slot_text s.0 s.1) (items_text (items_of d.item_part))
            text d.name_part d.slot_part d.item_part rest tail.text_is (slash_written d.name_part slash) slot.text_is items.text_is
            (ap (λ x. x ++ d.item_part) (cut (byte ":") (up_to_first (byte "[") rest)) ∙ cut (byte "[") rest));
      }

  division_read : division_fault d ≡ None → DivisionRead d (block_text block ++ (op_text op ++ rest))
  division_read h =
      let faults = or_none (name_fault d) (option_or (slot_fault d) (item_fault d)) h in
      let later = or_none (slot_fault d) (item_fault d) faults.1 in
      let names = or_none (when (bytes_eq (from_first (byte "/") d.name_part) [] || not (is_category (category_of d.name_part))) kinds.Category start)
      (option_map_or (λ o. when (is_none (split_pf (pf_part (Some o) text))) kinds.Version (start + length (category_of d.name_part) + 1)) op
      (when (not (is_package text)) kinds.Package (start + length (category_of d.name_part) + 1))) faults.0 in
      let slots = or_none (placed kinds.Repo (double_colon (start + length d.name_part) d.slot_part)) (when (is_none (slot_of d.slot_part)) kinds.Slot (start + length d.name_part)) later.0 in
      let category = or_off (bytes_eq (from_first (byte "/") d.name_part) []) (not (is_category (category_of d.name_part))) (when_none _ kinds.Category start names.0) in
      let at : ℕ = start + length d.name_part + length d.slot_part in
      slotted category.0 (not_false (is_category (category_of d.name_part)) category.1) (tail_of law op text (start + length (category_of d.name_part) + 1) names.1)
      (items_written at d.item_part (begins_there (byte "[") rest) (placed_none kinds.Item (bad_items at d.item_part) later.1))
      (slot_of d.slot_part) refl (when_none (is_none (slot_of d.slot_part)) kinds.Slot (start + length d.name_part) slots.1)

bytes_again : (bytes : List ℕ) → block_text (block_of bytes) ++ (op_text (op_of (drop (block_length (block_of bytes)) bytes))
    ++ drop (block_length (block_of bytes) + op_length (op_of (drop (block_length (block_of bytes)) bytes))) bytes) ≡ bytes
bytes_again bytes =
    let rest : List ℕ = drop (block_length (block_of bytes)) bytes in
    ap (λ x. block_text (block_of bytes) ++ (op_text (op_of rest) ++ x)) (sym (drop-drop (op_length (op_of rest)) (block_length (block_of bytes)) bytes))
    ∙ (ap (λ x. block_text (block_of bytes) ++ x) (op_written rest) ∙ block_written bytes)

-- bytes without a fault are read as an atom, and they are this atom
pub read_is_written : ((text : List ℕ) → IsDivided text) → (bytes : List ℕ) → atom_fault bytes ≡ None → (a : Atom) × (read_atom bytes ≡ Some a) × IsAtomOf bytes a
read_is_written law bytes h =
    let rest : List ℕ = drop (block_length (block_of bytes)) bytes in
    let start : ℕ = block_length (block_of bytes) + op_length (op_of rest) in
    let r = division_read law (block_of bytes) (op_of rest) start (drop start bytes) h in
    (r.atom, rw h r.found, record { good = r.good; written = r.written ∙ bytes_again bytes })
