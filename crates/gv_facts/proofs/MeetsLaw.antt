-- The test `items_met` says just that one setting gives every item what it asks.
use Rattle.std.proofs.Common.{◌≡◌, ◌⊎◌, ℕ, Bool, true, false, ◌||◌, not, List, [], ◌∷◌, ◌++◌, append_assoc, refl, sym, ◌∙◌, subst, inl, inr}
use Rattle.std.proofs.lemmas.Bool.{and_parts, and_from, false≢true}
use Rattle.std.specs.Cmp.Lexicographic.{same_text}
use Rattle.std.specs.List.{list_any, list_all, AllByRecursion}
use Rattle.std.specs.Str.{bytes_eq}
use Rattle.gv_atom.specs.declared.items.UseItem.{UseItem}
use Rattle.gv_facts.specs.declared.kinds.FlagState.{FlagState}
use Rattle.gv_facts.specs.declared.kinds.FlagState.TheVariants.{Absent, Off, On, Free}
use Rattle.gv_facts.proofs.PlacesLemmas.{same_flag}
use Rattle.gv_facts.specs.AtomMet.{may_be, item_given, Meets, serves, items_met}

or_off : (x y : Bool) → (x || y) ≡ false → (x ≡ false) × (y ≡ false)
or_off true y h = absurd (false≢true (sym h))
or_off false y h = (refl, h)

or_on : (x y : Bool) → (x || y) ≡ true → (x ≡ true) ⊎ (y ≡ true)
or_on true y h = inl refl
or_on false y h = inr h

or_left : (x y : Bool) → x ≡ true → (x || y) ≡ true
or_left x y h = rw h refl

or_right : (x y : Bool) → y ≡ true → (x || y) ≡ true
or_right true y h = refl
or_right false y h = h

may_be_one : (s : FlagState) → (may_be s false || may_be s true) ≡ true
may_be_one On = refl
may_be_one Off = refl
may_be_one Free = refl
may_be_one Absent = refl

at_item : (P : UseItem → Bool) (before : List UseItem) (i : UseItem) (is : List UseItem) → list_all P (before ++ i ∷ is) ≡ true → P i ≡ true
at_item P [] i is h = (and_parts (P i) (list_all P is) h).0
at_item P (j ∷ js) i is h = at_item P js i is (and_parts (P j) (list_all P (js ++ i ∷ is)) h).1

module _ (states : List ℕ → FlagState) (parent : List ℕ → Bool) where
  -- what one flag's bit asks of one item
  abbrev served : List ℕ → Bool → UseItem → Bool
  served flag bit i = not (bytes_eq i.flag flag) || item_given (states flag) bit parent i

  -- an item that is served by its own flag's bit is given what it asks
  given_by : (i : UseItem) (bit : Bool) → served i.flag bit i ≡ true → item_given (states i.flag) bit parent i ≡ true
  given_by i bit h = rw (same_flag i.flag) at h

  -- where no item names the flag, all are served
  all_served : (items : List UseItem) (flag : List ℕ) (bit : Bool) → list_any (λ i. bytes_eq i.flag flag) items ≡ false → list_all (served flag bit) items ≡ true
  all_served [] flag bit h = refl
  all_served (i ∷ is) flag bit h =
      let apart = or_off (bytes_eq i.flag flag) (list_any (λ j. bytes_eq j.flag flag) is) h in
      and_from (served flag bit i) (list_all (served flag bit) is) (rw apart.0 refl) (all_served is flag bit apart.1)

  -- one setting serves each flag
  serves_setting : (items : List UseItem) (setting : List ℕ → Bool) → AllByRecursion (λ i. item_given (states i.flag) (setting i.flag) parent i ≡ true) items
      → (flag : List ℕ) → list_all (served flag (setting flag)) items ≡ true
  serves_setting [] setting given flag = refl
  serves_setting (i ∷ is) setting given flag =
      and_from (served flag (setting flag) i) (list_all (served flag (setting flag)) is) (one (bytes_eq i.flag flag) refl) (serves_setting is setting given.1 flag)
    where
      one : (same : Bool) → bytes_eq i.flag flag ≡ same → served flag (setting flag) i ≡ true
      one true e = or_right (not (bytes_eq i.flag flag)) (item_given (states flag) (setting flag) parent i)
          (subst (λ f. item_given (states f) (setting f) parent i ≡ true) (same_text i.flag flag (sym e)) given.0)
      one false e = rw e refl

  module _ (items : List UseItem) where
    abbrev some_bit : List ℕ → Bool
    some_bit flag = serves states parent items flag false || serves states parent items flag true

    -- the flag of an item has a bit that serves
    bit_of_named : (js : List UseItem) (flag : List ℕ) → list_all (λ i. some_bit i.flag) js ≡ true → list_any (λ i. bytes_eq i.flag flag) js ≡ true → some_bit flag ≡ true
    bit_of_named [] flag met named = absurd (false≢true named)
    bit_of_named (j ∷ js) flag met named =
        by_name (bytes_eq j.flag flag) refl (bit_of_named js flag (and_parts (some_bit j.flag) (list_all (λ i. some_bit i.flag) js) met).1)
      where
        by_name : (same : Bool) → bytes_eq j.flag flag ≡ same → (list_any (λ i. bytes_eq i.flag flag) js ≡ true → some_bit flag ≡ true) → some_bit flag ≡ true
        by_name true e later = subst (λ f. some_bit f ≡ true) (same_text j.flag flag (sym e)) (and_parts (some_bit j.flag) (list_all (λ i. some_bit i.flag) js) met).0
        by_name false e later = later (rw e at named)

    -- and so has every other flag
    bit_of : items_met states parent items ≡ true → (flag : List ℕ) → some_bit flag ≡ true
    bit_of met flag = by_name (list_any (λ i. bytes_eq i.flag flag) items) refl
      where
        free : (bit : Bool) → list_any (λ i. bytes_eq i.flag flag) items ≡ false → may_be (states flag) bit ≡ true → serves states parent items flag bit ≡ true
        free bit e may = and_from (may_be (states flag) bit) (list_all (served flag bit) items) may (all_served items flag bit e)

        by_name : (named : Bool) → list_any (λ i. bytes_eq i.flag flag) items ≡ named → some_bit flag ≡ true
        by_name true e = bit_of_named items flag met e
        by_name false e = elim (or_on (may_be (states flag) false) (may_be (states flag) true) (may_be_one (states flag))) [
          | inl off ↦ or_left (serves states parent items flag false) (serves states parent items flag true) (free false e off)
          | inr on ↦ or_right (serves states parent items flag false) (serves states parent items flag true) (free true e on)
        ]

    -- the setting that is on where on serves
    setting_serves : (flag : List ℕ) → some_bit flag ≡ true → serves states parent items flag (serves states parent items flag true) ≡ true
    setting_serves flag some = by_on (serves states parent items flag true) refl
      where
        by_on : (on : Bool) → serves states parent items flag true ≡ on → serves states parent items flag (serves states parent items flag true) ≡ true
        by_on true e = rw e e
        by_on false e = elim (or_on (serves states parent items flag false) (serves states parent items flag true) some) [
          | inl off ↦ rw e off
          | inr on ↦ absurd (false≢true (sym e ∙ on))
        ]

    all_given : items_met states parent items ≡ true → (before is : List UseItem) → items ≡ before ++ is
        → AllByRecursion (λ i. item_given (states i.flag) (serves states parent items i.flag true) parent i ≡ true) is
    all_given met before [] e = tt
    all_given met before (i ∷ is) e =
        let bit : Bool = serves states parent items i.flag true in
        let whole = (and_parts (may_be (states i.flag) bit) (list_all (served i.flag bit) items) (setting_serves i.flag (bit_of met i.flag))).1 in (
          given_by i bit (at_item (served i.flag bit) before i is (subst (λ xs. list_all (served i.flag bit) xs ≡ true) e whole)),
          all_given met (before ++ i ∷ []) is (e ∙ sym (append_assoc before (i ∷ []) is)),
        )

    pub meets_if : items_met states parent items ≡ true → Meets states parent items
    meets_if met = record {
      setting = λ flag. serves states parent items flag true;
      allowed = λ flag. (and_parts (may_be (states flag) (serves states parent items flag true)) (list_all (served flag (serves states parent items flag true)) items)
          (setting_serves flag (bit_of met flag))).0;
      given = all_given met [] items refl;
    }

    serves_by : Meets states parent items → (flag : List ℕ) → some_bit flag ≡ true
    serves_by m flag = by_bit (m.setting flag) (and_from (may_be (states flag) (m.setting flag)) (list_all (served flag (m.setting flag)) items) (m.allowed flag)
        (serves_setting items m.setting m.given flag))
      where
        by_bit : (bit : Bool) → serves states parent items flag bit ≡ true → some_bit flag ≡ true
        by_bit true h = or_right (serves states parent items flag false) (serves states parent items flag true) h
        by_bit false h = or_left (serves states parent items flag false) (serves states parent items flag true) h

    all_some : Meets states parent items → (js : List UseItem) → list_all (λ i. some_bit i.flag) js ≡ true
    all_some m [] = refl
    all_some m (j ∷ js) = and_from (some_bit j.flag) (list_all (λ i. some_bit i.flag) js) (serves_by m j.flag) (all_some m js)

    pub if_meets : Meets states parent items → items_met states parent items ≡ true
    if_meets m = all_some m items
