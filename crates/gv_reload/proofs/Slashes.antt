-- Texts without a slash, and the parts of a path between slashes.
use Rattle.std.proofs.Common.{◌≡◌, ℕ, zero, suc, ◌+◌, Bool, true, false, List, [], ◌∷◌, ◌++◌, Some, None, length, take, drop, add-one, refl, sym, ap, subst, ◌∙◌, eqb-true, true≢false}
use Rattle.std.specs.Prelude.{Option, ◌==◌, ◌&&◌, not, if◌then◌else◌, is_none, option_map, option_to_list, codes, filter_map, flat_map, unwrap_or}
use Rattle.std.specs.List.{list_all, cons_option, join_with_byte, slice_split}
use Rattle.std.specs.Option.{option_map_or, is_some}
use Rattle.std.specs.Str.{byte, bytes_eq}
use Rattle.std.proofs.lemmas.Bool.{and_parts}
use Rattle.std.proofs.lemmas.Slice.Eq.{bytes_eq-Decides}
use Rattle.gv_version.specs.Bytes.{has_only, front, is_digit, is_small}
use Rattle.gv_version.specs.Bytes as bytes
use Rattle.gv_version.specs.Laws.{Divides, IsDivided}
use Rattle.gv_version.specs.Names.{is_category, is_category_byte, is_package, is_package_byte, split_pf}
use Rattle.gv_version.specs.Form.{Parts, after_small, are_numbers, are_parts, has_form, is_in_suffixes, is_number, is_number_byte, is_version, kind_named, kind_text, long_run, parts_of, revision_text, suffix_of, suffix_text, version_text}
use Rattle.gv_load.specs.Categories.{is_pf, name_of}

-- no byte is a slash
abbrev pub is_plain : List ℕ → Bool
is_plain text = list_all (λ b. not (b == 47)) text

pub both : (a b : Bool) → a ≡ true → b ≡ true → (a && b) ≡ true
both true b ea eb = eb
both false b ea eb = ea

no_slash : (test : ℕ → Bool) (b : ℕ) → test 47 ≡ false → test b ≡ true → not (b == 47) ≡ true
no_slash test b at passes = by (b == 47) refl
  where
    by : (e : Bool) → (b == 47) ≡ e → not e ≡ true
    by true is = absurd (true≢false (sym (subst (λ n. test n ≡ true) (eqb-true b 47 is) passes) ∙ at))
    by false is = refl

plain_by : (test : ℕ → Bool) (text : List ℕ) → test 47 ≡ false → list_all test text ≡ true → is_plain text ≡ true
plain_by test [] at passes = refl
plain_by test (b ∷ bs) at passes =
    let parts = and_parts (test b) (list_all test bs) passes in
    both (not (b == 47)) (is_plain bs) (no_slash test b at parts.0) (plain_by test bs at parts.1)

plain_only : (test : ℕ → Bool) (text : List ℕ) → test 47 ≡ false → has_only test text ≡ true → is_plain text ≡ true
plain_only test [] at passes = refl
plain_only test (b ∷ bs) at passes = plain_by test (b ∷ bs) at passes

pub plain_both : (xs ys : List ℕ) → is_plain xs ≡ true → is_plain ys ≡ true → is_plain (xs ++ ys) ≡ true
plain_both [] ys px py = py
plain_both (b ∷ bs) ys px py =
    let parts = and_parts (not (b == 47)) (is_plain bs) px in
    both (not (b == 47)) (is_plain (bs ++ ys)) parts.0 (plain_both bs ys parts.1 py)

pub plain_category : (category : List ℕ) → is_category category ≡ true → is_plain category ≡ true
plain_category category is = plain_only is_category_byte category refl (and_parts (has_only is_category_byte category) _ is).0

plain_package : (name : List ℕ) → is_package name ≡ true → is_plain name ≡ true
plain_package name is = plain_only is_package_byte name refl (and_parts (has_only is_package_byte name) _ is).0

-- ---- a version. The kinds of suffixes can't be named here: what is said of them is said of any type with texts
plain_numbers : (first : List ℕ) (more : List (List ℕ)) → is_number first ≡ true → list_all is_number more ≡ true → is_plain (join_with_byte (byte ".") (first ∷ more)) ≡ true
plain_numbers first [] is are = plain_only is_digit first refl is
plain_numbers first (next ∷ more) is are =
    let parts = and_parts (is_number next) (list_all is_number more) are in
    plain_both first (byte "." ∷ join_with_byte (byte ".") (next ∷ more)) (plain_only is_digit first refl is) (plain_numbers next more parts.0 parts.1)

plain_letter : (letter : Option ℕ) → option_map_or is_small letter true ≡ true → is_plain (option_to_list letter) ≡ true
plain_letter None is = refl
plain_letter (Some b) is = both (not (b == 47)) true (no_slash is_small b refl is) refl

some_is : {X : Type 0} (x y : X) → Some x ≡ Some y → x ≡ y
some_is x y is = cc

not_none : {X : Type 0} (x : X) → None ≡ Some x → ⊥
not_none x is = cc

module _ {K : Type 0} (text : K → List ℕ) where
  plain_kinds : (p q r s t : Bool) (a b c d e k : K)
      → (if p then Some a else (if q then Some b else (if r then Some c else (if s then Some d else (if t then Some e else None))))) ≡ Some k
      → is_plain (text a) ≡ true → is_plain (text b) ≡ true → is_plain (text c) ≡ true → is_plain (text d) ≡ true → is_plain (text e) ≡ true → is_plain (text k) ≡ true
  plain_kinds true q r s t a b c d e k is h i j l m = rw (← some_is a k is) h
  plain_kinds false true r s t a b c d e k is h i j l m = rw (← some_is b k is) i
  plain_kinds false false true s t a b c d e k is h i j l m = rw (← some_is c k is) j
  plain_kinds false false false true t a b c d e k is h i j l m = rw (← some_is d k is) l
  plain_kinds false false false false true a b c d e k is h i j l m = rw (← some_is e k is) m
  plain_kinds false false false false false a b c d e k is h i j l m = absurd (not_none k is)

  plain_suffix : (kind : Option K) (digits : List ℕ) (s : K × List ℕ) → option_map (λ k. (k, digits)) kind ≡ Some s
      → ((k : K) → kind ≡ Some k → is_plain (text k) ≡ true) → list_all is_digit s.1 ≡ true → is_plain (text s.0 ++ s.1) ≡ true
  plain_suffix None digits s is kinds are = absurd (not_none s is)
  plain_suffix (Some k) digits s is kinds are =
      let same_kind : k ≡ s.0 = ap (λ (x : K × List ℕ). x.0) (some_is (k, digits) s is) in
      plain_both (text s.0) s.1 (rw (← same_kind) (kinds k refl)) (plain_by is_digit s.1 refl are)

-- the texts of what is found in a row
plain_found : {S : Type 0} (text : S → List ℕ) (good : S → Bool) (found : Option S) (rest : List S) → ((s : S) → found ≡ Some s → good s ≡ true → is_plain (text s) ≡ true)
    → (list_all good rest ≡ true → is_plain (flat_map text rest) ≡ true) → list_all good (cons_option found rest) ≡ true → is_plain (flat_map text (cons_option found rest)) ≡ true
plain_found text good None rest one later are = later are
plain_found text good (Some s) rest one later are =
    let parts = and_parts (good s) (list_all good rest) are in
    plain_both (text s) (flat_map text rest) (one s refl parts.0) (later parts.1)

plain_suffixes : (words : List (List ℕ)) → list_all (λ s. list_all is_digit s.1) (filter_map suffix_of words) ≡ true → is_plain (flat_map suffix_text (filter_map suffix_of words)) ≡ true
plain_suffixes [] are = refl
plain_suffixes (w ∷ ws) are =
    let word : List ℕ = front is_small w in
    plain_found suffix_text (λ s. list_all is_digit s.1) (suffix_of w) (filter_map suffix_of ws)
    (λ s e good. plain_suffix kind_text (kind_named word) (bytes.behind is_small w) s e
    (λ k f. plain_kinds kind_text (bytes_eq word (codes "alpha")) (bytes_eq word (codes "beta")) (bytes_eq word (codes "pre")) (bytes_eq word (codes "rc")) (bytes_eq word (codes "p"))
    (unwrap_or (kind_named (codes "alpha")) k) (unwrap_or (kind_named (codes "beta")) k) (unwrap_or (kind_named (codes "pre")) k) (unwrap_or (kind_named (codes "rc")) k)
    (unwrap_or (kind_named (codes "p")) k) k f refl refl refl refl refl) good)
    (plain_suffixes ws) are

plain_revision : (revision : Option (List ℕ)) → option_map_or is_number revision true ≡ true → is_plain (revision_text revision) ≡ true
plain_revision None is = refl
plain_revision (Some digits) is = plain_only is_digit digits refl is

plain_all_numbers : (numbers : List (List ℕ)) → are_numbers numbers ≡ true → is_plain (join_with_byte (byte ".") numbers) ≡ true
plain_all_numbers [] are = refl
plain_all_numbers (first ∷ more) are =
    let parts = and_parts (is_number first) (list_all is_number more) are in
    plain_numbers first more parts.0 parts.1

plain_parts : (text : List ℕ) → are_parts (parts_of text) ≡ true → is_plain (version_text (parts_of text)) ≡ true
plain_parts text are =
    let v : Parts = parts_of text in
    let one = and_parts (are_numbers v.numbers) (option_map_or is_small v.letter true && (list_all (λ s. list_all is_digit s.1) v.suffixes && option_map_or is_number v.revision true)) are in
    let two = and_parts (option_map_or is_small v.letter true) (list_all (λ s. list_all is_digit s.1) v.suffixes && option_map_or is_number v.revision true) one.1 in
    let three = and_parts (list_all (λ s. list_all is_digit s.1) v.suffixes) (option_map_or is_number v.revision true) two.1 in
    plain_both (join_with_byte (byte ".") v.numbers) (option_to_list v.letter ++ (flat_map suffix_text v.suffixes ++ revision_text v.revision)) (plain_all_numbers v.numbers one.0)
    (plain_both (option_to_list v.letter) (flat_map suffix_text v.suffixes ++ revision_text v.revision) (plain_letter v.letter two.0)
    (plain_both (flat_map suffix_text v.suffixes) (revision_text v.revision)
    (plain_suffixes (slice_split (λ b. b == byte "_") (front is_in_suffixes (after_small (bytes.behind is_number_byte text)))) three.0) (plain_revision v.revision three.1)))

plain_version : (text : List ℕ) → is_version text ≡ true → is_plain text ≡ true
plain_version text is =
    let form = and_parts (has_form text) (is_none (long_run text)) is in
    let parts = and_parts (are_parts (parts_of text)) (bytes_eq (version_text (parts_of text)) text) form.0 in
    subst (λ t. is_plain t ≡ true) ((bytes_eq-Decides (version_text (parts_of text)) text).0 parts.1) (plain_parts text parts.0)

-- ---- a PF
pub behind_byte : (front : List ℕ) (b : ℕ) (end : List ℕ) → drop (suc (length front)) (front ++ b ∷ end) ≡ end
behind_byte [] b end = refl
behind_byte (x ∷ xs) b end = behind_byte xs b end

plain_divided : (pf : List ℕ) (at : ℕ) → Divides pf at → is_version (drop (at + 1) pf) ≡ true → is_plain pf ≡ true
plain_divided pf at d is =
    let rest : drop (at + 1) pf ≡ d.version =
    ap (λ t. drop (at + 1) t) (sym d.written) ∙ ap (λ n. drop n (d.name ++ byte "-" ∷ d.version)) (add-one at ∙ ap suc (sym d.place)) ∙ behind_byte d.name (byte "-") d.version in
    subst (λ t. is_plain t ≡ true) d.written (plain_both d.name (byte "-" ∷ d.version) (plain_package d.name d.name_form) (plain_version d.version (subst (λ t. is_version t ≡ true) rest is)))

pub plain_pf : ((bytes : List ℕ) → IsDivided bytes) → (pf : List ℕ) → is_pf pf ≡ true → is_plain pf ≡ true
plain_pf law pf is = by (split_pf pf) refl is
  where
    by : (o : Option ℕ) → split_pf pf ≡ o → is_some o ≡ true → is_plain pf ≡ true
    by None at there = cc
    by (Some at) is_at there = plain_divided pf at ((law pf).there at is_at).0 ((law pf).there at is_at).1

plain_front : (n : ℕ) (text : List ℕ) → is_plain text ≡ true → is_plain (take n text) ≡ true
plain_front zero text is = refl
plain_front (suc n) [] is = refl
plain_front (suc n) (b ∷ bs) is =
    let parts = and_parts (not (b == 47)) (is_plain bs) is in
    both (not (b == 47)) (is_plain (take n bs)) parts.0 (plain_front n bs parts.1)

pub plain_name : (pf : List ℕ) → is_plain pf ≡ true → is_plain (name_of pf) ≡ true
plain_name pf is = plain_front (unwrap_or (split_pf pf) 0) pf is

-- ---- the text up to the first slash, what is behind it, and how many there are
abbrev pub up_to : List ℕ → List ℕ
up_to [] = []
up_to (b ∷ bs) = if b == 47 then [] else b ∷ up_to bs

abbrev pub behind : List ℕ → List ℕ
behind [] = []
behind (b ∷ bs) = if b == 47 then bs else behind bs

abbrev pub slashes : List ℕ → ℕ
slashes [] = 0
slashes (b ∷ bs) = if b == 47 then suc (slashes bs) else slashes bs

pub passed_over : {X : Type 0} (e : Bool) (x y : X) → not e ≡ true → (if e then x else y) ≡ y
passed_over true x y is = cc
passed_over false x y is = refl

pub up_to_front : (text rest : List ℕ) → is_plain text ≡ true → up_to (text ++ 47 ∷ rest) ≡ text
up_to_front [] rest is = refl
up_to_front (b ∷ bs) rest is =
    let parts = and_parts (not (b == 47)) (is_plain bs) is in
    passed_over (b == 47) [] (b ∷ up_to (bs ++ 47 ∷ rest)) parts.0 ∙ ap (λ t. b ∷ t) (up_to_front bs rest parts.1)

pub behind_front : (text rest : List ℕ) → is_plain text ≡ true → behind (text ++ 47 ∷ rest) ≡ rest
behind_front [] rest is = refl
behind_front (b ∷ bs) rest is =
    let parts = and_parts (not (b == 47)) (is_plain bs) is in
    passed_over (b == 47) (bs ++ 47 ∷ rest) (behind (bs ++ 47 ∷ rest)) parts.0 ∙ behind_front bs rest parts.1

pub none_in : (text rest : List ℕ) → is_plain text ≡ true → slashes (text ++ rest) ≡ slashes rest
none_in [] rest is = refl
none_in (b ∷ bs) rest is =
    let parts = and_parts (not (b == 47)) (is_plain bs) is in
    passed_over (b == 47) (suc (slashes (bs ++ rest))) (slashes (bs ++ rest)) parts.0 ∙ none_in bs rest parts.1
