-- Bytes after which the state is whole are the text of good parts, so that `has_form` says this of the state.
use Rattle.std.proofs.Common.{◌≡◌, ℕ, Bool, true, false, ◌&&◌, List, [], ◌∷◌, ◌++◌, refl, ap, sym, ◌∙◌, append_assoc, Option, Some, None, if◌then◌else◌}
use Rattle.std.proofs.lemmas.Bool.{and_from, false≢true, eqb-true}
use Rattle.std.specs.Prelude.{◌==◌, flat_map, option_to_list, codes}
use Rattle.std.specs.Option.{option_map_or}
use Rattle.std.specs.List.{list_all, join_with_byte}
use Rattle.gv_version.specs.Bytes.{is_digit, is_small}
use Rattle.gv_version.specs.FormReading.{only, digit_only, after_part, after_number, after_underscore, after_suffix, next, is_whole, run}
use Rattle.gv_version.specs.declared.pieces.Kind.{Kind}
use Rattle.gv_version.specs.declared.pieces.Kind.TheVariants.{Alpha, Beta, Pre, Rc, Patch}
use Rattle.gv_version.specs.Form.{kind_text, Parts, suffix_text, revision_text, version_text, is_number, are_parts, has_form}
use Rattle.gv_version.specs.declared.form.State.{State}
use Rattle.gv_version.specs.declared.form.State.TheVariants.{Start, Number, Dot, Letter, Underscore, A, Al, Alp, Alph, B, Be, Bet, P, Pr, R, Suffix, SuffixNumber, Hyphen, HyphenR, Revision, Nothing}
use Rattle.gv_version.proofs.FormLaw.{says_form}
use Rattle.gv_version.proofs.StatesOfParts.{accepts, are_suffixes, is_revision, form_read}

-- What the bytes are that a state accepts.
record IsBody (bytes : List ℕ) : Type 0 where
  suffixes : List (Kind × List ℕ)
  revision : Option (List ℕ)
  good_suffixes : are_suffixes suffixes ≡ true
  good_revision : is_revision revision ≡ true
  written : flat_map suffix_text suffixes ++ revision_text revision ≡ bytes

-- the digits of a suffix and what follows
record IsCounted (bytes : List ℕ) : Type 0 where
  digits : List ℕ
  rest : List ℕ
  good : list_all is_digit digits ≡ true
  body : IsBody rest
  written : digits ++ rest ≡ bytes

-- what remains of a suffix's word, its digits and what follows
record IsOwed (word bytes : List ℕ) : Type 0 where
  rest : List ℕ
  counted : IsCounted rest
  written : word ++ rest ≡ bytes

record IsWord (bytes : List ℕ) : Type 0 where
  kind : Kind
  rest : List ℕ
  counted : IsCounted rest
  written : kind_text kind ++ rest ≡ bytes

data IsPatch (bytes : List ℕ) : Type 0 where
  alone : IsCounted bytes → IsPatch bytes
  longer : IsOwed (codes "re") bytes → IsPatch bytes

-- the rest of a number and what follows
record IsEnd (bytes : List ℕ) : Type 0 where
  digits : List ℕ
  more : List (List ℕ)
  letter : Option ℕ
  rest : List ℕ
  good_digits : list_all is_digit digits ≡ true
  good_more : list_all is_number more ≡ true
  good_letter : option_map_or is_small letter true ≡ true
  body : IsBody rest
  written : join_with_byte 46 (digits ∷ more) ++ (option_to_list letter ++ rest) ≡ bytes

record IsNumbers (bytes : List ℕ) : Type 0 where
  end : IsEnd bytes
  first : is_number end.digits ≡ true

record IsRevision (bytes : List ℕ) : Type 0 where
  digits : List ℕ
  good : is_number digits ≡ true
  written : 114 ∷ digits ≡ bytes

abbrev Rest : State → List ℕ → Type 0
Rest Start bytes = IsNumbers bytes
Rest Number bytes = IsEnd bytes
Rest Dot bytes = IsNumbers bytes
Rest Letter bytes = IsBody bytes
Rest Underscore bytes = IsWord bytes
Rest A bytes = IsOwed (codes "lpha") bytes
Rest Al bytes = IsOwed (codes "pha") bytes
Rest Alp bytes = IsOwed (codes "ha") bytes
Rest Alph bytes = IsOwed (codes "a") bytes
Rest B bytes = IsOwed (codes "eta") bytes
Rest Be bytes = IsOwed (codes "ta") bytes
Rest Bet bytes = IsOwed (codes "a") bytes
Rest P bytes = IsPatch bytes
Rest Pr bytes = IsOwed (codes "e") bytes
Rest R bytes = IsOwed (codes "c") bytes
Rest Suffix bytes = IsCounted bytes
Rest SuffixNumber bytes = IsCounted bytes
Rest Hyphen bytes = IsRevision bytes
Rest HyphenR bytes = is_number bytes ≡ true
Rest Revision bytes = list_all is_digit bytes ≡ true
Rest Nothing bytes = ⊥

-- What the bytes behind a byte are, if the state behind it accepts them.
abbrev Accepted : State → List ℕ → Type 0
Accepted s bytes = accepts s bytes ≡ true → Rest s bytes

pub nothing_stays : (bytes : List ℕ) → run Nothing bytes ≡ Nothing
nothing_stays [] = refl
nothing_stays (b ∷ bs) = nothing_stays bs

pub nothing_read : (bytes : List ℕ) → accepts Nothing bytes ≡ true → ⊥
nothing_read bytes h = false≢true (sym (ap is_whole (nothing_stays bytes)) ∙ h)

only_read : (wanted : ℕ) (s : State) (b : ℕ) (bs : List ℕ) → accepts (only wanted s b) bs ≡ true → (b ≡ wanted) × (accepts s bs ≡ true)
only_read wanted s b bs h = by (b == wanted) refl h
  where
    by : (same : Bool) → (b == wanted) ≡ same → accepts (if same then s else Nothing) bs ≡ true → (b ≡ wanted) × (accepts s bs ≡ true)
    by true e k = (eqb-true b wanted e, k)
    by false e k = absurd (nothing_read bs k)

digit_only_read : (s : State) (b : ℕ) (bs : List ℕ) → accepts (digit_only s b) bs ≡ true → (is_digit b ≡ true) × (accepts s bs ≡ true)
digit_only_read s b bs h = by (is_digit b) refl h
  where
    by : (digit : Bool) → is_digit b ≡ digit → accepts (if digit then s else Nothing) bs ≡ true → (is_digit b ≡ true) × (accepts s bs ≡ true)
    by true e k = (e, k)
    by false e k = absurd (nothing_read bs k)

owed_read : (wanted : ℕ) (word : List ℕ) (s : State) (b : ℕ) (bs : List ℕ) → accepts (only wanted s b) bs ≡ true → (accepts s bs ≡ true → IsOwed word bs) → IsOwed (wanted ∷ word) (b ∷ bs)
owed_read wanted word s b bs h later =
    let here = only_read wanted s b bs h in
    let o = later here.1 in
    record { rest = o.rest; counted = o.counted; written = ap (λ x. wanted ∷ x) o.written ∙ ap (λ x. x ∷ bs) (sym here.0) }

last_read : (wanted : ℕ) (b : ℕ) (bs : List ℕ) → accepts (only wanted Suffix b) bs ≡ true → Accepted Suffix bs → IsOwed (wanted ∷ []) (b ∷ bs)
last_read wanted b bs h later =
    let here = only_read wanted Suffix b bs h in
    record { rest = bs; counted = later here.1; written = ap (λ x. x ∷ bs) (sym here.0) }

empty_body : IsBody []
empty_body = record { suffixes = []; revision = None; good_suffixes = refl; good_revision = refl; written = refl }

body_from_word : (bs : List ℕ) → IsWord bs → IsBody (95 ∷ bs)
body_from_word bs w =
    let c = w.counted in
    let t = c.body in
    let all : (kind_text w.kind ++ c.digits) ++ (flat_map suffix_text t.suffixes ++ revision_text t.revision) ≡ bs =
    append_assoc (kind_text w.kind) c.digits (flat_map suffix_text t.suffixes ++ revision_text t.revision)
    ∙ ap (λ x. kind_text w.kind ++ (c.digits ++ x)) t.written ∙ ap (λ x. kind_text w.kind ++ x) c.written ∙ w.written in
    record {
      suffixes = (w.kind, c.digits) ∷ t.suffixes;
      revision = t.revision;
      good_suffixes = and_from (list_all is_digit c.digits) (are_suffixes t.suffixes) c.good t.good_suffixes;
      good_revision = t.good_revision;
      written = append_assoc (suffix_text (w.kind, c.digits)) (flat_map suffix_text t.suffixes) (revision_text t.revision) ∙ ap (λ x. 95 ∷ x) all;
    }

body_from_revision : (bs : List ℕ) → IsRevision bs → IsBody (45 ∷ bs)
body_from_revision bs r = record { suffixes = []; revision = Some r.digits; good_suffixes = refl; good_revision = r.good; written = ap (λ x. 45 ∷ x) r.written }

part_read : (b : ℕ) (bs : List ℕ) → accepts (after_part b) bs ≡ true → Accepted Underscore bs → Accepted Hyphen bs → IsBody (b ∷ bs)
part_read b bs h word revision = by (b == 95) (b == 45) refl refl h
  where
    by : (u v : Bool) → (b == 95) ≡ u → (b == 45) ≡ v → accepts (if u then Underscore else if v then Hyphen else Nothing) bs ≡ true → IsBody (b ∷ bs)
    by true v e f k = rw (eqb-true b 95 e) (body_from_word bs (word k))
    by false true e f k = rw (eqb-true b 45 f) (body_from_revision bs (revision k))
    by false false e f k = absurd (nothing_read bs k)

counted_here : (bs : List ℕ) → IsBody bs → IsCounted bs
counted_here bs t = record { digits = []; rest = bs; good = refl; body = t; written = refl }

counted_more : (b : ℕ) (bs : List ℕ) → is_digit b ≡ true → IsCounted bs → IsCounted (b ∷ bs)
counted_more b bs e c = record { digits = b ∷ c.digits; rest = c.rest; good = and_from (is_digit b) (list_all is_digit c.digits) e c.good; body = c.body; written = ap (λ x. b ∷ x) c.written }

suffix_read : (b : ℕ) (bs : List ℕ) → accepts (after_suffix b) bs ≡ true → Accepted SuffixNumber bs → Accepted Underscore bs → Accepted Hyphen bs → IsCounted (b ∷ bs)
suffix_read b bs h digits word revision = by (is_digit b) refl h
  where
    by : (u : Bool) → is_digit b ≡ u → accepts (if u then SuffixNumber else after_part b) bs ≡ true → IsCounted (b ∷ bs)
    by true e k = counted_more b bs e (digits k)
    by false e k = counted_here (b ∷ bs) (part_read b bs k word revision)

end_here : (bs : List ℕ) → IsBody bs → IsEnd bs
end_here bs t = record { digits = []; more = []; letter = None; rest = bs; good_digits = refl; good_more = refl; good_letter = refl; body = t; written = refl }

end_letter : (b : ℕ) (bs : List ℕ) → is_small b ≡ true → IsBody bs → IsEnd (b ∷ bs)
end_letter b bs e t = record { digits = []; more = []; letter = Some b; rest = bs; good_digits = refl; good_more = refl; good_letter = e; body = t; written = refl }

join_more : (b : ℕ) (ds : List ℕ) (more : List (List ℕ)) → join_with_byte 46 ((b ∷ ds) ∷ more) ≡ b ∷ join_with_byte 46 (ds ∷ more)
join_more b ds [] = refl
join_more b ds (y ∷ ys) = refl

end_digit : (b : ℕ) (bs : List ℕ) → is_digit b ≡ true → IsEnd bs → IsEnd (b ∷ bs)
end_digit b bs e t = record {
  digits = b ∷ t.digits;
  more = t.more;
  letter = t.letter;
  rest = t.rest;
  good_digits = and_from (is_digit b) (list_all is_digit t.digits) e t.good_digits;
  good_more = t.good_more;
  good_letter = t.good_letter;
  body = t.body;
  written = ap (λ x. x ++ (option_to_list t.letter ++ t.rest)) (join_more b t.digits t.more) ∙ ap (λ x. b ∷ x) t.written;
}

end_dot : (bs : List ℕ) → IsNumbers bs → IsEnd (46 ∷ bs)
end_dot bs n =
    let t = n.end in
    record {
      digits = [];
      more = t.digits ∷ t.more;
      letter = t.letter;
      rest = t.rest;
      good_digits = refl;
      good_more = and_from (is_number t.digits) (list_all is_number t.more) n.first t.good_more;
      good_letter = t.good_letter;
      body = t.body;
      written = ap (λ x. 46 ∷ x) t.written;
    }

end_step : (b : ℕ) (bs : List ℕ) → accepts (after_number b) bs ≡ true → Accepted Number bs → Accepted Dot bs → Accepted Letter bs → Accepted Underscore bs → Accepted Hyphen bs → IsEnd (b ∷ bs)
end_step b bs h digit dot letter word revision = by (is_digit b) (b == 46) (is_small b) refl refl refl h
  where
    by : (u v w : Bool) → is_digit b ≡ u → (b == 46) ≡ v → is_small b ≡ w → accepts (if u then Number else if v then Dot else if w then Letter else after_part b) bs ≡ true → IsEnd (b ∷ bs)
    by true v w e f g k = end_digit b bs e (digit k)
    by false true w e f g k = rw (eqb-true b 46 f) (end_dot bs (dot k))
    by false false true e f g k = end_letter b bs g (letter k)
    by false false false e f g k = end_here (b ∷ bs) (part_read b bs k word revision)

numbers_step : (b : ℕ) (bs : List ℕ) → accepts (digit_only Number b) bs ≡ true → Accepted Number bs → IsNumbers (b ∷ bs)
unfolding end_digit
numbers_step b bs h later =
    let here = digit_only_read Number b bs h in
    let t : IsEnd bs = later here.1 in
    record { end = end_digit b bs here.0 t; first = and_from (is_digit b) (list_all is_digit t.digits) here.0 t.good_digits }

word_from_owed : (k : Kind) (c : ℕ) (word bs : List ℕ) → kind_text k ≡ c ∷ word → IsOwed word bs → IsWord (c ∷ bs)
word_from_owed k c word bs e o = record { kind = k; rest = o.rest; counted = o.counted; written = ap (λ x. x ++ o.rest) e ∙ ap (λ x. c ∷ x) o.written }

word_from_patch : (bs : List ℕ) → IsPatch bs → IsWord (112 ∷ bs)
word_from_patch bs (alone c) = record { kind = Patch; rest = bs; counted = c; written = refl }
word_from_patch bs (longer o) = word_from_owed Pre 112 (codes "re") bs refl o

word_step : (b : ℕ) (bs : List ℕ) → accepts (after_underscore b) bs ≡ true → Accepted A bs → Accepted B bs → Accepted P bs → Accepted R bs → IsWord (b ∷ bs)
word_step b bs h on_a on_b on_p on_r = by (b == 97) (b == 98) (b == 112) (b == 114) refl refl refl refl h
  where
    by : (u v w x : Bool) → (b == 97) ≡ u → (b == 98) ≡ v → (b == 112) ≡ w → (b == 114) ≡ x
        → accepts (if u then A else if v then B else if w then P else if x then R else Nothing) bs ≡ true → IsWord (b ∷ bs)
    by true v w x e f g i k = rw (eqb-true b 97 e) (word_from_owed Alpha 97 (codes "lpha") bs refl (on_a k))
    by false true w x e f g i k = rw (eqb-true b 98 f) (word_from_owed Beta 98 (codes "eta") bs refl (on_b k))
    by false false true x e f g i k = rw (eqb-true b 112 g) (word_from_patch bs (on_p k))
    by false false false true e f g i k = rw (eqb-true b 114 i) (word_from_owed Rc 114 (codes "c") bs refl (on_r k))
    by false false false false e f g i k = absurd (nothing_read bs k)

patch_step : (b : ℕ) (bs : List ℕ) → accepts (next P b) bs ≡ true → Accepted Pr bs → Accepted SuffixNumber bs → Accepted Underscore bs → Accepted Hyphen bs → IsPatch (b ∷ bs)
patch_step b bs h on_pr digits word revision = by (b == 114) refl h
  where
    by : (u : Bool) → (b == 114) ≡ u → accepts (if u then Pr else after_suffix b) bs ≡ true → IsPatch (b ∷ bs)
    by true e k =
        let o = on_pr k in
        longer (record { rest = o.rest; counted = o.counted; written = ap (λ x. 114 ∷ x) o.written ∙ ap (λ x. x ∷ bs) (sym (eqb-true b 114 e)) })
    by false e k = alone (suffix_read b bs k digits word revision)

revision_step : (b : ℕ) (bs : List ℕ) → accepts (digit_only Revision b) bs ≡ true → Accepted Revision bs → list_all is_digit (b ∷ bs) ≡ true
revision_step b bs h later =
    let here = digit_only_read Revision b bs h in
    and_from (is_digit b) (list_all is_digit bs) here.0 (later here.1)

hyphen_step : (b : ℕ) (bs : List ℕ) → accepts (only 114 HyphenR b) bs ≡ true → Accepted HyphenR bs → IsRevision (b ∷ bs)
hyphen_step b bs h later =
    let here = only_read 114 HyphenR b bs h in
    record { digits = bs; good = later here.1; written = ap (λ x. x ∷ bs) (sym here.0) }

accepted : (s : State) (bytes : List ℕ) → accepts s bytes ≡ true → Rest s bytes
accepted Start [] h = absurd (false≢true h)
accepted Number [] h = end_here [] empty_body
accepted Dot [] h = absurd (false≢true h)
accepted Letter [] h = empty_body
accepted Underscore [] h = absurd (false≢true h)
accepted A [] h = absurd (false≢true h)
accepted Al [] h = absurd (false≢true h)
accepted Alp [] h = absurd (false≢true h)
accepted Alph [] h = absurd (false≢true h)
accepted B [] h = absurd (false≢true h)
accepted Be [] h = absurd (false≢true h)
accepted Bet [] h = absurd (false≢true h)
accepted P [] h = alone (counted_here [] empty_body)
accepted Pr [] h = absurd (false≢true h)
accepted R [] h = absurd (false≢true h)
accepted Suffix [] h = counted_here [] empty_body
accepted SuffixNumber [] h = counted_here [] empty_body
accepted Hyphen [] h = absurd (false≢true h)
accepted HyphenR [] h = absurd (false≢true h)
accepted Revision [] h = refl
accepted Nothing [] h = absurd (false≢true h)
accepted Start (b ∷ bs) h = numbers_step b bs h (accepted Number bs)
accepted Number (b ∷ bs) h = end_step b bs h (accepted Number bs) (accepted Dot bs) (accepted Letter bs) (accepted Underscore bs) (accepted Hyphen bs)
accepted Dot (b ∷ bs) h = numbers_step b bs h (accepted Number bs)
accepted Letter (b ∷ bs) h = part_read b bs h (accepted Underscore bs) (accepted Hyphen bs)
accepted Underscore (b ∷ bs) h = word_step b bs h (accepted A bs) (accepted B bs) (accepted P bs) (accepted R bs)
accepted A (b ∷ bs) h = owed_read 108 (codes "pha") Al b bs h (accepted Al bs)
accepted Al (b ∷ bs) h = owed_read 112 (codes "ha") Alp b bs h (accepted Alp bs)
accepted Alp (b ∷ bs) h = owed_read 104 (codes "a") Alph b bs h (accepted Alph bs)
accepted Alph (b ∷ bs) h = last_read 97 b bs h (accepted Suffix bs)
accepted B (b ∷ bs) h = owed_read 101 (codes "ta") Be b bs h (accepted Be bs)
accepted Be (b ∷ bs) h = owed_read 116 (codes "a") Bet b bs h (accepted Bet bs)
accepted Bet (b ∷ bs) h = last_read 97 b bs h (accepted Suffix bs)
accepted P (b ∷ bs) h = patch_step b bs h (accepted Pr bs) (accepted SuffixNumber bs) (accepted Underscore bs) (accepted Hyphen bs)
accepted Pr (b ∷ bs) h = last_read 101 b bs h (accepted Suffix bs)
accepted R (b ∷ bs) h = last_read 99 b bs h (accepted Suffix bs)
accepted Suffix (b ∷ bs) h = suffix_read b bs h (accepted SuffixNumber bs) (accepted Underscore bs) (accepted Hyphen bs)
accepted SuffixNumber (b ∷ bs) h = suffix_read b bs h (accepted SuffixNumber bs) (accepted Underscore bs) (accepted Hyphen bs)
accepted Hyphen (b ∷ bs) h = hyphen_step b bs h (accepted HyphenR bs)
accepted HyphenR (b ∷ bs) h = revision_step b bs h (accepted Revision bs)
accepted Revision (b ∷ bs) h = revision_step b bs h (accepted Revision bs)
accepted Nothing (b ∷ bs) h = absurd (nothing_read bs h)

read_form : (bytes : List ℕ) → accepts Start bytes ≡ true → has_form bytes ≡ true
read_form bytes h =
    let n : IsNumbers bytes = accepted Start bytes h in
    let t : IsEnd bytes = n.end in
    let u : IsBody t.rest = t.body in
    let v : Parts = record { numbers = t.digits ∷ t.more; letter = t.letter; suffixes = u.suffixes; revision = u.revision } in
    let good : are_parts v ≡ true =
    and_from (is_number t.digits && list_all is_number t.more) (option_map_or is_small t.letter true && (are_suffixes u.suffixes && is_revision u.revision))
    (and_from (is_number t.digits) (list_all is_number t.more) n.first t.good_more)
    (and_from (option_map_or is_small t.letter true) (are_suffixes u.suffixes && is_revision u.revision) t.good_letter
    (and_from (are_suffixes u.suffixes) (is_revision u.revision) u.good_suffixes u.good_revision)) in
    let text : version_text v ≡ bytes = ap (λ x. join_with_byte 46 (t.digits ∷ t.more) ++ (option_to_list t.letter ++ x)) u.written ∙ t.written in
    says_form bytes (v, good, text)

same_tests : (s t : Bool) → (s ≡ true → t ≡ true) → (t ≡ true → s ≡ true) → s ≡ t
same_tests true t f g = sym (f refl)
same_tests false true f g = g refl
same_tests false false f g = refl

pub form_is : (bytes : List ℕ) → has_form bytes ≡ is_whole (run Start bytes)
form_is bytes = same_tests (has_form bytes) (is_whole (run Start bytes)) (form_read bytes) (read_form bytes)
