-- What the text of pieces stands for.
use Rattle.std.proofs.Common.{◌≡◌, ℕ, ◌+◌, zero, Bool, true, false, ◌||◌, not, List, [], ◌∷◌, ◌++◌, length, drop, refl, sym, ap, subst, ◌∙◌, Some, None, append_assoc, append-nil, length-append, arith}
use Rattle.std.specs.Prelude.{if◌then◌else◌, ◌==◌, ◌&&◌, Option, is_none}
use Rattle.std.specs.List.{list_all}
use Rattle.std.proofs.lemmas.Bool.{and_parts, eqb-true}
use Rattle.std.proofs.Math.Seq.{drop-append_seam}
use Rattle.gv_defaults.specs.declared.quotes.Quotes.{Quotes}
use Rattle.gv_defaults.specs.declared.quotes.Quotes.TheVariants.{Bare, Double, Single}
use Rattle.gv_defaults.specs.Quotes.{is_space, quotes_after, escapes}
use Rattle.gv_defaults.specs.Names.{Named, name_behind}
use Rattle.gv_defaults.specs.Meaning.{meaning, meaning_of, itself as alone, is_dollar, with_name}
use Rattle.gv_base.specs.Words.{is_empty}
use Rattle.gv_defaults.specs.Pieces.{Mark, itself, escape, dollar, braces, Piece, double, single, bare, mark_text, marks_text, piece_text, value_text, escaped_in_double, escaped_bare, mark_means, marks_mean, piece_means, value_means, is_name, goes_on, stays, mark_fits, marks_fit, piece_fits, pieces_fit, ends_value, value_fits}
use Rattle.gv_defaults.proofs.NameTexts.{ends_no_name, plain_there, braced_there, none_alone}
use Rattle.gv_defaults.proofs.PieceLens.{neither, quotes, fits}
use Rattle.gv_defaults.proofs.StepLemmas.{passed_over}

abbrev pub means_escaped : Bool → ℕ → List ℕ
means_escaped true = escaped_in_double
means_escaped false = escaped_bare

-- ---- a byte
one_byte : (look : List ℕ → List ℕ) (q : Quotes) (b : ℕ) (rest : List ℕ) → escapes q b ≡ false → is_dollar q b ≡ false →
    meaning look q zero (b ∷ rest) ≡ alone q b ++ meaning look (quotes_after q b) zero rest
one_byte look q b [] s p = sym (append-nil (alone q b))
one_byte look q b (c ∷ rest) s p = rw (s, p) refl

none_is : (o : Option Named) → is_none o ≡ true → o ≡ None
none_is None h = refl
none_is (Some n) h = absurd (cc)

-- a dollar sign before no name
lone_dollar : (look : List ℕ → List ℕ) (d : Bool) (rest : List ℕ) → name_behind rest ≡ None → meaning look (quotes d) zero (36 ∷ rest) ≡ 36 ∷ meaning look (quotes d) zero rest
lone_dollar look true [] none = refl
lone_dollar look false [] none = refl
lone_dollar look true (c ∷ cs) none = ap (with_name look (λ n. meaning look Double n (c ∷ cs))) none
lone_dollar look false (c ∷ cs) none = ap (with_name look (λ n. meaning look Bare n (c ∷ cs))) none

is_dollar_sign : (d : Bool) (b : ℕ) → is_dollar (quotes d) b ≡ (b == 36)
is_dollar_sign true b = refl
is_dollar_sign false b = refl

byte_means : (look : List ℕ → List ℕ) (d : Bool) (b : ℕ) (rest behind : List ℕ) → ends_value behind ≡ true → escapes (quotes d) b ≡ false → alone (quotes d) b ≡ b ∷ [] → quotes_after (quotes d) b ≡ quotes d → stays b (rest ++ behind) ≡ true →
    meaning look (quotes d) zero (b ∷ rest) ≡ b ∷ meaning look (quotes d) zero rest
byte_means look d b rest behind ends takes same after h = by (b == 36) refl h
  where
    by : (p : Bool) → (b == 36) ≡ p → (not p || is_none (name_behind (rest ++ behind))) ≡ true → meaning look (quotes d) zero (b ∷ rest) ≡ b ∷ meaning look (quotes d) zero rest
    by true is h = subst (λ (x : ℕ). meaning look (quotes d) zero (x ∷ rest) ≡ x ∷ meaning look (quotes d) zero rest) (sym (eqb-true b 36 is)) (lone_dollar look d rest (none_alone rest behind (ends_no_name behind ends) (none_is _ h)))
    by false is h = one_byte look (quotes d) b rest takes (is_dollar_sign d b ∙ is) ∙ (rw (same, after) refl)

itself_means : (look : List ℕ → List ℕ) (d : Bool) (b : ℕ) (rest behind : List ℕ) → ends_value behind ≡ true → fits d b (rest ++ behind) ≡ true →
    meaning look (quotes d) zero (b ∷ rest) ≡ b ∷ meaning look (quotes d) zero rest
itself_means look true b rest behind ends h =
    let free : ((b == 34) ≡ false) × ((b == 92) ≡ false) = neither (b == 34) (b == 92) (and_parts _ _ h).0 in
    byte_means look true b rest behind ends free.1 (rw (free.0) refl) (rw (free.0) refl) (and_parts _ _ h).1
itself_means look false b rest behind ends h = by (b == 92) refl h
  where
    last : (rest : List ℕ) → is_empty (rest ++ behind) ≡ true → meaning look Bare zero (92 ∷ rest) ≡ 92 ∷ meaning look Bare zero rest
    last [] h = refl
    last (c ∷ cs) h = absurd (cc)

    by : (p : Bool) → (b == 92) ≡ p → (if p then is_empty (rest ++ behind) else not (is_space b || (b == 34 || b == 39)) && stays b (rest ++ behind)) ≡ true → meaning look Bare zero (b ∷ rest) ≡ b ∷ meaning look Bare zero rest
    by true is h = subst (λ (x : ℕ). meaning look Bare zero (x ∷ rest) ≡ x ∷ meaning look Bare zero rest) (sym (eqb-true b 92 is)) (last rest h)
    by false is h =
        let free = neither (is_space b) (b == 34 || b == 39) (and_parts _ _ h).0 in
        let marks : ((b == 34) ≡ false) × ((b == 39) ≡ false) = neither (b == 34) (b == 39) (ap not free.1) in
        byte_means look false b rest behind ends is (rw (marks.0, marks.1) refl) (rw (marks.0, marks.1) refl) (and_parts _ _ h).1

-- ---- a name
opened : (look : List ℕ → List ℕ) (d : Bool) (c : ℕ) (rest : List ℕ) → meaning look (quotes d) zero (36 ∷ c ∷ rest) ≡ with_name look (λ n. meaning look (quotes d) n (c ∷ rest)) (name_behind (c ∷ rest))
opened look true c rest = refl
opened look false c rest = refl

name_means : (look : List ℕ → List ℕ) (d : Bool) (c : ℕ) (cs : List ℕ) (named : Named) (rest : List ℕ) → name_behind (c ∷ cs) ≡ Some named → drop named.len (c ∷ cs) ≡ rest →
    meaning look (quotes d) zero (36 ∷ c ∷ cs) ≡ look named.name ++ meaning look (quotes d) zero rest
name_means look d c cs named rest there left =
    opened look d c cs
    ∙ ap (with_name look (λ n. meaning look (quotes d) n (c ∷ cs))) there
    ∙ ap (λ (xs : List ℕ). look named.name ++ xs) (passed_over look (quotes d) named.len (c ∷ cs) ∙ ap (meaning look (quotes d) zero) left)

dollar_means : (look : List ℕ → List ℕ) (d : Bool) (name rest : List ℕ) → is_name name ≡ true → goes_on rest ≡ false → meaning look (quotes d) zero (36 ∷ (name ++ rest)) ≡ look name ++ meaning look (quotes d) zero rest
dollar_means look d [] rest is stops = absurd (cc)
dollar_means look d (c ∷ cs) rest is stops = name_means look d c (cs ++ rest) (record { name = c ∷ cs; len = length (c ∷ cs) }) rest (plain_there (c ∷ cs) rest is stops) (drop-append_seam (c ∷ cs) rest)

braces_left : (name rest : List ℕ) → drop (length name + 2) (123 ∷ (name ++ 125 ∷ rest)) ≡ rest
braces_left name rest =
    let long : length (123 ∷ (name ++ 125 ∷ [])) ≡ length name + 2 = omega (arith, length-append name (125 ∷ [])) in
    ap (λ (xs : List ℕ). drop (length name + 2) (123 ∷ xs)) (sym (append_assoc name (125 ∷ []) rest))
    ∙ ap (λ (n : ℕ). drop n ((123 ∷ (name ++ 125 ∷ [])) ++ rest)) (sym long)
    ∙ drop-append_seam (123 ∷ (name ++ 125 ∷ [])) rest

braces_mean : (look : List ℕ → List ℕ) (d : Bool) (name rest : List ℕ) → is_name name ≡ true → meaning look (quotes d) zero (mark_text (braces name) ++ rest) ≡ look name ++ meaning look (quotes d) zero rest
braces_mean look d name rest is =
    ap (λ (xs : List ℕ). meaning look (quotes d) zero (36 ∷ 123 ∷ xs)) (append_assoc name (125 ∷ []) rest)
    ∙ name_means look d 123 (name ++ 125 ∷ rest) (record { name = name; len = length name + 2 }) rest (braced_there name rest is) (braces_left name rest)

-- ---- marks
escape_means : (look : List ℕ → List ℕ) (d : Bool) (b : ℕ) (rest : List ℕ) → meaning look (quotes d) zero (92 ∷ b ∷ rest) ≡ means_escaped d b ++ meaning look (quotes d) zero rest
escape_means look true b rest = refl
escape_means look false b rest = refl

mark_meaning : (look : List ℕ → List ℕ) (d : Bool) (m : Mark) (rest behind : List ℕ) → ends_value behind ≡ true → mark_fits (fits d) m (rest ++ behind) ≡ true →
    meaning look (quotes d) zero (mark_text m ++ rest) ≡ mark_means look (means_escaped d) m ++ meaning look (quotes d) zero rest
mark_meaning look d (itself b) rest behind ends h = itself_means look d b rest behind ends h
mark_meaning look d (escape b) rest behind ends h = escape_means look d b rest
mark_meaning look d (dollar name) rest behind ends h = dollar_means look d name rest (and_parts _ _ h).0 (stops rest (and_parts _ _ h).1)
  where
    stops : (rest : List ℕ) → not (goes_on (rest ++ behind)) ≡ true → goes_on rest ≡ false
    stops [] h = refl
    stops (c ∷ cs) h = (neither (goes_on (c ∷ cs)) false (or_false (goes_on (c ∷ cs)) h)).0
      where
        or_false : (x : Bool) → not x ≡ true → not (x || false) ≡ true
        or_false true h = h
        or_false false h = refl
mark_meaning look d (braces name) rest behind ends h = braces_mean look d name rest h

pub marks_meaning : (look : List ℕ → List ℕ) (d : Bool) (ms : List Mark) (rest behind : List ℕ) → ends_value behind ≡ true → marks_fit (fits d) ms (rest ++ behind) ≡ true →
    meaning look (quotes d) zero (marks_text ms ++ rest) ≡ marks_mean look (means_escaped d) ms ++ meaning look (quotes d) zero rest
marks_meaning look d [] rest behind ends h = refl
marks_meaning look d (m ∷ ms) rest behind ends h =
    let first : mark_fits (fits d) m (marks_text ms ++ (rest ++ behind)) ≡ true = (and_parts _ _ h).0 in
    let first_here : mark_fits (fits d) m ((marks_text ms ++ rest) ++ behind) ≡ true = ap (mark_fits (fits d) m) (append_assoc (marks_text ms) rest behind) ∙ first in
    ap (meaning look (quotes d) zero) (append_assoc (mark_text m) (marks_text ms) rest)
    ∙ mark_meaning look d m (marks_text ms ++ rest) behind ends first_here
    ∙ ap (λ (xs : List ℕ). mark_means look (means_escaped d) m ++ xs) (marks_meaning look d ms rest behind ends (and_parts _ _ h).1)
    ∙ sym (append_assoc (mark_means look (means_escaped d) m) (marks_mean look (means_escaped d) ms) (meaning look (quotes d) zero rest))

-- ---- pieces
single_meaning : (look : List ℕ → List ℕ) (bytes rest : List ℕ) → list_all (λ b. not (b == 39)) bytes ≡ true → meaning look Single zero (bytes ++ 39 ∷ rest) ≡ bytes ++ meaning look Bare zero rest
single_meaning look [] rest h = one_byte look Single 39 rest refl refl
single_meaning look (b ∷ bs) rest h =
    let other : (b == 39) ≡ false = (neither (b == 39) false (or_false (b == 39) (and_parts _ _ h).0)).0 in
    one_byte look Single b (bs ++ 39 ∷ rest) refl refl ∙ (rw other (ap (λ (xs : List ℕ). b ∷ xs) (single_meaning look bs rest (and_parts _ _ h).1)))
  where
    or_false : (x : Bool) → not x ≡ true → not (x || false) ≡ true
    or_false true h = h
    or_false false h = refl

pub piece_meaning : (look : List ℕ → List ℕ) (p : Piece) (rest behind : List ℕ) → ends_value behind ≡ true → piece_fits p (rest ++ behind) ≡ true →
    meaning look Bare zero (piece_text p ++ rest) ≡ piece_means look p ++ meaning look Bare zero rest
piece_meaning look (double marks) rest behind ends h =
    ap (λ (xs : List ℕ). meaning look Bare zero (34 ∷ xs)) (append_assoc (marks_text marks) (34 ∷ []) rest)
    ∙ one_byte look Bare 34 (marks_text marks ++ 34 ∷ rest) refl refl
    ∙ marks_meaning look true marks (34 ∷ rest) behind ends h
    ∙ ap (λ (xs : List ℕ). marks_mean look escaped_in_double marks ++ xs) (one_byte look Double 34 rest refl refl)
piece_meaning look (single bytes) rest behind ends h =
    ap (λ (xs : List ℕ). meaning look Bare zero (39 ∷ xs)) (append_assoc bytes (39 ∷ []) rest)
    ∙ one_byte look Bare 39 (bytes ++ 39 ∷ rest) refl refl
    ∙ single_meaning look bytes rest h
piece_meaning look (bare marks) rest behind ends h = marks_meaning look false marks rest behind ends h

pieces_meaning : (look : List ℕ → List ℕ) (ps : List Piece) (behind : List ℕ) → ends_value behind ≡ true → pieces_fit ps behind ≡ true → meaning look Bare zero (value_text ps) ≡ value_means look ps
pieces_meaning look [] behind ends h = refl
pieces_meaning look (p ∷ ps) behind ends h =
    piece_meaning look p (value_text ps) behind ends (and_parts _ _ h).0
    ∙ ap (λ (xs : List ℕ). piece_means look p ++ xs) (pieces_meaning look ps behind ends (and_parts _ _ h).1)

pub value_meaning : (look : List ℕ → List ℕ) (ps : List Piece) (behind : List ℕ) → value_fits ps behind ≡ true → meaning_of look (value_text ps) ≡ value_means look ps
value_meaning look ps behind h = pieces_meaning look ps behind (and_parts _ _ h).1 (and_parts _ _ h).0
