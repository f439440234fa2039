-- Where the text of pieces ends.
use Rattle.std.proofs.Common.{◌≡◌, ℕ, ◌+◌, suc, Bool, true, false, ◌||◌, not, List, [], ◌∷◌, ◌++◌, length, refl, sym, ap, ◌∙◌, Some, None, append_assoc, length-append, arith}
use Rattle.std.specs.Prelude.{if◌then◌else◌, ◌==◌, ◌&&◌, Option}
use Rattle.std.specs.Option.{option_map}
use Rattle.std.specs.List.{list_all}
use Rattle.std.proofs.lemmas.Bool.{and_parts, eqb-true}
use Rattle.gv_defaults.specs.declared.quotes.Quotes.{Quotes}
use Rattle.gv_defaults.specs.declared.quotes.Quotes.TheVariants.{Bare, Double, Single}
use Rattle.gv_defaults.specs.Quotes.{is_space, quotes_after, escapes, ends, len_in, value_len}
use Rattle.gv_defaults.specs.Names.{is_name_byte}
use Rattle.gv_base.specs.Words.{is_empty}
use Rattle.gv_defaults.specs.Pieces.{Mark, itself, escape, dollar, braces, Piece, double, single, bare, mark_text, marks_text, piece_text, value_text, stays, itself_in_double, itself_bare, mark_fits, marks_fit, piece_fits, pieces_fit, ends_value, value_fits}
use Rattle.gv_defaults.proofs.NameTexts.{name_bytes}

-- ---- lengths
abbrev pub plus : ℕ → Option ℕ → Option ℕ
plus k o = option_map (λ n. k + n) o

plus_zero : (o : Option ℕ) → o ≡ plus 0 o
plus_zero None = refl
plus_zero (Some n) = let e : n ≡ 0 + n = omega arith in ap Some e

pub plus_plus : (j k : ℕ) (o : Option ℕ) → plus j (plus k o) ≡ plus (j + k) o
plus_plus j k None = refl
plus_plus j k (Some n) = let e : j + (k + n) ≡ j + k + n = omega arith in ap Some e

suc_one : (o : Option ℕ) → option_map suc o ≡ plus 1 o
suc_one None = refl
suc_one (Some n) = let e : suc n ≡ 1 + n = omega arith in ap Some e

suc_plus : (k : ℕ) (o : Option ℕ) → option_map suc (plus k o) ≡ plus (suc k) o
suc_plus k None = refl
suc_plus k (Some n) = let e : suc (k + n) ≡ suc k + n = omega arith in ap Some e

suc_suc : (o : Option ℕ) → option_map suc (option_map suc o) ≡ plus 2 o
suc_suc None = refl
suc_suc (Some n) = let e : suc (suc n) ≡ 2 + n = omega arith in ap Some e

pub plus_append : (xs ys : List ℕ) (o : Option ℕ) → plus (length xs) (plus (length ys) o) ≡ plus (length (xs ++ ys)) o
plus_append xs ys o = plus_plus (length xs) (length ys) o ∙ ap (λ (n : ℕ). plus n o) (sym (length-append xs ys))

-- ---- bytes that stand for themselves
pub neither : (x y : Bool) → not (x || y) ≡ true → (x ≡ false) × (y ≡ false)
neither true y h = absurd (cc)
neither false true h = absurd (cc)
neither false false h = (refl, refl)

-- in double quotes or bare
abbrev pub quotes : Bool → Quotes
quotes true = Double
quotes false = Bare

abbrev pub fits : Bool → ℕ → List ℕ → Bool
fits true = itself_in_double
fits false = itself_bare

record IsCalm (q : Quotes) (b : ℕ) : Type 0 where
  stays_in : ends q b ≡ false
  same : quotes_after q b ≡ q
  alone : escapes q b ≡ false

calm_len : (q : Quotes) (b : ℕ) (rest : List ℕ) → IsCalm q b → len_in q false (b ∷ rest) ≡ plus 1 (len_in q false rest)
calm_len q b rest calm =
    let e = calm.stays_in in
    let s = calm.same in
    let a = calm.alone in
    rw (e, s, a) (suc_one _)

abbrev quiet : ℕ → Bool
quiet b = is_name_byte b || (b == 36 || (b == 123 || b == 125))

no_space : (b : ℕ) → quiet b ≡ true → is_space b ≡ false
no_space b h = grind arith

no_double : (b : ℕ) → quiet b ≡ true → (b == 34) ≡ false
no_double b h = grind arith

no_single : (b : ℕ) → quiet b ≡ true → (b == 39) ≡ false
no_single b h = grind arith

no_backslash : (b : ℕ) → quiet b ≡ true → (b == 92) ≡ false
no_backslash b h = grind arith

quiet_calm : (d : Bool) (b : ℕ) → quiet b ≡ true → IsCalm (quotes d) b
quiet_calm true b h = record { stays_in = refl; same = rw (no_double b h) refl; alone = no_backslash b h }
quiet_calm false b h = record { stays_in = no_space b h; same = rw (no_double b h, no_single b h) refl; alone = no_backslash b h }

run_len : (d : Bool) (xs rest : List ℕ) → list_all quiet xs ≡ true → len_in (quotes d) false (xs ++ rest) ≡ plus (length xs) (len_in (quotes d) false rest)
run_len d [] rest h = plus_zero _
run_len d (x ∷ xs) rest h =
    calm_len (quotes d) x (xs ++ rest) (quiet_calm d x (and_parts _ _ h).0)
    ∙ ap (plus 1) (run_len d xs rest (and_parts _ _ h).1)
    ∙ plus_append (x ∷ []) xs (len_in (quotes d) false rest)

name_quiet : (xs more : List ℕ) → list_all is_name_byte xs ≡ true → list_all quiet more ≡ true → list_all quiet (xs ++ more) ≡ true
name_quiet [] more h m = m
name_quiet (x ∷ xs) more h m =
    let first : is_name_byte x ≡ true = (and_parts _ _ h).0 in
    let rest = name_quiet xs more (and_parts _ _ h).1 m in
    rw (first, rest) refl

-- ---- marks
itself_len : (d : Bool) (b : ℕ) (rest : List ℕ) → fits d b rest ≡ true → len_in (quotes d) false (b ∷ rest) ≡ plus 1 (len_in (quotes d) false rest)
itself_len true b rest h =
    let free : ((b == 34) ≡ false) × ((b == 92) ≡ false) = neither (b == 34) (b == 92) (and_parts _ _ h).0 in
    calm_len Double b rest (record { stays_in = refl; same = rw (free.0) refl; alone = free.1 })
itself_len false b rest h = by (b == 92) refl h
  where
    last : (rest : List ℕ) → is_empty rest ≡ true → len_in Bare false (92 ∷ rest) ≡ plus 1 (len_in Bare false rest)
    last [] h = refl
    last (c ∷ cs) h = absurd (cc)

    by : (p : Bool) → (b == 92) ≡ p → (if p then is_empty rest else not (is_space b || (b == 34 || b == 39)) && stays b rest) ≡ true → len_in Bare false (b ∷ rest) ≡ plus 1 (len_in Bare false rest)
    by true is h = rw (eqb-true b 92 is) (last rest h)
    by false is h =
        let free = neither (is_space b) (b == 34 || b == 39) (and_parts _ _ h).0 in
        let marks : ((b == 34) ≡ false) × ((b == 39) ≡ false) = neither (b == 34) (b == 39) (ap not free.1) in
        calm_len Bare b rest (record { stays_in = free.0; same = rw (marks.0, marks.1) refl; alone = is })

escape_len : (d : Bool) (b : ℕ) (rest : List ℕ) → len_in (quotes d) false (92 ∷ b ∷ rest) ≡ plus 2 (len_in (quotes d) false rest)
escape_len true b rest = suc_suc _
escape_len false b rest = suc_suc _

pub mark_len : (d : Bool) (m : Mark) (rest : List ℕ) → mark_fits (fits d) m rest ≡ true → len_in (quotes d) false (mark_text m ++ rest) ≡ plus (length (mark_text m)) (len_in (quotes d) false rest)
mark_len d (itself b) rest h = itself_len d b rest h
mark_len d (escape b) rest h = escape_len d b rest
mark_len d (dollar name) rest h = run_len d (36 ∷ name) rest (dollar_quiet (name_bytes name (and_parts _ _ h).0))
  where
    dollar_quiet : list_all is_name_byte name ≡ true → list_all quiet name ≡ true
    dollar_quiet all = by name all
      where
        by : (xs : List ℕ) → list_all is_name_byte xs ≡ true → list_all quiet xs ≡ true
        by [] h = refl
        by (x ∷ xs) h = let first : is_name_byte x ≡ true = (and_parts _ _ h).0 in let rest = by xs (and_parts _ _ h).1 in rw (first, rest) refl
mark_len d (braces name) rest h = run_len d (36 ∷ 123 ∷ (name ++ 125 ∷ [])) rest (name_quiet name (125 ∷ []) (name_bytes name h) refl)

pub marks_len : (d : Bool) (ms : List Mark) (rest : List ℕ) → marks_fit (fits d) ms rest ≡ true → len_in (quotes d) false (marks_text ms ++ rest) ≡ plus (length (marks_text ms)) (len_in (quotes d) false rest)
marks_len d [] rest h = plus_zero _
marks_len d (m ∷ ms) rest h =
    ap (len_in (quotes d) false) (append_assoc (mark_text m) (marks_text ms) rest)
    ∙ mark_len d m (marks_text ms ++ rest) (and_parts _ _ h).0
    ∙ ap (plus (length (mark_text m))) (marks_len d ms rest (and_parts _ _ h).1)
    ∙ plus_append (mark_text m) (marks_text ms) (len_in (quotes d) false rest)

-- ---- pieces
single_len : (bytes rest : List ℕ) → list_all (λ b. not (b == 39)) bytes ≡ true → len_in Single false (bytes ++ 39 ∷ rest) ≡ plus (length bytes) (option_map suc (len_in Bare false rest))
single_len [] rest h = plus_zero _
single_len (b ∷ bs) rest h = by (b == 39) (and_parts _ _ h).0 (single_len bs rest (and_parts _ _ h).1)
  where
    by : (p : Bool) → not p ≡ true → len_in Single false (bs ++ 39 ∷ rest) ≡ plus (length bs) (option_map suc (len_in Bare false rest)) →
        option_map suc (len_in (if p then Bare else Single) false (bs ++ 39 ∷ rest)) ≡ plus (length (b ∷ bs)) (option_map suc (len_in Bare false rest))
    by true n more = absurd (cc)
    by false n more = ap (option_map suc) more ∙ suc_plus (length bs) _

closed_len : (q : Quotes) (inner rest : List ℕ) (quote : ℕ) → len_in q false (inner ++ quote ∷ rest) ≡ plus (length inner) (option_map suc (len_in Bare false rest)) →
    option_map suc (len_in q false ((inner ++ quote ∷ []) ++ rest)) ≡ plus (suc (length (inner ++ quote ∷ []))) (len_in Bare false rest)
closed_len q inner rest quote h =
    ap (λ (xs : List ℕ). option_map suc (len_in q false xs)) (append_assoc inner (quote ∷ []) rest)
    ∙ ap (option_map suc) (h ∙ ap (plus (length inner)) (suc_one _) ∙ plus_append inner (quote ∷ []) (len_in Bare false rest))
    ∙ suc_plus (length (inner ++ quote ∷ [])) (len_in Bare false rest)

pub piece_len : (p : Piece) (rest : List ℕ) → piece_fits p rest ≡ true → len_in Bare false (piece_text p ++ rest) ≡ plus (length (piece_text p)) (len_in Bare false rest)
piece_len (double marks) rest h = closed_len Double (marks_text marks) rest 34 (marks_len true marks (34 ∷ rest) h)
piece_len (single bytes) rest h = closed_len Single bytes rest 39 (single_len bytes rest h)
piece_len (bare marks) rest h = marks_len false marks rest h

pub pieces_len : (ps : List Piece) (rest : List ℕ) → pieces_fit ps rest ≡ true → len_in Bare false (value_text ps ++ rest) ≡ plus (length (value_text ps)) (len_in Bare false rest)
pieces_len [] rest h = plus_zero _
pieces_len (p ∷ ps) rest h =
    ap (len_in Bare false) (append_assoc (piece_text p) (value_text ps) rest)
    ∙ piece_len p (value_text ps ++ rest) (and_parts _ _ h).0
    ∙ ap (plus (length (piece_text p))) (pieces_len ps rest (and_parts _ _ h).1)
    ∙ plus_append (piece_text p) (value_text ps) (len_in Bare false rest)

ends_here : (rest : List ℕ) → ends_value rest ≡ true → len_in Bare false rest ≡ Some 0
ends_here [] h = refl
ends_here (b ∷ bs) h = rw h refl

pub value_ends : (ps : List Piece) (rest : List ℕ) → value_fits ps rest ≡ true → value_len (value_text ps ++ rest) ≡ Some (length (value_text ps))
value_ends ps rest h =
    let e : length (value_text ps) + 0 ≡ length (value_text ps) = omega arith in
    pieces_len ps rest (and_parts _ _ h).0 ∙ ap (plus (length (value_text ps))) (ends_here rest (and_parts _ _ h).1) ∙ ap Some e
