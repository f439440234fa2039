-- Texts that are cut at their first slash, and found by their two pieces.
use Rattle.std.proofs.Common.{◌≡◌, ◌≢◌, ℕ, suc, add-one, ◌+◌, ◌<◌, ◌≤◌, Bool, true, false, cond, ◌⊎◌, inl, inr, ◌&&◌, ◌||◌, List, [], ◌∷◌, ◌++◌, Some, None, length, drop, refl, sym, ap, subst, ◌∙◌, arith, eqb-true, true≢false}
use Rattle.std.specs.Prelude.{Option, nat_eq}
use Rattle.std.specs.BTreeSet.{BTreeSet}
use Rattle.std.specs.Cmp.Lexicographic.{nat_list_cmp_total}
use Rattle.std.specs.FinMap.{get, insert, remove, get-empty, get-insert, get-remove}
use Rattle.std.specs.List.{position_or_len}
use Rattle.std.specs.Option.{option_map_or}
use Rattle.std.specs.Ordering.{eq_by_cmp}
use Rattle.std.specs.Str.{bytes_eq}
use Rattle.std.proofs.lemmas.List.{append_cancel_left}
use Rattle.std.proofs.lemmas.Map.Text.{is_eq-slice_cmp}
use Rattle.std.proofs.lemmas.Slice.Eq.{bytes_eq-Decides}
use Rattle.gv_base.specs.ByteMap.{Bytes, map_of}
use Rattle.gv_base.specs.Cut.{up_to_first}
use Rattle.gv_base.specs.Order.{byte_cmp, has_text}
use Rattle.gv_reading.specs.Paths.{within}
use Rattle.gv_reload.specs.Joined.{Firsts, HasPairs, has_pair, has_slash}

same_test : (a b : Bool) → (a ≡ true → b ≡ true) → (b ≡ true → a ≡ true) → a ≡ b
same_test true true f g = refl
same_test true false f g = sym (f refl)
same_test false true f g = g refl
same_test false false f g = refl

not_true : (a : Bool) → (a ≡ true → ⊥) → a ≡ false
not_true true never = absurd (never refl)
not_true false never = refl

and_so : (a b : Bool) → a ≡ true → b ≡ true → (a && b) ≡ true
and_so true b ea eb = eb
and_so false b ea eb = ea

and_left : (a b : Bool) → (a && b) ≡ true → a ≡ true
and_left true b e = refl
and_left false b e = e

and_right : (a b : Bool) → (a && b) ≡ true → b ≡ true
and_right true b e = e
and_right false b e = absurd (true≢false (sym e))

or_left : (a b : Bool) → (a || b) ≡ false → a ≡ false
or_left true b e = e
or_left false b e = refl

on_right : (a b : Bool) → (a || b) ≡ false → b ≡ false
on_right true b e = absurd (true≢false e)
on_right false b e = e

pub texts_so : (a b c d : List ℕ) → (a ≡ b → c ≡ d) → (c ≡ d → a ≡ b) → bytes_eq a b ≡ bytes_eq c d
texts_so a b c d f g = same_test (bytes_eq a b) (bytes_eq c d)
    (λ h. (bytes_eq-Decides c d).1 (f ((bytes_eq-Decides a b).0 h)))
    (λ h. (bytes_eq-Decides a b).1 (g ((bytes_eq-Decides c d).0 h)))

-- ---- a text that begins with the first piece, or doesn't
pub joined_behind : (first second rest text : List ℕ) → text ≡ first ++ rest → bytes_eq (within first second) text ≡ bytes_eq (47 ∷ second) rest
joined_behind first second rest text is = texts_so (within first second) text (47 ∷ second) rest
    (λ e. append_cancel_left first (47 ∷ second) rest (e ∙ is))
    (λ e. ap (λ end. first ++ end) e ∙ sym is)

pub begins_not : (front end text : List ℕ) → ((rest : List ℕ) → text ≢ front ++ rest) → bytes_eq (front ++ end) text ≡ false
begins_not front end text none = not_true (bytes_eq (front ++ end) text) (λ h. none end (sym ((bytes_eq-Decides (front ++ end) text).0 h)))

-- ---- a text is cut at its first slash
has_within : (first second : List ℕ) → has_slash (within first second) ≡ true
has_within [] second = refl
has_within (b ∷ bs) second = by (nat_eq b 47) (has_within bs second)
  where
    by : (e : Bool) → has_slash (within bs second) ≡ true → (e || has_slash (within bs second)) ≡ true
    by true h = refl
    by false h = h

pieces_same : (f s first second : List ℕ) → has_slash f ≡ false → has_slash first ≡ false → within f s ≡ within first second → (f ≡ first) × (s ≡ second)
pieces_same [] s [] second pf p e = (refl, cc)
pieces_same [] s (b ∷ bs) second pf p e =
    let same : 47 ≡ b = cc in
    absurd (true≢false (subst (λ n. nat_eq n 47 ≡ false) (sym same) (or_left (nat_eq b 47) (has_slash bs) p)))
pieces_same (c ∷ cs) s [] second pf p e =
    let same : c ≡ 47 = cc in
    absurd (true≢false (subst (λ n. nat_eq n 47 ≡ false) same (or_left (nat_eq c 47) (has_slash cs) pf)))
pieces_same (c ∷ cs) s (b ∷ bs) second pf p e =
    let head : c ≡ b = cc in
    let tail : within cs s ≡ within bs second = cc in
    let rest = pieces_same cs s bs second (on_right (nat_eq c 47) (has_slash cs) pf) (on_right (nat_eq b 47) (has_slash bs) p) tail in
    (ap (λ x. x ∷ cs) head ∙ ap (λ xs. b ∷ xs) rest.0, rest.1)

up_step : (b : ℕ) (bs : List ℕ) → up_to_first 47 (b ∷ bs) ≡ cond (nat_eq b 47) [] (b ∷ up_to_first 47 bs)
up_step b bs = by (nat_eq b 47) refl
  where
    by : (t : Bool) → nat_eq b 47 ≡ t → up_to_first 47 (b ∷ bs) ≡ cond t [] (b ∷ up_to_first 47 bs)
    by true is = rw is refl
    by false is = rw is (let e : 1 + position_or_len (λ c. nat_eq c 47) bs ≡ suc (position_or_len (λ c. nat_eq c 47) bs) = omega arith in rw e refl)

front_plain : (text : List ℕ) → has_slash (up_to_first 47 text) ≡ false
front_plain [] = refl
front_plain (b ∷ bs) = rw (up_step b bs) (by (nat_eq b 47) refl (front_plain bs))
  where
    by : (t : Bool) → nat_eq b 47 ≡ t → has_slash (up_to_first 47 bs) ≡ false → has_slash (cond t [] (b ∷ up_to_first 47 bs)) ≡ false
    by true is h = refl
    by false is h = rw is h

abbrev Cut : List ℕ → List ℕ → Type 0
Cut text front = ((text ≡ front) × (has_slash text ≡ false)) ⊎ ((more : List ℕ) × (text ≡ front ++ 47 ∷ more))

cut : (text : List ℕ) → Cut text (up_to_first 47 text)
cut [] = inl (refl, refl)
cut (b ∷ bs) = rw (up_step b bs) (by (nat_eq b 47) refl (cut bs))
  where
    by : (t : Bool) → nat_eq b 47 ≡ t → Cut bs (up_to_first 47 bs) → Cut (b ∷ bs) (cond t [] (b ∷ up_to_first 47 bs))
    by true is c = inr (bs, ap (λ x. x ∷ bs) (eqb-true b 47 is))
    by false is (inl e) = inl (ap (λ xs. b ∷ xs) e.0, rw is e.1)
    by false is (inr m) = inr (m.0, ap (λ xs. b ∷ xs) m.1)

behind_byte : (front : List ℕ) (b : ℕ) (end : List ℕ) → drop (suc (length front)) (front ++ b ∷ end) ≡ end
behind_byte [] b end = refl
behind_byte (x ∷ xs) b end = behind_byte xs b end

behind_front : (front : List ℕ) (b : ℕ) (end : List ℕ) → drop (length front + 1) (front ++ b ∷ end) ≡ end
behind_front front b end = ap (λ n. drop n (front ++ b ∷ end)) (add-one (length front)) ∙ behind_byte front b end

longer : (front : List ℕ) (b : ℕ) (end : List ℕ) → length front < length (front ++ b ∷ end)
longer [] b end = omega arith
longer (x ∷ xs) b end = let h = longer xs b end in omega (arith, h)

-- the pieces of a text with a slash
pub cut_there : (text : List ℕ) → length (up_to_first 47 text) < length text → (f s : List ℕ) → has_slash f ≡ false →
    bytes_eq (within f s) text ≡ (bytes_eq f (up_to_first 47 text) && bytes_eq s (drop (length (up_to_first 47 text) + 1) text))
cut_there text less f s plain = by (cut text)
  where
    front : List ℕ
    front = up_to_first 47 text

    rest : List ℕ
    rest = drop (length front + 1) text

    by : Cut text front → bytes_eq (within f s) text ≡ (bytes_eq f front && bytes_eq s rest)
    by (inl e) = absurd (let same : length text ≡ length front = ap length e.0 in omega (arith, less, same))
    by (inr m) =
        let back : rest ≡ m.0 = ap (drop (length front + 1)) m.1 ∙ behind_front front 47 m.0 in
        same_test (bytes_eq (within f s) text) (bytes_eq f front && bytes_eq s rest)
        (λ h. let e = pieces_same f s front m.0 plain (front_plain text) ((bytes_eq-Decides (within f s) text).0 h ∙ m.1) in
        and_so (bytes_eq f front) (bytes_eq s rest) ((bytes_eq-Decides f front).1 e.0) ((bytes_eq-Decides s rest).1 (e.1 ∙ sym back)))
        (λ h. (bytes_eq-Decides (within f s) text).1
        (ap (λ x. within x s) ((bytes_eq-Decides f front).0 (and_left (bytes_eq f front) (bytes_eq s rest) h))
        ∙ ap (within front) ((bytes_eq-Decides s rest).0 (and_right (bytes_eq f front) (bytes_eq s rest) h) ∙ back) ∙ sym m.1))

-- a text without a slash has none
pub cut_none : (text : List ℕ) → length text ≤ length (up_to_first 47 text) → (f s : List ℕ) → bytes_eq (within f s) text ≡ false
cut_none text none f s = by (cut text)
  where
    front : List ℕ
    front = up_to_first 47 text

    by : Cut text front → bytes_eq (within f s) text ≡ false
    by (inl e) = not_true (bytes_eq (within f s) text) (λ h. true≢false (sym (has_within f s) ∙ ap has_slash ((bytes_eq-Decides (within f s) text).0 h) ∙ e.1))
    by (inr m) = absurd (let more : length front < length text = subst (λ (t : List ℕ). length front < length t) (sym m.1) (longer front 47 m.0) in omega (arith, none, more))

-- ---- the pieces in the map
pub none : (es : List (Bytes × BTreeSet (List ℕ))) → es ≡ [] → HasPairs (map_of es) []
none es is first second plain = ap (λ (ds : List (Bytes × BTreeSet (List ℕ))). has_pair (map_of ds) first second) is ∙ ap (λ o. option_map_or (λ (firsts : BTreeSet (List ℕ)). has_text firsts.keys first) o false) (get-empty byte_cmp second)

key_is : (s second : List ℕ) → eq_by_cmp byte_cmp s second ≡ bytes_eq s second
key_is s second = is_eq-slice_cmp s second

abbrev has_first : List ℕ → Option (BTreeSet (List ℕ)) → Bool
has_first f o = option_map_or (λ (firsts : BTreeSet (List ℕ)). has_text firsts.keys f) o false

pub when_taken : (m n : Firsts) (second : List ℕ) → n ≡ remove m second → (f s : List ℕ) → bytes_eq s second ≡ false → has_pair n f s ≡ has_pair m f s
when_taken m n second is f s other =
    ap (λ (k : Firsts). has_pair k f s) is ∙ ap (has_first f) (get-remove nat_list_cmp_total m second s)
    ∙ ap (λ b. has_first f (cond b None (get m s))) (key_is s second ∙ other)

pub pair_added : (old mid new : Firsts) (first second : List ℕ) (firsts more : BTreeSet (List ℕ))
    → ((f : List ℕ) → has_text firsts.keys f ≡ has_pair old f second)
    → ((f s : List ℕ) → bytes_eq s second ≡ false → has_pair mid f s ≡ has_pair old f s)
    → ((f : List ℕ) → has_text more.keys f ≡ (bytes_eq f first || has_text firsts.keys f))
    → new ≡ insert mid second more
    → (f s : List ℕ) → has_pair new f s ≡ ((bytes_eq f first && bytes_eq s second) || has_pair old f s)
pair_added old mid new first second firsts more these others added is f s =
    ap (λ (k : Firsts). has_pair k f s) is ∙ ap (has_first f) (get-insert nat_list_cmp_total mid second more s ∙ ap (λ b. cond b (Some more) (get mid s)) (key_is s second))
    ∙ by (bytes_eq s second) refl
  where
    with_true : (a b : Bool) → (a || b) ≡ ((a && true) || b)
    with_true true b = refl
    with_true false b = refl

    with_false : (a b : Bool) → b ≡ ((a && false) || b)
    with_false true b = refl
    with_false false b = refl

    by : (e : Bool) → bytes_eq s second ≡ e → has_first f (cond e (Some more) (get mid s)) ≡ ((bytes_eq f first && e) || has_pair old f s)
    by true at =
        added f ∙ ap (λ b. bytes_eq f first || b) (these f ∙ ap (has_pair old f) (sym ((bytes_eq-Decides s second).0 at)))
        ∙ with_true (bytes_eq f first) (has_pair old f s)
    by false at = others f s at ∙ with_false (bytes_eq f first) (has_pair old f s)

-- ---- one text more
or_swap : (a b c : Bool) → (a || (b || c)) ≡ (b || (a || c))
or_swap true true c = refl
or_swap true false c = refl
or_swap false true c = refl
or_swap false false c = refl

pub at_end : (texts : List (List ℕ)) (more text : List ℕ) → has_text (texts ++ more ∷ []) text ≡ (bytes_eq text more || has_text texts text)
at_end [] more text = refl
at_end (t ∷ ts) more text = ap (λ b. bytes_eq text t || b) (at_end ts more text) ∙ or_swap (bytes_eq text t) (bytes_eq text more) (has_text ts text)

pub one_more : (old new : Firsts) (texts : List (List ℕ)) (text : List ℕ) → HasPairs old texts
    → ((f s : List ℕ) → has_slash f ≡ false → has_pair new f s ≡ (bytes_eq (within f s) text || has_pair old f s)) → HasPairs new (texts ++ text ∷ [])
one_more old new texts text has more first second plain =
    more first second plain ∙ ap (λ b. bytes_eq (within first second) text || b) (has first second plain) ∙ sym (at_end texts text (within first second))
