-- A stack that is made, step by step.
use Rattle.std.proofs.Common.{◌≡◌, ◌≤◌, ◌<◌, ◌+◌, ◌-◌, ℕ, zero, suc, Bool, true, false, ◌||◌, cond, List, [], ◌∷◌, ◌++◌, map, length, refl, sym, ap, subst, ◌∙◌, append_assoc, append-nil, length-append, arith}
use Rattle.std.specs.Prelude.{if◌then◌else◌, flat_map, nat_lt, Option, Some, None, reverse}
use Rattle.std.specs.Str.{bytes_eq}
use Rattle.std.proofs.lemmas.Bool.{lt-ltb, ltb-true}
use Rattle.std.proofs.lemmas.List.{reverse-append, reverse-reverse}
use Rattle.std.proofs.lemmas.Slice.Eq.{bytes_eq-Decides}
use Rattle.gv_base.specs.Order.{has_text}
use Rattle.gv_profile.specs.Stacks.{stack_below}
use Rattle.gv_profile.specs.Walking.{most_visits}
use Rattle.gv_usedefaults.specs.declared.stack_walk.Ahead.{Ahead}
use Rattle.gv_usedefaults.specs.declared.stack_walk.Ahead.TheVariants.{Come, Done}
use Rattle.gv_usedefaults.specs.declared.stack_walk.Going.{Going}
use Rattle.gv_usedefaults.specs.Going.{AreApart, GoesOn, IsGoing, ahead_of, coming, left, way_of}
use Rattle.gv_usedefaults.specs.Stacks.{is_long, parents_in, stack_from, stack_way, unless_long}
use Rattle.gv_usedefaults.specs.declared.file_kinds.LineFile.{LineFile}
use Rattle.gv_usedefaults.proofs.Sets.{flipped}

same_bytes : (x y : List ℕ) → bytes_eq x y ≡ true → x ≡ y
same_bytes x y is = (bytes_eq-Decides x y).0 is

not_more : (n : ℕ) → n ≤ most_visits → nat_lt most_visits n ≡ false
not_more n le = by (nat_lt most_visits n) refl
  where
    by : (b : Bool) → nat_lt most_visits n ≡ b → nat_lt most_visits n ≡ false
    by true more = absurd (let lt : most_visits < n = ltb-true most_visits n more in omega (arith, le, lt))
    by false few = few

module _ (parents : List ℕ → List (List ℕ)) where
  -- ---- what is ahead, in front of the rest
  way_coming : (ps : List (List ℕ)) (rest : List Ahead) → way_of (map Come ps ++ rest) ≡ way_of rest
  way_coming [] rest = refl
  way_coming (p ∷ ps) rest = way_coming ps rest

  left_coming : (ps : List (List ℕ)) (rest : List Ahead) → left parents (map Come ps ++ rest) ≡ flat_map (coming parents (way_of rest)) ps ++ left parents rest
  left_coming [] rest = refl
  left_coming (p ∷ ps) rest =
      ap (λ way. coming parents way p ++ left parents (map Come ps ++ rest)) (way_coming ps rest)
      ∙ ap (λ l. coming parents (way_of rest) p ++ l) (left_coming ps rest)
      ∙ sym (append_assoc (coming parents (way_of rest) p) (flat_map (coming parents (way_of rest)) ps) (left parents rest))

  -- a directory that isn't on the way
  enters : (way : List (List ℕ)) (dir : List ℕ) → length way < most_visits → has_text way dir ≡ false → coming parents way dir ≡ flat_map (coming parents (dir ∷ way)) (parents dir) ++ dir ∷ []
  unfolding stack_way
  enters way dir low new =
      let deep : most_visits - length way ≡ suc (most_visits - suc (length way)) = omega arith in
      rw (new, deep) refl

  pub left_entered : (dir : List ℕ) (rest : List Ahead) → length (way_of rest) < most_visits → has_text (way_of rest) dir ≡ false →
      left parents (map Come (parents dir) ++ Done dir ∷ rest) ≡ left parents (Come dir ∷ rest)
  left_entered dir rest low new =
      left_coming (parents dir) (Done dir ∷ rest)
      ∙ sym (append_assoc (flat_map (coming parents (dir ∷ way_of rest)) (parents dir)) (dir ∷ []) (left parents rest))
      ∙ ap (λ l. l ++ left parents rest) (sym (enters (way_of rest) dir low new))

  -- ---- each directory on the way will be in the stack
  below_some : (depth : ℕ) (above : List (List ℕ)) (dir : List ℕ) → 1 ≤ length (stack_below depth parents above dir)
  below_some zero above dir = omega arith
  below_some (suc depth) above dir =
      omega (arith, length-append (flat_map (λ parent. if has_text (dir ∷ above) parent then [] else stack_below depth parents (dir ∷ above) parent) (parents dir)) (dir ∷ []))

  way_left : (as_ : List Ahead) → length (way_of as_) ≤ length (left parents as_)
  way_left [] = omega arith
  way_left (Come dir ∷ rest) = omega (arith, length-append (coming parents (way_of rest) dir) (left parents rest), way_left rest)
  way_left (Done dir ∷ rest) = omega (arith, way_left rest)

  come_some : (way : List (List ℕ)) (dir : List ℕ) → has_text way dir ≡ false → 1 ≤ length (coming parents way dir)
  unfolding stack_way
  come_some way dir new = rw new (below_some (most_visits - length way) way dir)

  module _ (whole : List (List ℕ)) where
    -- a visit too many
    pub too_many : (g : Going) (dir : List ℕ) (rest : List Ahead) → IsGoing parents whole g (Come dir ∷ rest) → has_text (way_of rest) dir ≡ false → most_visits ≤ g.visits → is_long whole ≡ true
    too_many g dir rest going new over =
        let size : length whole ≡ length g.stack + (length (coming parents (way_of rest) dir) + length (left parents rest)) =
        sym (ap length going.gives) ∙ length-append g.stack (coming parents (way_of rest) dir ++ left parents rest)
        ∙ ap (λ n. length g.stack + n) (length-append (coming parents (way_of rest) dir) (left parents rest)) in
        let more : most_visits < length whole = omega (arith, size, going.visited, over, come_some (way_of rest) dir new, way_left rest) in
        lt-ltb most_visits (length whole) more

    -- one that is on the way is passed over
    pub passed_over : (g : Going) (dir : List ℕ) (rest : List Ahead) → IsGoing parents whole g (Come dir ∷ rest) → has_text (way_of rest) dir ≡ true → IsGoing parents whole g rest
    passed_over g dir rest going was = record {
      gives = ap (λ l. g.stack ++ l) (sym here) ∙ going.gives;
      visited = going.visited;
      few = going.few;
      way = going.way;
      apart = going.apart;
    }
      where
        here : left parents (Come dir ∷ rest) ≡ left parents rest
        here = rw was refl

    -- one that isn't is come to
    pub came : (g after : Going) (dir : List ℕ) (rest : List Ahead) → IsGoing parents whole g (Come dir ∷ rest) → has_text (way_of rest) dir ≡ false → g.visits < most_visits →
        after.stack ≡ g.stack → after.visits ≡ g.visits + 1 → ((text : List ℕ) → has_text after.way.keys text ≡ (bytes_eq text dir || has_text g.way.keys text)) →
        ahead_of after ≡ map Come (parents dir) ++ Done dir ∷ rest → IsGoing parents whole after (ahead_of after)
    came g after dir rest going new low stack visits way ahead =
        subst (λ as_. IsGoing parents whole after as_) (sym ahead) (record {
          gives = ap (λ s. s ++ left parents (map Come (parents dir) ++ Done dir ∷ rest)) stack ∙ ap (λ l. g.stack ++ l) (left_entered dir rest fewer new) ∙ going.gives;
          visited = rw (on_way, stack, visits) (omega (arith, going.visited));
          few = omega (arith, visits, low);
          way = λ text. way text ∙ ap (λ b. bytes_eq text dir || b) (going.way text) ∙ ap (λ ds. has_text ds text) (sym on_way);
          apart = subst AreApart (sym on_way) (new, going.apart);
        })
      where
        on_way : way_of (map Come (parents dir) ++ Done dir ∷ rest) ≡ dir ∷ way_of rest
        on_way = way_coming (parents dir) (Done dir ∷ rest)

        fewer : length (way_of rest) < most_visits
        fewer = omega (arith, going.visited, low)

    -- one whose parents are done comes into the stack
    pub left_dir : (g after : Going) (dir : List ℕ) (rest : List Ahead) → IsGoing parents whole g (Done dir ∷ rest) →
        after.stack ≡ g.stack ++ dir ∷ [] → after.visits ≡ g.visits → ((text : List ℕ) → has_text after.way.keys text ≡ (if bytes_eq dir text then false else has_text g.way.keys text)) →
        ahead_of after ≡ rest → IsGoing parents whole after (ahead_of after)
    left_dir g after dir rest going stack visits way ahead =
        subst (λ as_. IsGoing parents whole after as_) (sym ahead) (record {
          gives = ap (λ s. s ++ left parents rest) stack ∙ append_assoc g.stack (dir ∷ []) (left parents rest) ∙ going.gives;
          visited = rw (stack, visits) (omega (arith, going.visited, length-append g.stack (dir ∷ [])));
          few = omega (arith, visits, going.few);
          way = λ text. way text ∙ by text (bytes_eq dir text) refl;
          apart = going.apart.1;
        })
      where
        by : (text : List ℕ) (b : Bool) → bytes_eq dir text ≡ b → (if b then false else has_text g.way.keys text) ≡ has_text (way_of rest) text
        by text true same = sym (subst (λ t. has_text (way_of rest) t ≡ false) (same_bytes dir text same) going.apart.0)
        by text false other = going.way text ∙ ap (λ b. b || has_text (way_of rest) text) (flipped text dir ∙ other)

    -- one turn: what is next is taken from what is ahead
    at_rest : (g rest : Going) (next : Ahead) → rest.stack ≡ g.stack → rest.visits ≡ g.visits → ((text : List ℕ) → has_text rest.way.keys text ≡ has_text g.way.keys text) →
        ahead_of g ≡ next ∷ ahead_of rest → IsGoing parents whole g (ahead_of g) → IsGoing parents whole rest (next ∷ ahead_of rest)
    at_rest g rest next stack visits way ahead going = record {
      gives = ap (λ s. s ++ left parents (next ∷ ahead_of rest)) stack ∙ here.gives;
      visited = visits ∙ here.visited ∙ ap (λ (s : List (List ℕ)). length s + length (way_of (next ∷ ahead_of rest))) (sym stack);
      few = subst (λ n. n ≤ most_visits) (sym visits) here.few;
      way = λ text. way text ∙ here.way text;
      apart = here.apart;
    }
      where
        here : IsGoing parents whole g (next ∷ ahead_of rest)
        here = subst (λ as_. IsGoing parents whole g as_) ahead going

    pub turned : (g rest on : Going) (next : Ahead) (o : Option Going) → o ≡ Some on → rest.stack ≡ g.stack → rest.visits ≡ g.visits → ((text : List ℕ) → has_text rest.way.keys text ≡ has_text g.way.keys text) →
        ahead_of g ≡ next ∷ ahead_of rest → GoesOn parents whole rest next o → IsGoing parents whole g (ahead_of g) → IsGoing parents whole on (ahead_of on)
    turned g rest on next o is stack visits way ahead goes going =
        subst (λ (p : Option Going). GoesOn parents whole rest next p) is goes (at_rest g rest next stack visits way ahead going)

    pub stopped : (g rest : Going) (next : Ahead) (o : Option Going) → o ≡ None → rest.stack ≡ g.stack → rest.visits ≡ g.visits → ((text : List ℕ) → has_text rest.way.keys text ≡ has_text g.way.keys text) →
        ahead_of g ≡ next ∷ ahead_of rest → GoesOn parents whole rest next o → IsGoing parents whole g (ahead_of g) → is_long whole ≡ true
    stopped g rest next o is stack visits way ahead goes going =
        subst (λ (p : Option Going). GoesOn parents whole rest next p) is goes (at_rest g rest next stack visits way ahead going)

    -- nothing is ahead
    pub all_done : (g : Going) → IsGoing parents whole g [] → unless_long whole ≡ Some g.stack
    all_done g going =
        let same : g.stack ≡ whole = sym (append-nil g.stack) ∙ going.gives in
        let short : is_long g.stack ≡ false = not_more (length g.stack) (omega (arith, going.visited, going.few)) in
        ap unless_long (sym same) ∙ rw short refl

    -- in the beginning
    pub begun : (g : Going) (dir : List ℕ) → g.stack ≡ [] → ahead_of g ≡ Come dir ∷ [] → g.visits ≡ 0 → ((text : List ℕ) → has_text g.way.keys text ≡ false) →
        stack_way parents [] dir ≡ whole → IsGoing parents whole g (ahead_of g)
    begun g dir stack ahead visits way is =
        subst (λ as_. IsGoing parents whole g as_) (sym ahead) (record {
          gives = ap (λ s. s ++ left parents (Come dir ∷ [])) stack ∙ append-nil (stack_way parents [] dir) ∙ is;
          visited = rw (stack, visits) refl;
          few = omega (arith, visits);
          way = way;
          apart = tt;
        })

-- what is pushed comes first
pub pushed : (before after : List Ahead) (dir : List ℕ) (ps : List (List ℕ)) → after ≡ (before ++ Done dir ∷ []) ++ reverse (map Come ps) → reverse after ≡ map Come ps ++ Done dir ∷ reverse before
pushed before after dir ps is =
    ap reverse is ∙ reverse-append (before ++ Done dir ∷ []) (reverse (map Come ps))
    ∙ ap (λ l. l ++ reverse (before ++ Done dir ∷ [])) (reverse-reverse (map Come ps))
    ∙ ap (λ l. map Come ps ++ l) (reverse-append before (Done dir ∷ []))

pub popped : (before after : List Ahead) (next : Ahead) → before ≡ after ++ next ∷ [] → reverse before ≡ next ∷ reverse after
popped before after next is = ap reverse is ∙ reverse-append after (next ∷ [])

pub from_below : (files : List LineFile) (dir : List ℕ) → stack_below most_visits (parents_in files) [] dir ≡ stack_from files dir
unfolding stack_way
from_below files dir = refl
