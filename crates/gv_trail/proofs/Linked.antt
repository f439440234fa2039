-- Lists of watches that are linked through numbers.
use Rattle.std.proofs.Common.{◌≡◌, ◌⊎◌, inl, inr, ℕ, zero, suc, ◌+◌, ◌-◌, ◌<◌, ◌≤◌, Bool, true, false, nat_eq, List, [], ◌∷◌, ◌++◌, length, get_or, refl, sym, ap, subst, ◌∙◌, add-one, arith}
use Rattle.std.specs.Prelude.{slice_set, replicate}
use Rattle.std.proofs.Math.ListN.{length-set}
use Rattle.std.proofs.lemmas.List.{get_or-set_same, get_or-set_other, length-replicate}
use Rattle.std.proofs.lemmas.Grind.{common_steps}
use Rattle.gv_logic.specs.Partial.{trues, Has}
use Rattle.gv_trail.specs.declared.watches.Watch.{Watch}
use Rattle.gv_trail.specs.declared.watches.Chain.{Chain}
use Rattle.gv_trail.specs.Links.{Links, watch_at, chain_at, no_chain, linked, list_of, waiting_of, requeued, taken, added, idle, Once, IsLinked}
use Rattle.gv_trail.proofs.Marks.{trues_set, trues-le, trues_replicate}
use Rattle.gv_logic.specs.Opposites.{none_true}

abbrev no_watch : Watch
no_watch = record { lit = 0; next = 0 }

-- a watch that a list lacks may be set
pub linked_set : (nodes : List Watch) (first count n : ℕ) (w : Watch) → (Has n (linked nodes first count) → ⊥) → linked (slice_set nodes n w) first count ≡ linked nodes first count
linked_set nodes first zero n w out = refl
linked_set nodes first (suc count) n w out =
    let same : watch_at (slice_set nodes n w) first ≡ watch_at nodes first = get_or-set_other nodes n first w no_watch (λ e. out (inl e)) in
    rw same (ap (λ t. first ∷ t) (linked_set nodes (watch_at nodes first).next count n w (λ h. out (inr h))))

get_front : (nodes : List Watch) (w : Watch) (n : ℕ) → n < length nodes → watch_at (nodes ++ w ∷ []) n ≡ watch_at nodes n
get_front [] w n lt = absurd (omega (arith, lt))
get_front (x ∷ xs) w zero lt = refl
get_front (x ∷ xs) w (suc n) lt = get_front xs w n (omega (arith, lt))

get_end : (nodes : List Watch) (w : Watch) → watch_at (nodes ++ w ∷ []) (length nodes) ≡ w
get_end [] w = refl
get_end (x ∷ xs) w = get_end xs w

pub linked_more : (nodes : List Watch) (first count : ℕ) (w : Watch) → ((n : ℕ) → Has n (linked nodes first count) → n < length nodes) → linked (nodes ++ w ∷ []) first count ≡ linked nodes first count
linked_more nodes first zero w all = refl
linked_more nodes first (suc count) w all =
    let same : watch_at (nodes ++ w ∷ []) first ≡ watch_at nodes first = get_front nodes w first (all first (inl refl)) in
    rw same (ap (λ t. first ∷ t) (linked_more nodes (watch_at nodes first).next count w (λ n h. all n (inr h))))

length-linked : (nodes : List Watch) (first count : ℕ) → length (linked nodes first count) ≡ count
length-linked nodes first zero = refl
length-linked nodes first (suc count) = ap suc (length-linked nodes (watch_at nodes first).next count)

-- numbers below n of which none stands twice are n at most
abbrev marks : List Bool → List ℕ → List Bool
marks on [] = on
marks on (x ∷ xs) = marks (slice_set on x true) xs

length-marks : (on : List Bool) (ns : List ℕ) → length (marks on ns) ≡ length on
length-marks on [] = refl
length-marks on (x ∷ xs) = length-marks (slice_set on x true) xs ∙ length-set on x true

unset : (on : List Bool) (x y : ℕ) → (y ≡ x → ⊥) → get_or on y false ≡ false → get_or (slice_set on x true) y false ≡ false
unset on x y ne e = get_or-set_other on x y true false ne ∙ e

marked : (on : List Bool) (ns : List ℕ) → Once ns → ((n : ℕ) → Has n ns → (n < length on) × (get_or on n false ≡ false)) → trues (marks on ns) ≡ trues on + length ns
marked on [] o f = omega arith
marked on (x ∷ xs) o f =
    let here = f x (inl refl) in
    let more = trues_set on x here.0 here.1 in
    let rest = marked (slice_set on x true) xs o.1
    (λ n h. (rw (length-set on x true) (f n (inr h)).0, unset on x n (λ e. o.0 (subst (λ z. Has z xs) e h)) (f n (inr h)).1)) in
    omega (arith, more, rest)

off_at : (k n : ℕ) → get_or (replicate k false) n false ≡ false
off_at k n = by (get_or (replicate k false) n false) refl
  where
    by : (b : Bool) → get_or (replicate k false) n false ≡ b → get_or (replicate k false) n false ≡ false
    by true e = absurd (none_true k n e)
    by false e = e

pub once_few : (k : ℕ) (ns : List ℕ) → Once ns → ((n : ℕ) → Has n ns → n < k) → length ns ≤ k
once_few k ns o f =
    let long = length-replicate k false in
    let m = marked (replicate k false) ns o (λ n h. (rw long (f n h), off_at k n)) in
    let le = trues-le (marks (replicate k false) ns) in
    omega (arith, m, le, length-marks (replicate k false) ns, long, trues_replicate k)

-- the count of a list that lacks a watch
pub room_for : (links : Links) (lit n : ℕ) → IsLinked links → n < length links.nodes → (Has n (list_of links lit) → ⊥) → (chain_at links.chains lit).count + 1 ≤ length links.nodes
room_for links lit n l lt out =
    let c = chain_at links.chains lit in
    let few = once_few (length links.nodes) (n ∷ list_of links lit) (out, l.once lit) (λ m h. elim h [ inl e ↦ rw (← e) lt | inr g ↦ l.within lit m g ]) in
    omega (arith, few, length-linked links.nodes c.first c.count)

pub alike : (a b : ℕ) → nat_eq a b ≡ true → a ≡ b
alike a b e = grind (arith, common_steps)

pub equal_or : (a b : ℕ) → (a ≡ b) ⊎ (a ≡ b → ⊥)
equal_or a b = by (nat_eq a b) refl
  where
    by : (v : Bool) → nat_eq a b ≡ v → (a ≡ b) ⊎ (a ≡ b → ⊥)
    by true e = inl (grind (arith, common_steps))
    by false e = inr (λ s. grind (arith, common_steps))

next_of : (links : Links) → ℕ
next_of links = (watch_at links.nodes links.waiting.first).next

-- the list that waits, by its first
pub waiting_next : (links : Links) → 0 < links.waiting.count → waiting_of links ≡ links.waiting.first ∷ linked links.nodes (watch_at links.nodes links.waiting.first).next (links.waiting.count - 1)
waiting_next links some = by links.waiting.count some
  where
    by : (c : ℕ) → 0 < c → linked links.nodes links.waiting.first c ≡ links.waiting.first ∷ linked links.nodes (watch_at links.nodes links.waiting.first).next (c - 1)
    by zero lt = absurd (omega (arith, lt))
    by (suc c) lt = let e : suc c - 1 ≡ c = omega arith in rw e refl

pub first_waits : (links : Links) → 0 < links.waiting.count → Has links.waiting.first (waiting_of links)
first_waits links some = rw (waiting_next links some) (inl refl)

first_out : (links : Links) → IsLinked links → 0 < links.waiting.count → (lit : ℕ) → Has links.waiting.first (list_of links lit) → ⊥
first_out links l some lit h = l.waiting_alone lit links.waiting.first (first_waits links some) h

pub requeued_list : (links : Links) (to : ℕ) → IsLinked links → 0 < links.waiting.count → to < length links.chains → list_of (requeued links to) to ≡ links.waiting.first ∷ list_of links to
requeued_list links to l some lt =
    let w : Watch = record { lit = to; next = (chain_at links.chains to).first } in
    let c : Chain = record { first = links.waiting.first; count = (chain_at links.chains to).count + 1 } in
    let n = links.waiting.first in
    let here : chain_at (slice_set links.chains to c) to ≡ c = get_or-set_same links.chains to c no_chain lt in
    let at : watch_at (slice_set links.nodes n w) n ≡ w = get_or-set_same links.nodes n w no_watch (l.waiting_within n (first_waits links some)) in
    rw here (rw (add-one (chain_at links.chains to).count) (rw at (ap (λ t. n ∷ t) (linked_set links.nodes (chain_at links.chains to).first (chain_at links.chains to).count n w (first_out links l some to)))))

pub requeued_other : (links : Links) (to lit : ℕ) → IsLinked links → 0 < links.waiting.count → (lit ≡ to → ⊥) → list_of (requeued links to) lit ≡ list_of links lit
requeued_other links to lit l some ne =
    let w : Watch = record { lit = to; next = (chain_at links.chains to).first } in
    let c : Chain = record { first = links.waiting.first; count = (chain_at links.chains to).count + 1 } in
    let same : chain_at (slice_set links.chains to c) lit ≡ chain_at links.chains lit = get_or-set_other links.chains to lit c no_chain ne in
    rw same (linked_set links.nodes (chain_at links.chains lit).first (chain_at links.chains lit).count links.waiting.first w (first_out links l some lit))

pub requeued_waiting : (links : Links) (to : ℕ) → IsLinked links → 0 < links.waiting.count → waiting_of links ≡ links.waiting.first ∷ waiting_of (requeued links to)
requeued_waiting links to l some =
    let w : Watch = record { lit = to; next = (chain_at links.chains to).first } in
    let e = waiting_next links some in
    let once : Once (links.waiting.first ∷ linked links.nodes (watch_at links.nodes links.waiting.first).next (links.waiting.count - 1)) = subst Once e l.waiting_once in
    e ∙ ap (λ t. links.waiting.first ∷ t) (sym (linked_set links.nodes (watch_at links.nodes links.waiting.first).next (links.waiting.count - 1) links.waiting.first w once.0))

-- which watches are in a list then
pub requeued_has : (links : Links) (to lit n : ℕ) → IsLinked links → 0 < links.waiting.count → to < length links.chains → Has n (list_of (requeued links to) lit)
    → ((n ≡ links.waiting.first) × (lit ≡ to)) ⊎ Has n (list_of links lit)
requeued_has links to lit n l some lt h = elim (equal_or lit to) [
  | inl e ↦ elim (subst (λ z. Has n z) (requeued_list links to l some lt) (subst (λ z. Has n (list_of (requeued links to) z)) e h)) [
    | inl q ↦ inl (sym q, e)
    | inr g ↦ inr (subst (λ z. Has n (list_of links z)) (sym e) g)
  ]
  | inr ne ↦ inr (subst (λ z. Has n z) (requeued_other links to lit l some ne) h)
]

pub requeued_keeps : (links : Links) (to lit n : ℕ) → IsLinked links → 0 < links.waiting.count → to < length links.chains → Has n (list_of links lit) → Has n (list_of (requeued links to) lit)
requeued_keeps links to lit n l some lt h = elim (equal_or lit to) [
  | inl e ↦ subst (λ z. Has n (list_of (requeued links to) z)) (sym e) (rw (requeued_list links to l some lt) (inr (subst (λ z. Has n (list_of links z)) e h)))
  | inr ne ↦ rw (requeued_other links to lit l some ne) h
]

pub requeued_waits : (links : Links) (to n : ℕ) → IsLinked links → 0 < links.waiting.count → Has n (waiting_of links) → (n ≡ links.waiting.first) ⊎ Has n (waiting_of (requeued links to))
requeued_waits links to n l some h = elim (subst (λ z. Has n z) (requeued_waiting links to l some) h) [ inl e ↦ inl (sym e) | inr g ↦ inr g ]

pub requeued_waited : (links : Links) (to n : ℕ) → IsLinked links → 0 < links.waiting.count → Has n (waiting_of (requeued links to)) → Has n (waiting_of links)
requeued_waited links to n l some h = rw (requeued_waiting links to l some) (inr h)

pub requeued_here : (links : Links) (to : ℕ) → IsLinked links → 0 < links.waiting.count → (watch_at (requeued links to).nodes links.waiting.first).lit ≡ to
requeued_here links to l some =
    let w : Watch = record { lit = to; next = (chain_at links.chains to).first } in
    ap (λ (z : Watch). z.lit) (get_or-set_same links.nodes links.waiting.first w no_watch (l.waiting_within links.waiting.first (first_waits links some)))

pub requeued_there : (links : Links) (to n : ℕ) → (n ≡ links.waiting.first → ⊥) → (watch_at (requeued links to).nodes n).lit ≡ (watch_at links.nodes n).lit
requeued_there links to n ne =
    let w : Watch = record { lit = to; next = (chain_at links.chains to).first } in
    ap (λ (z : Watch). z.lit) (get_or-set_other links.nodes links.waiting.first n w no_watch ne)

pub requeued_linked : (links : Links) (to : ℕ) → IsLinked links → 0 < links.waiting.count → to < length links.chains → IsLinked (requeued links to)
requeued_linked links to l some lt =
    let size : length (requeued links to).nodes ≡ length links.nodes = length-set links.nodes links.waiting.first (record { lit = to; next = (chain_at links.chains to).first }) in
    let once : Once (links.waiting.first ∷ waiting_of (requeued links to)) = subst Once (requeued_waiting links to l some) l.waiting_once in
    record {
      homes = λ lit n h. elim (requeued_has links to lit n l some lt h) [
        | inl p ↦ rw p.0 (requeued_here links to l some ∙ sym p.1)
        | inr g ↦ requeued_there links to n (λ e. first_out links l some lit (subst (λ z. Has z (list_of links lit)) e g)) ∙ l.homes lit n g
      ];
      within = λ lit n h. elim (requeued_has links to lit n l some lt h) [
        | inl p ↦ rw (p.0, size) (l.waiting_within links.waiting.first (first_waits links some))
        | inr g ↦ rw size (l.within lit n g)
      ];
      once = λ lit. elim (equal_or lit to) [
        | inl e ↦ rw (e, requeued_list links to l some lt) (first_out links l some to, l.once to)
        | inr ne ↦ rw (requeued_other links to lit l some ne) (l.once lit)
      ];
      waiting_within = λ n h. rw size (l.waiting_within n (requeued_waited links to n l some h));
      waiting_once = once.1;
      waiting_alone = λ lit n h g. elim (requeued_has links to lit n l some lt g) [
        | inl p ↦ once.0 (subst (λ z. Has z (waiting_of (requeued links to))) p.0 h)
        | inr k ↦ l.waiting_alone lit n (requeued_waited links to n l some h) k
      ];
    }

pub taken_list : (links : Links) (lit : ℕ) → lit < length links.chains → list_of (taken links lit) lit ≡ []
taken_list links lit lt =
    let e : chain_at (slice_set links.chains lit no_chain) lit ≡ no_chain = get_or-set_same links.chains lit no_chain no_chain lt in
    rw e refl

pub taken_other : (links : Links) (lit other : ℕ) → (other ≡ lit → ⊥) → list_of (taken links lit) other ≡ list_of links other
taken_other links lit other ne =
    let e : chain_at (slice_set links.chains lit no_chain) other ≡ chain_at links.chains other = get_or-set_other links.chains lit other no_chain no_chain ne in
    rw e refl

pub taken_has : (links : Links) (lit other n : ℕ) → lit < length links.chains → Has n (list_of (taken links lit) other) → (other ≡ lit → ⊥) × Has n (list_of links other)
taken_has links lit other n lt h = elim (equal_or other lit) [
  | inl e ↦ absurd (subst (λ z. Has n z) (taken_list links lit lt) (subst (λ z. Has n (list_of (taken links lit) z)) e h))
  | inr ne ↦ (ne, subst (λ z. Has n z) (taken_other links lit other ne) h)
]

pub taken_linked : (links : Links) (lit : ℕ) → IsLinked links → lit < length links.chains → IsLinked (taken links lit)
taken_linked links lit l lt = record {
  homes = λ other n h. l.homes other n (taken_has links lit other n lt h).1;
  within = λ other n h. l.within other n (taken_has links lit other n lt h).1;
  once = λ other. elim (equal_or other lit) [
    | inl e ↦ rw (e, taken_list links lit lt) tt
    | inr ne ↦ rw (taken_other links lit other ne) (l.once other)
  ];
  waiting_within = λ n h. l.within lit n h;
  waiting_once = l.once lit;
  waiting_alone = λ other n h g. let t = taken_has links lit other n lt g in t.0 (sym (l.homes other n t.1) ∙ l.homes lit n h);
}

pub added_list : (links : Links) (lit : ℕ) → IsLinked links → lit < length links.chains → list_of (added links lit) lit ≡ length links.nodes ∷ list_of links lit
added_list links lit l lt =
    let w : Watch = record { lit = lit; next = (chain_at links.chains lit).first } in
    let c : Chain = record { first = length links.nodes; count = (chain_at links.chains lit).count + 1 } in
    let here : chain_at (slice_set links.chains lit c) lit ≡ c = get_or-set_same links.chains lit c no_chain lt in
    rw here (rw (add-one (chain_at links.chains lit).count) (rw (get_end links.nodes w) (ap (λ t. length links.nodes ∷ t) (linked_more links.nodes (chain_at links.chains lit).first (chain_at links.chains lit).count w (λ n h. l.within lit n h)))))

pub added_other : (links : Links) (lit other : ℕ) → IsLinked links → (other ≡ lit → ⊥) → list_of (added links lit) other ≡ list_of links other
added_other links lit other l ne =
    let w : Watch = record { lit = lit; next = (chain_at links.chains lit).first } in
    let c : Chain = record { first = length links.nodes; count = (chain_at links.chains lit).count + 1 } in
    let same : chain_at (slice_set links.chains lit c) other ≡ chain_at links.chains other = get_or-set_other links.chains lit other c no_chain ne in
    rw same (linked_more links.nodes (chain_at links.chains other).first (chain_at links.chains other).count w (λ n h. l.within other n h))

pub added_waiting : (links : Links) (lit : ℕ) → IsLinked links → waiting_of (added links lit) ≡ waiting_of links
added_waiting links lit l = linked_more links.nodes links.waiting.first links.waiting.count (record { lit = lit; next = (chain_at links.chains lit).first }) l.waiting_within

pub added_has : (links : Links) (lit other n : ℕ) → IsLinked links → lit < length links.chains → Has n (list_of (added links lit) other) → ((n ≡ length links.nodes) × (other ≡ lit)) ⊎ Has n (list_of links other)
added_has links lit other n l lt h = elim (equal_or other lit) [
  | inl e ↦ elim (subst (λ z. Has n z) (added_list links lit l lt) (subst (λ z. Has n (list_of (added links lit) z)) e h)) [
    | inl q ↦ inl (sym q, e)
    | inr g ↦ inr (subst (λ z. Has n (list_of links z)) (sym e) g)
  ]
  | inr ne ↦ inr (subst (λ z. Has n z) (added_other links lit other l ne) h)
]

pub added_keeps : (links : Links) (lit other n : ℕ) → IsLinked links → lit < length links.chains → Has n (list_of links other) → Has n (list_of (added links lit) other)
added_keeps links lit other n l lt h = elim (equal_or other lit) [
  | inl e ↦ subst (λ z. Has n (list_of (added links lit) z)) (sym e) (rw (added_list links lit l lt) (inr (subst (λ z. Has n (list_of links z)) e h)))
  | inr ne ↦ rw (added_other links lit other l ne) h
]

pub length-end : (nodes : List Watch) (w : Watch) → length (nodes ++ w ∷ []) ≡ length nodes + 1
length-end [] w = refl
length-end (x ∷ xs) w = ap suc (length-end xs w) ∙ omega arith

pub added_there : (links : Links) (lit n : ℕ) → n < length links.nodes → watch_at (added links lit).nodes n ≡ watch_at links.nodes n
added_there links lit n lt = get_front links.nodes (record { lit = lit; next = (chain_at links.chains lit).first }) n lt

pub added_here : (links : Links) (lit : ℕ) → (watch_at (added links lit).nodes (length links.nodes)).lit ≡ lit
added_here links lit = ap (λ (z : Watch). z.lit) (get_end links.nodes (record { lit = lit; next = (chain_at links.chains lit).first }))

pub added_linked : (links : Links) (lit : ℕ) → IsLinked links → lit < length links.chains → IsLinked (added links lit)
added_linked links lit l lt =
    let size : length (added links lit).nodes ≡ length links.nodes + 1 = length-end links.nodes (record { lit = lit; next = (chain_at links.chains lit).first }) in
    record {
      homes = λ other n h. elim (added_has links lit other n l lt h) [
        | inl p ↦ rw p.0 (added_here links lit ∙ sym p.1)
        | inr g ↦ ap (λ (z : Watch). z.lit) (added_there links lit n (l.within other n g)) ∙ l.homes other n g
      ];
      within = λ other n h. elim (added_has links lit other n l lt h) [
        | inl p ↦ omega (arith, size, p.0)
        | inr g ↦ omega (arith, size, l.within other n g)
      ];
      once = λ other. elim (equal_or other lit) [
        | inl e ↦ rw (e, added_list links lit l lt) ((λ h. omega (arith, l.within lit (length links.nodes) h)), l.once lit)
        | inr ne ↦ rw (added_other links lit other l ne) (l.once other)
      ];
      waiting_within = λ n h. omega (arith, size, l.waiting_within n (subst (λ z. Has n z) (added_waiting links lit l) h));
      waiting_once = rw (added_waiting links lit l) l.waiting_once;
      waiting_alone = λ other n h g.
          let w = subst (λ z. Has n z) (added_waiting links lit l) h in
          elim (added_has links lit other n l lt g) [
            | inl p ↦ let lt = l.waiting_within n w in omega (arith, lt, p.0)
            | inr k ↦ l.waiting_alone other n w k
          ];
    }

pub idle_list : (links : Links) (other : ℕ) → IsLinked links → list_of (idle links) other ≡ list_of links other
idle_list links other l = linked_more links.nodes (chain_at links.chains other).first (chain_at links.chains other).count no_watch (λ n h. l.within other n h)

pub idle_waiting : (links : Links) → IsLinked links → waiting_of (idle links) ≡ waiting_of links
idle_waiting links l = linked_more links.nodes links.waiting.first links.waiting.count no_watch l.waiting_within

pub idle_there : (links : Links) (n : ℕ) → n < length links.nodes → watch_at (idle links).nodes n ≡ watch_at links.nodes n
idle_there links n lt = get_front links.nodes no_watch n lt

pub idle_linked : (links : Links) → IsLinked links → IsLinked (idle links)
idle_linked links l =
    let size : length (idle links).nodes ≡ length links.nodes + 1 = length-end links.nodes no_watch in
    let here : (other n : ℕ) → Has n (list_of (idle links) other) → Has n (list_of links other) = λ other n h. subst (λ z. Has n z) (idle_list links other l) h in
    let waits : (n : ℕ) → Has n (waiting_of (idle links)) → Has n (waiting_of links) = λ n h. subst (λ z. Has n z) (idle_waiting links l) h in
    record {
      homes = λ other n h. ap (λ (z : Watch). z.lit) (idle_there links n (l.within other n (here other n h))) ∙ l.homes other n (here other n h);
      within = λ other n h. omega (arith, size, l.within other n (here other n h));
      once = λ other. rw (idle_list links other l) (l.once other);
      waiting_within = λ n h. omega (arith, size, l.waiting_within n (waits n h));
      waiting_once = rw (idle_waiting links l) l.waiting_once;
      waiting_alone = λ other n h g. l.waiting_alone other n (waits n h) (here other n g);
    }

no_list : (k lit : ℕ) → list_of (record { nodes = []; chains = replicate k no_chain; waiting = no_chain }) lit ≡ []
no_list k lit = let e : chain_at (replicate k no_chain) lit ≡ no_chain = none k lit in rw e refl
  where
    none : (k n : ℕ) → chain_at (replicate k no_chain) n ≡ no_chain
    none zero n = refl
    none (suc k) zero = refl
    none (suc k) (suc n) = none k n

pub new_linked : (k : ℕ) → IsLinked (record { nodes = []; chains = replicate k no_chain; waiting = no_chain })
new_linked k = record {
  homes = λ lit n h. absurd (subst (λ z. Has n z) (no_list k lit) h);
  within = λ lit n h. absurd (subst (λ z. Has n z) (no_list k lit) h);
  once = λ lit. rw (no_list k lit) tt;
  waiting_within = λ n h. absurd h;
  waiting_once = tt;
  waiting_alone = λ lit n h g. absurd h;
}

-- the count of a list is that of watches at most
pub count_few : (links : Links) (lit : ℕ) → IsLinked links → (chain_at links.chains lit).count ≤ length links.nodes
count_few links lit l =
    let few = once_few (length links.nodes) (list_of links lit) (l.once lit) (l.within lit) in
    omega (arith, few, length-linked links.nodes (chain_at links.chains lit).first (chain_at links.chains lit).count)

pub count_added : (links : Links) (lit other : ℕ) → IsLinked links → lit < length links.chains → (chain_at (added links lit).chains other).count ≤ length links.nodes + 1
count_added links lit other l lt =
    let few = count_few (added links lit) other (added_linked links lit l lt) in
    omega (arith, few, length-end links.nodes (record { lit = lit; next = (chain_at links.chains lit).first }))

pub room_first : (links : Links) (lit : ℕ) → IsLinked links → 0 < links.waiting.count → (chain_at links.chains lit).count + 1 ≤ length links.nodes
room_first links lit l some = room_for links lit links.waiting.first l (l.waiting_within links.waiting.first (first_waits links some)) (first_out links l some lit)
