-- An expression holds alike under two assignments that agree at the flags that it mentions.
use Rattle.std.proofs.Common.{◌≡◌, ℕ, Bool, true, false, ◌&&◌, ◌||◌, not, if◌then◌else◌, List, [], ◌∷◌, ◌++◌, map, filter, refl, sym, ap, subst, ◌∙◌, append-nil}
use Rattle.std.proofs.Math.Path.{fun_ext}
use Rattle.std.proofs.lemmas.Bool.{false≢true}
use Rattle.std.proofs.lemmas.Cmp.{nat_list_eq_equiv}
use Rattle.std.proofs.lemmas.List.Folds.{list_any-append}
use Rattle.std.specs.List.{list_any, list_all, AllByRecursion}
use Rattle.std.specs.Str.{bytes_eq}
use Rattle.gv_base.specs.Order.{has_text}
use Rattle.gv_atom.specs.declared.atom.Atom.{Atom}
use Rattle.gv_atom.specs.declared.atom.Block.{Block}
use Rattle.gv_atom.specs.declared.atom.Block.TheVariants.{No, Weak, Strong}
use Rattle.gv_atom.specs.declared.items.Ask.{Ask}
use Rattle.gv_atom.specs.declared.items.Ask.TheVariants as asks
use Rattle.gv_atom.specs.declared.items.UseItem.{UseItem}
use Rattle.gv_atom.specs.Items.{asked, asks_parent, is_blocker}
use Rattle.gv_expr.specs.Dep.{Dep, Deps, deps, leaf, all, any, when, end, more}
use Rattle.gv_expr.specs.Mentions.{dep_mentions, item_mentions, req_mentions}
use Rattle.gv_expr.specs.Required as req
use Rattle.gv_expr.specs.Required.{Req, Reqs}
use Rattle.gv_facts.specs.declared.kinds.FlagState.{FlagState}
use Rattle.gv_facts.specs.declared.kinds.Level.{Level}
use Rattle.gv_facts.specs.declared.pkg.Pkg.{Pkg}
use Rattle.gv_facts.specs.declared.profile.Profile.{Profile}
use Rattle.gv_facts.specs.AtomMet.{atom_met, gives, item_given, items_met, may_be, meets, serves}
use Rattle.gv_facts.specs.States.{state}
use Rattle.gv_facts.specs.Visible.{matches_pkg, visible}
use Rattle.gv_entry.specs.Allowed.{Parent, item_holds}
use Rattle.gv_entry.specs.Laws.{Agree, MentionsLaw}
use Rattle.gv_entry.specs.Holds.{empty_holds, is_met, any_of, one_of, most_of, is_dep_member, dep_holds, deps_hold, dep_members, is_req_member, req_holds, reqs_hold, req_members}

-- Flags in lists.
pub or_here : (a b : Bool) → a ≡ true → (a || b) ≡ true
or_here true b h = refl
or_here false b h = absurd (false≢true h)

or_there : (a b : Bool) → b ≡ true → (a || b) ≡ true
or_there true b h = refl
or_there false b h = h

has_front : (xs ys : List (List ℕ)) (flag : List ℕ) → has_text xs flag ≡ true → has_text (xs ++ ys) flag ≡ true
has_front xs ys flag h = list_any-append (bytes_eq flag) xs ys ∙ or_here (has_text xs flag) (has_text ys flag) h

has_behind : (xs ys : List (List ℕ)) (flag : List ℕ) → has_text ys flag ≡ true → has_text (xs ++ ys) flag ≡ true
has_behind xs ys flag h = list_any-append (bytes_eq flag) xs ys ∙ or_there (has_text xs flag) (has_text ys flag) h

-- Two assignments agree at flags that are mentioned. An expression holds alike under them.
module _ (on other : List ℕ → Bool) where
  abbrev Same : List (List ℕ) → Type 0
  Same mentions = Agree on other mentions

  pub agree_front : (xs ys : List (List ℕ)) → Same (xs ++ ys) → Same xs
  agree_front xs ys same = λ flag h. same flag (has_front xs ys flag h)

  pub agree_behind : (xs ys : List (List ℕ)) → Same (xs ++ ys) → Same ys
  agree_behind xs ys same = λ flag h. same flag (has_behind xs ys flag h)

  agree_first : (flag : List ℕ) (fs : List (List ℕ)) → Same (flag ∷ fs) → on flag ≡ other flag
  agree_first flag fs same = same flag (or_here (bytes_eq flag flag) (has_text fs flag) (nat_list_eq_equiv.refl flag))

  agree_rest : (flag : List ℕ) (fs : List (List ℕ)) → Same (flag ∷ fs) → Same fs
  agree_rest flag fs same = λ f h. same f (or_there (bytes_eq f flag) (has_text fs f) h)

  -- a tree before others
  both_alike : (a b x y : Bool) → a ≡ b → x ≡ y → (a && x) ≡ (b && y)
  both_alike a b x y e k = ap (λ z. z && x) e ∙ ap (λ z. b && z) k

  tree_alike : (negated a b x y : Bool) → a ≡ b → x ≡ y → (not (is_met negated a) || x) ≡ (not (is_met negated b) || y)
  tree_alike negated a b x y e k = ap (λ z. not (is_met negated z) || x) e ∙ ap (λ z. not (is_met negated b) || z) k

  member_alike : (a b x y : Bool) (xs ys : List Bool) → a ≡ b → x ≡ y → xs ≡ ys → (if a then x ∷ xs else xs) ≡ (if b then y ∷ ys else ys)
  member_alike a b x y xs ys e k h = ap (λ z. if z then x ∷ xs else xs) e ∙ ap (λ z. if b then z ∷ xs else xs) k ∙ ap (λ zs. if b then y ∷ zs else zs) h

  -- an atom that asks for flags of the parent, by its items
  abbrev AskAlike : UseItem → Type 0
  AskAlike i = asked i.ask (on i.flag) ≡ asked i.ask (other i.flag)

  ask_alike : (i : UseItem) → (asks_parent i.ask ≡ true → on i.flag ≡ other i.flag) → AskAlike i
  ask_alike i same = by i.ask same
    where
      by : (ask : Ask) → (asks_parent ask ≡ true → on i.flag ≡ other i.flag) → asked ask (on i.flag) ≡ asked ask (other i.flag)
      by asks.On s = refl
      by asks.Off s = refl
      by asks.Same s = ap (asked asks.Same) (s refl)
      by asks.Opposite s = ap (asked asks.Opposite) (s refl)
      by asks.OnIf s = ap (asked asks.OnIf) (s refl)
      by asks.OffIfNot s = ap (asked asks.OffIfNot) (s refl)

  asks_alike : (items : List UseItem) → Same (map (λ i. i.flag) (filter (λ i. asks_parent i.ask) items)) → AllByRecursion AskAlike items
  asks_alike [] same = tt
  asks_alike (i ∷ items) same = by (asks_parent i.ask) refl (asks_alike items)
    where
      by : (b : Bool) → asks_parent i.ask ≡ b → (Same (map (λ j. j.flag) (filter (λ j. asks_parent j.ask) items)) → AllByRecursion AskAlike items)
          → AskAlike i × AllByRecursion AskAlike items
      by true e later =
          let all_same : Same (i.flag ∷ map (λ j. j.flag) (filter (λ j. asks_parent j.ask) items)) = rw e at same in
          (ask_alike i (λ h. agree_first i.flag (map (λ j. j.flag) (filter (λ j. asks_parent j.ask) items)) all_same), later (agree_rest i.flag (map (λ j. j.flag) (filter (λ j. asks_parent j.ask) items)) all_same))
      by false e later = (ask_alike i (λ h. absurd (false≢true (sym e ∙ h))), later (rw e at same))

  given_alike : (flag_state : FlagState) (bit : Bool) (flag : List ℕ) (items : List UseItem) → AllByRecursion AskAlike items
      → list_all (λ i. not (bytes_eq i.flag flag) || item_given flag_state bit on i) items ≡ list_all (λ i. not (bytes_eq i.flag flag) || item_given flag_state bit other i) items
  given_alike flag_state bit flag [] same = refl
  given_alike flag_state bit flag (i ∷ items) same =
      ap (λ a. (not (bytes_eq i.flag flag) || gives flag_state i.missing bit a) && list_all (λ j. not (bytes_eq j.flag flag) || item_given flag_state bit on j) items) same.0
      ∙ ap (λ b. (not (bytes_eq i.flag flag) || item_given flag_state bit other i) && b) (given_alike flag_state bit flag items same.1)

  items_alike : (states : List ℕ → FlagState) (items : List UseItem) → AllByRecursion AskAlike items → items_met states on items ≡ items_met states other items
  items_alike states items same = ap (λ test. list_all test items) (fun_ext each)
    where
      served : (flag : List ℕ) (bit : Bool) → serves states on items flag bit ≡ serves states other items flag bit
      served flag bit = ap (λ b. may_be (states flag) bit && b) (given_alike (states flag) bit flag items same)

      each : (i : UseItem) → (serves states on items i.flag false || serves states on items i.flag true) ≡ (serves states other items i.flag false || serves states other items i.flag true)
      each i = ap (λ b. b || serves states on items i.flag true) (served i.flag false) ∙ ap (λ b. serves states other items i.flag false || b) (served i.flag true)

  atom_alike : (among : List Pkg) (profile : Profile) (level : Level) (a : Atom) → Same (item_mentions a.block a.items)
      → atom_met among profile level on a ≡ atom_met among profile level other a
  atom_alike among profile level a same = by a.block same
    where
      by : (block : Block) → Same (item_mentions block a.items)
          → (is_blocker block || list_any (meets profile level on a) among) ≡ (is_blocker block || list_any (meets profile level other a) among)
      by No s = ap (λ test. list_any test among) (fun_ext (λ p. ap (λ b. (visible p profile level && matches_pkg a p) && b) (items_alike (state p profile level) a.items (asks_alike a.items s))))
      by Weak s = refl
      by Strong s = refl

  module _ (among : List Pkg) (profile : Profile) (level : Level) where
    abbrev met_on : Atom → Bool
    met_on = atom_met among profile level on

    abbrev met_other : Atom → Bool
    met_other = atom_met among profile level other

    -- what is shown of dependencies: as an all-of, and as the members of a group
    abbrev DepsAlike : Bool → Deps → Type 0
    DepsAlike empty ts = (deps_hold ts met_on on empty ≡ deps_hold ts met_other other empty) × (dep_members ts met_on on empty ≡ dep_members ts met_other other empty)

    dep_more : (empty : Bool) (t : Dep) (rest : Deps) → is_dep_member t on ≡ is_dep_member t other → dep_holds t met_on on empty ≡ dep_holds t met_other other empty
        → DepsAlike empty rest → DepsAlike empty (more t rest)
    dep_more empty t rest member holds behind = (
      both_alike (dep_holds t met_on on empty) (dep_holds t met_other other empty) (deps_hold rest met_on on empty) (deps_hold rest met_other other empty) holds behind.0,
      member_alike (is_dep_member t on) (is_dep_member t other) (dep_holds t met_on on empty) (dep_holds t met_other other empty) (dep_members rest met_on on empty) (dep_members rest met_other other empty) member holds behind.1,
    )

    pub deps_alike : (empty : Bool) (ts : Deps) → Same (dep_mentions ts) → DepsAlike empty ts
    deps_alike empty end same = (refl, refl)
    deps_alike empty (more (leaf atom) rest) same =
        dep_more empty (leaf atom) rest refl (atom_alike among profile level atom (agree_front (item_mentions atom.block atom.items) (dep_mentions rest) same)) (deps_alike empty rest (agree_behind (item_mentions atom.block atom.items) (dep_mentions rest) same))
    deps_alike empty (more (all items) rest) same =
        dep_more empty (all items) rest refl (deps_alike empty items (agree_front (dep_mentions items) (dep_mentions rest) same)).0
        (deps_alike empty rest (agree_behind (dep_mentions items) (dep_mentions rest) same))
    deps_alike empty (more (any items) rest) same =
        dep_more empty (any items) rest refl (ap (any_of empty) (deps_alike empty items (agree_front (dep_mentions items) (dep_mentions rest) same)).1)
        (deps_alike empty rest (agree_behind (dep_mentions items) (dep_mentions rest) same))
    deps_alike empty (more (when flag negated items) rest) same =
        let first = agree_first flag (dep_mentions items ++ dep_mentions rest) same in
        let others = agree_rest flag (dep_mentions items ++ dep_mentions rest) same in
        dep_more empty (when flag negated items) rest (ap (is_met negated) first)
        (tree_alike negated (on flag) (other flag) (deps_hold items met_on on empty) (deps_hold items met_other other empty) first
        (deps_alike empty items (agree_front (dep_mentions items) (dep_mentions rest) others)).0)
        (deps_alike empty rest (agree_behind (dep_mentions items) (dep_mentions rest) others))

  -- the same of REQUIRED_USE
  abbrev ReqsAlike : Bool → Reqs → Type 0
  ReqsAlike empty ts = (reqs_hold ts on empty ≡ reqs_hold ts other empty) × (req_members ts on empty ≡ req_members ts other empty)

  req_more : (empty : Bool) (t : Req) (rest : Reqs) → is_req_member t on ≡ is_req_member t other → req_holds t on empty ≡ req_holds t other empty
      → ReqsAlike empty rest → ReqsAlike empty (req.more t rest)
  req_more empty t rest member holds behind = (
    both_alike (req_holds t on empty) (req_holds t other empty) (reqs_hold rest on empty) (reqs_hold rest other empty) holds behind.0,
    member_alike (is_req_member t on) (is_req_member t other) (req_holds t on empty) (req_holds t other empty) (req_members rest on empty) (req_members rest other empty) member holds behind.1,
  )

  pub reqs_alike : (empty : Bool) (ts : Reqs) → Same (req_mentions ts) → ReqsAlike empty ts
  reqs_alike empty req.end same = (refl, refl)
  reqs_alike empty (req.more (req.leaf flag negated) rest) same =
      req_more empty (req.leaf flag negated) rest refl (ap (is_met negated) (agree_first flag (req_mentions rest) same))
      (reqs_alike empty rest (agree_rest flag (req_mentions rest) same))
  reqs_alike empty (req.more (req.all items) rest) same =
      req_more empty (req.all items) rest refl (reqs_alike empty items (agree_front (req_mentions items) (req_mentions rest) same)).0
      (reqs_alike empty rest (agree_behind (req_mentions items) (req_mentions rest) same))
  reqs_alike empty (req.more (req.any items) rest) same =
      req_more empty (req.any items) rest refl (ap (any_of empty) (reqs_alike empty items (agree_front (req_mentions items) (req_mentions rest) same)).1)
      (reqs_alike empty rest (agree_behind (req_mentions items) (req_mentions rest) same))
  reqs_alike empty (req.more (req.one items) rest) same =
      req_more empty (req.one items) rest refl (ap (one_of empty) (reqs_alike empty items (agree_front (req_mentions items) (req_mentions rest) same)).1)
      (reqs_alike empty rest (agree_behind (req_mentions items) (req_mentions rest) same))
  reqs_alike empty (req.more (req.most items) rest) same =
      req_more empty (req.most items) rest refl (ap most_of (reqs_alike empty items (agree_front (req_mentions items) (req_mentions rest) same)).1)
      (reqs_alike empty rest (agree_behind (req_mentions items) (req_mentions rest) same))
  reqs_alike empty (req.more (req.when flag negated items) rest) same =
      let first = agree_first flag (req_mentions items ++ req_mentions rest) same in
      let others = agree_rest flag (req_mentions items ++ req_mentions rest) same in
      req_more empty (req.when flag negated items) rest (ap (is_met negated) first)
      (tree_alike negated (on flag) (other flag) (reqs_hold items on empty) (reqs_hold items other empty) first
      (reqs_alike empty items (agree_front (req_mentions items) (req_mentions rest) others)).0)
      (reqs_alike empty rest (agree_behind (req_mentions items) (req_mentions rest) others))

-- the first tree's mentions, and the others'
mentions_split : (t : Dep) (rest : Deps) → dep_mentions (more t rest) ≡ dep_mentions (more t end) ++ dep_mentions rest
mentions_split (leaf atom) rest = ap (λ xs. xs ++ dep_mentions rest) (sym (append-nil (item_mentions atom.block atom.items)))
mentions_split (all items) rest = ap (λ xs. xs ++ dep_mentions rest) (sym (append-nil (dep_mentions items)))
mentions_split (any items) rest = ap (λ xs. xs ++ dep_mentions rest) (sym (append-nil (dep_mentions items)))
mentions_split (when flag negated items) rest = ap (λ xs. flag ∷ (xs ++ dep_mentions rest)) (sym (append-nil (dep_mentions items)))

and_on : (b : Bool) → (b && true) ≡ b
and_on true = refl
and_on false = refl

module _ (c : Parent) (on other : List ℕ → Bool) where
  item_alike : (t : Dep) → Agree on other (dep_mentions (more t end)) → item_holds c on t ≡ item_holds c other t
  item_alike t same =
      sym (and_on (item_holds c on t)) ∙ ((deps_alike on other c.among c.profile c.level (empty_holds c.pkg.eapi) (more t end) same).0 ∙ and_on (item_holds c other t))

  items_same : (ts : List Dep) → Agree on other (dep_mentions (deps ts)) → map (item_holds c on) ts ≡ map (item_holds c other) ts
  items_same [] same = refl
  items_same (t ∷ ts) same =
      let split = subst (Agree on other) (mentions_split t (deps ts)) same in
      ap (λ b. b ∷ map (item_holds c on) ts) (item_alike t (agree_front on other (dep_mentions (more t end)) (dep_mentions (deps ts)) split))
      ∙ ap (λ bs. item_holds c other t ∷ bs) (items_same ts (agree_behind on other (dep_mentions (more t end)) (dep_mentions (deps ts)) split))

pub depends_on_mentions : MentionsLaw
depends_on_mentions = record {
  required = λ on other empty ts same. (reqs_alike on other empty ts same).0;
  class = λ on other among profile level empty ts same. (deps_alike on other among profile level empty ts same).0;
  items = λ c class on other same. items_same c on other class same;
}
