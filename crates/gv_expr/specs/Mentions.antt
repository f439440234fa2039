-- The parent's flags that an expression mentions, and its atoms.
use Rattle.std.specs.Prelude.{ℕ, List, [], ◌∷◌, ◌++◌, map, filter}
use Rattle.std.specs.Borrow.{Bor}
use Rattle.gv_base.specs.Order.{in_order}
use Rattle.gv_atom.specs.declared.atom.Atom.{Atom}
use Rattle.gv_atom.specs.declared.atom.Block.{Block}
use Rattle.gv_atom.specs.declared.atom.Block.TheVariants.{No}
use Rattle.gv_atom.specs.declared.items.UseItem.{UseItem}
use Rattle.gv_atom.specs.Items.{asks_parent}
use Rattle.gv_expr.specs.Dep as dep
use Rattle.gv_expr.specs.Dep.{Deps}
use Rattle.gv_expr.specs.Required as req
use Rattle.gv_expr.specs.Required.{Reqs}

-- a blocker mentions no flag
abbrev pub item_mentions : Block → List UseItem → List (List ℕ)
item_mentions No items = map (λ i. i.flag) (filter (λ i. asks_parent i.ask) items)
item_mentions block items = []

-- in the order in which they stand, with repeats
abbrev pub dep_mentions : Deps → List (List ℕ)
dep_mentions dep.end = []
dep_mentions (dep.more (dep.leaf atom) rest) = item_mentions atom.block atom.items ++ dep_mentions rest
dep_mentions (dep.more (dep.all items) rest) = dep_mentions items ++ dep_mentions rest
dep_mentions (dep.more (dep.any items) rest) = dep_mentions items ++ dep_mentions rest
dep_mentions (dep.more (dep.when flag negated items) rest) = flag ∷ (dep_mentions items ++ dep_mentions rest)

abbrev pub req_mentions : Reqs → List (List ℕ)
req_mentions req.end = []
req_mentions (req.more (req.leaf flag negated) rest) = flag ∷ req_mentions rest
req_mentions (req.more (req.all items) rest) = req_mentions items ++ req_mentions rest
req_mentions (req.more (req.any items) rest) = req_mentions items ++ req_mentions rest
req_mentions (req.more (req.one items) rest) = req_mentions items ++ req_mentions rest
req_mentions (req.more (req.most items) rest) = req_mentions items ++ req_mentions rest
req_mentions (req.more (req.when flag negated items) rest) = flag ∷ (req_mentions items ++ req_mentions rest)

-- in byte order, each once
abbrev pub mentioned_dep : Deps → List (List ℕ)
mentioned_dep ts = in_order (dep_mentions ts)

abbrev pub mentioned_required : Reqs → List (List ℕ)
mentioned_required ts = in_order (req_mentions ts)

-- the atoms that are no blockers, from left to right
abbrev pub with_atom : Atom → Block → List Atom → List Atom
with_atom atom No atoms = atom ∷ atoms
with_atom atom block atoms = atoms

abbrev pub wanted_atoms : Deps → List Atom
wanted_atoms dep.end = []
wanted_atoms (dep.more (dep.leaf atom) rest) = with_atom atom atom.block (wanted_atoms rest)
wanted_atoms (dep.more (dep.all items) rest) = wanted_atoms items ++ wanted_atoms rest
wanted_atoms (dep.more (dep.any items) rest) = wanted_atoms items ++ wanted_atoms rest
wanted_atoms (dep.more (dep.when flag negated items) rest) = wanted_atoms items ++ wanted_atoms rest

-- borrowed texts
abbrev pub texts_of : List (Bor (List ℕ)) → List (List ℕ)
texts_of texts = map (λ (t : Bor (List ℕ)). t.now) texts
