-- The plan of an atom, from what its items ask of each flag.
use Rattle.std.proofs.Common.{◌≡◌, ℕ, ◌&&◌, if◌then◌else◌, List, [], ◌∷◌, map, filter, refl, sym, ap, ◌∙◌, subst}
use Rattle.std.proofs.Math.Path.{fun_ext}
use Rattle.std.proofs.Math.Bool.{and_comm}
use Rattle.gv_atom.specs.declared.atom.Atom.{Atom}
use Rattle.gv_atom.specs.declared.atom.Block.TheVariants.{No}
use Rattle.gv_atom.specs.declared.items.UseItem.{UseItem}
use Rattle.gv_atom.specs.Items.{is_blocker}
use Rattle.gv_facts.specs.declared.kinds.FlagState.{FlagState}
use Rattle.gv_facts.specs.declared.kinds.Level.{Level}
use Rattle.gv_facts.specs.declared.pkg.Pkg.{Pkg}
use Rattle.gv_facts.specs.declared.profile.Profile.{Profile}
use Rattle.gv_facts.specs.States.{state}
use Rattle.gv_facts.specs.Visible.{matches_pkg, visible}
use Rattle.gv_entry.specs.Weight.{candidates}
use Rattle.gv_logic.specs.declared.gates.Op.TheVariants.{Or}
use Rattle.gv_logic.specs.Circuits.{Draft}
use Rattle.gv_lower.specs.Around.{parent_of, wanted_plan}
use Rattle.gv_lower.specs.Asks.{FlagAsks, ask_of, ask_plan, asks_of, asks_plan}
use Rattle.gv_lower.specs.AtomGates.{atom_plan, first_named, items_plan}
use Rattle.gv_lower.specs.Drawn.{Drew}
use Rattle.gv_lower.specs.Groups.{all_of}
use Rattle.gv_lower.specs.Plans.{built_on, gate_over, given}
use Rattle.gv_lower.specs.TreeGates.{Base}
use Rattle.gv_visible.specs.VisiblePkgs.{shows}
use Rattle.gv_visible.specs.Candidates.{Candidates, level_of, pkgs_of, profile_of}

map_twice : {A B C : Type 0} (f : A → B) (g : B → C) (xs : List A) → map g (map f xs) ≡ map (λ x. g (f x)) xs
map_twice f g [] = refl
map_twice f g (x ∷ xs) = ap (λ ys. g (f x) ∷ ys) (map_twice f g xs)

asks_are : (base : Base) (states : List ℕ → FlagState) (items : List UseItem) → asks_plan states (asks_of base items) ≡ items_plan base states items
asks_are base states items = ap (built_on all_of) (map_twice (ask_of base items) (ask_plan states) (first_named [] items))

shown_first : (profile : Profile) (level : Level) (a : Atom) → shows profile level a ≡ (λ p. visible p profile level && matches_pkg a p)
shown_first profile level a = fun_ext (λ p. and_comm (matches_pkg a p) (visible p profile level))

pub drew_wanted : {F : Type 0} (cands : Candidates F) (pkg : Pkg) (base : Base) (atom : Atom) (asks : List FlagAsks) (old new : Draft) (lit : ℕ)
    → atom.block ≡ No → asks ≡ asks_of base atom.items → Drew (wanted_plan cands atom asks) old new lit → Drew (atom_plan (parent_of cands pkg) base atom) old new lit
drew_wanted cands pkg base atom asks old new lit block is drew =
    let states : Pkg → List ℕ → FlagState = λ p. state p (profile_of cands) (level_of cands) in
    let plans : map (λ p. asks_plan (state p (profile_of cands) (level_of cands)) asks) (filter (shows (profile_of cands) (level_of cands) atom) (pkgs_of cands))
    ≡ map (λ p. items_plan base (state p (profile_of cands) (level_of cands)) atom.items) (candidates (parent_of cands pkg) atom) =
    ap (λ xs. map (λ p. asks_plan (state p (profile_of cands) (level_of cands)) xs) (filter (shows (profile_of cands) (level_of cands) atom) (pkgs_of cands))) is
    ∙ (ap (λ f. map f (filter (shows (profile_of cands) (level_of cands) atom) (pkgs_of cands))) (fun_ext (λ p. asks_are base (state p (profile_of cands) (level_of cands)) atom.items))
    ∙ ap (λ t. map (λ p. items_plan base (state p (profile_of cands) (level_of cands)) atom.items) (filter t (pkgs_of cands))) (shown_first (profile_of cands) (level_of cands) atom)) in
    let there : Drew (built_on (gate_over Or) (map (λ p. items_plan base (state p (profile_of cands) (level_of cands)) atom.items) (candidates (parent_of cands pkg) atom))) old new lit =
    subst (λ ps. Drew (built_on (gate_over Or) ps) old new lit) plans drew in
    subst (λ b. Drew (if is_blocker b then given base.on else built_on (gate_over Or) (map (λ p. items_plan base (state p (profile_of cands) (level_of cands)) atom.items) (candidates (parent_of cands pkg) atom))) old new lit) (sym block) there
