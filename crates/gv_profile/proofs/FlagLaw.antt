-- The last rule that decides on a flag counts.
use Rattle.std.proofs.Common.{◌≡◌, ℕ, List, [], ◌∷◌, ◌++◌, Bool, true, false, refl, ap, ◌∙◌}
use Rattle.std.specs.Prelude.{codes, fold, if◌then◌else◌}
use Rattle.std.specs.List.{list_any}
use Rattle.std.proofs.lemmas.List.Sums.{fold-append}
use Rattle.std.proofs.lemmas.Slice.Eq.{bytes_eq-Decides}
use Rattle.gv_facts.specs.declared.kinds.Level.{Level}
use Rattle.gv_facts.specs.declared.pkg.Pkg.{Pkg}
use Rattle.gv_facts.specs.declared.profile.Profile.{Profile}
use Rattle.gv_facts.specs.declared.rules.Effect.{Effect}
use Rattle.gv_facts.specs.declared.rules.Effect.TheVariants.{Force, Mask}
use Rattle.gv_facts.specs.declared.rules.Rule.{Rule}
use Rattle.gv_facts.specs.States.{is_same}
use Rattle.gv_profile.specs.Laws.{decides, LastDecides, IsUndone}
use Rattle.gv_profile.specs.FlagRules.{rule_of}

-- what a rule makes of what the rules in front of it say
abbrev decided : Effect → Pkg → Profile → Level → List ℕ → Bool → Rule → Bool
decided effect p profile level flag on r = if decides effect p profile level flag r then r.on else on

-- rules that don't decide change nothing
none_decides : (effect : Effect) (p : Pkg) (profile : Profile) (level : Level) (flag : List ℕ) (on : Bool) (rules : List Rule) →
    list_any (decides effect p profile level flag) rules ≡ false → fold (decided effect p profile level flag) on rules ≡ on
none_decides effect p profile level flag on [] none = refl
none_decides effect p profile level flag on (r ∷ rs) none = at (decides effect p profile level flag r) refl (none_decides effect p profile level flag on rs)
  where
    at : (b : Bool) → decides effect p profile level flag r ≡ b →
        (list_any (decides effect p profile level flag) rs ≡ false → fold (decided effect p profile level flag) on rs ≡ on) → fold (decided effect p profile level flag) on (r ∷ rs) ≡ on
    at true is rest = cc
    at false is rest = rw is (rest (rw is at none))

pub last_decides : LastDecides
last_decides effect p profile level flag front r back rules is none =
    ap (fold (decided effect p profile level flag) false) rules
    ∙ fold-append (decided effect p profile level flag) false front (r ∷ back)
    ∙ ap (λ b. fold (decided effect p profile level flag) (if b then r.on else fold (decided effect p profile level flag) false front) back) is
    ∙ none_decides effect p profile level flag r.on back none

same : (effect : Effect) → is_same effect effect ≡ true
same Force = refl
same Mask = refl

pub undone : IsUndone
undone file atom p profile level flag front back rules applied none =
    let r = rule_of file atom (codes "-" ++ flag) in
    let is : decides file.effect p profile level flag r ≡ true = rw (same file.effect, (bytes_eq-Decides flag flag).1 refl, applied) refl in
    last_decides file.effect p profile level flag front r back rules is none
