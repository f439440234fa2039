-- The walk, by its reading and its stacks.
use Rattle.std.proofs.Common.{◌≡◌, ◌∷◌, [], ◌++◌, ℕ, List, Bool, true, false, Some, None, refl, sym, ap, subst, ◌∙◌}
use Rattle.std.specs.Prelude.{if◌then◌else◌, Option, IfSome, IfOk, IfErr, OnOk, Result, Ok, Err, map}
use Rattle.std.specs.Result.{IsErrAnd}
use Rattle.gv_base.specs.FileMap.{FileMap}
use Rattle.gv_facts.specs.declared.profile.Profile.{Profile}
use Rattle.gv_reading.specs.declared.faults.LoadFault.{LoadFault}
use Rattle.gv_reading.specs.declared.faults.LoadFault.TheVariants.{Tree, NotARepository, Limit, NoMemory}
use Rattle.gv_usedefaults.specs.declared.file_kinds.LineFile.{LineFile}
use Rattle.gv_usedefaults.specs.LineFiles.{LinesCause, reading_lines}
use Rattle.gv_reading.specs.Look.{Look, look_of}
use Rattle.gv_load.specs.Paths.{stack_place}
use Rattle.gv_load.specs.StackLimits.{LimitIs}
use Rattle.gv_profile.specs.Walking.{most_visits}
use Rattle.gv_usedefaults.specs.declared.walk.Walk.{Walk}
use Rattle.gv_usedefaults.specs.Stacks.{is_long, unless_long}
use Rattle.gv_usedefaults.specs.Walk.{WalkCause, and_stacked, dir_of, dirs_of, first_long, stack_of, stacked, starts_of, unless_at, walk_with, walking}

-- ---- one stack
pub is_short : (stack dirs : List (List ℕ)) → Some dirs ≡ unless_long stack → is_long stack ≡ false
is_short stack dirs is = by (is_long stack) refl
  where
    by : (b : Bool) → is_long stack ≡ b → is_long stack ≡ false
    by true long = absurd (let no : Some dirs ≡ None = is ∙ rw long refl in cc)
    by false short = short

pub same_stack : (stack dirs : List (List ℕ)) → Some dirs ≡ unless_long stack → dirs ≡ stack
same_stack stack dirs is = by (is_long stack) refl
  where
    by : (b : Bool) → is_long stack ≡ b → dirs ≡ stack
    by true long = absurd (let no : Some dirs ≡ None = is ∙ rw long refl in cc)
    by false short = let yes : Some dirs ≡ Some stack = is ∙ rw short refl in cc

pub too_long : (stack : List (List ℕ)) → None ≡ unless_long stack → is_long stack ≡ true
too_long stack is = by (is_long stack) refl
  where
    by : (b : Bool) → is_long stack ≡ b → is_long stack ≡ true
    by true long = long
    by false short = absurd (let no : None ≡ Some stack = is ∙ rw short refl in cc)

module _ (files : List LineFile) where
  pub long_first : (p : Profile) (fault : LoadFault) → None ≡ unless_long (dirs_of files (dir_of p)) → LimitIs (Some (stack_place p.path)) fault → LimitIs (first_long files (p ∷ [])) fault
  long_first p fault is limit = subst (λ (o : Option (List ℕ)). LimitIs o fault) (sym (rw (too_long (dirs_of files (dir_of p)) is) refl)) limit

  -- behind profiles whose stacks are short
  pub long_next : (p : Profile) (ps : List Profile) (fault : LoadFault) → LimitIs (first_long files (p ∷ [])) fault → LimitIs (first_long files (p ∷ ps)) fault
  long_next p ps fault limit = by (is_long (dirs_of files (dir_of p))) limit
    where
      none : (f : LoadFault) → LimitIs None f → LimitIs (first_long files ps) f
      none NoMemory limit = tt
      none (Limit place number) limit = absurd (let no : None ≡ Some place = limit.0 in cc)
      none (Tree path) limit = absurd limit
      none (NotARepository path) limit = absurd limit

      by : (b : Bool) → LimitIs (if b then Some (stack_place p.path) else None) fault → LimitIs (if b then Some (stack_place p.path) else first_long files ps) fault
      by true limit = limit
      by false limit = none fault limit

  pub short_next : (p : Profile) (ps : List Profile) → is_long (dirs_of files (dir_of p)) ≡ false → first_long files (p ∷ ps) ≡ first_long files ps
  short_next p ps short = rw short refl

-- ---- the whole
all_walked : (look : Look) (ps : List Profile) (files : List LineFile) (walk : Walk) → reading_lines look (starts_of ps) ≡ Ok files → first_long files ps ≡ None → walk ≡ walk_with files ps → walking look ps ≡ Ok walk
unfolding walking
all_walked look ps files walk read short is =
    ap (λ (r : Result (List LineFile) LoadFault). and_stacked r ps) read ∙ ap (λ (o : Option (List ℕ)). unless_at o (walk_with files ps)) short
    ∙ ap (λ (w : Walk). let r : Result Walk LoadFault = Ok w in r) (sym is)

not_read : (look : Look) (ps : List Profile) (fault : LoadFault) → reading_lines look (starts_of ps) ≡ Err fault → walking look ps ≡ Err fault
unfolding walking
not_read look ps fault is = ap (λ (r : Result (List LineFile) LoadFault). and_stacked r ps) is

not_stacked : (look : Look) (ps : List Profile) (files : List LineFile) (place : List ℕ) → reading_lines look (starts_of ps) ≡ Ok files → first_long files ps ≡ Some place → walking look ps ≡ Err (Limit place most_visits)
unfolding walking
not_stacked look ps files place read long =
    ap (λ (r : Result (List LineFile) LoadFault). and_stacked r ps) read ∙ ap (λ (o : Option (List ℕ)). unless_at o (walk_with files ps)) long

pub walked : (told : Option FileMap) (ps : List Profile) (starts : List (List ℕ)) (files : List LineFile) (walk : Walk) → starts ≡ starts_of ps → IfSome told (λ m. reading_lines (look_of m) starts ≡ Ok files) →
    first_long files ps ≡ None → walk ≡ walk_with files ps → IfSome told (λ m. walking (look_of m) ps ≡ Ok walk)
walked None ps starts files walk begin read short is = tt
walked (Some m) ps starts files walk begin read short is =
    all_walked (look_of m) ps files walk (ap (reading_lines (look_of m)) (sym begin) ∙ read) short is

pub read_cause : (told : Option FileMap) (before now : ℕ) (ps : List Profile) (starts : List (List ℕ)) (fault : LoadFault) → starts ≡ starts_of ps → LinesCause told before now starts fault → WalkCause told before now ps fault
read_cause told before now ps starts NoMemory begin cause = tt
read_cause told before now ps starts (Tree path) begin cause = cause
read_cause told before now ps starts (NotARepository path) begin cause = cause
read_cause None before now ps starts (Limit place number) begin cause = (cause.0, tt)
read_cause (Some m) before now ps starts (Limit place number) begin cause =
    (cause.0, not_read (look_of m) ps (Limit place number) (ap (reading_lines (look_of m)) (sym begin) ∙ cause.1))

pub stack_cause : (told : Option FileMap) (before now : ℕ) (ps : List Profile) (starts : List (List ℕ)) (files : List LineFile) (fault : LoadFault) → starts ≡ starts_of ps → now ≡ before →
    IfSome told (λ m. reading_lines (look_of m) starts ≡ Ok files) → LimitIs (first_long files ps) fault → WalkCause told before now ps fault
stack_cause told before now ps starts files NoMemory begin calm read limit = tt
stack_cause told before now ps starts files (Tree path) begin calm read limit = absurd limit
stack_cause told before now ps starts files (NotARepository path) begin calm read limit = absurd limit
stack_cause None before now ps starts files (Limit place number) begin calm read limit = (calm, tt)
stack_cause (Some m) before now ps starts files (Limit place number) begin calm read limit = (
  calm,
  not_stacked (look_of m) ps files place (ap (reading_lines (look_of m)) (sym begin) ∙ read) limit.0
      ∙ ap (λ n. let r : Result Walk LoadFault = Err (Limit place n) in r) (sym limit.1),
)

-- a walk by its parts
pub by_parts : (ps : List Profile) (files : List LineFile) (walk : Walk) → walk.files ≡ files → walk.stacks ≡ map (stack_of files) ps → walk ≡ walk_with files ps
by_parts ps files walk is stacks =
    ap (λ (fs : List LineFile). let w : Walk = record { files = fs; stacks = walk.stacks } in w) is
    ∙ ap (λ ss. let w : Walk = record { files = files; stacks = ss } in w) stacks

-- what `?` hands on
pub faulted : {V : Type 0} {fault : LoadFault} (result : Result V LoadFault) → IsErrAnd result (λ f. f ≡ fault) → result ≡ Err fault
faulted (Ok v) is = absurd is
faulted {V = V} (Err f) is = ap (λ (g : LoadFault). let r : Result V LoadFault = Err g in r) is

-- ---- the result of making the stacks
module _ (told : Option FileMap) (ps : List Profile) (starts : List (List ℕ)) (files : List LineFile) (begin : starts ≡ starts_of ps) (read : IfSome told (λ m. reading_lines (look_of m) starts ≡ Ok files)) where
  pub made_walk : (result : Result Walk LoadFault) → IfOk result (λ walk. walk.files ≡ files) → IfOk result (λ walk. walk.stacks ≡ map (stack_of files) ps) → OnOk result (first_long files ps ≡ None) →
      IfOk result (λ walk. IfSome told (λ m. walking (look_of m) ps ≡ Ok walk))
  made_walk (Ok walk) is stacks short = walked told ps starts files walk begin read short (by_parts ps files walk is stacks)
  made_walk (Err fault) is stacks short = tt

  pub made_cause : (before now : ℕ) (result : Result Walk LoadFault) → now ≡ before → IfErr result (LimitIs (first_long files ps)) → IfErr result (WalkCause told before now ps)
  made_cause before now (Ok walk) calm limit = tt
  made_cause before now (Err fault) calm limit = stack_cause told before now ps starts files fault begin calm read limit
