-- Directories that are gone to one by one, and readings whose later steps rest on what was read.
use Rattle.std.proofs.Common.{◌≡◌, ℕ, inl, inr, zero, suc, List, [], ◌∷◌, ◌++◌, Bool, true, false, refl, sym, ap, subst, ◌∙◌, append_assoc, append-nil}
use Rattle.std.specs.Prelude.{if◌then◌else◌, Option, Some, None, IfSome, OnOk, Result, Ok, Err, flat_map, map, reverse, ◌⊎◌}
use Rattle.gv_base.specs.FileMap.{FileMap}
use Rattle.gv_base.specs.Order.{has_text}
use Rattle.gv_reading.specs.declared.faults.LoadFault.{LoadFault}
use Rattle.gv_reading.specs.declared.faults.LoadFault.TheVariants.{Tree, NotARepository, Limit, NoMemory}
use Rattle.gv_usedefaults.specs.declared.file_kinds.LineFile.{LineFile}
use Rattle.gv_usedefaults.specs.declared.line_walk.Turning.{Turning}
use Rattle.std.proofs.lemmas.List.{reverse-append, reverse-reverse}
use Rattle.gv_reading.specs.Causes.{Cause, HasEnded, HasRead, IsTold, Knows, View, look_in}
use Rattle.gv_usedefaults.specs.LineFiles.{LinesCause, are_all, comes_to_end, dir_line_files, dir_line_steps, dirs_files, dirs_from, dirs_steps, line_file, line_files, line_steps, most_turns, own_files, parents_at, reading_lines, to_come}
use Rattle.gv_reading.specs.NamedFiles.{file_steps, files_at}
use Rattle.gv_load.specs.Paths.{mask_path}
use Rattle.gv_usedefaults.specs.declared.file_kinds.FileKind.TheVariants.{Mask}
use Rattle.gv_profile.specs.Names.{profiles}
use Rattle.gv_reading.specs.declared.files.NamedFile.{NamedFile}
use Rattle.gv_usedefaults.specs.LineTurns.{HasEntered, HasTurned, IsNoNeed, ahead_of, turn_ahead, turn_files, turn_order, turn_steps}
use Rattle.gv_reading.specs.Look.{Look, look_of}
use Rattle.gv_reading.specs.Reader.{Seen, nothing}
use Rattle.gv_reading.specs.Reading.{Out, Step, and_then, passed}
use Rattle.gv_reading.specs.Passing.{IsAmid, asked_as, asked_behind, ended_first, passed-append}

-- ---- the next steps may rest on what was read
module _ {before mid now : View} {start old : Seen} {left one all : Look → List Step} {P : Look → Type 0} where
  pub amid_by : {new : Seen} {behind : Look → List Step} {Q R : Look → Type 0} → IsAmid before mid start old left all P → HasRead mid now one Q old new →
      ((look : Look) → P look → Q look → left look ≡ one look ++ behind look) → ((look : Look) → P look → Q look → R look) → IsAmid before now start new behind all R
  amid_by {new = new} {behind = behind} {Q = Q} amid here steps says =
      let more = subst (λ (v : View). HasRead v now one Q old new) amid.same here in
      record {
        same = here.same ∙ amid.same;
        knows = more.knows;
        rest = λ t. sym (ap (passed (look_in before.told) old) (steps _ (amid.value t) (more.value t)) ∙ passed-append (look_in before.told) old (one (look_in before.told)) (behind (look_in before.told))
            ∙ ap (λ (o : Out). and_then o (λ n. passed (look_in before.told) n (behind (look_in before.told)))) (more.passed t)) ∙ amid.rest t;
        asked = λ t path is. amid.asked t path (asked_as (look_in before.told) old _ _ path (steps _ (amid.value t) (more.value t))
            (asked_behind (look_in before.told) old new (one (look_in before.told)) (behind (look_in before.told)) path (more.passed t) is));
        value = λ t. says _ (amid.value t) (more.value t);
      }

-- ---- one turn
abbrev come : ℕ → Look → (before ahead : List (List ℕ)) → List (List ℕ)
come turns look before ahead = to_come turns (parents_at look) before ahead

pub next_steps : (look : Look) (turns : ℕ) (before : List (List ℕ)) (dir : List ℕ) (ahead : List (List ℕ)) →
    dirs_steps look (come (suc turns) look before (dir ∷ ahead)) ≡ turn_steps look before dir ++ dirs_steps look (come turns look (turn_order before dir) (turn_ahead look before dir ahead))
next_steps look turns before dir ahead = by (has_text before dir)
  where
    by : (b : Bool) → dirs_steps look (if b then come turns look before ahead else dir ∷ come turns look (before ++ dir ∷ []) (parents_at look dir ++ ahead))
        ≡ (let xs : List Step = if b then [] else dir_line_steps look dir in xs) ++ dirs_steps look (come turns look (if b then before else before ++ dir ∷ []) (if b then ahead else parents_at look dir ++ ahead))
    by true = refl
    by false = refl

pub next_files : (look : Look) (turns : ℕ) (before : List (List ℕ)) (dir : List ℕ) (ahead : List (List ℕ)) →
    dirs_files look (come (suc turns) look before (dir ∷ ahead)) ≡ turn_files look before dir ++ dirs_files look (come turns look (turn_order before dir) (turn_ahead look before dir ahead))
next_files look turns before dir ahead = by (has_text before dir)
  where
    by : (b : Bool) → dirs_files look (if b then come turns look before ahead else dir ∷ come turns look (before ++ dir ∷ []) (parents_at look dir ++ ahead))
        ≡ (let xs : List LineFile = if b then [] else dir_line_files look dir in xs) ++ dirs_files look (come turns look (if b then before else before ++ dir ∷ []) (if b then ahead else parents_at look dir ++ ahead))
    by true = refl
    by false = refl

pub none_come : (look : Look) (turns : ℕ) (before : List (List ℕ)) → come turns look before [] ≡ []
none_come look zero before = refl
none_come look (suc turns) before = refl

-- behind a turn that was taken
pub taken_steps : (look : Look) (turns : ℕ) (before after : Turning) (dir : List ℕ) (ahead : List (List ℕ)) → ahead_of before ≡ ahead → HasTurned look before dir after →
    dirs_steps look (come (suc turns) look before.order (dir ∷ ahead)) ≡ turn_steps look before.order dir ++ dirs_steps look (come turns look after.order (ahead_of after))
taken_steps look turns before after dir ahead is turned =
    next_steps look turns before.order dir ahead
    ∙ ap (λ ds. turn_steps look before.order dir ++ dirs_steps look (come turns look ds (turn_ahead look before.order dir ahead))) (sym turned.order)
    ∙ ap (λ as_. turn_steps look before.order dir ++ dirs_steps look (come turns look after.order (turn_ahead look before.order dir as_))) (sym is)
    ∙ ap (λ as_. turn_steps look before.order dir ++ dirs_steps look (come turns look after.order as_)) (sym turned.ahead)

pub taken_files : (look : Look) (turns : ℕ) (before after : Turning) (dir : List ℕ) (ahead : List (List ℕ)) (whole : List LineFile) → ahead_of before ≡ ahead → HasTurned look before dir after →
    before.files.items ++ dirs_files look (come (suc turns) look before.order (dir ∷ ahead)) ≡ whole → after.files.items ++ dirs_files look (come turns look after.order (ahead_of after)) ≡ whole
taken_files look turns before after dir ahead whole is turned so_far =
    let rest = dirs_files look (come turns look after.order (ahead_of after)) in
    let next : dirs_files look (come (suc turns) look before.order (dir ∷ ahead)) ≡ turn_files look before.order dir ++ rest =
    next_files look turns before.order dir ahead
    ∙ ap (λ ds. turn_files look before.order dir ++ dirs_files look (come turns look ds (turn_ahead look before.order dir ahead))) (sym turned.order)
    ∙ ap (λ as_. turn_files look before.order dir ++ dirs_files look (come turns look after.order (turn_ahead look before.order dir as_))) (sym is)
    ∙ ap (λ as_. turn_files look before.order dir ++ dirs_files look (come turns look after.order as_)) (sym turned.ahead) in
    ap (λ fs. fs ++ rest) turned.files ∙ append_assoc before.files.items (turn_files look before.order dir) rest
    ∙ ap (λ fs. before.files.items ++ fs) (sym next) ∙ so_far

-- a directory that was read before, and one that wasn't
pub again : (look : Look) (t : Turning) (dir : List ℕ) → has_text t.order dir ≡ true → HasTurned look t dir t
again look t dir was = record {
  files = rw was (sym (append-nil t.files.items));
  order = rw was refl;
  ahead = rw was refl;
}

pub entered : (look : Look) (before after : Turning) (dir : List ℕ) → has_text before.order dir ≡ false → after.order ≡ before.order ++ dir ∷ [] → HasEntered look before dir after → HasTurned look before dir after
entered look before after dir new order one = record {
  files = rw new one.files;
  order = rw new order;
  ahead = rw new one.ahead;
}

pub turned_steps : (look : Look) (before : List (List ℕ)) (dir : List ℕ) → has_text before dir ≡ true → turn_steps look before dir ≡ []
turned_steps look before dir was = rw was refl

pub entered_steps : (look : Look) (before : List (List ℕ)) (dir : List ℕ) → has_text before dir ≡ false → turn_steps look before dir ≡ dir_line_steps look dir
entered_steps look before dir new = rw new refl

-- whether it comes to its end
abbrev ends : ℕ → Look → (before ahead : List (List ℕ)) → Bool
ends turns look before ahead = comes_to_end turns (parents_at look) before ahead

next_ends : (look : Look) (turns : ℕ) (before : List (List ℕ)) (dir : List ℕ) (ahead : List (List ℕ)) →
    ends (suc turns) look before (dir ∷ ahead) ≡ ends turns look (turn_order before dir) (turn_ahead look before dir ahead)
next_ends look turns before dir ahead = by (has_text before dir)
  where
    by : (b : Bool) → (if b then ends turns look before ahead else ends turns look (before ++ dir ∷ []) (parents_at look dir ++ ahead))
        ≡ ends turns look (if b then before else before ++ dir ∷ []) (if b then ahead else parents_at look dir ++ ahead)
    by true = refl
    by false = refl

pub none_left : (look : Look) (turns : ℕ) (before : List (List ℕ)) → ends turns look before [] ≡ true
none_left look zero before = refl
none_left look (suc turns) before = refl

-- ---- a turn in the loop: what is left before it, the directory that was next, and what is left behind it
abbrev pub steps_left : ℕ → Turning → Look → List Step
steps_left turns t look = dirs_steps look (come turns look t.order (ahead_of t))

abbrev pub files_left : ℕ → Turning → Look → List LineFile
files_left turns t look = dirs_files look (come turns look t.order (ahead_of t))

abbrev pub ends_left : ℕ → Turning → Look → Bool
ends_left turns t look = ends turns look t.order (ahead_of t)

-- the steps behind a turn, whatever it read
abbrev pub steps_behind : ℕ → Turning → List ℕ → Look → List Step
steps_behind turns before dir look = dirs_steps look (come turns look (turn_order before.order dir) (turn_ahead look before.order dir (ahead_of before)))

module _ (turns left : ℕ) (start before after : Turning) (dir : List ℕ) (count : turns ≡ suc left) (order : start.order ≡ before.order) (files : start.files.items ≡ before.files.items)
    (ahead : ahead_of start ≡ dir ∷ ahead_of before) where
  start_steps : (look : Look) → steps_left turns start look ≡ dirs_steps look (come (suc left) look before.order (dir ∷ ahead_of before))
  start_steps look = rw (count, order, ahead) refl

  start_files : (look : Look) → files_left turns start look ≡ dirs_files look (come (suc left) look before.order (dir ∷ ahead_of before))
  start_files look = rw (count, order, ahead) refl

  pub left_steps : (look : Look) → HasTurned look before dir after → steps_left turns start look ≡ turn_steps look before.order dir ++ steps_left left after look
  left_steps look turned = start_steps look ∙ taken_steps look left before after dir (ahead_of before) refl turned

  -- whatever comes behind it
  pub some_steps : (look : Look) → steps_left turns start look ≡ turn_steps look before.order dir ++ steps_behind left before dir look
  some_steps look = start_steps look ∙ next_steps look left before.order dir (ahead_of before)

  pub left_files : (look : Look) (whole : List LineFile) → HasTurned look before dir after → start.files.items ++ files_left turns start look ≡ whole → after.files.items ++ files_left left after look ≡ whole
  left_files look whole turned so_far =
      taken_files look left before after dir (ahead_of before) whole refl turned
      (ap (λ fs. fs ++ dirs_files look (come (suc left) look before.order (dir ∷ ahead_of before))) (sym files) ∙ ap (λ fs. start.files.items ++ fs) (sym (start_files look)) ∙ so_far)

  pub left_ends : (look : Look) → HasTurned look before dir after → ends_left left after look ≡ ends_left turns start look
  left_ends look turned =
      sym (rw (count, order, ahead) (next_ends look left before.order dir (ahead_of before))
      ∙ ap (λ ds. ends left look ds (turn_ahead look before.order dir (ahead_of before))) (sym turned.order)
      ∙ ap (λ as_. ends left look after.order as_) (sym turned.ahead))

-- nothing is ahead
module _ (turns : ℕ) (t : Turning) (none : ahead_of t ≡ []) (look : Look) where
  pub no_steps : steps_left turns t look ≡ []
  no_steps = ap (λ as_. dirs_steps look (come turns look t.order as_)) none ∙ ap (dirs_steps look) (none_come look turns t.order)

  pub no_files : (whole : List LineFile) → t.files.items ++ files_left turns t look ≡ whole → t.files.items ≡ whole
  no_files whole so_far =
      sym (append-nil t.files.items) ∙ ap (λ fs. t.files.items ++ fs) (sym (ap (λ as_. dirs_files look (come turns look t.order as_)) none ∙ ap (dirs_files look) (none_come look turns t.order))) ∙ so_far

  pub no_more : ends_left turns t look ≡ true
  no_more = ap (λ as_. ends turns look t.order as_) none ∙ none_left look turns t.order

-- what is pushed comes first
pub pushed_ahead : (before after ps : List (List ℕ)) → after ≡ before ++ reverse ps → reverse after ≡ ps ++ reverse before
pushed_ahead before after ps is = ap reverse is ∙ reverse-append before (reverse ps) ∙ ap (λ l. l ++ reverse before) (reverse-reverse ps)

pub popped_ahead : (before after : List (List ℕ)) (dir : List ℕ) → before ≡ after ++ dir ∷ [] → reverse before ≡ dir ∷ reverse after
popped_ahead before after dir is = ap reverse is ∙ reverse-append after (dir ∷ [])

-- a directory that was read before changes nothing
pub stayed : {at : View} {seen : Seen} (t : Turning) (dir : List ℕ) → Knows at.told seen → has_text t.order dir ≡ true → HasRead at at (λ look. turn_steps look t.order dir) (λ look. HasTurned look t dir t) seen seen
stayed {at = at} {seen = seen} t dir knows was = record {
  same = refl;
  knows = knows;
  passed = λ _. ap (passed (look_in at.told) seen) (turned_steps (look_in at.told) t.order dir was);
  value = λ _. again (look_in at.told) t dir was;
}

-- the same steps, said otherwise
pub ended_as : {At : List ℕ → Type 0} {before now : View} {old : Seen} {fault : LoadFault} {xs ys : Look → List Step} → HasEnded At before now xs old fault → ((look : Look) → ys look ≡ xs look) → HasEnded At before now ys old fault
ended_as {ys = ys} one steps = ended_first (λ look. []) one (λ look. steps look ∙ sym (append-nil _))

-- ---- from the beginning
module _ (look : Look) (path : List ℕ) (starts : List (List ℕ)) (t : Turning) (at : path ≡ mask_path) (order : t.order ≡ []) (ahead : ahead_of t ≡ starts) where
  begun : steps_left most_turns t look ≡ dirs_steps look (dirs_from look starts)
  begun = rw (order, ahead) refl

  begun_files : files_left most_turns t look ≡ dirs_files look (dirs_from look starts)
  begun_files = rw (order, ahead) refl

  pub whole_steps : line_steps look starts ≡ file_steps look path ++ steps_left most_turns t look
  whole_steps = ap (λ p. file_steps look p ++ dirs_steps look (dirs_from look starts)) (sym at) ∙ ap (λ ss. file_steps look path ++ ss) (sym begun)

  pub whole_files : (top : List ℕ) (own : List NamedFile) (files : List LineFile) → top ≡ profiles → own ≡ files_at look path → t.files.items ≡ map (line_file top Mask) own →
      files ≡ t.files.items ++ files_left most_turns t look → files ≡ line_files look starts
  whole_files top own files is named first rest =
      rest ∙ ap (λ fs. fs ++ files_left most_turns t look) (first ∙ ap (λ p. map (line_file p Mask) own) is ∙ ap (λ fs. map (line_file profiles Mask) fs) (named ∙ ap (files_at look) at))
      ∙ ap (λ fs. own_files look ++ fs) begun_files

  pub whole_all : ends_left most_turns t look ≡ true → are_all look starts ≡ true
  whole_all is = rw (order, ahead) at is

-- ---- the whole reading
all_read : (look : Look) (starts : List (List ℕ)) (new : Seen) (files : List LineFile) → passed look nothing (line_steps look starts) ≡ Ok new → files ≡ line_files look starts → reading_lines look starts ≡ Ok files
unfolding reading_lines
all_read look starts new files went is = rw went (ap (λ (fs : List LineFile). let o : Result (List LineFile) LoadFault = Ok fs in o) (sym is))

refused : (look : Look) (starts : List (List ℕ)) (fault : LoadFault) → passed look nothing (line_steps look starts) ≡ Err fault → reading_lines look starts ≡ Err fault
unfolding reading_lines
refused look starts fault is = rw is refl

as_told : (told : Option FileMap) (starts : List (List ℕ)) (new : Seen) (files : List LineFile) → (IsTold told → passed (look_in told) nothing (line_steps (look_in told) starts) ≡ Ok new) →
    (IsTold told → files ≡ line_files (look_in told) starts) → IfSome told (λ m. reading_lines (look_of m) starts ≡ Ok files)
unfolding look_in
as_told None starts new files went is = tt
as_told (Some m) starts new files went is = all_read (look_of m) starts new files (went refl) (is refl)

all_in : (told : Option FileMap) (starts : List (List ℕ)) → (IsTold told → are_all (look_in told) starts ≡ true) → IfSome told (λ m. are_all (look_of m) starts ≡ true)
unfolding look_in
all_in None starts is = tt
all_in (Some m) starts is = is refl

-- a fault as it is told, or want of memory
lines_cause : (told : Option FileMap) (before now : ℕ) (starts : List (List ℕ)) (fault : LoadFault) → Cause told before now (passed (look_in told) nothing (line_steps (look_in told) starts)) fault →
    (result : LoadFault) → ((result ≡ fault) × IsNoNeed fault) ⊎ (result ≡ NoMemory) → LinesCause told before now starts result
unfolding look_in
lines_cause told before now starts fault cause result (inr none) = subst (λ (f : LoadFault). LinesCause told before now starts f) (sym none) tt
lines_cause told before now starts NoMemory cause result (inl is) = subst (λ (f : LoadFault). LinesCause told before now starts f) (sym is.0) tt
lines_cause told before now starts (Tree path) cause result (inl is) = subst (λ (f : LoadFault). LinesCause told before now starts f) (sym is.0) cause
lines_cause told before now starts (NotARepository path) cause result (inl is) = absurd is.1
lines_cause None before now starts (Limit place number) cause result (inl is) = subst (λ (f : LoadFault). LinesCause None before now starts f) (sym is.0) (cause.0, tt)
lines_cause (Some m) before now starts (Limit place number) cause result (inl is) =
    subst (λ (f : LoadFault). LinesCause (Some m) before now starts f) (sym is.0) (cause.0, refused (look_of m) starts (Limit place number) (cause.1 refl))

abbrev pub LinesValue : List (List ℕ) → List LineFile → Look → Type 0
LinesValue starts files look = (files ≡ line_files look starts) × (are_all look starts ≡ true)

pub on_ok : {T E P : Type 0} (r : Result T E) → P → OnOk r P
on_ok (Ok x) p = p
on_ok (Err e) p = tt

-- what the whole tells, by what its reading tells
module _ {before now : View} {first : Seen} (starts : List (List ℕ)) (none : first ≡ nothing) where
  pub lines_told : {new : Seen} (files same : List LineFile) → same ≡ files → HasRead before now (λ look. line_steps look starts) (LinesValue starts files) first new →
      IfSome before.told (λ m. reading_lines (look_of m) starts ≡ Ok same)
  lines_told {new = new} files same is one =
      let here = subst (λ (s : Seen). HasRead before now (λ look. line_steps look starts) (LinesValue starts files) s new) none one in
      as_told before.told starts new same here.passed (λ t. is ∙ (here.value t).0)

  pub all_told : {new : Seen} (files : List LineFile) → HasRead before now (λ look. line_steps look starts) (LinesValue starts files) first new →
      IfSome before.told (λ m. are_all (look_of m) starts ≡ true)
  all_told files one = all_in before.told starts (λ t. (one.value t).1)

  pub cause_told : {At : List ℕ → Type 0} (fault result : LoadFault) → ((result ≡ fault) × IsNoNeed fault) ⊎ (result ≡ NoMemory) → HasEnded At before now (λ look. line_steps look starts) first fault →
      LinesCause before.told before.faults now.faults starts result
  cause_told fault result handed ended =
      lines_cause before.told before.faults now.faults starts fault
      (subst (λ (s : Seen). Cause before.told before.faults now.faults (passed (look_in before.told) s (line_steps (look_in before.told) starts)) fault) none ended.cause) result handed
