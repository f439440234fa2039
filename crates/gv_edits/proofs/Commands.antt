-- What was read of a command, and the bytes behind it.
-- Each reading function has one equation between what its definition makes of the bytes before, and what it read with
-- the bytes behind it (`and_rest`). Two such equations compose by a short lemma.
use Rattle.std.proofs.Common.{◌≡◌, ◌<◌, ◌-◌, ◌+◌, ◌==◌, ℕ, suc, List, [], ◌++◌, true, false, length, take, drop, Some, None, refl, sym, ap, ◌∙◌, arith}
use Rattle.std.specs.Prelude.{Option, IfSome, option_map, nat_lt}
use Rattle.std.specs.Option.{option_and_then}
use Rattle.std.proofs.lemmas.List.{append-nil}
use Rattle.std.proofs.Math.ListN.{drop_of_length-le}
use Rattle.std.proofs.Math.Seq.{take-append_seam, drop-append_seam}
use Rattle.gv_edits.specs.declared.begun.Begun.{Begun}
use Rattle.gv_edits.specs.declared.begun.Begun.TheVariants as begun
use Rattle.gv_edits.specs.declared.command.Command.{Command}
use Rattle.gv_edits.specs.declared.command.Command.TheVariants.{Put, Cut, Report, End}
use Rattle.gv_edits.specs.Pending.{whole}
use Rattle.gv_edits.specs.Reading.{and_rest, led_by}
use Rattle.gv_edits.specs.Line.{first_line, words_of_line}
use Rattle.gv_edits.specs.Command.{behind_line, begun_by, before_feed, first_content, completed, first_command}
use Rattle.gv_edits.specs.Script.{led_script, script_left, script_of, script_within, without_commands, Broken}

-- ---- the first line, and the command that it begins
pub no_line : (told t : Option (List ℕ)) → option_map first_line told ≡ option_map (and_rest None) t → option_map first_command told ≡ option_map (and_rest None) t
no_line None None is = refl
no_line None (Some rest) is = cc
no_line (Some bytes) None is = cc
no_line (Some bytes) (Some rest) is = let line : first_line bytes ≡ None = cc in ap (λ o. Some (option_and_then (λ l. behind_line l.0 l.1) o)) line

pub some_line : (told t u : Option (List ℕ)) (line : List ℕ) (command : Option Command) → option_map first_line told ≡ option_map (and_rest (Some line)) t
    → option_map (behind_line line) t ≡ option_map (and_rest command) u → option_map first_command told ≡ option_map (and_rest command) u
some_line None None u line command is done = done
some_line None (Some rest) u line command is done = cc
some_line (Some bytes) None u line command is done = cc
some_line (Some bytes) (Some rest) u line command is done =
    let first : first_line bytes ≡ Some (line, rest) = cc in
    ap (λ o. Some (option_and_then (λ l. behind_line l.0 l.1) o)) first ∙ done

pub no_begun : (t : Option (List ℕ)) (line : List ℕ) → None ≡ begun_by (words_of_line line) → option_map (behind_line line) t ≡ option_map (and_rest None) t
no_begun None line none = refl
no_begun (Some bytes) line none = ap (λ o. Some (option_and_then (λ b. completed b bytes) o)) (sym none)

pub some_begun : (t u : Option (List ℕ)) (line : List ℕ) (b : Begun) (command : Option Command) → Some b ≡ begun_by (words_of_line line)
    → option_map (completed b) t ≡ option_map (and_rest command) u → option_map (behind_line line) t ≡ option_map (and_rest command) u
some_begun None u line b command begins done = done
some_begun (Some bytes) u line b command begins done = ap (λ o. Some (option_and_then (λ b. completed b bytes) o)) (sym begins) ∙ done

-- ---- a command behind its line
pub put_completed : (t u : Option (List ℕ)) (path : List ℕ) (size : ℕ) (content : Option (List ℕ)) → option_map (first_content size) t ≡ option_map (and_rest content) u
    → option_map (completed (begun.Put path size)) t ≡ option_map (and_rest (option_map (Put path) content)) u
put_completed None None path size content is = refl
put_completed None (Some rest) path size content is = cc
put_completed (Some bytes) None path size content is = cc
put_completed (Some bytes) (Some rest) path size None is = let e : first_content size bytes ≡ None = cc in ap (λ c. Some (option_map (λ r. (Put path r.0, r.1)) c)) e
put_completed (Some bytes) (Some rest) path size (Some content) is = let e : first_content size bytes ≡ Some (content, rest) = cc in ap (λ c. Some (option_map (λ r. (Put path r.0, r.1)) c)) e

pub cut_completed : (t : Option (List ℕ)) (path : List ℕ) → option_map (completed (begun.Cut path)) t ≡ option_map (and_rest (Some (Cut path))) t
cut_completed None path = refl
cut_completed (Some bytes) path = refl

pub report_completed : (t : Option (List ℕ)) → option_map (completed begun.Report) t ≡ option_map (and_rest (Some Report)) t
report_completed None = refl
report_completed (Some bytes) = refl

pub end_completed : (t : Option (List ℕ)) → option_map (completed begun.End) t ≡ option_map (and_rest (Some End)) t
end_completed None = refl
end_completed (Some bytes) = refl

-- ---- the bytes of a put
pub content_then : (text rest : List ℕ) (size : ℕ) → length text ≡ size → first_content size (text ++ rest) ≡ before_feed text rest
content_then text rest size len = rw (sym len, take-append_seam text rest, drop-append_seam text rest) refl

pub too_few : (told t : Option (List ℕ)) (size : ℕ) → option_map (λ bytes. nat_lt (length bytes) size) told ≡ option_map (λ _. true) t → option_map (first_content size) told ≡ option_map (and_rest None) t
too_few None None size is = refl
too_few None (Some rest) size is = cc
too_few (Some bytes) None size is = cc
too_few (Some bytes) (Some rest) size is =
    let few : nat_lt (length bytes) size ≡ true = cc in
    let none : drop size bytes ≡ [] = drop_of_length-le bytes (grind arith) in
    ap (λ more. Some (before_feed (take size bytes) more)) none

pub content_read : (told t u : Option (List ℕ)) (text : List ℕ) (size : ℕ) (content : Option (List ℕ)) → length text ≡ size → told ≡ whole text t
    → option_map (before_feed text) t ≡ option_map (and_rest content) u → option_map (first_content size) told ≡ option_map (and_rest content) u
content_read told None u text size content len is done = rw is done
content_read told (Some rest) u text size content len is done = rw is (ap Some (content_then text rest size len) ∙ done)

pub fed : (t u : Option (List ℕ)) (content : List ℕ) → t ≡ led_by (Some 10) u → option_map (before_feed content) t ≡ option_map (and_rest (Some content)) u
fed t None content is = rw is refl
fed t (Some rest) content is = rw is refl

pub unfed : (t u : Option (List ℕ)) (content : List ℕ) (byte : ℕ) → t ≡ led_by (Some byte) u → (byte == 10) ≡ false → option_map (before_feed content) t ≡ option_map (and_rest {X = List ℕ} None) u
unfed t None content byte is other = rw is refl
unfed t (Some rest) content byte is other = rw (is, other) refl

pub never_fed : (t u : Option (List ℕ)) (content : List ℕ) → t ≡ led_by None u → IfSome u (λ bytes. bytes ≡ []) → option_map (before_feed content) t ≡ option_map (and_rest {X = List ℕ} None) u
never_fed t None content is end = rw is refl
never_fed t (Some rest) content is end = rw (is, end) refl

-- the bytes that are left are fewer
pub few_left : (told t : Option (List ℕ)) (text : List ℕ) (size : ℕ) → told ≡ whole text t → length text < size → IfSome t (λ bytes. bytes ≡ []) → option_map (λ bytes. nat_lt (length bytes) size) told ≡ option_map (λ _. true) t
few_left told None text size is few end = rw is refl
few_left told (Some rest) text size is few end = rw (is, end, append-nil text) (ap Some (grind arith))

-- ---- a script
same_script : (most : ℕ) (taken bytes : List ℕ) → taken ≡ [] → script_within most (taken ++ bytes) ≡ script_within most bytes
same_script most taken bytes is = ap (λ (ts : List ℕ). script_within most (ts ++ bytes)) is

pub whole_script : (taken : List ℕ) (left : Option (List ℕ)) → taken ≡ [] → script_left (record { read = 0; taken = taken }) left ≡ option_map script_of left
unfolding script_of script_left
whole_script taken None is = refl
whole_script taken (Some bytes) is = ap Some (same_script 1000000 taken bytes is)

pub script_step : (taken more : List ℕ) (left rest : Option (List ℕ)) (read : ℕ) (command : Command) → read < 1000000 → option_map first_command (whole taken left) ≡ option_map (and_rest (Some command)) (whole more rest)
    → script_left (record { read = read; taken = taken }) left ≡ option_map (led_script command) (script_left (record { read = read + 1; taken = more }) rest)
unfolding script_left
script_step taken more None None read command few is = refl
script_step taken more None (Some rest) read command few is = cc
script_step taken more (Some left) None read command few is = cc
script_step taken more (Some left) (Some rest) read command few is =
    let first : first_command (taken ++ left) ≡ Some (command, more ++ rest) = cc in
    let next : 1000000 - read ≡ suc (1000000 - (read + 1)) = omega arith in
    rw (next, first) refl

pub script_broken : (taken : List ℕ) (left t : Option (List ℕ)) (read : ℕ) → read < 1000000 → option_map first_command (whole taken left) ≡ option_map (and_rest None) t
    → IfSome (script_left (record { read = read; taken = taken }) left) (λ script. script ≡ without_commands Broken)
unfolding script_left
script_broken taken None t read few is = tt
script_broken taken (Some left) None read few is = cc
script_broken taken (Some left) (Some rest) read few is =
    let first : first_command (taken ++ left) ≡ None = cc in
    let next : 1000000 - read ≡ suc (1000000 - (read + 1)) = omega arith in
    rw (next, first) refl
