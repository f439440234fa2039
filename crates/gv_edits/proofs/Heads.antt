-- What was read is what stands first in all that was taken, whatever comes behind it.
use Rattle.std.proofs.Common.{◌≡◌, ◌≤◌, ◌<◌, ◌==◌, ℕ, suc, List, [], ◌∷◌, ◌++◌, false, length, take, drop, Some, None, refl, sym, ap, subst, ◌∙◌, arith, length-take, length-drop}
use Rattle.std.specs.Prelude.{Option, IfSome, option_map}
use Rattle.std.specs.Option.{option_and_then}
use Rattle.std.specs.List.{list_any}
use Rattle.std.proofs.lemmas.List.{append_assoc, append-nil, take-append-drop}
use Rattle.std.proofs.Math.ListN.{drop_of_length-le}
use Rattle.gv_edits.specs.declared.begun.Begun.{Begun}
use Rattle.gv_edits.specs.declared.begun.Begun.TheVariants as begun
use Rattle.gv_edits.specs.declared.command.Command.{Command}
use Rattle.gv_edits.specs.declared.command.Command.TheVariants.{Put, Cut, Report, End}
use Rattle.gv_edits.specs.Pending.{whole}
use Rattle.gv_edits.specs.Reading.{Finds, FindsNone, Reads, led, led_by}
use Rattle.gv_edits.specs.Line.{first_line, words_of_line}
use Rattle.gv_edits.specs.Command.{behind_line, begun_by, before_feed, first_content, completed, first_command}
use Rattle.gv_edits.specs.Script.{Lacks, Leads, Reading, led_script, script_within, without_commands, Broken}
use Rattle.gv_edits.proofs.Bytes.{feed_line, no_feed, whole_one_more}
use Rattle.gv_edits.proofs.Commands.{content_then}

whole_nothing : (left : Option (List ℕ)) → left ≡ whole [] left
whole_nothing None = refl
whole_nothing (Some bytes) = refl

whole_both : (xs ys : List ℕ) (left : Option (List ℕ)) → whole xs (whole ys left) ≡ whole (xs ++ ys) left
whole_both xs ys None = refl
whole_both xs ys (Some bytes) = ap Some (sym (append_assoc xs ys bytes))

-- no more bytes are there than the room has
pub few_taken : (room : List ℕ) (from to : ℕ) → to ≤ length room → length room ≡ 4096 → length (drop from (take to room)) ≤ 4096
few_taken room from to within all = omega (arith, within, all, length-drop from (take to room), length-take to room)

-- ---- bytes one behind the other

pub reads_nothing : (taken : List ℕ) (left : Option (List ℕ)) → Reads taken left [] taken left
reads_nothing taken left = record { more = []; took = whole_nothing left; are = append-nil taken }

-- what was taken before, then more, then more
taken_both : (a b read more next : List ℕ) → a ++ more ≡ read ++ b → a ++ (more ++ next) ≡ read ++ (b ++ next)
taken_both a b read more next are = sym (append_assoc a more next) ∙ (ap (λ (xs : List ℕ). xs ++ next) are ∙ append_assoc read b next)

took_both : (l m n : Option (List ℕ)) (more next : List ℕ) → l ≡ whole more m → m ≡ whole next n → l ≡ whole (more ++ next) n
took_both l m n more next first second = first ∙ (ap (whole more) second ∙ whole_both more next n)

pub reads_both : (a b c : List ℕ) (l m n : Option (List ℕ)) (r s : List ℕ) → Reads a l r b m → Reads b m s c n → Reads a l (r ++ s) c n
reads_both a b c l m n r s first second = record {
  more = first.more ++ second.more;
  took = took_both l m n first.more second.more first.took second.took;
  are = taken_both a b r first.more second.more first.are ∙ (ap (λ (xs : List ℕ). r ++ xs) second.are ∙ sym (append_assoc r s c));
}

pub fills : (old new : List ℕ) (l m : Option (List ℕ)) → old ≡ [] → whole new m ≡ whole old l → Reads old l [] new m
fills old new l m empty same = record {
  more = new;
  took = whole_nothing l ∙ (ap (λ (t : List ℕ). whole t l) (sym empty) ∙ sym same);
  are = ap (λ (t : List ℕ). t ++ new) empty;
}

pub reads_led : (a b c : List ℕ) (l m : Option (List ℕ)) (byte : Option ℕ) → Reads a l [] b m → b ≡ led byte c → Reads a l (led byte []) c m
reads_led a b c l m None r is = record { more = r.more; took = r.took; are = r.are ∙ is }
reads_led a b c l m (Some x) r is = record { more = r.more; took = r.took; are = r.are ∙ is }

pub moves : (a b c : List ℕ) (l m : Option (List ℕ)) (n : ℕ) (text text' : List ℕ) → Reads a l [] b m → text' ≡ text ++ take n b → c ≡ drop n b → (bytes : List ℕ) × (text' ≡ text ++ bytes) × Reads a l bytes c m
moves a b c l m n text text' r made behind = (
  take n b,
  made,
  record { more = r.more; took = r.took; are = r.are ∙ (sym (take-append-drop n b) ∙ ap (λ (xs : List ℕ). take n b ++ xs) (sym behind)) },
)

-- the text so far, and what was moved to it
pub reads_moved : (a b c : List ℕ) (l m n : Option (List ℕ)) (text text' : List ℕ) → Reads a l text b m → (bytes : List ℕ) × (text' ≡ text ++ bytes) × Reads b m bytes c n → Reads a l text' c n
reads_moved a b c l m n text text' first (bytes, made, second) =
    let both = reads_both a b c l m n text bytes first second in
    record { more = both.more; took = both.took; are = both.are ∙ ap (λ (xs : List ℕ). xs ++ c) (sym made) }

-- all that was taken was read, and the source failed
lacks_all : (X : Type 0) (first : List ℕ → Option (X × List ℕ)) (a b : List ℕ) (l m n : Option (List ℕ)) (r : List ℕ) → Reads a l r b m → b ≡ [] → n ≡ m → first r ≡ None → FindsNone X first a l n
lacks_all X first a b l m n r reads empty same none = record {
  more = reads.more;
  took = reads.took ∙ ap (whole reads.more) (sym same);
  none = ap first (reads.are ∙ (ap (λ (xs : List ℕ). r ++ xs) empty ∙ append-nil r)) ∙ none;
}

-- ---- a line

pub line_on : (a b c : List ℕ) (l m n : Option (List ℕ)) (line line' : List ℕ) (byte : ℕ) (o : Option ℕ) → Reads a l line b m → Reads b m (led o []) c n → o ≡ Some byte → line' ≡ line ++ byte ∷ [] → Reads a l line' c n
line_on a b c l m n line line' byte o first one is made =
    let both = reads_both a b c l m n line (byte ∷ []) first (subst (λ (x : Option ℕ). Reads b m (led x []) c n) is one) in
    record { more = both.more; took = both.took; are = both.are ∙ ap (λ (xs : List ℕ). xs ++ c) (sym made) }

pub whole_on : (line line' : List ℕ) (byte : ℕ) (o : Option ℕ) (old mid new : Option (List ℕ)) → old ≡ whole line mid → mid ≡ led_by o new → o ≡ Some byte → line' ≡ line ++ byte ∷ [] → old ≡ whole line' new
whole_on line line' byte o old mid new before one is made =
    before ∙ (ap (whole line) (one ∙ ap (λ (x : Option ℕ). led_by x new) is) ∙ (whole_one_more line byte new ∙ ap (λ (xs : List ℕ). whole xs new) (sym made)))

pub line_found : (a b c : List ℕ) (l m n : Option (List ℕ)) (line : List ℕ) → Reads a l line b m → Reads b m (led (Some 10) []) c n → list_any (λ b. b == 10) line ≡ false → length line ≤ 4200
    → Finds (List ℕ) first_line a l c n line
line_found a b c l m n line first feed none few = record {
  read = line ++ 10 ∷ [];
  reads = reads_both a b c l m n line (10 ∷ []) first feed;
  finds = λ rest. ap first_line (append_assoc line (10 ∷ []) rest) ∙ feed_line line rest none few;
}

pub line_lacks : (a b : List ℕ) (l m n : Option (List ℕ)) (line : List ℕ) → Reads a l line b m → b ≡ [] → n ≡ m → list_any (λ b. b == 10) line ≡ false → FindsNone (List ℕ) first_line a l n
line_lacks a b l m n line reads empty same none = lacks_all (List ℕ) first_line a b l m n line reads empty same (no_feed line none)

-- ---- the bytes of a put

few_bytes : (text : List ℕ) (size : ℕ) → length text < size → first_content size text ≡ None
few_bytes text size few = let none : drop size text ≡ [] = drop_of_length-le text (grind arith) in ap (λ more. before_feed (take size text) more) none

pub bytes_lack : (a b : List ℕ) (l m n : Option (List ℕ)) (text : List ℕ) (size : ℕ) → Reads a l text b m → b ≡ [] → n ≡ m → length text < size → FindsNone (List ℕ) (first_content size) a l n
bytes_lack a b l m n text size reads empty same few = lacks_all (List ℕ) (first_content size) a b l m n text reads empty same (few_bytes text size few)

pub feed_found : (a b : List ℕ) (l m : Option (List ℕ)) (content : List ℕ) → Reads a l (led (Some 10) []) b m → Finds (List ℕ) (before_feed content) a l b m content
feed_found a b l m content reads = record { read = 10 ∷ []; reads = reads; finds = λ rest. refl }

pub feed_lacks : (a : List ℕ) (l n : Option (List ℕ)) (content : List ℕ) → a ≡ [] → n ≡ l → FindsNone (List ℕ) (before_feed content) a l n
feed_lacks a l n content empty same = lacks_all (List ℕ) (before_feed content) a a l l n [] (reads_nothing a l) empty same refl

module _ (a b : List ℕ) (l m : Option (List ℕ)) (text : List ℕ) (size : ℕ) (reads : Reads a l text b m) (len : length text ≡ size) where
  pub content_found : (c : List ℕ) (n : Option (List ℕ)) (x : List ℕ) → Finds (List ℕ) (before_feed text) b m c n x → Finds (List ℕ) (first_content size) a l c n x
  content_found c n x f = record {
    read = text ++ f.read;
    reads = reads_both a b c l m n text f.read reads f.reads;
    finds = λ rest. ap (first_content size) (append_assoc text f.read rest) ∙ (content_then text (f.read ++ rest) size len ∙ f.finds rest);
  }

  pub content_found_if : (c : List ℕ) (n : Option (List ℕ)) (o : Option (List ℕ)) → IfSome o (Finds (List ℕ) (before_feed text) b m c n) → IfSome o (Finds (List ℕ) (first_content size) a l c n)
  content_found_if c n None f = tt
  content_found_if c n (Some x) f = content_found c n x f

  pub content_lacks : (n : Option (List ℕ)) → FindsNone (List ℕ) (before_feed text) b m n → FindsNone (List ℕ) (first_content size) a l n
  content_lacks n f = record {
    more = reads.more ++ f.more;
    took = took_both l m n reads.more f.more reads.took f.took;
    none = ap (first_content size) (taken_both a b text reads.more f.more reads.are) ∙ (content_then text (b ++ f.more) size len ∙ f.none);
  }

-- ---- a command behind its line

module _ (a c : List ℕ) (l n : Option (List ℕ)) (path : List ℕ) (size : ℕ) where
  pub put_found_if : (o : Option (List ℕ)) → IfSome o (Finds (List ℕ) (first_content size) a l c n) → IfSome (option_map (Put path) o) (Finds Command (completed (begun.Put path size)) a l c n)
  put_found_if None f = tt
  put_found_if (Some x) f = record { read = f.read; reads = f.reads; finds = λ rest. ap (λ r. option_map (λ r. (Put path r.0, r.1)) r) (f.finds rest) }

  pub put_lacks : FindsNone (List ℕ) (first_content size) a l n → FindsNone Command (completed (begun.Put path size)) a l n
  put_lacks f = record { more = f.more; took = f.took; none = ap (λ r. option_map (λ r. (Put path r.0, r.1)) r) f.none }

pub cut_found : (a : List ℕ) (l : Option (List ℕ)) (path : List ℕ) → Finds Command (completed (begun.Cut path)) a l a l (Cut path)
cut_found a l path = record { read = []; reads = reads_nothing a l; finds = λ rest. refl }

pub report_found : (a : List ℕ) (l : Option (List ℕ)) → Finds Command (completed begun.Report) a l a l Report
report_found a l = record { read = []; reads = reads_nothing a l; finds = λ rest. refl }

pub end_found : (a : List ℕ) (l : Option (List ℕ)) → Finds Command (completed begun.End) a l a l End
end_found a l = record { read = []; reads = reads_nothing a l; finds = λ rest. refl }

module _ (a c : List ℕ) (l n : Option (List ℕ)) (line : List ℕ) (b : Begun) (begins : Some b ≡ begun_by (words_of_line line)) where
  behind_is : (bytes : List ℕ) → behind_line line bytes ≡ completed b bytes
  behind_is bytes = ap (λ o. option_and_then (λ b. completed b bytes) o) (sym begins)

  pub behind_found_if : (o : Option Command) → IfSome o (Finds Command (completed b) a l c n) → IfSome o (Finds Command (behind_line line) a l c n)
  behind_found_if None f = tt
  behind_found_if (Some x) f = record { read = f.read; reads = f.reads; finds = λ rest. behind_is (f.read ++ rest) ∙ f.finds rest }

  pub behind_lacks : FindsNone Command (completed b) a l n → FindsNone Command (behind_line line) a l n
  behind_lacks f = record { more = f.more; took = f.took; none = behind_is (a ++ f.more) ∙ f.none }

-- ---- a line and its command

first_is : (bytes line rest : List ℕ) → first_line bytes ≡ Some (line, rest) → first_command bytes ≡ behind_line line rest
first_is bytes line rest is = ap (λ o. option_and_then (λ l. behind_line l.0 l.1) o) is

pub command_lacks_line : (a : List ℕ) (l n : Option (List ℕ)) → FindsNone (List ℕ) first_line a l n → FindsNone Command first_command a l n
command_lacks_line a l n f = record { more = f.more; took = f.took; none = ap (λ o. option_and_then (λ l. behind_line l.0 l.1) o) f.none }

module _ (a b : List ℕ) (l m : Option (List ℕ)) (line : List ℕ) (f : Finds (List ℕ) first_line a l b m line) where
  pub command_found_if : (c : List ℕ) (n : Option (List ℕ)) (o : Option Command) → IfSome o (Finds Command (behind_line line) b m c n) → IfSome o (Finds Command first_command a l c n)
  command_found_if c n None g = tt
  command_found_if c n (Some x) g = record {
    read = f.read ++ g.read;
    reads = reads_both a b c l m n f.read g.read f.reads g.reads;
    finds = λ rest. ap first_command (append_assoc f.read g.read rest) ∙ (first_is (f.read ++ (g.read ++ rest)) line (g.read ++ rest) (f.finds (g.read ++ rest)) ∙ g.finds rest);
  }

  pub command_lacks : (n : Option (List ℕ)) → FindsNone Command (behind_line line) b m n → FindsNone Command first_command a l n
  command_lacks n g = record {
    more = f.reads.more ++ g.more;
    took = took_both l m n f.reads.more g.more f.reads.took g.took;
    none = ap first_command (taken_both a b f.read f.reads.more g.more f.reads.are) ∙ (first_is (f.read ++ (b ++ g.more)) line (b ++ g.more) (f.finds (b ++ g.more)) ∙ g.none);
  }

-- ---- a script

pub leads_by : (r s : Reading) (left left' : Option (List ℕ)) (command : Command) → Finds Command first_command r.taken left s.taken left' command → Leads r s left left' command
leads_by r s left left' command f = record {
  bytes = f.read;
  more = f.reads.more;
  took = f.reads.took;
  are = f.reads.are;
  spell = λ most rest. rw (f.finds rest) refl;
}

pub lacks_by : (r : Reading) (left left' : Option (List ℕ)) → FindsNone Command first_command r.taken left left' → Lacks r left left'
lacks_by r left left' f = record { more = f.more; took = f.took; none = λ most. rw f.none refl }
