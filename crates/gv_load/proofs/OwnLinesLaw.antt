-- The numbers of the lines of a profile list rise, so the profiles of these have lines of their own.
use Rattle.std.proofs.Common.{◌≡◌, ℕ, suc, zero, ◌+◌, ◌<◌, ◌≤◌, Bool, true, false, ◌&&◌, if◌then◌else◌, List, [], ◌∷◌, ◌++◌, Option, Some, None, refl, sym, ap, subst, ◌∙◌, arith}
use Rattle.std.specs.Prelude.{filter_map, fold, option_map, slice_get}
use Rattle.std.specs.List.{enumerate_from}
use Rattle.gv_version.specs.Names.{is_keyword}
use Rattle.gv_facts.specs.declared.kinds.Status.{Status}
use Rattle.gv_facts.specs.declared.profile.Profile.{Profile}
use Rattle.gv_profile.specs.Desc.{desc_read, described, good_line, read_after, repeats, status_word, with_line, with_told}
use Rattle.gv_profile.specs.Folding.{profile_of}
use Rattle.gv_profile.specs.Lines.{file_lines, line_words}
use Rattle.gv_profile.specs.Paths.{is_relative}
use Rattle.gv_profile.specs.Walking.{Look, stack_fault}
use Rattle.gv_profile.specs.declared.desc.DescLine.{DescLine}
use Rattle.gv_profile.specs.declared.desc.DescRead.{DescRead}
use Rattle.gv_profile.specs.declared.faults.ProfileFault.{ProfileFault}
use Rattle.gv_reading.specs.declared.files.NamedFile.{NamedFile}
use Rattle.gv_load.specs.OwnLines.{AreNumbered, HaveOwnLines, Rise}
use Rattle.gv_load.specs.Stacks.{profile_at, unless}

-- ---- the lines

one_more : (low high : ℕ) (lines : List DescLine) (line : DescLine) → Rise low lines high → high < line.number → Rise low (lines ++ line ∷ []) line.number
one_more low high [] line rise lt = (omega (arith, rise, lt), omega arith)
one_more low high (l ∷ ls) line rise lt = (rise.0, one_more l.number high ls line rise.1 lt)

-- a good line has the number that it is read with
good_number : (number : ℕ) (words : List (List ℕ)) (line : DescLine) → good_line number words ≡ Some line → line.number ≡ number
good_number number [] line e = cc
good_number number (arch ∷ []) line e = cc
good_number number (arch ∷ path ∷ []) line e = cc
good_number number (arch ∷ path ∷ status ∷ words) line e = by (is_keyword arch && is_relative path) (status_word status) e
  where
    number_in : Option DescLine → ℕ
    number_in None = number
    number_in (Some l) = l.number

    by : (b : Bool) (s : Option Status) → (if b then option_map (described number arch path) s else None) ≡ Some line → line.number ≡ number
    by true None f = cc
    by true (Some s) f = sym (ap number_in f)
    by false s f = cc

told : (high number : ℕ) (read : DescRead) (words : List (List ℕ)) (good : Option DescLine) → Rise 0 read.lines high → high < number → good_line number words ≡ good
    → (next : ℕ) × (next ≤ number) × Rise 0 (with_told read number words good).lines next
told high number read words (Some line) rise lt e =
    let is : line.number ≡ number = good_number number words line e in
    (line.number, omega (arith, is), one_more 0 high read.lines line rise (omega (arith, is, lt)))
told high number read [] None rise lt e = (high, omega (arith, lt), rise)
told high number read (word ∷ words) None rise lt e = (high, omega (arith, lt), rise)

lined : (high number : ℕ) (read : DescRead) (words : List (List ℕ)) → Rise 0 read.lines high → high < number → (next : ℕ) × (next ≤ number) × Rise 0 (with_line read number words).lines next
lined high number read words rise lt = by (repeats read.lines words) (told high number read words (good_line number words) rise lt refl)
  where
    by : (b : Bool) → ((next : ℕ) × (next ≤ number) × Rise 0 (with_told read number words (good_line number words)).lines next)
        → (next : ℕ) × (next ≤ number) × Rise 0 (if b then read else with_told read number words (good_line number words)).lines next
    by true h = (high, omega (arith, lt), rise)
    by false h = h

after : (high number : ℕ) (pieces : List (List ℕ)) (read : DescRead) → Rise 0 read.lines high → high < number → AreNumbered (read_after read (enumerate_from number pieces)).lines
after high number [] read rise lt = (high, rise)
after high number (piece ∷ pieces) read rise lt =
    let next = lined high number read (line_words piece) rise lt in
    after next.0 (number + 1) pieces (with_line read number (line_words piece)) next.2 (omega (arith, next.1))

pub are_numbered : (bytes : List ℕ) → AreNumbered (desc_read bytes).lines
are_numbered bytes = after 0 1 (file_lines bytes) (record { lines = []; notes = [] }) (omega arith) (omega arith)

-- ---- the profiles

-- of profiles as of lines
abbrev RiseBy : ℕ → List Profile → Type 0
RiseBy low [] = Unit {0}
RiseBy low (p ∷ ps) = (low < p.line) × RiseBy p.line ps

lower : (low more : ℕ) (ps : List Profile) → low ≤ more → RiseBy more ps → RiseBy low ps
lower low more [] le rise = tt
lower low more (p ∷ ps) le rise = (omega (arith, le, rise.0), rise.1)

line_in : (line : ℕ) → Option Profile → ℕ
line_in line None = line
line_in line (Some p) = p.line

rising : (dirs : Look) (masks : List NamedFile) (low high : ℕ) (lines : List DescLine) → Rise low lines high → RiseBy low (filter_map (profile_at dirs masks) lines)
rising dirs masks low high [] rise = tt
rising dirs masks low high (line ∷ lines) rise = by (stack_fault dirs line) refl (rising dirs masks line.number high lines rise.1)
  where
    by : (fault : Option ProfileFault) → stack_fault dirs line ≡ fault → RiseBy line.number (filter_map (profile_at dirs masks) lines) → RiseBy low (filter_map (profile_at dirs masks) (line ∷ lines))
    by None e rest = rw e (rise.0, rest)
    by (Some fault) e rest = rw e (lower low line.number (filter_map (profile_at dirs masks) lines) (omega (arith, rise.0)) rest)

above : (low : ℕ) (ps : List Profile) → RiseBy low ps → (i : ℕ) (p : Profile) → slice_get ps i ≡ Some p → low < p.line
above low [] rise i p e = cc
above low (q ∷ ps) rise zero p e = let same : q ≡ p = cc in subst (λ (r : Profile). low < r.line) same rise.0
above low (q ∷ ps) rise (suc i) p e = let more = above q.line ps rise.1 i p e in omega (arith, rise.0, more)

own : (low : ℕ) (ps : List Profile) → RiseBy low ps → HaveOwnLines ps
own low [] rise i j one two e f same = cc
own low (p ∷ ps) rise zero zero one two e f same = let a : p ≡ one = cc in let b : p ≡ two = cc in sym a ∙ b
own low (p ∷ ps) rise zero (suc j) one two e f same =
    let a : p ≡ one = cc in
    let more = above p.line ps rise.1 j two f in
    let at : p.line ≡ one.line = ap (λ (r : Profile). r.line) a in
    absurd (omega (arith, more, at, same))
own low (p ∷ ps) rise (suc i) zero one two e f same =
    let b : p ≡ two = cc in
    let more = above p.line ps rise.1 i one e in
    let at : p.line ≡ two.line = ap (λ (r : Profile). r.line) b in
    absurd (omega (arith, more, at, same))
own low (p ∷ ps) rise (suc i) (suc j) one two e f same = own p.line ps rise.1 i j one two e f same

pub have_own : (dirs : Look) (masks : List NamedFile) (lines : List DescLine) (profiles : List Profile) → AreNumbered lines → profiles ≡ filter_map (profile_at dirs masks) lines → HaveOwnLines profiles
have_own dirs masks lines profiles numbered is = subst HaveOwnLines (sym is) (own 0 (filter_map (profile_at dirs masks) lines) (rising dirs masks 0 numbered.0 lines numbered.1))
