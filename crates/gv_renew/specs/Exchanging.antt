-- For private contracts: reports in order of which some are exchanged for others, and between which two places these differ.
use Rattle.std.specs.Prelude.{◌≡◌, ℕ, ◌+◌, ◌-◌, Bool, true, false, not, ◌&&◌, if◌then◌else◌, List, [], ◌∷◌, filter, filter_map, slice_get, take, drop, nat_eq, nat_le}
use Rattle.gv_report.specs.declared.report.Report.{Report}
use Rattle.gv_report.specs.Distinct.{is_before}
use Rattle.gv_renew.specs.declared.exchanging.Window.{Window}

-- those at these places
abbrev pub at_places : List Report → List ℕ → List Report
at_places reports places = filter_map (slice_get reports) places

-- those at none of these places, which ascend, where the first has the place n
abbrev pub without : (n : ℕ) → (places : List ℕ) → List Report → List Report
without n [] [] = []
without n (k ∷ ks) [] = []
without n [] (r ∷ rs) = r ∷ without (n + 1) [] rs
without n (k ∷ ks) (r ∷ rs) = if nat_eq k n then without (n + 1) ks rs else r ∷ without (n + 1) (k ∷ ks) rs

-- those places that aren't in front of n
abbrev pub from_place : (n : ℕ) → List ℕ → List ℕ
from_place n places = filter (nat_le n) places

-- the reports of the window, or the fresh ones of it
abbrev pub between : {A : Type 0} → (first end : ℕ) → List A → List A
between first end xs = take (end - first) (drop first xs)

-- before the first of them, if there is one
abbrev pub is_before_first : List Report → Report → Bool
is_before_first [] r = true
is_before_first (s ∷ ss) r = is_before r s

-- behind the last of them, if there is one
abbrev pub is_behind_last : List Report → Report → Bool
is_behind_last [] r = true
is_behind_last (s ∷ []) r = is_before s r
is_behind_last (s ∷ t ∷ ts) r = is_behind_last (t ∷ ts) r

-- before the first of both, and not behind the last of both
abbrev pub is_ahead : (stale fresh : List Report) → Report → Bool
is_ahead stale fresh r = is_before_first stale r && is_before_first fresh r

abbrev pub is_no_later : (stale fresh : List Report) → Report → Bool
is_no_later stale fresh r = not (is_behind_last stale r && is_behind_last fresh r)

-- what comes earlier passes too
abbrev pub IsClosed : (Report → Bool) → Type 0
IsClosed test = (r s : Report) → is_before s r ≡ false → test s ≡ true → test r ≡ true

-- By two tests of the order the reports fall into those in front, those of the window, and those behind it. The stale and the fresh
-- ones are the same in front of it, and behind it.
pub record IsWindow (before stale fresh : List Report) (w : Window) : Type 0 where
  pub ahead : Report → Bool
  pub early : Report → Bool
  pub ahead_closed : IsClosed ahead
  pub early_closed : IsClosed early
  pub same_ahead : filter ahead fresh ≡ filter ahead stale
  pub same_behind : filter (λ r. not (early r)) fresh ≡ filter (λ r. not (early r)) stale
  pub front : take w.first before ≡ filter ahead before
  pub middle : between w.first w.end before ≡ filter early (filter (λ r. not (ahead r)) before)
  pub back : drop w.end before ≡ filter (λ r. not (early r)) (filter (λ r. not (ahead r)) before)
  pub fresh_middle : between w.fresh_first w.fresh_end fresh ≡ filter early (filter (λ r. not (ahead r)) fresh)
