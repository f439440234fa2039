-- Each path that a load read is short enough, and what stands there small enough.
use Rattle.std.proofs.Common.{◌≡◌, ℕ, ◌+◌, length, Bool, true, false, cond, List, [], ◌∷◌, Some, None, map, refl, sym, ap, subst, ◌∙◌}
use Rattle.std.specs.Prelude.{Option, Ok, Err, flat_map, nat_lt, if◌then◌else◌}
use Rattle.std.specs.FinMap.{get, insert, get-insert, get-empty}
use Rattle.std.specs.Cmp.Lexicographic.{nat_list_cmp_total}
use Rattle.std.specs.Ordering.{eq_by_cmp, is_eq}
use Rattle.std.specs.declared.cmp.Ordering.{Ordering}
use Rattle.std.specs.declared.cmp.Ordering.TheVariants.{Less, Equal, Greater}
use Rattle.std.proofs.lemmas.Map.Lookups.{exact_bytes}
use Rattle.gv_base.specs.Order.{byte_cmp, has_text}
use Rattle.gv_base.specs.Outside.{most_file_bytes}
use Rattle.gv_base.specs.declared.tree.Found.{Found}
use Rattle.gv_base.specs.declared.tree.Found.TheVariants.{File, Dir, Absent}
use Rattle.gv_reading.specs.declared.faults.LoadFault.TheVariants.{Limit, NotARepository}
use Rattle.gv_reload.specs.Counting.{FitsAt, Known, front_steps}
use Rattle.gv_load.specs.Entries.{all_reads, eclass_names}
use Rattle.gv_reading.specs.Look.{Look}
use Rattle.gv_reload.specs.Once.{once_paths}
use Rattle.gv_load.specs.Order.{categories, load_steps, packages_steps}
use Rattle.gv_load.specs.Paths.{eclass_path}
use Rattle.gv_reading.specs.Reader.{Seen, nothing}
use Rattle.gv_reading.specs.Reading.{Out, Step, read, list, need, bound, once, after, after_new, after_read, and_then, if_file, most_files, most_path, passed, with_found}
use Rattle.gv_reload.proofs.Counting.{fits_in, fits_new, no_seen, once_is, passed_is, same_seen}
use Rattle.gv_reload.proofs.EntryPassing.{light_packages, load_is, of_map}
use Rattle.gv_reload.proofs.OnceLaw.{of_packages, paths_in}
use Rattle.gv_load.specs.ListLemmas.{in_back}

abbrev KnownFits : Look → Known → Type 0
KnownFits look known = (path : List ℕ) (found : Found) → get known path ≡ Some found → FitsAt look path

-- ---- what is put there fits
not_none : {X : Type 0} (found : Found) → (let o : Option Found = None in o) ≡ Some found → X
not_none found is = cc

equal : (o : Ordering) → is_eq o ≡ true → o ≡ Equal
equal Less is = cc
equal Equal is = refl
equal Greater is = cc

put_fits : (look : Look) (known : Known) (path : List ℕ) (here : Found) → FitsAt look path → KnownFits look known → KnownFits look (insert known path here)
put_fits look known path here fits before q found is = by (eq_by_cmp byte_cmp q path) refl (sym (get-insert nat_list_cmp_total known path here q) ∙ is)
  where
    by : (b : Bool) → eq_by_cmp byte_cmp q path ≡ b → cond b (Some here) (get known q) ≡ Some found → FitsAt look q
    by true same there = subst (FitsAt look) (sym (exact_bytes q path (equal _ same))) fits
    by false other there = before q found there

-- ---- one step
new_known : (look : Look) (seen next : Seen) (path : List ℕ) (found : Found) (long large room : Bool) →
    look.found path ≡ found → nat_lt most_path (length path) ≡ long → ((bytes : List ℕ) → found ≡ File bytes → nat_lt most_file_bytes (length bytes) ≡ large) → nat_lt seen.found most_files ≡ room →
    after_new look seen path ≡ Ok next → next.known ≡ insert seen.known path found
new_known look seen next path found true large room is long_is large_is room_is comes = no_seen (Limit path most_path) next (sym (rw long_is refl) ∙ comes)
new_known look seen next path (File bytes) false true room is long_is large_is room_is comes =
    let large : nat_lt most_file_bytes (length bytes) ≡ true = large_is bytes refl in
    no_seen (Limit path most_file_bytes) next (sym (rw (long_is, is, large) refl) ∙ comes)
new_known look seen next path (File bytes) false false false is long_is large_is room_is comes =
    let small : nat_lt most_file_bytes (length bytes) ≡ false = large_is bytes refl in
    no_seen (Limit path most_files) next (sym (rw (long_is, is, small, room_is) refl) ∙ comes)
new_known look seen next path (File bytes) false false true is long_is large_is room_is comes =
    let small : nat_lt most_file_bytes (length bytes) ≡ false = large_is bytes refl in
    sym (ap (λ (s : Seen). s.known) (same_seen (with_found seen path (File bytes) (seen.found + 1)) next (sym (rw (long_is, is, small, room_is) refl) ∙ comes)))
new_known look seen next path Dir false large room is long_is large_is room_is comes =
    sym (ap (λ (s : Seen). s.known) (same_seen (with_found seen path Dir seen.found) next (sym (rw (long_is, is) refl) ∙ comes)))
new_known look seen next path Absent false large room is long_is large_is room_is comes =
    sym (ap (λ (s : Seen). s.known) (same_seen (with_found seen path Absent seen.found) next (sym (rw (long_is, is) refl) ∙ comes)))

abbrev large_by : Found → Bool
large_by (File bytes) = nat_lt most_file_bytes (length bytes)
large_by Dir = false
large_by Absent = false

as_it_was : (look : Look) (seen next : Seen) → seen ≡ next → KnownFits look seen.known → KnownFits look next.known
as_it_was look seen next is before = subst (λ (s : Seen). KnownFits look s.known) is before

read_fits : (look : Look) (seen next : Seen) (path : List ℕ) → after_read look seen path ≡ Ok next → KnownFits look seen.known → KnownFits look next.known
read_fits look seen next path comes before = by (get seen.known path) refl
  where
    by : (o : Option Found) → get seen.known path ≡ o → KnownFits look next.known
    by (Some found) known = as_it_was look seen next (same_seen seen next (sym (rw known refl) ∙ comes)) before
    by None none =
        let new : after_new look seen path ≡ Ok next = sym (rw none refl) ∙ comes in
        let known : next.known ≡ insert seen.known path (look.found path) = new_known look seen next path (look.found path) _ (large_by (look.found path)) _ refl refl (λ bytes is. ap large_by (sym is)) refl new in
        subst (KnownFits look) (sym known) (put_fits look seen.known path (look.found path) (fits_new look seen next path new) before)

file_stays : (path : List ℕ) (found : Found) (mid next : Seen) → if_file path found mid ≡ Ok next → mid ≡ next
file_stays path (File bytes) mid next is = same_seen mid next is
file_stays path Dir mid next is = no_seen (NotARepository path) next is
file_stays path Absent mid next is = no_seen (NotARepository path) next is

step_fits : (look : Look) (seen next : Seen) (step : Step) → after look seen step ≡ Ok next → KnownFits look seen.known → KnownFits look next.known
step_fits look seen next (read path) comes before = read_fits look seen next path comes before
step_fits look seen next (list path) comes before = by (nat_lt most_path (length path)) comes
  where
    by : (b : Bool) → (let o : Out = if b then Err (Limit path most_path) else Ok seen in o) ≡ Ok next → KnownFits look next.known
    by true is = no_seen (Limit path most_path) next is
    by false is = as_it_was look seen next (same_seen seen next is) before
step_fits look seen next (need path) comes before = by (after_read look seen path) refl comes
  where
    by : (o : Out) → after_read look seen path ≡ o → and_then o (if_file path (look.found path)) ≡ Ok next → KnownFits look next.known
    by (Err fault) at is = no_seen fault next is
    by (Ok mid) at is = as_it_was look mid next (file_stays path (look.found path) mid next is) (read_fits look seen mid path at before)
step_fits look seen next (bound place most true) comes before = no_seen (Limit place most) next comes
step_fits look seen next (bound place most false) comes before = as_it_was look seen next (same_seen seen next comes) before
step_fits look seen next (once path) comes before = subst (KnownFits look) (sym (ap (λ (s : Seen). s.known) (once_is look seen next path comes).comes_to)) before

-- ---- all steps
passed_fits : (look : Look) (seen next : Seen) (steps : List Step) → passed look seen steps ≡ Ok next → KnownFits look seen.known → KnownFits look next.known
passed_fits look seen next [] is before = as_it_was look seen next (same_seen seen next is) before
passed_fits look seen next (step ∷ steps) is before = by (after look seen step) refl is (λ mid rest. passed_fits look mid next steps rest)
  where
    by : (o : Out) → after look seen step ≡ o → and_then o (λ n. passed look n steps) ≡ Ok next → ((mid : Seen) → passed look mid steps ≡ Ok next → KnownFits look mid.known → KnownFits look next.known) → KnownFits look next.known
    by (Err fault) at whole go = no_seen fault next whole
    by (Ok mid) at whole go = go mid whole (step_fits look seen mid step at before)

nothing_fits : (look : Look) → KnownFits look nothing.known
nothing_fits look path found is = not_none found (sym (get-empty byte_cmp path) ∙ is)

-- ---- what the packages read
pub packages_fit : (look : Look) (seen : Seen) → passed look nothing (load_steps look) ≡ Ok seen → (path : List ℕ) → has_text (once_paths (packages_steps look (categories look))) path ≡ true → FitsAt look path
packages_fit look seen is path there = by (passed look nothing (front_steps look)) refl (sym (load_is look) ∙ is)
  where
    by : (o : Out) → passed look nothing (front_steps look) ≡ o → and_then o (λ n. passed look n (packages_steps look (categories look))) ≡ Ok seen → FitsAt look path
    by (Err fault) at rest = no_seen fault seen rest
    by (Ok mid) at rest = known (get mid.known path) refl
      where
        known : (o : Option Found) → get mid.known path ≡ o → FitsAt look path
        known (Some found) some = passed_fits look nothing mid (front_steps look) at (nothing_fits look) path found some
        known None none = fits_in look mid.known (packages_steps look (categories look)) (passed_is look mid seen (packages_steps look (categories look)) (light_packages look (categories look)) rest).fine path there none

pub eclasses_fit : (look : Look) (seen : Seen) → passed look nothing (load_steps look) ≡ Ok seen → (name : List ℕ) → has_text (eclass_names (all_reads look (categories look))) name ≡ true → FitsAt look (eclass_path name)
eclasses_fit look seen is name there =
    packages_fit look seen is (eclass_path name)
    (ap (λ ps. has_text ps (eclass_path name)) (of_packages look (categories look))
    ∙ in_back (flat_map (paths_in look) (categories look)) (map eclass_path (eclass_names (all_reads look (categories look)))) (eclass_path name) (of_map eclass_path (eclass_names (all_reads look (categories look))) name there))
