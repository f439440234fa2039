-- Reports told anew where they may differ are, with those that last, the reports of the whole repository.
-- Three theorems: the reports (`renewed_is`); the limits of all queries (`all_within`); and that the first of those
-- that are due that is refused is the first of all (`first_refused`).
use Rattle.std.proofs.Common.{◌≡◌, ℕ, Bool, true, false, ◌&&◌, ◌||◌, not, List, [], ◌∷◌, ◌++◌, length, filter, refl, sym, ap, subst, ◌∙◌, None}
use Rattle.std.specs.Prelude.{flat_map, filter_map}
use Rattle.std.proofs.lemmas.Bool.{false≢true}
use Rattle.std.proofs.lemmas.List.Elements.{filter-append}
use Rattle.std.specs.Cmp.{IsTotalOrder}
use Rattle.std.specs.List.{AllByRecursion}
use Rattle.std.specs.Option.{option_map_or}
use Rattle.gv_cert.specs.Known.{KnownRecord}
use Rattle.gv_entry.specs.declared.entry.Body.{Body}
use Rattle.gv_facts.specs.declared.kinds.Class.{Class}
use Rattle.gv_report.specs.Distinct.{ordered}
use Rattle.gv_report.specs.Order.{subject_cmp}
use Rattle.gv_report.specs.Selecting.{selected}
use Rattle.gv_report.specs.declared.options.Options.{Options}
use Rattle.gv_report.specs.declared.report.Report.{Report}
use Rattle.gv_plain.specs.Cases.{Member, members}
use Rattle.gv_reload.specs.EntryEdits.{IsPartOf, is_about, is_edited}
use Rattle.gv_checks.specs.Limits.{IsWithin, Refuses, RefusesFirst}
use Rattle.gv_plain.specs.Plain.{told_member}
use Rattle.gv_checks.specs.Queries.{queries}
use Rattle.gv_renew.specs.Renewal.{AreOfBefore, fresh_reports, is_due, is_lasting, is_stale, is_stale_class, mentions, rests_on_atoms, told_anew}
use Rattle.gv_renew.specs.Renewing.{FollowsOrder, RenewedLaw, is_tied}
use Rattle.gv_plain.specs.PlainReports.{atoms_in}
use Rattle.gv_checks.specs.RepoReports.{query_report, reports, scan_reports}
use Rattle.gv_checks.specs.Parts.{PartsLaw}
use Rattle.gv_checks.specs.declared.fault.JudgeFault.{JudgeFault}
use Rattle.gv_load.specs.Repository.{AreInPackageOrder}
use Rattle.gv_load.specs.declared.loading.Repo.{Repo}
use Rattle.gv_renew.proofs.Locality.{Alike, all_weaker, filter_among, report_alike}
use Rattle.gv_plain.specs.Lists.{filter_flat}
use Rattle.gv_renew.proofs.RenewalLimits.{refuses_all, within_all}
use Rattle.gv_renew.proofs.RenewalMembers.{each_of_old, members_same, unmentioned_alike}
use Rattle.gv_renew.proofs.RenewalQueries.{as_list, found_flat, is_past, lasting_asked, past_same, stale_asked}
use Rattle.gv_renew.proofs.RenewalStale.{KnownIf, all_known, edited_follows, stale_follows, subjects_tied}
use Rattle.gv_renew.proofs.RenewalTold.{all_join, filter_refused, lasting_free, lasting_none, lasting_of, lasting_same, stale_told}

-- ---- lists

filter_swap : {X : Type 0} (test other : X → Bool) (xs : List X) → filter test (filter other xs) ≡ filter other (filter test xs)
filter_swap test other [] = refl
filter_swap test other (x ∷ xs) = by (test x) refl (other x) refl (filter_swap test other xs)
  where
    by : (b : Bool) → test x ≡ b → (c : Bool) → other x ≡ c → filter test (filter other xs) ≡ filter other (filter test xs)
        → filter test (filter other (x ∷ xs)) ≡ filter other (filter test (x ∷ xs))
    by true b true c rest = rw (b, c) (rw b (ap (λ ys. x ∷ ys) rest))
    by true b false c rest = rw (b, c) rest
    by false b true c rest = rw (b, c) (rw b rest)
    by false b false c rest = rw (b, c) rest

filter_three : {X : Type 0} (test : X → Bool) (xs ys zs : List X) → filter test ((xs ++ ys) ++ zs) ≡ (filter test xs ++ filter test ys) ++ filter test zs
filter_three test xs ys zs = filter-append test (xs ++ ys) zs ∙ ap (λ rs. rs ++ filter test zs) (filter-append test xs ys)

all_kept : {X : Type 0} (P : X → Type 0) (test : X → Bool) (xs : List X) → AllByRecursion P xs → AllByRecursion P (filter test xs)
all_kept P test [] all = tt
all_kept P test (x ∷ xs) all = by (test x) refl (all_kept P test xs all.1)
  where
    by : (b : Bool) → test x ≡ b → AllByRecursion P (filter test xs) → AllByRecursion P (filter test (x ∷ xs))
    by true e rest = rw e (all.0, rest)
    by false e rest = rw e rest

all_pass : {X : Type 0} (test : X → Bool) (xs : List X) → AllByRecursion (λ x. test x ≡ true) (filter test xs)
all_pass test [] = tt
all_pass test (x ∷ xs) = by (test x) refl (all_pass test xs)
  where
    by : (b : Bool) → test x ≡ b → AllByRecursion (λ x. test x ≡ true) (filter test xs) → AllByRecursion (λ x. test x ≡ true) (filter test (x ∷ xs))
    by true e rest = rw e (e, rest)
    by false e rest = rw e rest

flat_each : {A B : Type 0} (f g : A → List B) (xs : List A) → AllByRecursion (λ x. f x ≡ g x) xs → flat_map f xs ≡ flat_map g xs
flat_each f g [] all = refl
flat_each f g (x ∷ xs) all = ap (λ rs. rs ++ flat_map f xs) all.0 ∙ ap (λ rs. g x ++ rs) (flat_each f g xs all.1)

is_false : (b : Bool) → (b ≡ true → ⊥) → b ≡ false
is_false true no_proof = absurd (no_proof refl)
is_false false no_proof = refl

neither : (a b : Bool) → (a || b) ≡ false → a ≡ false
neither true b e = absurd (false≢true (sym e))
neither false b e = refl

-- ---- a scan's reports in three parts: notes, what is told of packages, and what is told of queries

abbrev notes_in : Options → Repo → List Report
notes_in o repo = filter (selected o) repo.notes

abbrev told_in_all : Options → Repo → List Report
told_in_all o repo = flat_map (told_member o repo) (members repo)

abbrev asked_in_all : Options → Repo → List Report
asked_in_all o repo = filter_map query_report (queries o repo)

-- notes of a subject
notes_same : (o : Options) (r : Report) (xs ys : List Report) → filter (is_about r.subject) xs ≡ filter (is_about r.subject) ys
    → filter (is_tied r) (filter (selected o) xs) ≡ filter (is_tied r) (filter (selected o) ys)
notes_same o r xs ys e = about xs ∙ (ap (λ rs. filter (selected o) (filter (is_tied r) rs)) e ∙ sym (about ys))
  where
    about : (rs : List Report) → filter (is_tied r) (filter (selected o) rs) ≡ filter (selected o) (filter (is_tied r) (filter (is_about r.subject) rs))
    about rs = filter_swap (is_tied r) (selected o) rs ∙ ap (filter (selected o)) (sym (filter_among (is_tied r) (is_about r.subject) (subjects_tied r) rs))

module _ (o : Options) (paths : List (List ℕ)) (repo whole : Repo) (before : List Report) (bodies : length repo.bodies ≡ length repo.pkgs)
    (part : IsPartOf paths repo whole) (were : AreOfBefore o paths whole before) where
  whole_bodies : length whole.bodies ≡ length whole.pkgs
  whole_bodies = ap length part.but.bodies ∙ (bodies ∙ sym (ap length part.but.pkgs))

  same_members : members whole ≡ members repo
  same_members = rw (part.but.pkgs, part.but.bodies) refl

  same_queries : queries o whole ≡ queries o repo
  same_queries = rw (part.but.pkgs, part.but.bodies, part.but.profiles) refl

  same_told : told_in_all o whole ≡ told_in_all o repo
  same_told = rw (part.but.pkgs, part.but.bodies, part.but.profiles) refl

  alike : (b : Body) (k : Class) → mentions paths b k ≡ false → AllByRecursion (Alike were.old.pkgs whole.pkgs) (atoms_in b k)
  alike = unmentioned_alike paths were.old whole were.old_bodies whole_bodies were.differ

  module _ (in_parts : PartsLaw) (total : IsTotalOrder subject_cmp) (order : AreInPackageOrder repo.pkgs) where
    abbrev ms : List Member
    ms = members repo

    abbrev stale : Report → Bool
    stale = is_stale paths ms

    abbrev lasting : Report → Bool
    lasting = is_lasting paths ms

    follows : FollowsOrder stale
    follows = stale_follows paths ms total

    abbrev AllKnown : List Member → Type 0
    AllKnown ns = AllByRecursion (λ (m : Member). KnownIf paths ms m.pkg m.body) ns

    known_here : AllKnown ms
    known_here = all_weaker _ (λ (m : Member). KnownIf paths ms m.pkg m.body) (λ m known e. known) ms (all_known paths total 0 repo.pkgs repo.bodies order)

    known_whole : AllKnown (members whole)
    known_whole = subst AllKnown (sym same_members) known_here

    known_old : AllKnown (members were.old)
    known_old = each_of_old paths (λ p b. KnownIf paths ms p b) (λ p b e f. absurd (false≢true (sym f ∙ e))) were.old whole were.differ known_whole

    -- what lasts is the same in both
    lasting_told : filter lasting (told_in_all o were.old) ≡ filter lasting (told_in_all o whole)
    lasting_told =
        filter_flat lasting (told_member o were.old) (members were.old)
        ∙ (members_same paths (λ p b. KnownIf paths ms p b) (lasting_of o paths ms were.old) (lasting_of o paths ms whole)
        (lasting_same o paths ms were.old whole were.differ.profiles alike) were.old whole were.differ
        (lasting_free o paths ms were.old) (lasting_free o paths ms whole) (lasting_none o paths ms were.old) (lasting_none o paths ms whole) known_whole
        ∙ sym (filter_flat lasting (told_member o whole) (members whole)))

    past_asked : filter_map query_report (filter (is_past o paths) (queries o were.old)) ≡ filter_map query_report (filter (is_past o paths) (queries o whole))
    past_asked =
        found_flat query_report (filter (is_past o paths) (queries o were.old))
        ∙ (past_same o paths (λ q. as_list (query_report q)) (λ xs ys p profile level i j b k a. ap as_list (report_alike xs ys p profile level i j b k a))
        were.old whole were.differ alike
        ∙ sym (found_flat query_report (filter (is_past o paths) (queries o whole))))

    lasting_of_queries : filter lasting (asked_in_all o were.old) ≡ filter lasting (asked_in_all o whole)
    lasting_of_queries = lasting_asked o paths ms were.old known_old ∙ (past_asked ∙ sym (lasting_asked o paths ms whole known_whole))

    -- what is stale is told anew
    anew_told : filter stale (told_in_all o repo) ≡ flat_map (told_anew o paths repo) ms
    anew_told =
        filter_flat stale (told_member o repo) ms
        ∙ flat_each (λ m. filter stale (told_member o repo m)) (told_anew o paths repo) ms
        (all_weaker (λ (m : Member). KnownIf paths ms m.pkg m.body) _ (λ m known. stale_told o paths ms repo m known) ms known_here)

    anew_asked : filter stale (asked_in_all o repo) ≡ filter_map query_report (filter (is_due paths) (queries o repo))
    anew_asked = stale_asked o paths ms repo known_here

    -- tied with what lasts, or with what is stale
    tied_lasting : (r : Report) → stale r ≡ false → (xs ys : List Report) → filter lasting xs ≡ filter lasting ys → filter (is_tied r) xs ≡ filter (is_tied r) ys
    tied_lasting r e xs ys same = sym (these xs) ∙ (ap (filter (is_tied r)) same ∙ these ys)
      where
        these : (rs : List Report) → filter (is_tied r) (filter lasting rs) ≡ filter (is_tied r) rs
        these rs = filter_among (is_tied r) lasting (λ s tied. ap not (sym (follows r s tied) ∙ e)) rs

    tied_stale : (r : Report) → stale r ≡ true → (xs : List Report) → filter (is_tied r) (filter stale xs) ≡ filter (is_tied r) xs
    tied_stale r e xs = filter_among (is_tied r) stale (λ s tied. sym (follows r s tied) ∙ e) xs

    tied_before : (r : Report) → stale r ≡ false → filter (is_tied r) (filter (selected o) (reports were.old)) ≡ filter (is_tied r) (filter (selected o) (reports whole))
    tied_before r e =
        ap (filter (is_tied r)) (in_parts o were.old)
        ∙ (filter_three (is_tied r) (notes_in o were.old) (told_in_all o were.old) (asked_in_all o were.old)
        ∙ (ap (λ rs. (rs ++ filter (is_tied r) (told_in_all o were.old)) ++ filter (is_tied r) (asked_in_all o were.old))
        (notes_same o r were.old.notes whole.notes (sym (were.differ.notes r.subject (neither _ _ e))))
        ∙ (ap (λ rs. (filter (is_tied r) (notes_in o whole) ++ rs) ++ filter (is_tied r) (asked_in_all o were.old))
        (tied_lasting r e (told_in_all o were.old) (told_in_all o whole) lasting_told)
        ∙ (ap (λ rs. (filter (is_tied r) (notes_in o whole) ++ filter (is_tied r) (told_in_all o whole)) ++ rs) (tied_lasting r e (asked_in_all o were.old) (asked_in_all o whole) lasting_of_queries)
        ∙ (sym (filter_three (is_tied r) (notes_in o whole) (told_in_all o whole) (asked_in_all o whole))
        ∙ ap (filter (is_tied r)) (sym (in_parts o whole)))))))

    -- notes that are tied with what is stale are those of edited subjects
    note_edited : (s : Report) → s.class ≡ None → stale s ≡ true → is_edited paths s.subject ≡ true
    note_edited s none e =
        by (is_edited paths s.subject) (rests_on_atoms s.keyword)
        (ap (λ class. is_edited paths s.subject || (rests_on_atoms s.keyword && option_map_or (is_stale_class paths ms s.subject) class false)) (sym none) ∙ e)
      where
        by : (a b : Bool) → (a || (b && false)) ≡ true → a ≡ true
        by true b h = refl
        by false true h = h
        by false false h = h

    tied_notes : (r : Report) → stale r ≡ true → filter (is_tied r) (notes_in o repo) ≡ filter (is_tied r) (notes_in o whole)
    tied_notes r e = by (is_edited paths r.subject) refl
      where
        none_of : (xs : List Report) → AllByRecursion (λ s. is_tied r s ≡ false) xs → filter (is_tied r) (filter (selected o) xs) ≡ []
        none_of xs none = filter_refused (is_tied r) (filter (selected o) xs) (all_kept (λ s. is_tied r s ≡ false) (selected o) xs none)

        by : (b : Bool) → is_edited paths r.subject ≡ b → filter (is_tied r) (notes_in o repo) ≡ filter (is_tied r) (notes_in o whole)
        by true edited = notes_same o r repo.notes whole.notes (sym (part.notes r.subject edited))
        by false edited =
            none_of repo.notes (all_weaker (λ (s : Report). is_edited paths s.subject ≡ true) (λ s. is_tied r s ≡ false)
            (λ s is. is_false (is_tied r s) (λ tied. false≢true (sym edited ∙ (edited_follows paths ms r.subject s.subject (subjects_tied r s tied) ∙ is)))) repo.notes part.edited)
            ∙ sym (none_of whole.notes (all_weaker (λ (s : Report). s.class ≡ None) (λ s. is_tied r s ≡ false)
            (λ s none. is_false (is_tied r s) (λ tied. false≢true (sym edited ∙ (edited_follows paths ms r.subject s.subject (subjects_tied r s tied) ∙ note_edited s none (sym (follows r s tied) ∙ e)))))
            whole.notes were.differ.classless))

    tied_fresh : (r : Report) → stale r ≡ true → filter (is_tied r) (fresh_reports o paths repo) ≡ filter (is_tied r) (filter (selected o) (reports whole))
    tied_fresh r e =
        filter_three (is_tied r) (notes_in o repo) (flat_map (told_anew o paths repo) ms) (filter_map query_report (filter (is_due paths) (queries o repo)))
        ∙ (ap (λ rs. (rs ++ filter (is_tied r) (flat_map (told_anew o paths repo) ms)) ++ filter (is_tied r) (filter_map query_report (filter (is_due paths) (queries o repo))))
        (tied_notes r e)
        ∙ (ap (λ rs. (filter (is_tied r) (notes_in o whole) ++ rs) ++ filter (is_tied r) (filter_map query_report (filter (is_due paths) (queries o repo))))
        (ap (filter (is_tied r)) (sym anew_told) ∙ (tied_stale r e (told_in_all o repo) ∙ ap (filter (is_tied r)) (sym same_told)))
        ∙ (ap (λ rs. (filter (is_tied r) (notes_in o whole) ++ filter (is_tied r) (told_in_all o whole)) ++ rs)
        (ap (filter (is_tied r)) (sym anew_asked) ∙
        (tied_stale r e (asked_in_all o repo) ∙ ap (λ qs. filter (is_tied r) (filter_map query_report qs)) (sym same_queries)))
        ∙ (sym (filter_three (is_tied r) (notes_in o whole) (told_in_all o whole) (asked_in_all o whole))
        ∙ ap (filter (is_tied r)) (sym (in_parts o whole))))))

    all_fresh : AllByRecursion (λ r. stale r ≡ true) (fresh_reports o paths repo)
    all_fresh =
        all_join (λ r. stale r ≡ true) (notes_in o repo ++ flat_map (told_anew o paths repo) ms) _
        (all_join (λ r. stale r ≡ true) (notes_in o repo) _
        (all_kept (λ r. stale r ≡ true) (selected o) repo.notes
        (all_weaker (λ (s : Report). is_edited paths s.subject ≡ true) (λ r. stale r ≡ true)
        (λ s is. ap (λ b. b || (rests_on_atoms s.keyword && option_map_or (is_stale_class paths ms s.subject) s.class false)) is) repo.notes part.edited))
        (subst (AllByRecursion (λ r. stale r ≡ true)) anew_told (all_pass stale (told_in_all o repo))))
        (subst (AllByRecursion (λ r. stale r ≡ true)) anew_asked (all_pass stale (asked_in_all o repo)))

  -- what lasts and what is told anew
  pub renewed_is : PartsLaw → RenewedLaw → IsTotalOrder subject_cmp → AreInPackageOrder repo.pkgs
      → ordered (filter (is_lasting paths (members repo)) before ++ fresh_reports o paths repo) ≡ scan_reports o whole
  renewed_is in_parts law total order =
      ap (λ rs. ordered (filter (is_lasting paths (members repo)) rs ++ fresh_reports o paths repo)) were.reports
      ∙ law (is_stale paths (members repo)) (follows in_parts total order) (filter (selected o) (reports were.old)) (filter (selected o) (reports whole))
      (fresh_reports o paths repo)
      (tied_before in_parts total order) (tied_fresh in_parts total order) (all_fresh in_parts total order)

  -- where those that are due are within the limits, all are
  pub all_within : AllByRecursion IsWithin (filter (is_due paths) (queries o repo)) → AllByRecursion IsWithin (queries o whole)
  all_within due =
      within_all o paths were.old whole were.differ alike were.within (subst (λ qs. AllByRecursion IsWithin (filter (is_due paths) qs)) (sym same_queries) due)

  -- the first of those that are due that is refused is the first of all
  pub first_refused : (budget : ℕ) (given : List KnownRecord) (fault : JudgeFault) → RefusesFirst budget given (filter (is_due paths) (queries o repo)) fault
      → Refuses budget given (queries o whole) fault
  first_refused budget given fault refused =
      refuses_all o paths were.old whole were.differ alike were.within budget given fault
      (subst (λ qs. RefusesFirst budget given (filter (is_due paths) qs) fault) (sym same_queries) refused)
