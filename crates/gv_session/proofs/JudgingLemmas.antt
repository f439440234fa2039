-- From reports that are judged anew, or renewed, to what a report says and leaves.
use Rattle.std.proofs.Common.{◌≡◌, ℕ, zero, suc, ◌+◌, ◌<◌, ◌≤◌, Bool, true, false, ◌&&◌, not, if◌then◌else◌, cond, List, [], ◌∷◌, length, map, filter, refl, sym, ap, subst, ◌∙◌, Option, None, Some, arith}
use Rattle.std.specs.Prelude.{Result, Ok, Err, take, drop, IfSome, IfOk, IfErr}
use Rattle.std.specs.List.{list_all, list_any}
use Rattle.std.proofs.lemmas.Bool.{false≢true, and_parts}
use Rattle.gv_base.specs.Counts.{Counts}
use Rattle.gv_base.specs.FileMap.{FileMap}
use Rattle.gv_edits.specs.Edits.{edit_path, edited, edited_told}
use Rattle.gv_edits.specs.declared.edit.Edit.{Edit}
use Rattle.gv_reload.specs.EntryEdits.{AreAlikeBut, DifferIn, EntriesLaw, IsAllBut, IsPartOf, is_entry, is_in_metadata, is_other, together}
use Rattle.gv_load.specs.Repository.{AreClassless, AreInPackageOrder, folders_of}
use Rattle.gv_reload.specs.Replacing.{IsAfter, IsChange}
use Rattle.gv_reload.specs.Rereading.{IsRereadOf, TellsWhole}
use Rattle.gv_reload.specs.declared.replacing.Changed.TheVariants.{Part, Other}
use Rattle.gv_load.specs.Loading.{PassesWithin, loading}
use Rattle.gv_reading.specs.Look.{look_of}
use Rattle.gv_load.specs.declared.loading.Folders.{Folders}
use Rattle.gv_load.specs.declared.loading.Loaded.{Loaded}
use Rattle.gv_load.specs.declared.loading.Repo.{Repo}
use Rattle.gv_report.specs.Distinct.{ordered}
use Rattle.gv_report.specs.Selecting.{selected}
use Rattle.gv_report.specs.declared.options.Options.{Options}
use Rattle.gv_report.specs.declared.report.Report.{Report}
use Rattle.gv_renew.specs.Mentioned.{member_body, other_bodies}
use Rattle.gv_checks.specs.Queries.{queries}
use Rattle.gv_renew.specs.Renewal.{AreOfBefore, is_due}
use Rattle.gv_checks.specs.RepoReports.{reports as all_reports, scan_reports}
use Rattle.gv_session.specs.Due.{due, is_small, new_paths}
use Rattle.gv_session.specs.Judging.{IsAgain, IsAll, IsAnew, IsJudgedFor, IsRefusedFor, Outset}
use Rattle.gv_session.specs.Session.{IsFound, IsLast, IsLoaded, JudgeCause}
use Rattle.gv_session.specs.declared.fault.SessionFault.{SessionFault}
use Rattle.gv_session.specs.Small.{AreSmall}
use Rattle.gv_session.specs.declared.last.Last.{Last}
use Rattle.gv_session.proofs.CauseLemmas.{itself, refused}
use Rattle.gv_session.proofs.EditLemmas.{found_at, same_elsewhere, take_all}

whatever : (told : Option FileMap) {X : Type 0} → X → IfSome told (λ files. X)
whatever None x = tt
whatever (Some files) x = x

-- ---- the reports that are kept are in order
pub in_order : ((given : List Report) → ordered (ordered given) ≡ ordered given) → (options : Options) (repo : Repo) (kept : List Report) → kept ≡ scan_reports options repo → ordered kept ≡ kept
in_order again options repo kept is = ap ordered is ∙ again (filter (selected options) (all_reports repo)) ∙ sym is

-- ---- no edit came behind the last report

pub unchanged : (o : Outset) (last : Last) → IsLast o.options o.edits o.told last → length o.edits ≤ last.seen → IsJudgedFor o o.before last
unchanged o last l none = record {
  repo = l.repo;
  but = l.but;
  bodies = l.bodies;
  order = l.order;
  classless = l.classless;
  loaded = subst (λ es. IsLoaded es o.told l.repo) all l.loaded;
  found = subst (λ es. IsFound es o.told last.loaded) all l.found;
  seen = seen;
  within = l.within;
  reports = l.reports;
  mentioned = l.mentioned;
  lowered = nothing_more o.before.lower (length (queries o.options l.repo));
  few = whatever o.told (nothing_more o.before.lower (due o.options l.repo last.loaded.folders o.edits o.seen));
}
  where
    same : (m n : ℕ) → m ≤ n → n ≤ m → m ≡ n
    same m n few more = omega (arith, few, more)

    nothing_more : (n more : ℕ) → n ≤ n + more
    nothing_more n more = omega (arith)

    seen : last.seen ≡ length o.edits
    seen = same last.seen (length o.edits) l.few none

    all : take last.seen o.edits ≡ o.edits
    all = ap (λ n. take n o.edits) seen ∙ take_all o.edits

-- ---- judged anew

-- where all queries are due
all_due : (o : Outset) (now : Counts) (l : Last) → (a : IsAll o.options o.edits o.told o.before now l)
    → IfSome o.told (λ files. due o.options a.whole.repo a.whole.folders o.edits o.seen ≡ length (queries o.options a.whole.repo)) → IsJudgedFor o now l
all_due o now l a all = record {
  repo = a.whole.repo;
  but = subst (λ (w : Loaded). IsAllBut w.repo a.whole.repo) (sym a.anew.loaded_is) (itself a.whole.repo);
  bodies = subst (λ (w : Loaded). length w.repo.bodies ≡ length w.repo.pkgs) (sym a.anew.loaded_is) a.bodies;
  order = subst (λ (w : Loaded). AreInPackageOrder w.repo.pkgs) (sym a.anew.loaded_is) a.order;
  classless = a.classless;
  loaded = a.loaded;
  found = subst (IsFound o.edits o.told) (sym a.anew.loaded_is) a.found;
  seen = a.anew.seen;
  within = a.anew.within;
  reports = a.anew.reports;
  mentioned = subst (λ (w : Loaded). l.mentioned ≡ w.repo.bodies) (sym a.anew.loaded_is) a.anew.mentioned;
  lowered = a.anew.lowered;
  few = subst (λ (w : Loaded). IfSome o.told (λ files. now.lower ≤ o.before.lower + due o.options a.whole.repo w.folders o.edits o.seen)) (sym a.anew.loaded_is) (by o.told all);
}
  where
    by : (told : Option FileMap) → IfSome told (λ files. due o.options a.whole.repo a.whole.folders o.edits o.seen ≡ length (queries o.options a.whole.repo))
        → IfSome told (λ files. now.lower ≤ o.before.lower + due o.options a.whole.repo a.whole.folders o.edits o.seen)
    by None h = tt
    by (Some files) h = subst (λ n. now.lower ≤ o.before.lower + n) (sym h) a.anew.lowered

-- all that is loaded
pub all_judged : (options : Options) (edits : List Edit) (told : Option FileMap) (before now : Counts) (loaded : Loaded) (result : Result Last SessionFault)
    → IsLoaded edits told loaded.repo → IsFound edits told loaded → length loaded.repo.bodies ≡ length loaded.repo.pkgs → AreInPackageOrder loaded.repo.pkgs → AreClassless loaded.repo.notes
    → IfOk result (IsAnew options loaded edits before now) → IfOk result (IsAll options edits told before now)
all_judged options edits told before now loaded (Err fault) is found bodies order classless anew = tt
all_judged options edits told before now loaded (Ok l) is found bodies order classless anew = record {
  whole = loaded;
  loaded = is;
  found = found;
  bodies = bodies;
  order = order;
  classless = classless;
  anew = anew;
}

pub all_first : (o : Outset) (now : Counts) (l : Last) → o.seen ≡ None → IsAll o.options o.edits o.told o.before now l → IsJudgedFor o now l
all_first o now l first a = all_due o now l a (whatever o.told (ap (due o.options a.whole.repo a.whole.folders o.edits) first))

-- ---- small edits

-- small paths are those of entries, and where there is one, no directory of the profiles lies among entries
entries_of : (folders : Folders) (paths : List (List ℕ)) → list_all (is_small folders) paths ≡ true → list_all (is_entry folders.categories) paths ≡ true
entries_of folders [] h = refl
entries_of folders (p ∷ ps) h =
    let parts = and_parts (is_small folders p) (list_all (is_small folders) ps) h in
    let own = and_parts (is_entry folders.categories p) (not (list_any is_in_metadata folders.directories)) parts.0 in
    both (is_entry folders.categories p) (list_all (is_entry folders.categories) ps) own.0 (entries_of folders ps parts.1)
  where
    both : (a b : Bool) → a ≡ true → b ≡ true → (a && b) ≡ true
    both true b e f = f
    both false b e f = e

pub entries_are : (folders : Folders) (paths these : List (List ℕ)) → AreSmall folders paths (Some these) → list_all (is_entry folders.categories) these ≡ true
entries_are folders paths these small = ap (list_all (is_entry folders.categories)) small.0 ∙ entries_of folders paths small.1

apart_of : (folders : Folders) (p : List ℕ) (ps : List (List ℕ)) → list_all (is_small folders) (p ∷ ps) ≡ true → list_any is_in_metadata folders.directories ≡ false
apart_of folders p ps h =
    let parts = and_parts (is_small folders p) (list_all (is_small folders) ps) h in
    let own = and_parts (is_entry folders.categories p) (not (list_any is_in_metadata folders.directories)) parts.0 in
    turned (list_any is_in_metadata folders.directories) own.1
  where
    turned : (b : Bool) → not b ≡ true → b ≡ false
    turned false e = refl
    turned true e = absurd (false≢true e)

apart_by : (folders : Folders) (edits : List Edit) (seen : ℕ) → seen < length edits → list_all (is_small folders) (new_paths edits seen) ≡ true → list_any is_in_metadata folders.directories ≡ false
apart_by folders [] seen some small = absurd (omega (arith, some))
apart_by folders (d ∷ ds) zero some small = apart_of folders (edit_path d) (map edit_path ds) small
apart_by folders (d ∷ ds) (suc n) some small = apart_by folders ds n (omega (arith, some)) small

-- ---- the repositories of before and now

-- the files with the edits that were seen, and those with all
record Loads (files : FileMap) (edits : List Edit) (seen : ℕ) (before repo : Repo) (kept folders : Folders) : Type 0 where
  old : loading (look_of (edited files (take seen edits))) ≡ Ok before
  new : loading (look_of (edited files edits)) ≡ Ok repo
  old_folders : kept ≡ folders_of (look_of (edited files (take seen edits)))
  new_folders : folders ≡ folders_of (look_of (edited files edits))

-- edits that aren't small for the repository of before aren't for that of now
not_small : EntriesLaw → (files : FileMap) (edits : List Edit) (seen : ℕ) (before repo : Repo) (kept folders : Folders) → list_all (is_small kept) (new_paths edits seen) ≡ false
    → Loads files edits seen before repo kept folders → list_all (is_small folders) (new_paths edits seen) ≡ false
not_small law files edits seen before repo kept folders large loads = by (list_all (is_small folders) (new_paths edits seen)) refl
  where
    from : (others : List Edit) → drop seen edits ≡ others → list_all (is_small folders) (new_paths edits seen) ≡ true → list_all (is_small kept) (new_paths edits seen) ≡ true
    from [] e small = ap (λ es. list_all (is_small kept) (map edit_path es)) e
    from (d ∷ ds) e small =
        let entries = entries_of folders (new_paths edits seen) small in
        let apart = apart_of folders (edit_path d) (map edit_path ds) (ap (λ es. list_all (is_small folders) (map edit_path es)) (sym e) ∙ small) in
        let back = law (new_paths edits seen) (edited files edits) (edited files (take seen edits)) repo before
        (ap (λ (f : Folders). list_all (is_entry f.categories) (new_paths edits seen)) (sym loads.new_folders) ∙ entries)
        (ap (λ (f : Folders). list_any is_in_metadata f.directories) (sym loads.new_folders) ∙ apart) (λ p none. sym (same_elsewhere files edits seen p none)) loads.new loads.old in
        ap (λ (f : Folders). list_all (is_small f) (new_paths edits seen)) (loads.old_folders ∙ back.1 ∙ sym loads.new_folders) ∙ small

    by : (b : Bool) → list_all (is_small folders) (new_paths edits seen) ≡ b → b ≡ false
    by false e = refl
    by true e = absurd (false≢true (sym large ∙ from (drop seen edits) refl e))

pub all_large : EntriesLaw → (o : Outset) (last : Last) (now : Counts) (l : Last) → o.seen ≡ Some last.seen → IsLast o.options o.edits o.told last
    → AreSmall last.loaded.folders (new_paths o.edits last.seen) None → IsAll o.options o.edits o.told o.before now l → IsJudgedFor o now l
all_large law o last now l seen is large a = all_due o now l a (by o.told refl)
  where
    by : (told : Option FileMap) → o.told ≡ told → IfSome told (λ files. due o.options a.whole.repo a.whole.folders o.edits o.seen ≡ length (queries o.options a.whole.repo))
    by None e = tt
    by (Some files) e =
        let loads : Loads files o.edits last.seen is.repo a.whole.repo last.loaded.folders a.whole.folders = record {
          old = subst (λ t. IsLoaded (take last.seen o.edits) t is.repo) e is.loaded;
          new = subst (λ t. IsLoaded o.edits t a.whole.repo) e a.loaded;
          old_folders = (found_at (take last.seen o.edits) files last.loaded (subst (λ t. IsFound (take last.seen o.edits) t last.loaded) e is.found)).1;
          new_folders = (found_at o.edits files a.whole (subst (λ t. IsFound o.edits t a.whole) e a.found)).1;
        } in
        ap (due o.options a.whole.repo a.whole.folders o.edits) seen
        ∙ ap (λ b. if b then length (filter (is_due (new_paths o.edits last.seen)) (queries o.options a.whole.repo)) else length (queries o.options a.whole.repo))
        (not_small law files o.edits last.seen is.repo a.whole.repo last.loaded.folders a.whole.folders large loads)

-- ---- renewed

-- the whole repository of which the part that is judged is one; its folders are those that were kept
pub record IsWhole (o : Outset) (paths : List (List ℕ)) (before : Repo) (kept : Folders) (part : Loaded) : Type 0 where
  pub whole : Repo
  pub is_part : IsPartOf paths part.repo whole
  pub differ : DifferIn paths before whole
  pub folders : IfSome o.told (λ files. part.folders ≡ kept)
  pub loaded : IsLoaded o.edits o.told whole
  pub found : IsFound o.edits o.told part

-- a repository in place of the one that was loaded
abbrev pub with_repo : Loaded → Repo → Loaded
with_repo loaded repo = record { repo = repo; folders = loaded.folders; found = loaded.found }

module _ (o : Outset) (last : Last) (paths : List (List ℕ)) (l : IsLast o.options o.edits o.told last) (small : AreSmall last.loaded.folders (new_paths o.edits last.seen) (Some paths)) (some : last.seen < length o.edits) where
  apart : list_any is_in_metadata last.loaded.folders.directories ≡ false
  apart = apart_by last.loaded.folders o.edits last.seen some small.1

  alike : (files : FileMap) → AreAlikeBut paths (edited files (take last.seen o.edits)) (edited files o.edits)
  alike files = subst (λ ps. AreAlikeBut ps (edited files (take last.seen o.edits)) (edited files o.edits)) (sym small.0) (same_elsewhere files o.edits last.seen)

  -- the folders of the files with the edits that were seen
  kept_at : (files : FileMap) → o.told ≡ Some files → PassesWithin (edited files (take last.seen o.edits)) last.loaded.found × (last.loaded.folders ≡ folders_of (look_of (edited files (take last.seen o.edits))))
  kept_at files e = found_at (take last.seen o.edits) files last.loaded (subst (λ t. IsFound (take last.seen o.edits) t last.loaded) e l.found)

  -- only the edited entries were read
  pub whole_reread : (part : Loaded) → IsRereadOf paths last.loaded (edited_told o.told o.edits) part → IsWhole o paths l.repo last.loaded.folders part
  whole_reread part is = by o.told refl
    where
      by : (told : Option FileMap) → o.told ≡ told → IsWhole o paths l.repo last.loaded.folders part
      by None e =
          let after : IsAfter paths l.repo part.repo = is.some l.repo l.but l.classless in
          record {
            whole = after.whole;
            is_part = after.part;
            differ = after.differ;
            folders = whatever o.told is.folders;
            loaded = subst (λ t. IsLoaded o.edits t after.whole) (sym e) tt;
            found = subst (λ t. IsFound o.edits t part) (sym e) tt;
          }
      by (Some files) e =
          let kept = kept_at files e in
          let tells : TellsWhole paths l.repo part (edited files o.edits) =
          is.tells (edited files (take last.seen o.edits)) (edited files o.edits) l.repo (ap (λ t. edited_told t o.edits) e) l.but
          (subst (λ t. IsLoaded (take last.seen o.edits) t l.repo) e l.loaded) kept.1 kept.0 apart (alike files) in
          record {
            whole = tells.whole;
            is_part = tells.part;
            differ = tells.differ;
            folders = whatever o.told is.folders;
            loaded = subst (λ t. IsLoaded o.edits t tells.whole) (sym e) tells.loads;
            found = subst (λ t. IsFound o.edits t part) (sym e) (tells.passes, tells.folders);
          }

  -- all was loaded: it differs in edited entries alone
  module _ (law : EntriesLaw) (new : Loaded) (loaded : IsLoaded o.edits o.told new.repo) (found : IsFound o.edits o.told new) where
    told_differ : (files : FileMap) → o.told ≡ Some files → DifferIn paths l.repo new.repo × (folders_of (look_of (edited files o.edits)) ≡ folders_of (look_of (edited files (take last.seen o.edits))))
    told_differ files e =
        let kept = kept_at files e in
        law paths (edited files (take last.seen o.edits)) (edited files o.edits) l.repo new.repo
        (ap (λ (f : Folders). list_all (is_entry f.categories) paths) (sym kept.1) ∙ entries_are last.loaded.folders (new_paths o.edits last.seen) paths small)
        (ap (λ (f : Folders). list_any is_in_metadata f.directories) (sym kept.1) ∙ apart) (alike files)
        (subst (λ t. IsLoaded (take last.seen o.edits) t l.repo) e l.loaded) (subst (λ t. IsLoaded o.edits t new.repo) e loaded)

    pub whole_loaded : (part : Repo) → IsChange paths last.loaded.repo new.repo (Part part) → IsWhole o paths l.repo last.loaded.folders (with_repo new part)
    whole_loaded part is = by o.told refl
      where
        by : (told : Option FileMap) → o.told ≡ told → IsWhole o paths l.repo last.loaded.folders (with_repo new part)
        by None e =
            let after : IsAfter paths l.repo part = is.some l.repo l.but l.classless in
            record {
              whole = after.whole;
              is_part = after.part;
              differ = after.differ;
              folders = subst (λ t. IfSome t (λ files. new.folders ≡ last.loaded.folders)) (sym e) tt;
              loaded = subst (λ t. IsLoaded o.edits t after.whole) (sym e) tt;
              found = found;
            }
        by (Some files) e =
            let both = told_differ files e in
            let here = found_at o.edits files new (subst (λ t. IsFound o.edits t new) e found) in
            record {
              whole = new.repo;
              is_part = is.exact l.repo l.but both.0;
              differ = both.0;
              folders = whatever o.told (here.1 ∙ both.1 ∙ sym (kept_at files e).1);
              loaded = loaded;
              found = found;
            }

    pub all_other : (same : Repo) (now : Counts) (l' : Last) → o.seen ≡ Some last.seen → length new.repo.bodies ≡ length new.repo.pkgs → AreInPackageOrder new.repo.pkgs → AreClassless new.repo.notes
        → IsChange paths last.loaded.repo new.repo (Other same) → IsAnew o.options (with_repo new same) o.edits o.before now l' → IsJudgedFor o now l'
    all_other same now l' seen bodies order classless change is =
        all_due o now l'
        (record {
          whole = with_repo new new.repo;
          loaded = loaded;
          found = found;
          bodies = bodies;
          order = order;
          classless = classless;
          anew = subst (λ r. IsAnew o.options (with_repo new r) o.edits o.before now l') change.0 is;
        }) (by o.told refl)
      where
        by : (told : Option FileMap) → o.told ≡ told → IfSome told (λ files. due o.options new.repo new.folders o.edits o.seen ≡ length (queries o.options new.repo))
        by None e = tt
        by (Some files) e = absurd (change.1 l.repo l.but (told_differ files e).0)

  -- the packages that aren't edited are the old ones
  kept_bodies : (a b : Repo) → IsAllBut a b → other_bodies paths b ≡ other_bodies paths a
  kept_bodies a b but = ap (λ ps. map member_body (filter (is_other paths) (together ps b.bodies))) but.pkgs
      ∙ ap (λ bs. map member_body (filter (is_other paths) (together a.pkgs bs))) but.bodies

  pub same_kept : (part : Loaded) → IsWhole o paths l.repo last.loaded.folders part → other_bodies paths last.loaded.repo ≡ other_bodies paths part.repo
  same_kept part w =
      sym (kept_bodies last.loaded.repo l.repo l.but) ∙ (ap (map member_body) (sym w.differ.members) ∙ kept_bodies part.repo w.whole w.is_part.but)

  of_before : (whole : Repo) → DifferIn paths l.repo whole → AreOfBefore o.options paths whole last.reports
  of_before whole differ = record {
    old = l.repo;
    old_order = subst AreInPackageOrder (sym l.but.pkgs) l.order;
    old_bodies = ap length l.but.bodies ∙ l.bodies ∙ sym (ap length l.but.pkgs);
    differ = differ;
    within = l.within;
    reports = l.reports;
  }

  module _ (part : Loaded) (w : IsWhole o paths l.repo last.loaded.folders part) (seen : o.seen ≡ Some last.seen) (now : Counts) where
    pub renewed : (result : Result Last SessionFault) → length part.repo.bodies ≡ length part.repo.pkgs → AreInPackageOrder part.repo.pkgs
        → ((whole : Repo) → IsPartOf paths part.repo whole → AreOfBefore o.options paths whole last.reports → IfOk result (IsAgain o.options paths part whole o.edits o.before now))
        → IfOk result (IsJudgedFor o now)
    renewed (Err fault) bodies order again = tt
    renewed (Ok new) bodies order again =
        let a : IsAgain o.options paths part w.whole o.edits o.before now new = again w.whole w.is_part (of_before w.whole w.differ) in
        record {
          repo = w.whole;
          but = subst (λ (p : Loaded). IsAllBut p.repo w.whole) (sym a.loaded_is) w.is_part.but;
          bodies = subst (λ (p : Loaded). length p.repo.bodies ≡ length p.repo.pkgs) (sym a.loaded_is) bodies;
          order = subst (λ (p : Loaded). AreInPackageOrder p.repo.pkgs) (sym a.loaded_is) order;
          classless = w.differ.classless;
          loaded = w.loaded;
          found = subst (IsFound o.edits o.told) (sym a.loaded_is) w.found;
          seen = a.seen;
          within = a.renewed.within;
          reports = a.renewed.reports_are;
          mentioned = subst (λ (p : Loaded). new.mentioned ≡ p.repo.bodies) (sym a.loaded_is) a.mentioned;
          lowered = at_most _ _ _ _ a.renewed.lowered (few_picked (is_due paths) (queries o.options w.whole));
          few = subst (λ (p : Loaded). IfSome o.told (λ files. now.lower ≤ o.before.lower + due o.options w.whole p.folders o.edits o.seen)) (sym a.loaded_is) (few_due o.told w.folders a.renewed.lowered);
        }
      where
        at_most : (before now some all : ℕ) → now ≤ before + some → some ≤ all → now ≤ before + all
        at_most before now some all at most = omega (arith, at, most)

        few_picked : {X : Type 0} (p : X → Bool) (xs : List X) → length (filter p xs) ≤ length xs
        few_picked p [] = omega (arith)
        few_picked p (x ∷ xs) = pick (p x) (few_picked p xs)
          where
            pick : (b : Bool) → length (filter p xs) ≤ length xs → length (cond b (x ∷ filter p xs) (filter p xs)) ≤ length (x ∷ xs)
            pick true h = omega (arith, h)
            pick false h = omega (arith, h)

        is_due_all : part.folders ≡ last.loaded.folders → due o.options w.whole part.folders o.edits o.seen ≡ length (filter (is_due paths) (queries o.options w.whole))
        is_due_all same =
            ap (due o.options w.whole part.folders o.edits) seen
            ∙ ap (λ b. if b then length (filter (is_due (new_paths o.edits last.seen)) (queries o.options w.whole)) else length (queries o.options w.whole))
            (ap (λ (f : Folders). list_all (is_small f) (new_paths o.edits last.seen)) same ∙ small.1)
            ∙ ap (λ ps. length (filter (is_due ps) (queries o.options w.whole))) (sym small.0)

        few_due : (told : Option FileMap) → IfSome told (λ files. part.folders ≡ last.loaded.folders) → now.lower ≤ o.before.lower + length (filter (is_due paths) (queries o.options w.whole))
            → IfSome told (λ files. now.lower ≤ o.before.lower + due o.options w.whole part.folders o.edits o.seen)
        few_due None same lowered = tt
        few_due (Some files) same lowered = subst (λ n. now.lower ≤ o.before.lower + n) (sym (is_due_all same)) lowered

    pub refused_again : (result : Result Last SessionFault) (tree_before tree_now : ℕ)
        → ((whole : Repo) → IsPartOf paths part.repo whole → AreOfBefore o.options paths whole last.reports → IfErr result (JudgeCause o.options whole)) → tree_now ≡ tree_before
        → IfErr result (IsRefusedFor o tree_before tree_now now)
    refused_again (Ok new) tree_before tree_now again same = tt
    refused_again (Err fault) tree_before tree_now again same =
        refused o.options o.edits o.told tree_before tree_now o.before now w.whole fault w.loaded (again w.whole w.is_part (of_before w.whole w.differ)) same
