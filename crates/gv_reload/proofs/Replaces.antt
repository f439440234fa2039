-- A repository that is put together of two: what it tells of whole ones.
use Rattle.std.proofs.Common.{◌≡◌, ℕ, suc, Bool, true, false, cond, ◌||◌, List, [], ◌∷◌, ◌++◌, None, refl, sym, ap, subst, ◌∙◌, map, length, append-nil, true≢false}
use Rattle.std.specs.Prelude.{not, filter, fold}
use Rattle.std.specs.BTreeSet.{insert_key}
use Rattle.std.specs.List.{AllByRecursion}
use Rattle.std.specs.List.Sorted.{IsStrictlySortedBy}
use Rattle.std.specs.Ordering.{is_eq, ordering_then}
use Rattle.std.specs.declared.cmp.Ordering.{Ordering}
use Rattle.std.specs.declared.cmp.Ordering.TheVariants.{Less, Equal, Greater}
use Rattle.std.proofs.lemmas.Bool.{and_parts, false≢true}
use Rattle.std.proofs.lemmas.List.Elements.{filter-append}
use Rattle.std.proofs.lemmas.Map.Lookups.{exact_bytes}
use Rattle.gv_base.specs.Order.{byte_cmp, has_text}
use Rattle.gv_entry.specs.declared.entry.Body.{Body}
use Rattle.gv_facts.specs.declared.pkg.Pkg.{Pkg}
use Rattle.gv_report.specs.Order.{subject_cmp}
use Rattle.gv_report.specs.declared.report.Report.{Report}
use Rattle.gv_report.specs.declared.report.Subject.{Subject}
use Rattle.gv_report.specs.declared.report.Subject.TheVariants.{Place, Package}
use Rattle.gv_version.specs.Order.{compare}
use Rattle.gv_load.specs.Repository.{AreClassless, AreInPackageOrder, body_of, in_package_order, member_cmp, pkg_cmp, pkg_of, subject_of, with_body}
use Rattle.gv_reload.specs.EntryEdits.{DifferIn, HasEditedName, IsAllBut, IsPartOf, entry_name, is_about, is_edited, is_edited_pkg, is_other, members_of, pkg_name, together}
use Rattle.gv_reload.specs.Interleaved.{interleaved}
use Rattle.gv_load.specs.MemberOrder.{member_total}
use Rattle.gv_load.specs.Paths.{entry_path}
use Rattle.gv_reload.specs.Replacing.{IsAfter, IsChange, IsReplaced, are_named, edited_notes, has_edited_name, is_of_edited, members_with, replaced}
use Rattle.gv_load.specs.declared.loading.Repo.{Repo}
use Rattle.gv_load.specs.declared.members.Member.{Member}
use Rattle.gv_reload.specs.declared.replacing.Changed.TheVariants.{Part, Other}
use Rattle.gv_reload.proofs.Apart.{turned}
use Rattle.gv_reload.proofs.Interleaving.{interleaved_in_order}
use Rattle.gv_load.specs.MemberLemmas.{all_ascend, pkgs_ascend}
use Rattle.gv_load.specs.NoteClasses.{both}
use Rattle.gv_reload.proofs.Partings.{all_append, all_filter, all_mapped, all_puts, ascends_filter, filter_outside, filter_within, others_stay, passes_all, put_together, puts_ascending}

-- ---- packages with their bodies
parts_again : (ms : List Member) → together (map pkg_of ms) (map body_of ms) ≡ ms
parts_again [] = refl
parts_again (m ∷ ms) = ap (λ ns. m ∷ ns) (parts_again ms)

shorter : (m n : ℕ) → suc m ≡ suc n → m ≡ n
shorter m n e = cc

pub pkgs_of : (ps : List Pkg) (bs : List Body) → length bs ≡ length ps → map pkg_of (together ps bs) ≡ ps
pkgs_of [] bs e = refl
pkgs_of (p ∷ ps) [] e = cc
pkgs_of (p ∷ ps) (b ∷ bs) e = ap (λ qs. p ∷ qs) (pkgs_of ps bs (shorter (length bs) (length ps) e))

pub bodies_of : (ps : List Pkg) (bs : List Body) → length bs ≡ length ps → map body_of (together ps bs) ≡ bs
bodies_of [] [] e = refl
bodies_of [] (b ∷ bs) e = cc
bodies_of (p ∷ ps) [] e = cc
bodies_of (p ∷ ps) (b ∷ bs) e = ap (λ cs. b ∷ cs) (bodies_of ps bs (shorter (length bs) (length ps) e))

pub members_ascend : (ps : List Pkg) (bs : List Body) → AreInPackageOrder ps → IsStrictlySortedBy member_cmp (together ps bs)
unfolding IsStrictlySortedBy
members_ascend [] bs a = tt
members_ascend (p ∷ ps) [] a = tt
members_ascend (p ∷ ps) (b ∷ bs) a = (below ps bs a.0, members_ascend ps bs a.1)
  where
    below : (ps : List Pkg) (bs : List Body) → AllByRecursion (λ q. pkg_cmp p q ≡ Less) ps → AllByRecursion (λ (m : Member). pkg_cmp p m.pkg ≡ Less) (together ps bs)
    below [] bs all = tt
    below (q ∷ qs) [] all = tt
    below (q ∷ qs) (c ∷ cs) all = (all.0, below qs cs all.1)

all_together : (P : Pkg → Type 0) (ps : List Pkg) (bs : List Body) → AllByRecursion P ps → AllByRecursion (λ (m : Member). P m.pkg) (together ps bs)
all_together P [] bs all = tt
all_together P (p ∷ ps) [] all = tt
all_together P (p ∷ ps) (b ∷ bs) all = (all.0, all_together P ps bs all.1)

all_pkgs : (P : Pkg → Type 0) (ms : List Member) → AllByRecursion (λ (m : Member). P m.pkg) ms → AllByRecursion P (map pkg_of ms)
all_pkgs P [] all = tt
all_pkgs P (m ∷ ms) all = (all.0, all_pkgs P ms all.1)

pub same_length : (ms : List Member) → length (map body_of ms) ≡ length (map pkg_of ms)
same_length [] = refl
same_length (m ∷ ms) = ap (λ n. suc n) (same_length ms)

-- ---- subjects that tie are edited alike
pub both_equal : (a b : Ordering) → ordering_then a b ≡ Equal → (a ≡ Equal) × (b ≡ Equal)
both_equal Less b e = cc
both_equal Equal b e = (refl, e)
both_equal Greater b e = cc

pub ties : (r : Ordering) → is_eq r ≡ true → r ≡ Equal
ties Less e = cc
ties Equal e = refl
ties Greater e = cc

pub alike : (paths : List (List ℕ)) (s t : Subject) → subject_cmp s t ≡ Equal → is_edited paths s ≡ is_edited paths t
alike paths (Place p l) (Place q m) e = refl
alike paths (Place p l) (Package d m w g) e = cc
alike paths (Package c n v f) (Place q m) e = cc
alike paths (Package c n v f) (Package d m w g) e =
    let first = both_equal (byte_cmp c d) (ordering_then (byte_cmp n m) (ordering_then (compare v w) (byte_cmp f g))) e in
    let second = both_equal (byte_cmp n m) (ordering_then (compare v w) (byte_cmp f g)) first.1 in
    let third = both_equal (compare v w) (byte_cmp f g) second.1 in
    ap (λ x. has_text paths (entry_path x f)) (exact_bytes c d first.0) ∙ ap (λ x. has_text paths (entry_path d x)) (exact_bytes f g third.1)

-- those that aren't edited of one list and those that are of the other
pub put_in_order : (paths : List (List ℕ)) (ps qs : List Pkg) (bs cs : List Body) → AreInPackageOrder ps → AreInPackageOrder qs
    → interleaved member_cmp (filter (is_other paths) (together ps bs)) (in_package_order (filter (is_of_edited paths) (together qs cs)))
    ≡ in_package_order (filter (is_other paths) (together ps bs) ++ filter (is_of_edited paths) (together qs cs))
put_in_order paths ps qs bs cs a b =
    let olds = filter (is_other paths) (together ps bs) in
    let news = filter (is_of_edited paths) (together qs cs) in
    let up = ascends_filter member_total (is_of_edited paths) (together qs cs) (members_ascend qs cs b) in
    ap (interleaved member_cmp olds) (puts_ascending member_total news up)
    ∙ interleaved_in_order member_total (is_of_edited paths) (λ m n e. alike paths (subject_of m.pkg) (subject_of n.pkg) e) olds news
    (ascends_filter member_total (is_other paths) (together ps bs) (members_ascend ps bs a))
    (all_mapped (λ m. is_other paths m ≡ true) (λ m. is_of_edited paths m ≡ false) olds (λ m e. turned (is_of_edited paths m) e) (passes_all (is_other paths) (together ps bs)))
    up (passes_all (is_of_edited paths) (together qs cs))

about : (paths : List (List ℕ)) (s : Subject) (r : Report) → is_about s r ≡ true → is_edited paths s ≡ is_edited paths r.subject
about paths s r e = alike paths s r.subject (ties (subject_cmp s r.subject) e)

-- ---- names
pub named : (paths : List (List ℕ)) (ps : List Pkg) → are_named paths ps ≡ true → AllByRecursion (HasEditedName paths) ps
named paths [] e = tt
named paths (p ∷ ps) e =
    let parts = and_parts (has_edited_name paths p) (are_named paths ps) e in
    (by (is_edited_pkg paths p) (has_text (map entry_name paths) (pkg_name p)) parts.0, named paths ps parts.1)
  where
    by : (a b : Bool) → (not a || b) ≡ true → a ≡ true → b ≡ true
    by true b e is = e
    by false b e is = absurd (true≢false (sym is))

are_all_named : (paths : List (List ℕ)) (ps : List Pkg) → AllByRecursion (HasEditedName paths) ps → are_named paths ps ≡ true
are_all_named paths [] all = refl
are_all_named paths (p ∷ ps) all = rw (by (is_edited_pkg paths p) (has_text (map entry_name paths) (pkg_name p)) all.0) (are_all_named paths ps all.1)
  where
    by : (a b : Bool) → (a ≡ true → b ≡ true) → (not a || b) ≡ true
    by true b holds = holds refl
    by false b holds = refl

some_classless : (p : Report → Bool) (rs : List Report) → AreClassless rs → AreClassless (filter p rs)
some_classless p rs all = all_filter (λ (r : Report). r.class ≡ None) p rs all

module _ (paths : List (List ℕ)) where
  others_named : (ms : List Member) → AllByRecursion (λ (m : Member). HasEditedName paths m.pkg) (filter (is_other paths) ms)
  others_named ms = all_mapped (λ (m : Member). is_other paths m ≡ true) (λ (m : Member). HasEditedName paths m.pkg) (filter (is_other paths) ms)
      (λ m other edited. absurd (true≢false (sym other ∙ ap not edited))) (passes_all (is_other paths) ms)

  -- ---- one step: those that are added
  pub added : (keys : List Member) (p : Pkg) (b : Body) (ms : List Member) →
      fold (insert_key member_cmp) (cond (is_edited_pkg paths p) (insert_key member_cmp keys (with_body b p)) keys) (filter (is_of_edited paths) ms)
      ≡ fold (insert_key member_cmp) keys (filter (is_of_edited paths) (with_body b p ∷ ms))
  added keys p b ms = by (is_edited_pkg paths p)
    where
      by : (c : Bool) → fold (insert_key member_cmp) (cond c (insert_key member_cmp keys (with_body b p)) keys) (filter (is_of_edited paths) ms)
          ≡ fold (insert_key member_cmp) keys (cond c (with_body b p ∷ filter (is_of_edited paths) ms) (filter (is_of_edited paths) ms))
      by true = refl
      by false = refl

  module _ (old new : Repo) where
    names_in_it : AllByRecursion (HasEditedName paths) new.pkgs → AllByRecursion (HasEditedName paths) (map pkg_of (members_with paths old new))
    names_in_it all =
        let those : AllByRecursion (λ (m : Member). HasEditedName paths m.pkg) (filter (is_of_edited paths) (members_of new)) =
        all_filter (λ (m : Member). HasEditedName paths m.pkg) (is_of_edited paths) (members_of new) (all_together (HasEditedName paths) new.pkgs new.bodies all) in
        all_pkgs (HasEditedName paths) (members_with paths old new)
        (all_puts member_total (λ (m : Member). HasEditedName paths m.pkg) [] (filter (is_other paths) (members_of old) ++ filter (is_of_edited paths) (members_of new)) tt
        (all_append (λ (m : Member). HasEditedName paths m.pkg) (filter (is_other paths) (members_of old)) (filter (is_of_edited paths) (members_of new)) (others_named (members_of old)) those))

    pub in_order : AreInPackageOrder (replaced paths old new).pkgs
    in_order = pkgs_ascend (members_with paths old new) (all_ascend member_total (filter (is_other paths) (members_of old) ++ filter (is_of_edited paths) (members_of new)))

    pub as_many : length (replaced paths old new).bodies ≡ length (replaced paths old new).pkgs
    as_many = same_length (members_with paths old new)

    -- ---- the whole one: with what was noted of the others
    module _ (before : Repo) (but : IsAllBut old before) where
      abbrev is_rest : Report → Bool
      is_rest r = not (is_edited paths r.subject)

      abbrev is_noted : Report → Bool
      is_noted r = is_edited paths r.subject

      abbrev whole : Repo
      whole = record {
        pkgs = (replaced paths old new).pkgs;
        bodies = (replaced paths old new).bodies;
        profiles = old.profiles;
        lines = old.lines;
        notes = filter is_rest before.notes ++ edited_notes paths new.notes;
      }

      same_members : members_of old ≡ members_of before
      same_members = ap (λ ps. together ps old.bodies) (sym but.pkgs) ∙ ap (λ bs. together before.pkgs bs) (sym but.bodies)

      part : IsPartOf paths (replaced paths old new) whole
      part = record {
        but = record { pkgs = refl; bodies = refl; profiles = refl; lines = refl };
        edited = passes_all is_noted new.notes;
        notes = edited_alone;
      }
        where
          edited_alone : (s : Subject) → is_edited paths s ≡ true → filter (is_about s) (filter is_rest before.notes ++ edited_notes paths new.notes) ≡ filter (is_about s) (edited_notes paths new.notes)
          edited_alone s is =
              let none : filter (is_about s) (filter is_rest before.notes) ≡ [] =
              filter_outside (is_about s) is_rest before.notes (λ r e. ap not (sym (about paths s r e) ∙ is)) in
              filter-append (is_about s) (filter is_rest before.notes) (edited_notes paths new.notes) ∙ ap (λ rs. rs ++ filter (is_about s) (edited_notes paths new.notes)) none

      members_stay : AreInPackageOrder old.pkgs → filter (is_other paths) (members_of whole) ≡ filter (is_other paths) (members_of before)
      members_stay a =
          ap (filter (is_other paths)) (parts_again (members_with paths old new))
          ∙ others_stay member_total (is_of_edited paths) (λ m n e. alike_members m n e) (members_of old) (members_of new) (members_ascend old.pkgs old.bodies a)
          ∙ ap (filter (is_other paths)) same_members
        where
          alike_members : (m n : Member) → member_cmp m n ≡ Equal → is_of_edited paths m ≡ is_of_edited paths n
          alike_members m n e = alike paths (subject_of m.pkg) (subject_of n.pkg) e

      differ : AreInPackageOrder old.pkgs → AllByRecursion (HasEditedName paths) old.pkgs → AllByRecursion (HasEditedName paths) new.pkgs → AreClassless before.notes → AreClassless new.notes
          → DifferIn paths before whole
      differ a old_names new_names was is = record {
        profiles = sym but.profiles;
        lines = sym but.lines;
        members = members_stay a;
        notes = others_alone;
        classless = both (filter is_rest before.notes) (edited_notes paths new.notes) (some_classless is_rest before.notes was) (some_classless is_noted new.notes is);
        old_names = subst (AllByRecursion (HasEditedName paths)) (sym but.pkgs) old_names;
        new_names = names_in_it new_names;
      }
        where
          others_alone : (s : Subject) → is_edited paths s ≡ false → filter (is_about s) (filter is_rest before.notes ++ edited_notes paths new.notes) ≡ filter (is_about s) before.notes
          others_alone s is =
              let none : filter (is_about s) (edited_notes paths new.notes) ≡ [] =
              filter_outside (is_about s) is_noted new.notes (λ r e. sym (about paths s r e) ∙ is) in
              filter-append (is_about s) (filter is_rest before.notes) (edited_notes paths new.notes)
              ∙ ap (λ rs. filter (is_about s) (filter is_rest before.notes) ++ rs) none
              ∙ append-nil (filter (is_about s) (filter is_rest before.notes))
              ∙ filter_within (is_about s) is_rest before.notes (λ r e. ap not (sym (about paths s r e) ∙ is))

      -- ---- it is part of the new one where both differ in edited entries alone
      it_is_new : AreInPackageOrder old.pkgs → AreInPackageOrder new.pkgs → DifferIn paths before new → members_with paths old new ≡ members_of new
      it_is_new a b both =
          put_together member_total (is_of_edited paths) (λ m n e. alike_members m n e) (members_of old) (members_of new) (members_ascend old.pkgs old.bodies a) (members_ascend new.pkgs new.bodies b)
          (both.members ∙ ap (filter (is_other paths)) (sym same_members))
        where
          alike_members : (m n : Member) → member_cmp m n ≡ Equal → is_of_edited paths m ≡ is_of_edited paths n
          alike_members m n e = alike paths (subject_of m.pkg) (subject_of n.pkg) e

      pub part_of_new : AreInPackageOrder old.pkgs → AreInPackageOrder new.pkgs → length new.bodies ≡ length new.pkgs → DifferIn paths before new → IsPartOf paths (replaced paths old new) new
      part_of_new a b many both = record {
        but = record {
          pkgs = sym (ap (map pkg_of) (it_is_new a b both) ∙ pkgs_of new.pkgs new.bodies many);
          bodies = sym (ap (map body_of) (it_is_new a b both) ∙ bodies_of new.pkgs new.bodies many);
          profiles = both.profiles ∙ but.profiles;
          lines = both.lines ∙ but.lines;
        };
        edited = passes_all is_noted new.notes;
        notes = λ s is. sym (filter_within (is_about s) is_noted new.notes (λ r e. sym (about paths s r e) ∙ is));
      }

      pub part_after : AreInPackageOrder old.pkgs → AllByRecursion (HasEditedName paths) old.pkgs → AllByRecursion (HasEditedName paths) new.pkgs → AreClassless before.notes → AreClassless new.notes
          → IsAfter paths before (replaced paths old new)
      part_after a old_names new_names was is = record { whole = whole; part = part; differ = differ a old_names new_names was is }

      -- those of a repository that says the same of edited entries serve as well
      pub part_so : (small : Repo) → filter (is_of_edited paths) (members_of small) ≡ filter (is_of_edited paths) (members_of new)
          → ((s : Subject) → is_edited paths s ≡ true → filter (is_about s) new.notes ≡ filter (is_about s) small.notes)
          → IsPartOf paths (replaced paths old new) new → IsPartOf paths (replaced paths old small) new
      part_so small same noted it =
          let them : members_with paths old small ≡ members_with paths old new = ap (λ ms. in_package_order (filter (is_other paths) (members_of old) ++ ms)) same in
          record {
            but = record {
              pkgs = it.but.pkgs ∙ sym (ap (map pkg_of) them);
              bodies = it.but.bodies ∙ sym (ap (map body_of) them);
              profiles = it.but.profiles;
              lines = it.but.lines;
            };
            edited = passes_all is_noted small.notes;
            notes = λ s is. noted s is ∙ sym (filter_within (is_about s) is_noted small.notes (λ r e. sym (about paths s r e) ∙ is));
          }

    -- ---- what comes of the edits
    pub changed_part : (repo : Repo) → repo ≡ replaced paths old new → are_named paths old.pkgs ≡ true → are_named paths new.pkgs ≡ true → AreInPackageOrder old.pkgs → AreInPackageOrder new.pkgs
        → length new.bodies ≡ length new.pkgs → AreClassless new.notes → IsChange paths old new (Part repo)
    changed_part repo made olds news a b many classless = subst (λ r. IsReplaced paths old new r) (sym made) (record {
      order = in_order;
      bodies = as_many;
      some = λ before but was. part_after before but a (named paths old.pkgs olds) (named paths new.pkgs news) was classless;
      exact = λ before but both. part_of_new before but a b many both;
    })

    pub old_other : are_named paths old.pkgs ≡ false → IsChange paths old new (Other new)
    old_other none = (refl, λ before but both. absurd (false≢true (sym none ∙ are_all_named paths old.pkgs (subst (AllByRecursion (HasEditedName paths)) but.pkgs both.old_names))))

    pub new_other : are_named paths new.pkgs ≡ false → IsChange paths old new (Other new)
    new_other none = (refl, λ before but both. absurd (false≢true (sym none ∙ are_all_named paths new.pkgs both.new_names)))
