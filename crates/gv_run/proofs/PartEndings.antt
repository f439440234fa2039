-- What a scan of a part leaves untouched, and what it and a merge say where nothing outside fails.
-- That what scans of all parts left is merged (`merges_parts`) is `merged_law` of `gv_merge`, since the file of a part's certificates is read
-- back as just these records.
use Rattle.std.proofs.Common.{◌≡◌, ℕ, ◌≤◌, Bool, true, false, List, [], ◌∷◌, ◌++◌, ◌||◌, length, map, Some, None, refl, sym, ap, subst, ◌∙◌, inl, inr, arith, append_assoc}
use Rattle.std.specs.Prelude.{Option, IfSome, IfOk, IfErr, Result, Ok, Err, ◌⊎◌}
use Rattle.std.specs.List.{AllByRecursion}
use Rattle.std.specs.Str.{bytes_eq}
use Rattle.std.specs.Cmp.Lexicographic.{same_text}
use Rattle.std.proofs.lemmas.Bool.{false≢true}
use Rattle.gv_base.specs.Causes.{Rose}
use Rattle.gv_base.specs.Counts.{Counts}
use Rattle.gv_base.specs.FileMap.{FileMap}
use Rattle.gv_base.specs.Order.{has_text}
use Rattle.gv_cert.specs.File.{ReadsFile}
use Rattle.gv_cert.specs.Known.{KnownRecord}
use Rattle.gv_reading.specs.declared.faults.LoadFault.{LoadFault}
use Rattle.gv_load.specs.declared.loading.Repo.{Repo}
use Rattle.gv_load.specs.Loading.{loading}
use Rattle.gv_reading.specs.Look.{look_of}
use Rattle.gv_report.specs.declared.options.Options.{Options}
use Rattle.gv_words.specs.Command.{IsCommand, IsOneCommand}
use Rattle.gv_words.specs.declared.command.Asked.{Asked}
use Rattle.gv_words.specs.declared.command.Command.TheVariants as commands
use Rattle.gv_words.specs.declared.merging.Merging.{Merging}
use Rattle.gv_words.specs.declared.values.Share.{Share}
use Rattle.gv_checks.specs.Certs.{HasBacked, cert_record, counts_after}
use Rattle.gv_checks.specs.Limits.{IsFirstRefused, IsWithin}
use Rattle.gv_checks.specs.Queries.{Query, gates_of, queries}
use Rattle.gv_checks.specs.Recalled.{IsNotRecalled}
use Rattle.gv_checks.specs.RepoReports.{scan_text}
use Rattle.gv_checks.specs.declared.fault.JudgeFault.TheVariants as judges
use Rattle.gv_checks.specs.declared.names.QueryName.{QueryName}
use Rattle.gv_checks.specs.declared.recalled.RecallFault.TheVariants as recalling
use Rattle.gv_merge.specs.Left.{AreLeftByParts, IsLeftByPart, MayMerge}
use Rattle.gv_merge.specs.Merging as merges
use Rattle.gv_merge.specs.Parts.{part_queries}
use Rattle.gv_merge.specs.declared.merging.MergeFault.{MergeFault}
use Rattle.gv_merge.specs.declared.merging.MergeFault.TheVariants as faults
use Rattle.gv_merge.specs.declared.merging.Merged.{Merged}
use Rattle.gv_merge.specs.declared.parts.Part.{Part}
use Rattle.gv_ending.specs.declared.refusal.Refusal.{Refusal}
use Rattle.gv_ending.specs.declared.refusal.Refusal.TheVariants.{TreeFailed, StoreFailed, OutputFailed, Spent, NoMemory, NotARepository, Limit, Lacks}
use Rattle.gv_ending.specs.Causes.{Why}
use Rattle.gv_ending.specs.Endings.{Ending, SaysNothing, TellsRefusal, Told, refusal_status, well_status}
use Rattle.gv_ending.specs.Fetching.{AreJoined, IsGiven, file_at}
use Rattle.gv_run.specs.Parting.{AreLeftByPartScans, IsLeftByPartScan, MergeSays, PartSays}
use Rattle.gv_run.specs.Performs.{Runs, Unbegun}
use Rattle.gv_run.specs.Scan.{IsCovered, IsLoaded, IsUnloaded, said_by, unloaded_status}
use Rattle.gv_run.specs.Scanning.{merge_causes, part_causes}
use Rattle.gv_ending.specs.World.{Fed, Roots, SameOut, World}
use Rattle.gv_run.proofs.Endings.{covered_not_spent, one_of, within_not_past}
use Rattle.gv_run.proofs.Performed.{Ends, ends, five_only, or_five, or_unbegun, refused_status}
use Rattle.gv_run.proofs.VerifyEndings.{not_unloaded, one_repo}

-- ---- what stands whatever the status

module _ (law : IsOneCommand) (words : List (List ℕ)) (entry : Roots) (old new : World) (input : Fed) (ending : Ending) (runs : Runs words entry old new input ending) where
  module _ (a : Asked) (share : Share) (is : IsCommand words (commands.Part a share)) where
    same_out : Unbegun entry old new ⊎ SameOut old new → SameOut old new
    same_out (inl none) = none.untouched.out
    same_out (inr same) = same

    pub unwritten : SameOut old new
    unwritten = same_out (ends law words entry old new input (commands.Part a share) is ending runs).spares

  module _ (m : Merging) (is : IsCommand words (commands.Merge m)) where
    same_solve : Unbegun entry old new ⊎ (new.counts.solve ≡ old.counts.solve) → new.counts.solve ≡ old.counts.solve
    same_solve (inl none) = ap (λ (c : Counts). c.solve) none.steps
    same_solve (inr same) = same

    pub merge_unsolved : new.counts.solve ≡ old.counts.solve
    merge_unsolved = same_solve (ends law words entry old new input (commands.Merge m) is ending runs).spares

module _ (law : IsOneCommand) (words : List (List ℕ)) (entry : Roots) (old new : World) (input : Fed) (a : Asked) (share : Share) (is : IsCommand words (commands.Part a share)) (err : Told) (status : ℕ) where
  pub unsaid : (ending : Ending) → Runs words entry old new input ending → IfOk ending (λ some. (status ≡ well_status some) × SaysNothing err) → IfErr ending (λ refusal. TellsRefusal err refusal status) → status ≡ 1 → ⊥
  unsaid (Ok some) runs well refused one =
      let w = (ends law words entry old new input (commands.Part a share) is (Ok some) runs).done in
      let zero_ : status ≡ 0 = well.0 ∙ w.status_is in
      omega (arith, zero_, one)
  unsaid (Err refusal) runs well refused one = by (or_five err refusal status refused)
    where
      by : (status ≡ refusal_status refusal) ⊎ (status ≡ 5) → ⊥
      by (inl same) = let many = (refused_status refusal).1 in omega (arith, same, many, one)
      by (inr five) = omega (arith, five, one)

-- ---- where each query fits, none is refused

not_past_in : (X : Type 0) (budget : ℕ) (given : List KnownRecord) (qs : List Query) (place : List ℕ) (number : ℕ) → AllByRecursion IsWithin qs → IsFirstRefused budget given qs (judges.Limit place number) → X
not_past_in X budget given qs place number within r = within_not_past X r.query number (one_of IsWithin r.before r.query r.behind (subst (AllByRecursion IsWithin) r.queries_are within)) r.cause.1

not_spent_in : (X : Type 0) (budget : ℕ) (given : List KnownRecord) (qs : List Query) (name : QueryName) (sets : List (List ℕ)) → AllByRecursion (IsCovered budget given) qs
    → IsFirstRefused budget given qs (judges.Spent name sets) → X
not_spent_in X budget given qs name sets covered r =
    covered_not_spent X budget given r.query sets (one_of (IsCovered budget given) r.before r.query r.behind (subst (AllByRecursion (IsCovered budget given)) r.queries_are covered)) r.cause.2

-- ---- what a scan of a part says

abbrev pub IsSaidPart : Asked → Share → (told kept : Option FileMap) → ℕ → Type 0
IsSaidPart a share told kept status =
    (status ≡ 5) ⊎ ((given : List KnownRecord) × IsGiven a.fresh kept a.certs given × IfSome told (λ files. PartSays share a.options given (loading (look_of files)) status))

part_loaded : (told : Option FileMap) (share : Share) (options : Options) (given : List KnownRecord) (repo : Repo) (status : ℕ) → IsLoaded told repo → PartSays share options given (Ok repo) status
    → IfSome told (λ files. PartSays share options given (loading (look_of files)) status)
part_loaded None share options given repo status loaded says = tt
part_loaded (Some files) share options given repo status loaded says = subst (λ r. PartSays share options given r status) (sym loaded) says

part_unloaded : (told : Option FileMap) (share : Share) (options : Options) (given : List KnownRecord) (fault : LoadFault) (status : ℕ) → IsUnloaded told fault → (status ≡ unloaded_status fault) ⊎ (status ≡ 5)
    → IfSome told (λ files. PartSays share options given (loading (look_of files)) status)
part_unloaded None share options given fault status unloaded says = tt
part_unloaded (Some files) share options given fault status unloaded says = subst (λ r. PartSays share options given r status) (sym unloaded) says

module _ (law : IsOneCommand) (words : List (List ℕ)) (entry : Roots) (old new : World) (a : Asked) (share : Share) (is : IsCommand words (commands.Part a share)) (status : ℕ) where
  part_said : (given : List KnownRecord) → IsGiven a.fresh old.kept a.certs given → IfSome old.files (λ files. PartSays share a.options given (loading (look_of files)) status) → IsSaidPart a share old.files old.kept status
  part_said given given_are says = inr (given, given_are, says)

  module _ (tree : Rose old.tree_faults new.tree_faults → ⊥) (store : Rose old.store_faults new.store_faults → ⊥) (out : Rose old.out_faults new.out_faults → ⊥) (err : Told) where
    part_refused : (refusal : Refusal) → Why (part_causes a share old new) refusal → TellsRefusal err refusal status → IsSaidPart a share old.files old.kept status
    part_refused (TreeFailed path) why tells = absurd (tree why.why.0)
    part_refused (StoreFailed path) why tells = absurd (store why.0)
    part_refused OutputFailed why tells = absurd (out why.0)
    part_refused (NotARepository path) why tells = part_said why.given why.given_are (part_unloaded old.files share a.options why.given _ status why.why.1.1 (or_five err (NotARepository path) status tells))
    part_refused (Limit place number) (inl why) tells = part_said why.given why.given_are (part_unloaded old.files share a.options why.given _ status why.why.1.1 (or_five err (Limit place number) status tells))
    part_refused (Limit place number) (inr (inl why)) tells =
        let at = why.why.1 in
        part_said why.given why.given_are
        (part_loaded old.files share a.options why.given at.0 status at.1
        (λ fits. not_past_in _ a.options.budget why.given (part_queries share.part share.parts a.options at.0) place number fits.within at.2))
    part_refused (Limit place number) (inr (inr why)) tells = absurd why
    part_refused (Spent text) why tells =
        let at = why.why.1 in
        let spent = at.2 in
        part_said why.given why.given_are
        (part_loaded old.files share a.options why.given at.0 status at.1
        (λ fits. not_spent_in _ a.options.budget why.given (part_queries share.part share.parts a.options at.0) spent.0 spent.1 fits.covered spent.3))
    part_refused (Lacks part parts query) why tells = absurd why.why.1.2
    part_refused NoMemory why tells = inl (five_only status (or_five err NoMemory status tells))
    part_refused other why tells = absurd why

    part_ends : (input : Fed) (ending : Ending) → Ends (commands.Part a share) entry old new input ending → IfOk ending (λ some. (status ≡ well_status some) × SaysNothing err)
        → IfErr ending (λ refusal. TellsRefusal err refusal status) → IsSaidPart a share old.files old.kept status
    part_ends input (Ok some) ends well refused =
        let r = ends.done in
        let w = r.answered in
        part_said w.given w.given_are (part_loaded old.files share a.options w.given w.of status w.loaded (λ fits. inl (well.0 ∙ r.status_is)))
    part_ends input (Err refusal) ends well refused =
        or_unbegun entry old new err (part_causes a share old new) refusal status (IsSaidPart a share old.files old.kept status) (λ five. inl five) (λ why. part_refused refusal why refused) refused ends.refusal

    pub complete_part : (input : Fed) (ending : Ending) → Runs words entry old new input ending → IfOk ending (λ some. (status ≡ well_status some) × SaysNothing err)
        → IfErr ending (λ refusal. TellsRefusal err refusal status) → IsSaidPart a share old.files old.kept status
    complete_part input ending runs well refused = part_ends input ending (ends law words entry old new input (commands.Part a share) is ending runs) well refused

-- ---- what a merge says

abbrev pub IsSaidMerge : Merging → (told kept : Option FileMap) → ℕ → Type 0
IsSaidMerge m told kept status =
    (status ≡ 5) ⊎ ((given : List KnownRecord) × AreJoined kept m.from given × IfSome told (λ files. MergeSays m.options given (loading (look_of files)) status))

merge_loaded : (told : Option FileMap) (options : Options) (given : List KnownRecord) (repo : Repo) (status : ℕ) → IsLoaded told repo → MergeSays options given (Ok repo) status
    → IfSome told (λ files. MergeSays options given (loading (look_of files)) status)
merge_loaded None options given repo status loaded says = tt
merge_loaded (Some files) options given repo status loaded says = subst (λ r. MergeSays options given r status) (sym loaded) says

merge_unloaded : (told : Option FileMap) (options : Options) (given : List KnownRecord) (fault : LoadFault) (status : ℕ) → IsUnloaded told fault → (status ≡ unloaded_status fault) ⊎ (status ≡ 5)
    → IfSome told (λ files. MergeSays options given (loading (look_of files)) status)
merge_unloaded None options given fault status unloaded says = tt
merge_unloaded (Some files) options given fault status unloaded says = subst (λ r. MergeSays options given r status) (sym unloaded) says

not_past_recalled : (X : Type 0) (given : List KnownRecord) (qs : List Query) (place : List ℕ) (number : ℕ) → AllByRecursion IsWithin qs → IsNotRecalled given qs (recalling.Limit place number) → X
not_past_recalled X given qs place number within r = within_not_past X r.query number (one_of IsWithin r.before r.query r.behind (subst (AllByRecursion IsWithin) r.queries_are within)) r.cause.1

not_lacking : (X : Type 0) (given : List KnownRecord) (qs : List Query) (number : ℕ) → AllByRecursion (λ q. HasBacked given (gates_of q)) qs → IsNotRecalled given qs (recalling.NotBacked number) → X
not_lacking X given qs number backed r =
    let has = one_of (λ (q : Query). HasBacked given (gates_of q)) r.before r.query r.behind (subst (AllByRecursion (λ (q : Query). HasBacked given (gates_of q))) r.queries_are backed) in
    absurd (r.cause.2 has.0 has.1)

ten_or_five : (said status : ℕ) → (status ≡ 10) ⊎ (status ≡ 5) → (status ≡ said) ⊎ ((status ≡ 5) ⊎ (status ≡ 10))
ten_or_five said status (inl ten) = inr (inr ten)
ten_or_five said status (inr five) = inr (inl five)

module _ (law : IsOneCommand) (words : List (List ℕ)) (entry : Roots) (old new : World) (m : Merging) (is : IsCommand words (commands.Merge m)) (status : ℕ) where
  merge_said : (given : List KnownRecord) → AreJoined old.kept m.from given → IfSome old.files (λ files. MergeSays m.options given (loading (look_of files)) status) → IsSaidMerge m old.files old.kept status
  merge_said given given_are says = inr (given, given_are, says)

  module _ (tree : Rose old.tree_faults new.tree_faults → ⊥) (store : Rose old.store_faults new.store_faults → ⊥) (out : Rose old.out_faults new.out_faults → ⊥) (err : Told) where
    merge_refused : (refusal : Refusal) → Why (merge_causes m old new) refusal → TellsRefusal err refusal status → IsSaidMerge m old.files old.kept status
    merge_refused (TreeFailed path) why tells = absurd (tree why.why.0)
    merge_refused (StoreFailed path) why tells = absurd (store why.0)
    merge_refused OutputFailed why tells = absurd (out why.0)
    merge_refused (NotARepository path) why tells = merge_said why.given why.given_are (merge_unloaded old.files m.options why.given _ status why.why.1.1 (or_five err (NotARepository path) status tells))
    merge_refused (Limit place number) (inl why) tells = merge_said why.given why.given_are (merge_unloaded old.files m.options why.given _ status why.why.1.1 (or_five err (Limit place number) status tells))
    merge_refused (Limit place number) (inr (inl why)) tells =
        let at = why.why.1 in
        merge_said why.given why.given_are
        (merge_loaded old.files m.options why.given at.0 status at.1
        ((λ none. not_past_recalled _ why.given (queries m.options at.0) place number none.within at.2), (λ within. not_past_recalled _ why.given (queries m.options at.0) place number within at.2)))
    merge_refused (Limit place number) (inr (inr why)) tells = absurd why
    merge_refused (Spent text) why tells = absurd why.why.1.2
    merge_refused (Lacks part parts query) why tells =
        let at = why.why.1 in
        merge_said why.given why.given_are
        (merge_loaded old.files m.options why.given at.0 status at.1
        ((λ none. not_lacking _ why.given (queries m.options at.0) query none.backed at.2.0), (λ within. ten_or_five (said_by (scan_text m.options at.0)) status (or_five err (Lacks part parts query) status tells))))
    merge_refused NoMemory why tells = inl (five_only status (or_five err NoMemory status tells))
    merge_refused other why tells = absurd why

    merge_ends : (input : Fed) (ending : Ending) → Ends (commands.Merge m) entry old new input ending → IfOk ending (λ some. (status ≡ well_status some) × SaysNothing err)
        → IfErr ending (λ refusal. TellsRefusal err refusal status) → IsSaidMerge m old.files old.kept status
    merge_ends input (Ok some) ends well refused =
        let r = ends.done in
        let w = r.answered in
        merge_said w.given w.given_are (merge_loaded old.files m.options w.given w.of status w.loaded ((λ none. inl (well.0 ∙ r.status_is)), (λ within. inl (well.0 ∙ r.status_is))))
    merge_ends input (Err refusal) ends well refused =
        or_unbegun entry old new err (merge_causes m old new) refusal status (IsSaidMerge m old.files old.kept status) (λ five. inl five) (λ why. merge_refused refusal why refused) refused ends.refusal

    pub complete_merge : (input : Fed) (ending : Ending) → Runs words entry old new input ending → IfOk ending (λ some. (status ≡ well_status some) × SaysNothing err)
        → IfErr ending (λ refusal. TellsRefusal err refusal status) → IsSaidMerge m old.files old.kept status
    complete_merge input ending runs well refused = merge_ends input ending (ends law words entry old new input (commands.Merge m) is ending runs) well refused

-- ---- what scans of all parts left is merged

-- among the records of files are those of each of them
record Among (given known : List KnownRecord) : Type 0 where
  pub before : List KnownRecord
  pub behind : List KnownRecord
  pub is : given ≡ before ++ (known ++ behind)

among_joined : (held : FileMap) (path : List ℕ) (known : List KnownRecord) → ((other : List KnownRecord) → ReadsFile (file_at held path) other → other ≡ known) → (paths : List (List ℕ)) (given : List KnownRecord)
    → AreJoined (Some held) paths given → has_text paths path ≡ true → Among given known
among_joined held path known one [] given joined has = absurd (false≢true has)
among_joined held path known one (p ∷ ps) given joined has = by (bytes_eq path p) refl (among_joined held path known one ps joined.1 joined.3)
  where
    by : (b : Bool) → bytes_eq path p ≡ b → (has_text ps path ≡ true → Among joined.1 known) → Among given known
    by true same later =
        let is : path ≡ p = same_text path p (sym same) in
        record {
          before = [];
          behind = joined.1;
          is = joined.4 ∙ ap (λ rs. rs ++ joined.1) (one joined.0 (subst (λ q. ReadsFile (file_at held q) joined.0) (sym is) joined.2));
        }
    by false other later =
        let next = later (ap (λ b. b || has_text ps path) (sym other) ∙ has) in
        record { before = joined.0 ++ next.before; behind = next.behind; is = joined.4 ∙ (ap (λ rs. joined.0 ++ rs) next.is ∙ sym (append_assoc joined.0 next.before (known ++ next.behind))) }

abbrev pub MergedLaw : Type 0
MergedLaw = (parts : ℕ) (o : Options) (r : Repo) (given : List KnownRecord) → 1 ≤ parts → AreLeftByParts parts o r given → (answer : Result Merged MergeFault) → merges.Merges parts o given r answer → MayMerge answer

module _ (m : Merging) (told kept : Option FileMap) (left : AreLeftByPartScans m told kept) (repo : Repo) (loaded : IsLoaded told repo) (given : List KnownRecord) (joined : AreJoined kept m.from given) where
  module _ (part : ℕ) (l : IsLeftByPartScan m told kept part) where
    its_repo : l.scan.answered.of ≡ repo
    its_repo = one_repo l.old.files l.files l.scan.answered.of repo l.scanned l.scan.answered.loaded (subst (λ t. IsLoaded t repo) l.told_are loaded)

    abbrev none : Counts
    none = record { solve = 0; lower = 0 }

    abbrev answer : Part
    answer = record { certs = map cert_record l.scan.answered.certs; queries = length (part_queries part m.parts l.asked.options l.scan.answered.of) }

    amid : Among given (map cert_record l.scan.answered.certs)
    amid =
        among_joined l.held l.path (map cert_record l.scan.answered.certs) (λ other reads. l.scan.answered.are.read_back other (subst (λ bytes. ReadsFile bytes other) l.certs reads)) m.from given
        (subst (λ k. AreJoined k m.from given) l.held_are joined) l.named

    by_part : (r : Repo) → l.scan.answered.of ≡ r → IsLeftByPart part m.parts m.options r given
    unfolding answer
    by_part r is =
        subst (λ x. IsLeftByPart part m.parts m.options x given) is
        (record {
          options = l.asked.options;
          keywords = l.keywords;
          profiles = l.profiles;
          known = l.scan.answered.given;
          start = none;
          now = counts_after none 0 l.scan.answered.certs;
          answer = answer;
          is = record {
            certs = l.scan.answered.certs;
            are = l.scan.answered.are.certs_are;
            records_are = refl;
            queries_are = refl;
            within = l.scan.answered.are.within;
            formed = l.scan.answered.are.formed;
            lowered = 0;
            few = omega arith;
            counts_are = refl;
          };
          before = amid.before;
          behind = amid.behind;
          among = amid.is;
        })

  left_by_parts : AreLeftByParts m.parts m.options repo given
  left_by_parts = λ part from to. by_part part (left part from to) repo (its_repo part (left part from to))

module _ (law : IsOneCommand) (merged : MergedLaw) (words : List (List ℕ)) (entry : Roots) (old new : World) (m : Merging) (is : IsCommand words (commands.Merge m)) (status : ℕ) (left : AreLeftByPartScans m old.files old.kept)
    (tree : Rose old.tree_faults new.tree_faults → ⊥) (store : Rose old.store_faults new.store_faults → ⊥) (out : Rose old.out_faults new.out_faults → ⊥) (err : Told) where
  abbrev Good : Type 0
  Good = (status ≡ 0) ⊎ ((status ≡ 1) ⊎ (status ≡ 5))

  one_part : IsLeftByPartScan m old.files old.kept 1
  one_part = left 1 (omega arith) m.some

  unloaded_never : (X : Type 0) (fault : LoadFault) → IsUnloaded old.files fault → X
  unloaded_never X fault un =
      not_unloaded X old.files one_part.files fault one_part.scan.answered.of one_part.told_are un (subst (λ t. IsLoaded t one_part.scan.answered.of) one_part.scanned one_part.scan.answered.loaded)

  may : (repo : Repo) (given : List KnownRecord) → IsLoaded old.files repo → AreJoined old.kept m.from given → (answer : Result Merged MergeFault) → merges.Merges m.parts m.options given repo answer → MayMerge answer
  may repo given loaded joined answer merges = merged m.parts m.options repo given m.some (left_by_parts m old.files old.kept left repo loaded given joined) answer merges

  left_refused : (refusal : Refusal) → Why (merge_causes m old new) refusal → TellsRefusal err refusal status → Good
  left_refused (TreeFailed path) why tells = absurd (tree why.why.0)
  left_refused (StoreFailed path) why tells = absurd (store why.0)
  left_refused OutputFailed why tells = absurd (out why.0)
  left_refused (NotARepository path) why tells = unloaded_never _ _ why.why.1.1
  left_refused (Limit place number) (inl why) tells = unloaded_never _ _ why.why.1.1
  left_refused (Limit place number) (inr (inl why)) tells = let at = why.why.1 in absurd (may at.0 why.given at.1 why.given_are (Err (faults.Limit place number)) at.2)
  left_refused (Limit place number) (inr (inr why)) tells = absurd why
  left_refused (Spent text) why tells = absurd why.why.1.2
  left_refused (Lacks part parts query) why tells = let at = why.why.1 in absurd (may at.0 why.given at.1 why.given_are (Err (faults.NotBacked query part)) (at.2.0, at.2.1))
  left_refused NoMemory why tells = inr (inr (five_only status (or_five err NoMemory status tells)))
  left_refused other why tells = absurd why

  well_good : (some : Bool) → status ≡ well_status some → Good
  well_good false is = inl is
  well_good true is = inr (inl is)

  left_ends : (input : Fed) (ending : Ending) → Ends (commands.Merge m) entry old new input ending → IfOk ending (λ some. (status ≡ well_status some) × SaysNothing err)
      → IfErr ending (λ refusal. TellsRefusal err refusal status) → Good
  left_ends input (Ok some) ends well refused = well_good some well.0
  left_ends input (Err refusal) ends well refused =
      or_unbegun entry old new err (merge_causes m old new) refusal status Good (λ five. inr (inr five)) (λ why. left_refused refusal why refused) refused ends.refusal

  pub merges_parts : (input : Fed) (ending : Ending) → Runs words entry old new input ending → IfOk ending (λ some. (status ≡ well_status some) × SaysNothing err)
      → IfErr ending (λ refusal. TellsRefusal err refusal status) → Good
  merges_parts input ending runs well refused = left_ends input ending (ends law words entry old new input (commands.Merge m) is ending runs) well refused
