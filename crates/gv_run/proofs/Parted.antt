-- From judging a part, and from merging records, to what a scan of a part and a merge leave.
use Rattle.std.proofs.Common.{◌≡◌, ℕ, ◌≤◌, true, false, List, [], ◌∷◌, length, map, filter, Some, None, refl, sym, ap, subst, ◌∙◌, inl, inr, arith, append-nil}
use Rattle.std.specs.Prelude.{Option, Ok, Err, IfOk, IfErr, not, if◌then◌else◌}
use Rattle.std.specs.FinMap as map
use Rattle.std.specs.List.{AllByRecursion}
use Rattle.std.specs.Option.{option_map}
use Rattle.gv_base.specs.Counts.{Counts}
use Rattle.gv_base.specs.FileMap.{FileMap}
use Rattle.gv_base.specs.Outside.{gains}
use Rattle.gv_cert.specs.File.{ReadsFile, file_bytes}
use Rattle.gv_cert.specs.Known.{KnownRecord}
use Rattle.gv_load.specs.OwnLines.{HaveOwnLines}
use Rattle.gv_load.specs.declared.loading.Repo.{Repo}
use Rattle.gv_logic.specs.Circuits.{IsCircuit}
use Rattle.gv_report.specs.Emitted.{emitted}
use Rattle.gv_report.specs.declared.options.Options.{Options}
use Rattle.gv_words.specs.declared.command.Asked.{Asked}
use Rattle.gv_words.specs.declared.command.Command.TheVariants as commands
use Rattle.gv_words.specs.declared.merging.Merging.{Merging}
use Rattle.gv_words.specs.declared.values.Share.{Share}
use Rattle.gv_checks.specs.Certs.{AreCerts, Cert, CountsAtMost, HasRecord, cert_record, new_count}
use Rattle.gv_checks.specs.Limits.{RefusesFirst}
use Rattle.gv_checks.specs.Queries.{Query, gates_of, queries}
use Rattle.gv_checks.specs.RepoReports.{scan_text}
use Rattle.gv_checks.specs.declared.chosen.Chosen.TheVariants as choices
use Rattle.gv_checks.specs.declared.fault.JudgeFault.{JudgeFault}
use Rattle.gv_merge.specs.Merging as merges
use Rattle.gv_merge.specs.Merging.{IsMerged}
use Rattle.gv_merge.specs.Parts.{IsPart, part_queries}
use Rattle.gv_merge.specs.declared.merging.MergeFault.{MergeFault}
use Rattle.gv_merge.specs.declared.merging.MergeFault.TheVariants as faults
use Rattle.gv_merge.specs.declared.merging.Merged.{Merged}
use Rattle.gv_merge.specs.declared.parts.Part.{Part}
use Rattle.gv_run.specs.declared.answering.Answers.{Answers}
use Rattle.gv_ending.specs.declared.refusal.Refusal.{Refusal}
use Rattle.gv_ending.specs.Causes.{FailsAt, FailsAtOne, Why, of_queries, of_store}
use Rattle.gv_ending.specs.Fetching.{AreJoined, IsGiven}
use Rattle.gv_run.specs.Naming.{TellsLacking}
use Rattle.gv_run.specs.Performs.{Performs}
use Rattle.gv_run.specs.Refusing.{HandsJudge, HandsMerge}
use Rattle.gv_run.specs.Scan.{IsLoaded}
use Rattle.gv_run.specs.Scanning.{certs_file, merge_of, part_scan_of}
use Rattle.gv_run.specs.ScanSteps.{AreAnswersOf, HasAnswers, HasLeft, IsFileOf, IsUnanswered, answer_causes, leave_causes, reading, writing}
use Rattle.gv_ending.specs.World.{Fed, World, world}
use Rattle.gv_ending.specs.Endings.{Ending}
use Rattle.gv_run.proofs.AnswerLemmas.{GatesLaw, PickedLaw, are_answered, lowered_few, not_read_of, text_is, unjudged_of, unread_causes}
use Rattle.gv_run.proofs.Leaving.{unkept}
use Rattle.gv_run.proofs.NamedQuery.{EachNamed, chosen_text}
use Rattle.gv_run.proofs.Scanned.{answers_stop, leave_stops, scans, untaken}
use Rattle.gv_run.proofs.Whys.{from_queries}

abbrev pub HaveLaw : Type 0
HaveLaw = (budget : ℕ) (given : List KnownRecord) (qs : List Query) (certs : List Cert) → AreCerts budget given (map gates_of qs) certs → AllByRecursion (λ q. IsCircuit (gates_of q)) qs
    → AllByRecursion (λ q. HasRecord (map cert_record certs) (gates_of q)) qs

-- ---- a part judged

module _ (options : Options) (given : List KnownRecord) (repo : Repo) (part parts : ℕ) where
  pub part_unjudged : EachNamed → HaveOwnLines repo.profiles → (fault : JudgeFault) (refusal : Refusal) → RefusesFirst options.budget given (part_queries part parts options repo) fault → HandsJudge repo fault refusal
      → Why (of_queries (IsUnanswered options.budget given repo (part_queries part parts options repo))) refusal
  part_unjudged each_named own =
      unjudged_of options.budget given repo (part_queries part parts options repo) (λ before behind q are. chosen_text each_named (choices.Part part parts) options repo own before behind q are)

  pub is_file_of : HaveLaw → GatesLaw → (before now : Counts) (p : Part) → IsPart part parts options given repo before now p → (file : List ℕ) → file ≡ file_bytes p.certs
      → ((other : List KnownRecord) → ReadsFile file other → other ≡ p.certs) → IsFileOf options.budget given (part_queries part parts options repo) before now file
  is_file_of have gates before now p is file made back =
      let qs : List Query = part_queries part parts options repo in
      let same : file ≡ certs_file is.certs = made ∙ ap file_bytes is.records_are in
      record {
        certs = is.certs;
        are = are_answered gates options.budget given qs before now is.certs is.within is.formed is.are (have options.budget given qs is.certs is.are is.formed) (ap (λ (c : Counts). c.solve) is.counts_are)
            (lowered_few before now is.lowered (length qs) is.certs is.few is.counts_are)
            (λ other reads. back other (subst (λ bytes. ReadsFile bytes other) (sym same) reads) ∙ is.records_are);
        file_is = same;
      }

module _ (a : Asked) (share : Share) (given : List KnownRecord) (told : Option FileMap) (before now : ℕ) where
  pub part_not_read : (c : Counts) (refusal : Refusal) → Why (unread_causes told before now) refusal → Why (answer_causes (part_scan_of a share told) given (reading before now c c)) refusal
  part_not_read c = not_read_of (part_scan_of a share told) given told (λ fault un. un) before now c

  module _ (calm : now ≡ before) (repo : Repo) (loaded : IsLoaded told repo) (c c' : Counts) where
    pub part_not_judged : (refusal : Refusal) → Why (of_queries (IsUnanswered a.options.budget given repo (part_queries share.part share.parts a.options repo))) refusal
        → Why (answer_causes (part_scan_of a share told) given (reading before now c c')) refusal
    part_not_judged =
        from_queries (IsUnanswered a.options.budget given repo (part_queries share.part share.parts a.options repo)) (answer_causes (part_scan_of a share told) given (reading before now c c'))
        (λ refusal un. (calm, (repo, loaded, un))) tt

    pub part_has_answers : (file : List ℕ) → IsFileOf a.options.budget given (part_queries share.part share.parts a.options repo) c c' file
        → HasAnswers (part_scan_of a share told) given (reading before now c c') (record { text = []; file = file })
    part_has_answers file is = record { calm = calm; of = repo; loaded = loaded; are = record { certs = is.certs; are = is.are; text_is = refl; file_is = is.file_is } }

-- ---- what a scan of a part leaves

gains_nothing : (o : Option (List ℕ)) → o ≡ gains o []
gains_nothing None = refl
gains_nothing (Some held) = ap Some (sym (append-nil held))

module _ (input : Fed) (o : Option (List ℕ)) (ob : ℕ) (a : Asked) (share : Share) (f : Option FileMap) (t : ℕ) (k : Option FileMap) (kb : ℕ) (c : Counts) where
  abbrev start : World
  start = world f t k kb o ob c

  pub part_unfetched : (k' : Option FileMap) (kn : ℕ) → k' ≡ k → a.fresh ≡ false → kb ≤ kn → (refusal : Refusal) → Why (of_store (FailsAt a.certs kb kn)) refusal
      → Performs (commands.Part a share) start (world f t k' kn o ob c) input (Err refusal)
  part_unfetched k' kn kept unfresh later refusal why = record {
    done = tt;
    refusal = untaken (part_scan_of a share f) f t k k' kb kn o ob c kept unfresh (FailsAt a.certs kb kn) (λ path fails. fails) refusal why;
    spares = (refl, refl);
    lasts = record { files = refl; tree = omega arith; store = later; out = omega arith };
  }

  module _ (given : List KnownRecord) (given_are : IsGiven a.fresh k a.certs given) (f' : Option FileMap) (files : f' ≡ f) (t' : ℕ) (later : t ≤ t') (c' : Counts) where
    pub part_unanswered : (k' : Option FileMap) (kn : ℕ) → k' ≡ k → kn ≡ kb → (refusal : Refusal) → Why (answer_causes (part_scan_of a share f) given (reading t t' c c')) refusal
        → Performs (commands.Part a share) start (world f' t' k' kn o ob c') input (Err refusal)
    part_unanswered k' kn kept calm refusal why = record {
      done = tt;
      refusal = answers_stop (part_scan_of a share f) f f' t t' k kb o ob c c' given given_are k' kn kept calm refusal why;
      spares = (refl, refl);
      lasts = record { files = files; tree = later; store = omega (arith, calm); out = omega arith };
    }

    module _ (k' : Option FileMap) (kn : ℕ) (file : List ℕ) (has : HasAnswers (part_scan_of a share f) given (reading t t' c c') (record { text = []; file = file })) where
      abbrev answers : Answers
      answers = record { text = []; file = file }

      kept_so : k' ≡ option_map (λ (held : FileMap). map.insert held a.certs file) k → kn ≡ kb → HasLeft a.certs answers (writing k k' kb kn o o ob ob) false
      kept_so kept calm = record { kept = record { kept = kept; calm = calm }; out = gains_nothing o; calm = refl; some_is = refl }

      -- behind a store that was fetched from
      module _ (k1 : Option FileMap) (kb1 : ℕ) (same : k1 ≡ k) (still : kb1 ≡ kb) where
        pub part_unkept : option_map (λ (held : FileMap). map.remove held a.certs) k' ≡ option_map (λ (held : FileMap). map.remove held a.certs) k1 → kb1 ≤ kn → (refusal : Refusal)
            → Why (of_store (FailsAt a.certs kb1 kn)) refusal → Performs (commands.Part a share) start (world f' t' k' kn o ob c') input (Err refusal)
        part_unkept others store refusal why = record {
          done = tt;
          refusal = leave_stops (part_scan_of a share f) f f' t t' k kb o ob c c' given given_are k' kn o ob answers has refusal
              (unkept a.certs answers k k' kb kn o ob (others ∙ ap (option_map (λ (held : FileMap). map.remove held a.certs)) same) refusal
              (subst (λ n. Why (of_store (FailsAt a.certs n kn)) refusal) still why));
          spares = (refl, refl);
          lasts = record { files = files; tree = later; store = omega (arith, store, still); out = omega arith };
        }

        pub part_left : k' ≡ option_map (λ (held : FileMap). map.insert held a.certs file) k1 → kn ≡ kb1 → Performs (commands.Part a share) start (world f' t' k' kn o ob c') input (Ok false)
        part_left kept calm = record {
          done = scans (part_scan_of a share f) f f' t t' k kb o ob c c' given given_are k' kn o ob answers has false
              (kept_so (kept ∙ ap (option_map (λ (held : FileMap). map.insert held a.certs file)) same) (calm ∙ still));
          refusal = tt;
          spares = (refl, refl);
          lasts = record { files = files; tree = later; store = omega (arith, calm, still); out = omega arith };
        }

-- ---- records merged

none_new : (certs : List Cert) → AllByRecursion (λ (c : Cert). c.reused ≡ true) certs → new_count certs ≡ 0
none_new [] all = refl
none_new (c ∷ cs) all =
    subst (λ b. length (if not b then c ∷ filter (λ (d : Cert). not d.reused) cs else filter (λ (d : Cert). not d.reused) cs) ≡ 0) (sym all.0) (none_new cs all.1)

module _ (m : Merging) (given : List KnownRecord) (repo : Repo) where
  pub unmerged : (fault : MergeFault) (refusal : Refusal) → merges.Merges m.parts m.options given repo (Err fault) → HandsMerge m.parts fault refusal
      → Why (of_queries (TellsLacking given (queries m.options repo) m.parts)) refusal
  unmerged (faults.NotBacked query part) refusal is e = subst (Why (of_queries (TellsLacking given (queries m.options repo) m.parts))) (sym e) (is.0, is.1, refl)
  unmerged (faults.Limit place number) refusal is e = subst (Why (of_queries (TellsLacking given (queries m.options repo) m.parts))) (sym e) (inr (inl is))
  unmerged faults.NoMemory refusal is e = subst (Why (of_queries (TellsLacking given (queries m.options repo) m.parts))) (sym e) tt

  pub are_merged : PickedLaw → HaveLaw → GatesLaw → (before now : Counts) → now.solve ≡ before.solve → CountsAtMost (length (queries m.options repo)) before now → (merged : Merged)
      → IsMerged m.options given repo merged → (answers : Answers) → answers.text ≡ emitted m.options merged.reports → answers.file ≡ file_bytes merged.certs
      → ((other : List KnownRecord) → ReadsFile answers.file other → other ≡ merged.certs) → AreAnswersOf 0 given (queries m.options repo) (scan_text m.options repo) before now answers
  are_merged picked have gates before now solve few merged is answers text made back =
      let qs : List Query = queries m.options repo in
      let same : answers.file ≡ certs_file is.certs = made ∙ ap file_bytes is.records_are in
      let none : new_count is.certs ≡ 0 = none_new is.certs is.reused in
      record {
        certs = is.certs;
        are = are_answered gates 0 given qs before now is.certs is.within is.formed is.are (have 0 given qs is.certs is.are is.formed) (omega (arith, solve, none)) few.lowered
            (λ other reads. back other (subst (λ bytes. ReadsFile bytes other) (sym same) reads) ∙ is.records_are);
        text_is = text ∙ (ap (emitted m.options) is.reports_are ∙ text_is picked m.options repo);
        file_is = same;
      }

module _ (m : Merging) (given : List KnownRecord) (told : Option FileMap) (before now : ℕ) where
  pub merge_not_read : (c : Counts) (refusal : Refusal) → Why (unread_causes told before now) refusal → Why (answer_causes (merge_of m told) given (reading before now c c)) refusal
  merge_not_read c = not_read_of (merge_of m told) given told (λ fault un. un) before now c

  module _ (calm : now ≡ before) (repo : Repo) (loaded : IsLoaded told repo) (c c' : Counts) where
    pub not_merged : (refusal : Refusal) → Why (of_queries (TellsLacking given (queries m.options repo) m.parts)) refusal → Why (answer_causes (merge_of m told) given (reading before now c c')) refusal
    not_merged =
        from_queries (TellsLacking given (queries m.options repo) m.parts) (answer_causes (merge_of m told) given (reading before now c c')) (λ refusal un. (calm, (repo, loaded, un))) tt

    pub merge_has_answers : (answers : Answers) → AreAnswersOf 0 given (queries m.options repo) (scan_text m.options repo) c c' answers → HasAnswers (merge_of m told) given (reading before now c c') answers
    merge_has_answers made are = record { calm = calm; of = repo; loaded = loaded; are = are }

-- ---- what a merge leaves

module _ (input : Fed) (m : Merging) (f : Option FileMap) (t : ℕ) (k : Option FileMap) (kb : ℕ) (o : Option (List ℕ)) (ob : ℕ) (c : Counts) where
  abbrev merge_start : World
  merge_start = world f t k kb o ob c

  pub merge_unfetched : (k' : Option FileMap) (kn : ℕ) → k' ≡ k → kb ≤ kn → (refusal : Refusal) → Why (of_store (FailsAtOne m.from kb kn)) refusal
      → Performs (commands.Merge m) merge_start (world f t k' kn o ob c) input (Err refusal)
  merge_unfetched k' kn kept later refusal why = record {
    done = tt;
    refusal = untaken (merge_of m f) f t k k' kb kn o ob c kept tt (FailsAtOne m.from kb kn) (λ path fails. fails) refusal why;
    spares = refl;
    lasts = record { files = refl; tree = omega arith; store = later; out = omega arith };
  }

  module _ (given : List KnownRecord) (given_are : AreJoined k m.from given) (f' : Option FileMap) (files : f' ≡ f) (t' : ℕ) (later : t ≤ t') (c' : Counts) (unsolved : c'.solve ≡ c.solve) where
    pub merge_unanswered : (k' : Option FileMap) (kn : ℕ) → k' ≡ k → kn ≡ kb → (refusal : Refusal) → Why (answer_causes (merge_of m f) given (reading t t' c c')) refusal
        → Performs (commands.Merge m) merge_start (world f' t' k' kn o ob c') input (Err refusal)
    merge_unanswered k' kn kept calm refusal why = record {
      done = tt;
      refusal = answers_stop (merge_of m f) f f' t t' k kb o ob c c' given given_are k' kn kept calm refusal why;
      spares = unsolved;
      lasts = record { files = files; tree = later; store = omega (arith, calm); out = omega arith };
    }

    module _ (k' : Option FileMap) (kn : ℕ) (o' : Option (List ℕ)) (on : ℕ) (store : kb ≤ kn) (out : ob ≤ on) (answers : Answers) (has : HasAnswers (merge_of m f) given (reading t t' c c') answers) where
      merge_left : (ending : Ending) → IfOk ending (HasLeft m.certs answers (writing k k' kb kn o o' ob on)) → IfErr ending (Why (leave_causes m.certs answers (writing k k' kb kn o o' ob on)))
          → Performs (commands.Merge m) merge_start (world f' t' k' kn o' on c') input ending
      merge_left (Ok some) done why = record {
        done = scans (merge_of m f) f f' t t' k kb o ob c c' given given_are k' kn o' on answers has some done;
        refusal = tt;
        spares = unsolved;
        lasts = record { files = files; tree = later; store = store; out = out };
      }
      merge_left (Err refusal) done why = record {
        done = tt;
        refusal = leave_stops (merge_of m f) f f' t t' k kb o ob c c' given given_are k' kn o' on answers has refusal why;
        spares = unsolved;
        lasts = record { files = files; tree = later; store = store; out = out };
      }

      -- where the store was fetched from before
      pub merge_left_from : (k1 : Option FileMap) (kb1 : ℕ) → k1 ≡ k → kb1 ≡ kb → (ending : Ending) → IfOk ending (HasLeft m.certs answers (writing k1 k' kb1 kn o o' ob on))
          → IfErr ending (Why (leave_causes m.certs answers (writing k1 k' kb1 kn o o' ob on))) → Performs (commands.Merge m) merge_start (world f' t' k' kn o' on c') input ending
      merge_left_from k1 kb1 kept calm ending done why =
          merge_left ending
          (subst (λ (x : Option FileMap). IfOk ending (HasLeft m.certs answers (writing x k' kb kn o o' ob on))) kept
          (subst (λ (n : ℕ). IfOk ending (HasLeft m.certs answers (writing k1 k' n kn o o' ob on))) calm done))
          (subst (λ (x : Option FileMap). IfErr ending (Why (leave_causes m.certs answers (writing x k' kb kn o o' ob on)))) kept
          (subst (λ (n : ℕ). IfErr ending (Why (leave_causes m.certs answers (writing k1 k' n kn o o' ob on)))) calm why))
