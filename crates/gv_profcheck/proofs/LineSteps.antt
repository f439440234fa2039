-- One line more of a file.
use Rattle.std.proofs.Common.{◌≡◌, ℕ, ◌+◌, List, [], ◌∷◌, ◌++◌, Some, None, append_assoc, refl, sym, ap, ◌∙◌}
use Rattle.std.specs.Prelude.{Option, option_to_list}
use Rattle.std.specs.List.{cons_option, enumerate_from, filter_map}
use Rattle.gv_facts.specs.declared.pkg.Pkg.{Pkg}
use Rattle.gv_usedefaults.specs.declared.file_kinds.LineFile.{LineFile}
use Rattle.gv_profile.specs.Lines.{line_words}
use Rattle.gv_report.specs.declared.report.Report.{Report}
use Rattle.gv_profcheck.specs.Unknown.{atom_in, if_unknown, line_report}

joined : {X : Type 0} (o : Option X) (xs : List X) → option_to_list o ++ xs ≡ cons_option o xs
joined None xs = refl
joined (Some x) xs = refl

pub line_more : (pkgs : List Pkg) (file : LineFile) (number next : ℕ) (line : List ℕ) (lines behind : List (List ℕ)) (reports new whole : List Report) →
    lines ≡ line ∷ behind → next ≡ number + 1 → new ≡ reports ++ option_to_list (if_unknown pkgs file.path number (atom_in file.kind (line_words line))) →
    reports ++ filter_map (line_report pkgs file) (enumerate_from number lines) ≡ whole →
    new ++ filter_map (line_report pkgs file) (enumerate_from next behind) ≡ whole
line_more pkgs file number next line lines behind reports new whole taken after added is =
    let told = if_unknown pkgs file.path number (atom_in file.kind (line_words line)) in
    let of : ℕ → List (List ℕ) → List Report = λ n ls. filter_map (line_report pkgs file) (enumerate_from n ls) in
    ap (λ r. r ++ of next behind) added
    ∙ append_assoc reports (option_to_list told) (of next behind)
    ∙ ap (λ l. reports ++ l) (joined told (of next behind))
    ∙ ap (λ n. reports ++ cons_option told (of n behind)) after
    ∙ sym (ap (λ ls. reports ++ of number ls) taken)
    ∙ is
