-- All that entries with an ebuild name is among what all entries name.
use Rattle.std.proofs.Common.{◌≡◌, ℕ, List, [], ◌∷◌, true, Some, None, refl, sym, ap, ◌∙◌}
use Rattle.std.specs.Prelude.{Option, flat_map}
use Rattle.gv_base.specs.Order.{has_text, HaveSameTexts}
use Rattle.gv_entry.specs.declared.entry.Entry.{Entry}
use Rattle.gv_load.specs.DigestWords.{AllNamed}
use Rattle.gv_load.specs.Entries.{names_in, names_with}
use Rattle.gv_load.specs.Given.{all_said, names_said}
use Rattle.gv_load.specs.declared.entries.PfRead.{PfRead}
use Rattle.gv_load.proofs.JudgeLemmas.{all_named}
use Rattle.gv_load.specs.ListLemmas.{in_back, in_either, in_front}

one_named : (entry : Option Entry) (ebuild : Option (List ℕ)) (r : PfRead) → r.entry ≡ entry → (name : List ℕ) → has_text (names_with entry ebuild) name ≡ true → has_text (names_said r) name ≡ true
one_named None ebuild r is name there = cc
one_named (Some e) None r is name there = cc
one_named (Some e) (Some digest) r is name there = rw is there

among_said : (reads : List PfRead) (name : List ℕ) → has_text (flat_map names_in reads) name ≡ true → has_text (all_said reads) name ≡ true
among_said [] name there = there
among_said (r ∷ rs) name there =
    in_either (names_in r) (flat_map names_in rs) name there
    (λ is. in_front (names_said r) (all_said rs) name (one_named r.entry r.ebuild r refl name is))
    (λ later. in_back (names_said r) (all_said rs) name (among_said rs name later))

pub all_are_named : (reads : List PfRead) (said names : List (List ℕ)) → said ≡ all_said reads → HaveSameTexts said names → AllNamed names reads
all_are_named reads said names is same =
    all_named names reads (λ name there. sym (same name) ∙ ap (λ (ts : List (List ℕ)). has_text ts name) is ∙ among_said reads name there)
