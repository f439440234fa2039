use Rattle.std.proofs.Common.{◌++◌, [], ap, sym, append-nil, ◌∙◌}
use Rattle.std.specs.Option.{option_map_or}
use Rattle.std.proofs.lemmas.Bool.{ltb-false}
use Rattle.std.proofs.lemmas.Option.{slice_get_past}
use Rattle.gv_usedefaults.specs.Defaults.{file_words}
use Rattle.gv_usedefaults.proofs.folding.add_place_words.Goals as goal

pub returns-in-None : goal.returns-in-None
returns-in-None c =
    sym (ap (λ o. c.args.rules.now ++ option_map_or file_words o []) (slice_get_past c.args.files.now c.args.place (ltb-false _ _ (sym c.in-None.ensures.lookup.0))) ∙ append-nil c.args.rules.now)
