-- Without arguments there are settings.
use Rattle.std.proofs.Common.{◌≡◌, Bool, true, false, [], None, ap}
use Rattle.std.specs.Prelude.{Option, Some, option_map}
use Rattle.std.proofs.lemmas.Bool.{false≢true}
use Rattle.gv_report.specs.declared.keyword.Takers.TheVariants.{Judging}
use Rattle.gv_report.specs.declared.options.Options.{Options}
use Rattle.gv_words.specs.Command.{Settings, settings, settings_of}

abbrev is_some : Option Settings → Bool
is_some None = false
is_some (Some s) = true

abbrev no_options : Option Options
no_options = None

pub are_settings : option_map settings_of no_options ≡ settings Judging [] → ⊥
are_settings is = absurd (false≢true (ap is_some is))
