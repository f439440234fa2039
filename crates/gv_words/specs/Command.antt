-- Which words are a command, and what it is (a format of this project).
use Rattle.std.specs.Prelude.{◌≡◌, ℕ, Bool, if◌then◌else◌, List, [], ◌∷◌, Option, Some, None, option_map}
use Rattle.std.specs.Option.{option_and_then}
use Rattle.std.specs.List.{list_all}
use Rattle.std.specs.Str.{is_utf8}
use Rattle.gv_base.specs.Paths.{is_part}
use Rattle.gv_report.specs.declared.keyword.Keyword.{Keyword}
use Rattle.gv_report.specs.declared.keyword.Takers.{Takers}
use Rattle.gv_report.specs.declared.keyword.Takers.TheVariants.{Judging, Linting}
use Rattle.gv_report.specs.declared.options.Options.{Options}
use Rattle.gv_words.specs.declared.table.Kind.{Kind}
use Rattle.gv_words.specs.declared.table.Kind.TheVariants.{Scan, Overlay, Verify, Session, Demo, Merge, Lint}
use Rattle.gv_words.specs.declared.table.Part.TheVariants as parts
use Rattle.gv_words.specs.declared.argument.Argument.{Argument}
use Rattle.gv_words.specs.declared.command.Command.{Command}
use Rattle.gv_words.specs.declared.command.Command.TheVariants as commands
use Rattle.gv_words.specs.Table.{command_named}
use Rattle.gv_words.specs.Argument.{arguments}
use Rattle.gv_words.specs.Form.{fit, stands, text_of, value_of}
use Rattle.gv_words.specs.Values.{budget_of, keywords_of, list_of, number_in, profiles_of, share_of}
use Rattle.gv_words.specs.declared.values.Share.{Share}

-- options, as four values
pub record Settings : Type 0 where
  pub keywords : List Keyword
  pub profiles : Option (List (List ℕ))
  pub json : Bool
  pub budget : ℕ

abbrev pub settings_of : Options → Settings
settings_of o = record { keywords = o.keywords; profiles = o.profiles; json = o.json; budget = o.budget }

-- a command: its plain word, the values of its options, and its settings
pub data Meaning : Type 0 where
  scan : List ℕ → List ℕ → Bool → Settings → Meaning
  overlay : List ℕ → List ℕ → List ℕ → Bool → Settings → Meaning
  verify : List ℕ → List ℕ → List ℕ → Settings → Meaning
  session : List ℕ → Settings → Meaning
  demo : ℕ → Meaning
  scan_part : List ℕ → List ℕ → Bool → Share → Settings → Meaning
  merge : List ℕ → List ℕ → List (List ℕ) → ℕ → Settings → Meaning
  lint : List ℕ → Settings → Meaning

abbrev pub meaning : Command → Meaning
meaning (commands.Scan a) = scan a.root a.certs a.fresh (settings_of a.options)
meaning (commands.Overlay s) = overlay s.asked.root s.repo s.asked.certs s.asked.fresh (settings_of s.asked.options)
meaning (commands.Verify v) = verify v.root v.certs v.report (settings_of v.options)
meaning (commands.Session s) = session s.root (settings_of s.options)
meaning (commands.Demo number) = demo number
meaning (commands.Part asked share) = scan_part asked.root asked.certs asked.fresh share (settings_of asked.options)
meaning (commands.Merge merging) = merge merging.root merging.certs merging.from merging.parts (settings_of merging.options)
meaning (commands.Lint linting) = lint linting.root (settings_of linting.options)

-- the settings that these arguments are, where each value is one
abbrev pub settings_with : Bool → Option (List Keyword) → Option (Option (List (List ℕ))) → Option ℕ → Option Settings
settings_with json (Some keywords) (Some profiles) (Some budget) = Some (record { keywords = keywords; profiles = profiles; json = json; budget = budget })
settings_with json (Some keywords) (Some profiles) None = None
settings_with json (Some keywords) None budget = None
settings_with json None profiles budget = None

-- of a command that takes these keywords
abbrev pub settings : Takers → List Argument → Option Settings
settings takers given = settings_with (stands parts.Json given) (keywords_of takers (value_of parts.Keywords given)) (profiles_of (value_of parts.Profiles given)) (budget_of (value_of parts.Budget given))

-- a scan of all
abbrev pub whole : List Argument → Option Meaning
whole given = option_map (scan (text_of parts.Plain given) (text_of parts.Certs given) (stands parts.Fresh given)) (settings Judging given)

-- or of a part, where it is one
abbrev pub part_of : Option Share → List Argument → Option Meaning
part_of None given = None
part_of (Some share) given = option_map (scan_part (text_of parts.Plain given) (text_of parts.Certs given) (stands parts.Fresh given) share) (settings Judging given)

abbrev pub scanned : Option (List ℕ) → List Argument → Option Meaning
scanned None given = whole given
scanned (Some text) given = part_of (share_of text) given

-- a merge of the certificates in these files, of so many parts
abbrev pub merged : Option (List (List ℕ)) → Option ℕ → List Argument → Option Meaning
merged (Some from) (Some count) given = option_map (merge (text_of parts.Plain given) (text_of parts.Certs given) from count) (settings Judging given)
merged (Some from) None given = None
merged None count given = None

-- the command that these arguments are, which fit it; the folder of an overlay is one part of a path
abbrev pub meant : Kind → List Argument → Option Meaning
meant Scan given = scanned (value_of parts.Share given) given
meant Overlay given = if is_part (text_of parts.Repo given) then option_map (overlay (text_of parts.Plain given) (text_of parts.Repo given) (text_of parts.Certs given) (stands parts.Fresh given)) (settings Judging given) else None
meant Verify given = option_map (verify (text_of parts.Plain given) (text_of parts.Certs given) (text_of parts.Report given)) (settings Judging given)
meant Session given = option_map (session (text_of parts.Plain given)) (settings Judging given)
meant Demo given = option_map demo (number_in 0 18446744073709551615 (text_of parts.Plain given))
meant Merge given = merged (list_of (text_of parts.From given)) (number_in 1 1000 (text_of parts.Of given)) given
meant Lint given = option_map (lint (text_of parts.Plain given)) (settings Linting given)

-- the command of a row that the words behind it are
abbrev pub command_with : Kind → List (List ℕ) → Option Meaning
command_with kind words = option_and_then (λ given. if fit kind given then meant kind given else None) (arguments words)

abbrev pub named_command : List (List ℕ) → Option Meaning
named_command [] = None
named_command (word ∷ words) = option_and_then (λ kind. command_with kind words) (command_named word)

-- the command that the words are: each is UTF-8, and the first names a row of the table
abbrev pub command_of : List (List ℕ) → Option Meaning
command_of words = if list_all is_utf8 words then named_command words else None

-- the words are this command
abbrev pub IsCommand : List (List ℕ) → Command → Type 0
IsCommand words c = command_of words ≡ Some (meaning c)

-- words are one command at most
abbrev pub IsOneCommand : Type 0
IsOneCommand = (words : List (List ℕ)) (c d : Command) → IsCommand words c → IsCommand words d → c ≡ d
