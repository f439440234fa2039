-- The script of a session (a format of this project): which commands it has, and how it ends.
-- The definition of a script is a function of all bytes, and so are those of its lines, lengths and commands (`Line`,
-- `Length`, `Command`); the reader takes pieces of any size.
use Rattle.std.specs.Prelude.{◌≡◌, ℕ, ◌-◌, zero, suc, List, [], ◌∷◌, ◌++◌, Option, Some, None}
use Rattle.std.specs.Option.{option_map}
use Rattle.gv_edits.specs.declared.command.Command.{Command}
use Rattle.gv_edits.specs.declared.command.Command.TheVariants.{Put, Cut, Report, End}
use Rattle.gv_edits.specs.Command.{first_command}
use Rattle.gv_edits.specs.Pending.{whole}

-- how a script ends: with `end`; with a bad command, whose number is one more than there are commands before it; or with
-- its limit of commands, none of which is bad or `end`
pub data Ending : Type 0 where
  Ended : Ending
  Broken : Ending
  Passed : Ending

pub record Script : Type 0 where
  pub commands : List Command
  pub ending : Ending

abbrev pub without_commands : Ending → Script
without_commands ending = record { commands = []; ending = ending }

abbrev pub one_more : Command → Script → Script
one_more command script = record { commands = command ∷ script.commands; ending = script.ending }

-- a command and the script behind it, of which nothing counts behind `end`
abbrev pub led_script : Command → Script → Script
led_script (Put path bytes) script = one_more (Put path bytes) script
led_script (Cut path) script = one_more (Cut path) script
led_script Report script = one_more Report script
led_script End script = record { commands = End ∷ []; ending = Ended }

-- the script of these bytes, where so many commands are allowed
abbrev pub script_within : ℕ → List ℕ → Script
script_within zero bytes = without_commands Passed
script_within (suc most) bytes = by (first_command bytes) (script_within most)
  where
    by : Option (Command × List ℕ) → (List ℕ → Script) → Script
    by None more = without_commands Broken
    by (Some (command, rest)) more = led_script command (more rest)

-- the script of these bytes
unfoldable pub script_of : List ℕ → Script
script_of bytes = script_within 1000000 bytes

-- a script of which some was read: how many commands, and the bytes that were taken from the source and not read yet
pub record Reading : Type 0 where
  pub read : ℕ
  pub taken : List ℕ

-- what is left of the script, where the bytes that are left are told
unfoldable pub script_left : Reading → Option (List ℕ) → Option Script
script_left reading left = option_map (script_within (1000000 - reading.read)) (whole reading.taken left)

-- ---- what reading takes of the source

-- These bytes of what was taken before and of more that was taken spell a command, whatever comes behind them; those behind them weren't
-- read yet.
pub record Leads (before now : Reading) (left left' : Option (List ℕ)) (command : Command) : Type 0 where
  pub bytes : List ℕ
  pub more : List ℕ
  pub took : left ≡ whole more left'
  pub are : before.taken ++ more ≡ bytes ++ now.taken
  pub spell : (most : ℕ) (rest : List ℕ) → script_within (suc most) (bytes ++ rest) ≡ led_script command (script_within most rest)

-- what was taken before and more that was taken begin with no whole command
pub record Lacks (before : Reading) (left left' : Option (List ℕ)) : Type 0 where
  pub more : List ℕ
  pub took : left ≡ whole more left'
  pub none : (most : ℕ) → script_within (suc most) (before.taken ++ more) ≡ without_commands Broken
