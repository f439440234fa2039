-- What variables are set to: words where they are incremental, else a text.
use Rattle.std.specs.Prelude.{ℕ, if◌then◌else◌, List, [], Option, Some, None}
use Rattle.std.specs.Coded.{Coded}
use Rattle.gv_base.specs.ByteMap.{ByteMap, coded_byte_map}
use Rattle.gv_base.specs.Words.{tokens_of, joined}
use Rattle.gv_defaults.specs.contracts.vars.Setting as setting
use Rattle.gv_defaults.specs.declared.vars.Setting.{Setting}
use Rattle.gv_defaults.specs.declared.vars.Setting.TheVariants.{Words, Plain}
use Rattle.gv_defaults.specs.Incremental.{is_incremental, with_words}

-- by name
abbrev pub VarMap : Type 0
VarMap = ByteMap Setting

abbrev pub coded_vars : Coded VarMap
coded_vars = coded_byte_map setting.the_row.coded

-- what a name stands for: words are joined by one space, an unset name stands for nothing
abbrev pub text_of : Option Setting → List ℕ
text_of None = []
text_of (Some (Words words)) = joined words
text_of (Some (Plain text)) = text

-- the words: those of a text are its parts between spaces, tabs, carriage returns and line feeds
abbrev pub words_of : Option Setting → List (List ℕ)
words_of None = []
words_of (Some (Words words)) = words
words_of (Some (Plain text)) = tokens_of text

-- a value set over what was set before
abbrev pub set_over : List ℕ → List ℕ → Option Setting → Setting
set_over name value before =
    if is_incremental name then Words (with_words (words_of before) (tokens_of value)) else Plain value
