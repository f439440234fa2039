-- What a name stands for while a file is read.
use Rattle.std.specs.Prelude.{ℕ, List, Option}
use Rattle.gv_defaults.specs.declared.vars.Setting.{Setting}
use Rattle.gv_defaults.specs.Settings.{text_of}

-- what each name is set to before the file
abbrev pub Before : Type 0
Before = List ℕ → Option Setting

abbrev pub text_before : Before → List ℕ → List ℕ
text_before before name = text_of (before name)
