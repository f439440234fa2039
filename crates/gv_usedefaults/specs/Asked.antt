-- The defaults of the flags of a package that is asked about.
use Rattle.std.specs.Prelude.{ℕ, Bool, List}
use Rattle.gv_usedefaults.specs.declared.required.Asked.{Asked}
use Rattle.gv_usedefaults.specs.Defaults.{default_of}

abbrev pub on_of : Asked → List ℕ → Bool
on_of a = default_of a.pkg.now a.profile.now a.level a.defaults.now
