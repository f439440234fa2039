-- Scripts, and what they are.
use Rattle.std.specs.Prelude.{◌≡◌, ℕ, List, [], ◌∷◌, ◌++◌, refl, codes}
use Rattle.gv_edits.specs.declared.command.Command.TheVariants.{Put, Cut, Report, End}
use Rattle.gv_edits.specs.Script.{Ended, Broken, Passed, script_within, without_commands}

abbrev path : List ℕ
path = codes "metadata/md5-cache/x/y-1"

abbrev entry : List ℕ
entry = codes "EAPI=8\nSLOT=0\nKEYWORDS=amd64\n_md5_=d41d8cd98f00b204e9800998ecf8427e\n"

-- an entry is cut and put again, with a report before, between and behind
abbrev three_reports : List ℕ
three_reports = codes "report\ncut metadata/md5-cache/x/y-1\nreport\nput metadata/md5-cache/x/y-1 68\n" ++ (entry ++ codes "\nreport\n")

ended : script_within 9 (three_reports ++ codes "end\n") ≡ record { commands = Report ∷ Cut path ∷ Report ∷ Put path entry ∷ Report ∷ End ∷ []; ending = Ended }
ended = refl

cut_before_its_end : script_within 9 three_reports ≡ record { commands = Report ∷ Cut path ∷ Report ∷ Put path entry ∷ Report ∷ []; ending = Broken }
cut_before_its_end = refl

cut_inside_a_put : script_within 9 (codes "report\nput a/b 3\n12") ≡ record { commands = Report ∷ []; ending = Broken }
cut_inside_a_put = refl

other_byte_behind_a_put : script_within 9 (codes "put a/b 3\n1234\n") ≡ without_commands Broken
other_byte_behind_a_put = refl

unknown_command : script_within 9 (codes "report\nfly\n") ≡ record { commands = Report ∷ []; ending = Broken }
unknown_command = refl

empty_script : script_within 9 [] ≡ without_commands Broken
empty_script = refl

end_without_line_feed : script_within 9 (codes "end") ≡ without_commands Broken
end_without_line_feed = refl

behind_the_end : script_within 9 (codes "end\nfly") ≡ record { commands = End ∷ []; ending = Ended }
behind_the_end = refl

line_feeds_in_a_put : script_within 9 (codes "put a 2\n\n\n\nend\n") ≡ record { commands = Put (codes "a") (codes "\n\n") ∷ End ∷ []; ending = Ended }
line_feeds_in_a_put = refl

leading_zero : script_within 9 (codes "put a 01\nx\n") ≡ without_commands Broken
leading_zero = refl

two_spaces : script_within 9 (codes "cut  a\n") ≡ without_commands Broken
two_spaces = refl

past_the_limit : script_within 2 (codes "report\nreport\nfly\n") ≡ record { commands = Report ∷ Report ∷ []; ending = Passed }
past_the_limit = refl
