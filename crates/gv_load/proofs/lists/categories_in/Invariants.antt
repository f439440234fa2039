use Rattle.std.proofs.Common.{◌≡◌, ◌++◌, length}
use Rattle.std.specs.List.{filter_map}
use Rattle.gv_base.specs.declared.pieces.Cut.TheVariants.{Lines}
use Rattle.gv_base.specs.Pieces.{left}
use Rattle.gv_profile.specs.Lines.{line_words, file_lines}
use Rattle.gv_load.specs.Categories.{category_in}
use Rattle.gv_load.proofs.lists.categories_in.Given as goal

abbrev pub invariant-loop-line : goal.invariant-loop-line
invariant-loop-line l =
    l.categories ++ filter_map (λ line. category_in (line_words line)) (left Lines l.rest) ≡ filter_map (λ line. category_in (line_words line)) (file_lines l.bytes)

abbrev pub decreases-loop-line : goal.decreases-loop-line
decreases-loop-line l = length (left Lines l.rest)
