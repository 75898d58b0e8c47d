-- Files each piece of which is one unit, as all files are that calls have made.
use Rattle.std.specs.Prelude.{List}
use Rattle.std.specs.List.{AllByRecursion}
use Rattle.mm_text.specs.Language.Cut.{HoldsOneUnit}
use Rattle.mm_store.specs.Language.FilesView.{File}

-- each piece of each file holds one unit
abbrev pub HoldOneEach : List File → Type 0
HoldOneEach files = AllByRecursion (λ file. AllByRecursion HoldsOneUnit file.pieces) files
