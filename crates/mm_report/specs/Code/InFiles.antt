-- What is reported names one of the files.
use Rattle.std.specs.Prelude.{◌<◌, ℕ}
use Rattle.mm_keep.specs.Language.Told.{Told, Incomplete, Wrong, Fault}

-- what is reported names one of this many files
abbrev pub IsInFiles : ℕ → Told → Type 0
IsInFiles count (Incomplete at) = at.file < count
IsInFiles count (Wrong number at) = at.file < count
IsInFiles count (Fault number shown) = shown.at.file < count
IsInFiles count _ = Unit {0}
