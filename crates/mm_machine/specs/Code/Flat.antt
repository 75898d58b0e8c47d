-- A flat list of symbols, and the expressions that are ranges of it.
use Rattle.std.specs.Prelude.{ℕ, ◌-◌, ◌≤◌, List, map, take, drop}
use Rattle.mm_machine.specs.Language.Frame.{Symbol}
use Rattle.mm_machine.specs.declared.pattern.Entry.{Entry}

-- the expression of an entry
abbrev pub read : List Symbol → Entry → List Symbol
read symbols e = take (e.end - e.start) (drop e.start symbols)

-- the expressions of entries
abbrev pub read_all : List Symbol → List Entry → List (List Symbol)
read_all symbols es = map (read symbols) es

-- the range is within a list of this length
abbrev pub IsEntryWithin : ℕ → Entry → Type 0
IsEntryWithin n e = (e.start ≤ e.end) × (e.end ≤ n)
