-- What is proved of the reading of scripts: each is the contract of a function.
use Rattle.std.specs.Prelude.{◌≡◌, ◌≤◌, ℕ, List, [], ◌++◌, length}
use Rattle.mm_script.specs.Language.Script.{Entry, End, EndsSo, AreRead, HasEntries, IsLongestReading, IsReadSoFar}

-- A script is read in one way.
abbrev pub OneReading : Type 0
OneReading = (script : List ℕ) (a b : List Entry) (s t : List ℕ) → IsLongestReading script a s → IsLongestReading script b t → (a ≡ b) × (s ≡ t)

-- What is left of a script ends it in one way at most.
abbrev pub OneEnd : Type 0
OneEnd = (rest : List ℕ) (a b : End) → EndsSo rest a → EndsSo rest b → a ≡ b

-- What is read of some bytes stays, whatever follows them: it is a beginning of the reading of them all.
abbrev pub ReadingGoesOn : Type 0
ReadingGoesOn = (bytes more : List ℕ) (entries all : List Entry) (rest left : List ℕ)
    → IsReadSoFar bytes entries rest → IsLongestReading (bytes ++ more) all left
    → (later : List Entry) × (all ≡ entries ++ later)

-- What is read of some bytes is one list.
abbrev pub OneReadSoFar : Type 0
OneReadSoFar = (bytes : List ℕ) (a b : List Entry) (s t : List ℕ) → IsReadSoFar bytes a s → IsReadSoFar bytes b t → (a ≡ b) × (s ≡ t)

-- Commands and empty lines that leave nothing of a script are its reading.
abbrev pub CommandsLeaveNothing : Type 0
CommandsLeaveNothing = (script : List ℕ) (entries : List Entry) → HasEntries script entries [] → IsLongestReading script entries []

-- Two divisions of a script agree: the one with fewer entries is a beginning of the other.
abbrev pub DivisionsAgree : Type 0
DivisionsAgree = (script : List ℕ) (a b : List Entry) (s t : List ℕ) → HasEntries script a s → HasEntries script b t → length a ≤ length b
    → (more : List Entry) × (a ++ more ≡ b)

-- What is left after some entries is read by itself. Its entries come after them. Its reading, put after them, is the reading of all. If it
-- begins with no entry, whatever follows, they are what is read so far.
pub record ReadingsJoin : Type 0 where
  pub entries : (bytes : List ℕ) (before after : List Entry) (rest left : List ℕ) → AreRead bytes before rest → AreRead rest after left
      → AreRead bytes (before ++ after) left
  pub reading : (bytes : List ℕ) (before after : List Entry) (rest left : List ℕ) → AreRead bytes before rest → IsLongestReading rest after left
      → IsLongestReading bytes (before ++ after) left
  pub so_far : (bytes : List ℕ) (before : List Entry) (rest : List ℕ) → AreRead bytes before rest → IsReadSoFar rest [] rest
      → IsReadSoFar bytes before rest

-- the script is read as these entries, with this rest and this end
pub record IsReadSo (script : List ℕ) (entries : List Entry) (rest : List ℕ) (end : End) : Type 0 where
  pub reading : IsLongestReading script entries rest
  pub ends : EndsSo rest end

-- Each script has a reading, and ends in some way.
abbrev pub HasReading : Type 0
HasReading = (script : List ℕ) → (entries : List Entry) × (rest : List ℕ) × (end : End) × IsReadSo script entries rest end
