-- The runs of a text: its maximal sequences of bytes without white space (the Metamath book, section 4.1.1).
use Rattle.std.specs.Prelude.{ℕ, ◌+◌, ◌==◌, Bool, true, not, ◌||◌, if◌then◌else◌, List, [], ◌∷◌}

-- white space: a space, tab, carriage return, line feed or form feed
unfoldable pub is_white : ℕ → Bool
is_white b = b == 32 || b == 9 || b == 13 || b == 10 || b == 12

-- the byte is no white space
abbrev pub is_solid : ℕ → Bool
is_solid b = not (is_white b)

-- a run, a longest sequence of bytes without white space: the place at which it begins, and its bytes
pub record Run : Type 0 where
  pub start : ℕ
  pub bytes : List ℕ

-- whether a run ends before these bytes: they begin with white space, or there are none
abbrev pub ends_run : List ℕ → Bool
ends_run [] = true
ends_run (b ∷ bytes) = is_white b

-- the runs with one more byte, at this place, put in front of the first of them; none, if there is no first
-- In words: `one_layout`: A byte that is no white space, directly before a run, belongs to the run, which begins at this byte.
abbrev pub with_first_byte : ℕ → ℕ → List Run → List Run
with_first_byte at b [] = []
with_first_byte at b (run ∷ runs) = record { start = at; bytes = b ∷ run.bytes } ∷ runs

-- the runs of these bytes, the first byte of which is at this place of the text
-- In words: `one_layout`: A text is white space, a run, white space, and so on. `runs` gives these runs, each with the place at which it
-- begins, and no other list of runs is laid out in this way.
abbrev pub runs_from : ℕ → List ℕ → List Run
runs_from at [] = []
runs_from at (b ∷ bytes) =
    if is_white b then runs_from (at + 1) bytes
    else if ends_run bytes then record { start = at; bytes = b ∷ [] } ∷ runs_from (at + 1) bytes
    else with_first_byte at b (runs_from (at + 1) bytes)

-- the runs of a text, in order
abbrev pub runs : List ℕ → List Run
runs text = runs_from 0 text
