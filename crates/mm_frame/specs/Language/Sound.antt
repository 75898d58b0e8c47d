-- Soundness: the fault of a statement after the sound ones before it, and the items with each statement at fault passed over
-- (Metamath book, sections 4.1 and 4.2).
use Rattle.std.specs.Prelude.{◌≡◌, ℕ, zero, suc, ◌+◌, ◌-◌, ◌≤◌, Bool, true, false, not, ◌&&◌, ◌||◌, ltb, leb, ◌==◌, Option, Some, None, List, [], ◌∷◌, ◌++◌}
use Rattle.std.specs.Prelude.{length, take, bytes_eq, slice_get, find}
use Rattle.std.specs.List.{list_any}
use Rattle.mm_frame.specs.declared.FrameNumber.{FrameNumber}
use Rattle.mm_frame.specs.declared.FrameNumber.TheVariants.{F01, F02, F03, F04, F05, F06, F07, F08, F09, F10, F11, F12, F13, F14}
use Rattle.mm_statement.specs.Language.Item.{first_symbol, Kind, Constants, Variables, Disjoint, Floating}
use Rattle.mm_statement.specs.Language.Item.{Essential, Axiom, Theorem, Said, passed, is_kind}
use Rattle.mm_statement.specs.Language.Item.{is_declaring, is_expression, is_labelled, has, labels_of, typecode_of, variable_of}
use Rattle.mm_frame.specs.Language.Scope.{is_inside, constants, variables, labels, active_variables, floats, typed}

-- the number of the word after the last symbol, which is `$.` or `$=`
abbrev pub closing_word : Said → ℕ
closing_word item = first_symbol item + length item.symbols

-- there is a symbol, and it passes the test
abbrev pub passes : (List ℕ → Bool) → Option (List ℕ) → Bool
passes test None = false
passes test (Some name) = test name

-- the word is a symbol of the statement, and passes the test, which is given the symbol's number among the symbols, and the symbol
abbrev pub at_symbol : (ℕ → List ℕ → Bool) → Said → ℕ → Bool
at_symbol test item word = leb (first_symbol item) word && passes (test (word - first_symbol item)) (slice_get item.symbols (word - first_symbol item))

-- the test holds of a symbol, whatever its number
abbrev pub as_any : (List ℕ → Bool) → ℕ → List ℕ → Bool
as_any test n name = test name

-- the symbol is the first one, and the test holds of it
abbrev pub as_first : (List ℕ → Bool) → ℕ → List ℕ → Bool
as_first test n name = n == 0 && test name

-- the symbol is the second one, and the test holds of it
abbrev pub as_second : (List ℕ → Bool) → ℕ → List ℕ → Bool
as_second test n name = n == 1 && test name

-- the symbol comes after the first, which is the typecode, and the test holds of it
abbrev pub as_later : (List ℕ → Bool) → ℕ → List ℕ → Bool
as_later test n name = ltb 0 n && test name

-- the number is that of the third symbol; numbers count from 0
abbrev pub is_third : ℕ → List ℕ → Bool
is_third n name = n == 2

-- the symbol occurs earlier in the same statement
abbrev pub is_repeated : Said → ℕ → List ℕ → Bool
is_repeated item n name = has (take n item.symbols) name

-- the name is declared: a constant, or a variable, active or not
abbrev pub is_declared : List Said → List ℕ → Bool
is_declared before name = has (constants before) name || has (variables before) name

-- the name is a constant, or an active variable
abbrev pub is_active_symbol : List Said → List ℕ → Bool
is_active_symbol before name = has (constants before) name || has (active_variables before) name

-- the name is a label, active or not
abbrev pub is_label : List Said → List ℕ → Bool
is_label before name = has (labels before) name

-- the name is no constant
abbrev pub is_no_constant : List Said → List ℕ → Bool
is_no_constant before name = not (has (constants before) name)

-- the name is no active variable
abbrev pub is_no_variable : List Said → List ℕ → Bool
is_no_variable before name = not (has (active_variables before) name)

-- the name is neither a constant nor an active variable
abbrev pub is_no_active_symbol : List Said → List ℕ → Bool
is_no_active_symbol before name = not (is_active_symbol before name)

-- the name is an active variable without an active `$f`
abbrev pub is_untyped : List Said → List ℕ → Bool
is_untyped before name = has (active_variables before) name && not (has (typed before) name)

-- the name is a variable with an active `$f`
abbrev pub is_typed : List Said → List ℕ → Bool
is_typed before name = has (typed before) name

-- an earlier `$f`, active or not, gives the variable another typecode than this one does
abbrev pub is_typed_otherwise : List Said → Said → List ℕ → Bool
is_typed_otherwise before item name = list_any (λ other.
    bytes_eq (variable_of other) name && not (bytes_eq (typecode_of other) (typecode_of item))) (floats before)

-- a statement of this kind with this many symbols has too few: `$d` and `$f` need two, other statements one
abbrev pub is_short : Kind → ℕ → Bool
is_short Constants count = count == 0
is_short Variables count = count == 0
is_short Disjoint count = ltb count 2
is_short Floating count = ltb count 2
is_short Essential count = count == 0
is_short Axiom count = count == 0
is_short Theorem count = count == 0
is_short _ count = false

-- The table of faults, a line for each number: a statement after these items has the fault of this number at this word. F14 is the fault
-- of a missing file, which is no statement.
abbrev pub line_holds : List Said → Said → ℕ → FrameNumber → Bool
-- too few symbols, or a third one of a `$f`
line_holds before item word F01 = (is_short item.kind (length item.symbols) && word == closing_word item)
    || (is_kind Floating item.kind && at_symbol is_third item word)
-- a `$c` in a block
line_holds before item word F02 = is_kind Constants item.kind && (word == 0 && is_inside before)
-- a symbol that occurs earlier in the same `$c`, `$v` or `$d`
line_holds before item word F03 = (is_declaring item.kind || is_kind Disjoint item.kind) && at_symbol (is_repeated item) item word
-- a `$c` of what was ever declared, or a `$v` of a constant or an active variable
line_holds before item word F04 =
    (is_kind Constants item.kind && at_symbol (as_any (is_declared before)) item word)
    || (is_kind Variables item.kind && at_symbol (as_any (is_active_symbol before)) item word)
-- a declared symbol that is a label
line_holds before item word F05 = is_declaring item.kind && at_symbol (as_any (is_label before)) item word
-- a label that is a label already
line_holds before item word F06 = word == 0 && list_any (is_label before) (labels_of item)
-- a label that is a declared symbol
line_holds before item word F07 = word == 0 && list_any (is_declared before) (labels_of item)
-- a typecode that is no constant
line_holds before item word F08 = is_labelled item.kind && at_symbol (as_first (is_no_constant before)) item word
-- no active variable in a `$d`, or as the second symbol of a `$f`
line_holds before item word F09 =
    (is_kind Disjoint item.kind && at_symbol (as_any (is_no_variable before)) item word)
    || (is_kind Floating item.kind && at_symbol (as_second (is_no_variable before)) item word)
-- after the typecode, neither a constant nor an active variable
line_holds before item word F10 = is_expression item.kind && at_symbol (as_later (is_no_active_symbol before)) item word
-- after the typecode, an active variable that no active `$f` types
line_holds before item word F11 = is_expression item.kind && at_symbol (as_later (is_untyped before)) item word
-- a `$f` of a variable that an active `$f` types
line_holds before item word F12 = is_kind Floating item.kind && at_symbol (as_second (is_typed before)) item word
-- a `$f` of a variable to which an earlier `$f` gave another typecode
line_holds before item word F13 = is_kind Floating item.kind && at_symbol (as_second (is_typed_otherwise before item)) item word
-- a missing inclusion, which is no statement
line_holds before item word F14 = false

-- the line of this number holds
abbrev pub StatementLineHolds : List Said → Said → ℕ → FrameNumber → Type 0
StatementLineHolds before item word number = line_holds before item word number ≡ true

-- the statement is sound: no line of the table holds at any word
abbrev pub IsSound : List Said → Said → Type 0
IsSound before item = (word : ℕ) (number : FrameNumber) → line_holds before item word number ≡ false

-- each item is sound against those before it
abbrev pub AreSound : List Said → Type 0
AreSound items = (front : List Said) (item : Said) (back : List Said) → items ≡ front ++ item ∷ back → IsSound front item

-- the place of a number in the order of numbers
abbrev pub row : FrameNumber → ℕ
row F01 = 1
row F02 = 2
row F03 = 3
row F04 = 4
row F05 = 5
row F06 = 6
row F07 = 7
row F08 = 8
row F09 = 9
row F10 = 10
row F11 = 11
row F12 = 12
row F13 = 13
row F14 = 14

-- the fault is at the least word for which a line holds, with the lowest number there
pub record IsStatementFault (before : List Said) (item : Said) (word : ℕ) (number : FrameNumber) : Type 0 where
  pub holds : StatementLineHolds before item word number
  pub least_word : (other : ℕ) (m : FrameNumber) → StatementLineHolds before item other m → word ≤ other
  pub lowest_number : (m : FrameNumber) → StatementLineHolds before item word m → row number ≤ row m

-- the numbers of the table, from the lowest up
abbrev pub numbers : List FrameNumber
numbers = F01 ∷ F02 ∷ F03 ∷ F04 ∷ F05 ∷ F06 ∷ F07 ∷ F08 ∷ F09 ∷ F10 ∷ F11 ∷ F12 ∷ F13 ∷ F14 ∷ []

-- the fault at a word, if there is one: the lowest number whose line of the table holds there
-- In words: `has_one_fault`: A statement has one fault at most.
abbrev pub number_at : List Said → Said → ℕ → Option FrameNumber
number_at before item word = find (λ number. line_holds before item word number) numbers

-- the fault at this word, if there is one, and else the one that is found later
abbrev pub fault_or : ℕ → Option FrameNumber → Option (ℕ × FrameNumber) → Option (ℕ × FrameNumber)
fault_or word (Some number) later = Some (word, number)
fault_or word None later = later

-- the first word that has a fault among this many words, from this one on, with the fault's number
-- In words: `fault_is_found`: The fault that is computed for a statement is at the least word for which a line holds, with the lowest
-- number there.
abbrev pub fault_from : List Said → Said → ℕ → ℕ → Option (ℕ × FrameNumber)
fault_from before item word zero = None
fault_from before item word (suc more) = fault_or word (number_at before item word) (fault_from before item (suc word) more)

-- the fault of a statement after these items, if it has one: at the least word that has one, with the lowest number there
abbrev pub fault : List Said → Said → Option (ℕ × FrameNumber)
fault before item = fault_from before item 0 (closing_word item + 1)

-- the statement; if it is at fault, `passed`, which takes its place
abbrev pub judged : Said → Option (ℕ × FrameNumber) → Said
judged item None = item
judged item (Some at) = passed

-- the sound items, followed by the others, each judged against the sound items before it
-- In words: `kept_next`: One more item is judged against the sound ones before it.
abbrev pub sound_items_after : List Said → List Said → List Said
sound_items_after before [] = before
sound_items_after before (item ∷ items) = sound_items_after (before ++ judged item (fault before item) ∷ []) items

-- the items in order; each statement at fault is passed over: it declares nothing, and takes no label
abbrev pub sound_items : List Said → List Said
sound_items items = sound_items_after [] items
