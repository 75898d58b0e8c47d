-- What a base reports on its items, with the numbers of names in place of names, and when this is right (Metamath book, section 4.2).
use Rattle.std.specs.Prelude.{◌≡◌, ℕ, ◌≤◌, Bool, true, ◌&&◌, ◌||◌, if◌then◌else◌, is_some, is_none, Option, Some, None, List, [], length, map, take, drop}
use Rattle.std.specs.Prelude.{filter, flat_map, bytes_eq, nat_eq, slice_get, All, IfSome}
use Rattle.std.specs.Option.{option_map}
use Rattle.std.specs.List.{AllZip, list_any}
use Rattle.mm_store.specs.declared.item.Item as store
use Rattle.mm_frame.specs.declared.FrameNumber.{FrameNumber}
use Rattle.mm_machine.specs.declared.symbol.NumberedSymbol.{NumberedSymbol}
use Rattle.mm_machine.specs.Language.Names.{AreDistinct, Begins}
use Rattle.mm_machine.specs.Language.Frame.{Symbol, Mandatory, Frame}
use Rattle.mm_statement.specs.Language.Item.{Said, is_labelled, is_read, is_assertion, is_kind, Theorem, item_at}
use Rattle.mm_statement.specs.Language.Statement.{kind_of}
use Rattle.mm_frame.specs.Language.Marks.{Mark, mark_of}
use Rattle.mm_frame.specs.Language.Sound.{sound_items}
use Rattle.mm_frame.specs.Language.Framing.{expression, pairs_of, active_pairs, mandatory_numbers, frame}
use Rattle.mm_machine.specs.Language.NumberedSymbols.{symbols_of, IsNumbered, ArePairsRead, AreSamePairsRead, AreInOrder}
use Rattle.mm_frame.specs.Language.Base.{BaseView, AreLabelled, told_fault}

-- what is reported of the items, each by its number: the items themselves; their labels and faults; the symbols; the numbers of the
-- hypotheses and the pairs of a frame; all active pairs; the numbers of the last two, which several items can have; and what an item
-- does to the blocks
pub record BaseAnswers : Type 0 where
  pub items : List store.Item
  pub rows : List (Option (List ℕ) × Option (ℕ × FrameNumber))
  pub expressions : List (List NumberedSymbol)
  pub frames : List (Option (List ℕ × List (NumberedSymbol × NumberedSymbol)))
  pub actives : List (Option (List (NumberedSymbol × NumberedSymbol)))
  pub frame_numbers : List (Option ℕ)
  pub list_numbers : List (Option ℕ)
  pub marks : List Mark

-- an item has this number
abbrev pub HasNumber : List (Option ℕ) → ℕ → ℕ → Type 0
HasNumber numbers i number = slice_get numbers i ≡ Some (Some number)

-- there is a row for each item, which reports on it, after the sound items before it
pub record AreRows {X : Type 0} (tells : List Said → Said → X → Type 0) (said : List Said) (rows : List X) : Type 0 where
  pub count : length rows ≡ length said
  pub each : (n : ℕ) (row : X) → slice_get rows n ≡ Some row → tells (sound_items (take n said)) (item_at said n) row

-- a row has the label of an item, if its kind has one, and its fault
pub record IsLabelTold (before : List Said) (item : Said) (row : Option (List ℕ) × Option (ℕ × FrameNumber)) : Type 0 where
  pub label : row.0 ≡ item.label
  pub labelled : is_some row.0 ≡ is_labelled item.kind
  pub fault : row.1 ≡ told_fault before item

-- the symbols are the expression of a sound `$f`, `$e`, `$a` or `$p`, or the variables of a sound `$d`; for other items they may be any
pub record IsExpressionTold (names : List (List ℕ)) (before : List Said) (item : Said) (symbols : List NumberedSymbol) : Type 0 where
  pub expression : (is_none (told_fault before item) && is_read item.kind) ≡ true → symbols_of names symbols ≡ expression before item
  pub numbered : All (IsNumbered names) symbols

-- the numbers of the mandatory hypotheses of an item, if the flag says that it is an assertion
abbrev pub numbers_if : Bool → List Said → Said → Option (List ℕ)
numbers_if framed before item = if framed then Some (mandatory_numbers before item) else None

-- the numbers of the mandatory hypotheses of a sound `$a` or `$p` after the sound items before it; none of any other item
abbrev pub told_numbers : List Said → Said → Option (List ℕ)
told_numbers before item = numbers_if (is_none (told_fault before item) && is_assertion item.kind) before item

-- the names are those of one of the pairs, in one order or the other
abbrev pub are_paired : List (Symbol × Symbol) → Symbol × Symbol → Bool
are_paired pairs named = list_any (λ pair.
    (bytes_eq pair.0.name named.0.name && bytes_eq pair.1.name named.1.name)
    || (bytes_eq pair.0.name named.1.name && bytes_eq pair.1.name named.0.name)) pairs

-- the variables that mandatory `$f` type, in order
abbrev pub typed_variables : List Mandatory → List Symbol
typed_variables hypotheses = flat_map (λ h. if h.floating then drop 1 h.expression else []) hypotheses

-- the pairs of a frame, each once, in the order of its `$f`
abbrev pub pairs_in_order : Frame → List (Symbol × Symbol)
pairs_in_order frame = filter (are_paired frame.pairs) (pairs_of (typed_variables frame.hypotheses))

-- a row has the numbers of the mandatory hypotheses of a sound `$a` or `$p`, and its mandatory pairs in one order; other items have no row
pub record IsFrameTold (all : List (List ℕ)) (before : List Said) (item : Said) (row : Option (List ℕ × List (NumberedSymbol × NumberedSymbol))) : Type 0 where
  pub hypotheses : option_map (λ it. it.0) row ≡ told_numbers before item
  pub pairs : IfSome row (λ it. ArePairsRead all (pairs_in_order (frame before item)) it.1)

-- the item is a sound `$p` after the sound items before it
abbrev pub is_told_proof : List Said → Said → Bool
is_told_proof before item = is_none (told_fault before item) && is_kind Theorem item.kind

-- a sound `$p` has all pairs that are active at it, in the order of the numbers of their names; any other item has nothing
pub record AreActiveTold (names : List (List ℕ)) (before : List Said) (item : Said) (told : Option (List (NumberedSymbol × NumberedSymbol))) : Type 0 where
  pub some : is_some told ≡ is_told_proof before item
  pub pairs : IfSome told (λ pairs. AreSamePairsRead names (active_pairs before) pairs)
  pub order : IfSome told AreInOrder

-- what is reported is right of these items, if names have the numbers of this list
pub record IsBaseBy (names : List (List ℕ)) (base : BaseView) (answers : BaseAnswers) : Type 0 where
  pub distinct : AreDistinct names
  pub count : length answers.items ≡ length base
  pub few : length base ≤ 4294967295
  pub labelled : AreLabelled base
  pub kinds : AllZip (λ item said. kind_of item.kind ≡ said.kind) answers.items base
  pub rows : AreRows IsLabelTold base answers.rows
  pub expressions : AreRows (IsExpressionTold names) base answers.expressions
  pub frames : AreRows (IsFrameTold names) base answers.frames
  pub actives : AreRows (AreActiveTold names) base answers.actives
  pub marks : answers.marks ≡ map (λ item. mark_of item.kind) (sound_items base)

-- what is reported is right by each list of names that begins with these: names that are added change nothing
abbrev pub StandsLater : List (List ℕ) → BaseView → BaseAnswers → Type 0
StandsLater names base answers = (all : List (List ℕ)) → AreDistinct all → Begins names all → IsBaseBy all base answers

-- what is reported is right by some list of names
abbrev pub IsBase : BaseView → BaseAnswers → Type 0
IsBase base answers = (names : List (List ℕ)) × IsBaseBy names base answers

-- two numbers, of names, frames or lists, are the same two
abbrev pub same_numbers : ℕ × ℕ → ℕ × ℕ → Bool
same_numbers a b = nat_eq a.0 b.0 && nat_eq a.1 b.1
