-- The fault of a statement read from left to right: by its kind, word by word, the lowest number first (Metamath book, 4.1 and 4.2).
use Rattle.std.specs.Prelude.{ℕ, suc, Bool, ◌&&◌, ◌||◌, ◌==◌, if◌then◌else◌, Option, Some, None, List, [], ◌∷◌, length}
use Rattle.std.specs.Option.{option_or}
use Rattle.mm_frame.specs.declared.FrameNumber.{FrameNumber}
use Rattle.mm_frame.specs.declared.FrameNumber.TheVariants.{F01, F02, F03, F04, F05, F06, F07, F08, F09, F10, F11, F12, F13}
use Rattle.mm_statement.specs.Language.Item.{first_symbol, Kind, Constants, Variables, Disjoint, Floating}
use Rattle.mm_statement.specs.Language.Item.{Essential, Axiom, Theorem, Said, is_kind, is_declaring, labels_of}
use Rattle.mm_frame.specs.Language.Scope.{is_inside}
use Rattle.mm_frame.specs.Language.Sound.{closing_word, is_repeated, is_declared, is_active_symbol, is_label, is_no_constant, is_no_variable}
use Rattle.mm_frame.specs.Language.Sound.{is_no_active_symbol, is_untyped, is_typed, is_typed_otherwise, is_short, fault_or}

-- the first symbol with a fault; the first of these symbols has number n in its statement and is this word
abbrev pub first_fault : (ℕ → List ℕ → Option FrameNumber) → ℕ → ℕ → List (List ℕ) → Option (ℕ × FrameNumber)
first_fault test word n [] = None
first_fault test word n (name ∷ symbols) = fault_or word (test n name) (first_fault test (suc word) (suc n) symbols)

-- the symbols of a statement of this kind have to differ
abbrev pub must_differ : Kind → Bool
must_differ kind = is_declaring kind || is_kind Disjoint kind

-- what is wrong with a symbol of a `$c`: it is there twice, is declared, or is a label
abbrev pub constant_fault : List Said → Said → ℕ → List ℕ → Option FrameNumber
constant_fault before item n name =
    if is_repeated item n name then Some F03
    else if is_declared before name then Some F04
    else if is_label before name then Some F05
    else None

-- what is wrong with a symbol of a `$v`: it is there twice, is a constant or an active variable, or is a label
abbrev pub variable_fault : List Said → Said → ℕ → List ℕ → Option FrameNumber
variable_fault before item n name =
    if is_repeated item n name then Some F03
    else if is_active_symbol before name then Some F04
    else if is_label before name then Some F05
    else None

-- what is wrong with a symbol of a `$d`: it is there twice, or is no active variable
abbrev pub disjoint_fault : List Said → Said → ℕ → List ℕ → Option FrameNumber
disjoint_fault before item n name = if is_repeated item n name then Some F03 else (if is_no_variable before name then Some F09 else None)

-- what is wrong with a typecode: it is no constant
abbrev pub typecode_fault : List Said → List ℕ → Option FrameNumber
typecode_fault before name = if is_no_constant before name then Some F08 else None

-- what is wrong with the variable of a `$f`: it is no active variable, is typed already, or had another typecode
abbrev pub typed_fault : List Said → Said → List ℕ → Option FrameNumber
typed_fault before item name =
    if is_no_variable before name then Some F09
    else if is_typed before name then Some F12
    else if is_typed_otherwise before item name then Some F13
    else None

-- what is wrong with a symbol of a `$f`: with its typecode, with its variable, or that there is one symbol more
abbrev pub floating_fault : List Said → Said → ℕ → List ℕ → Option FrameNumber
floating_fault before item n name = if n == 0 then typecode_fault before name else (if n == 1 then typed_fault before item name else Some F01)

-- what is wrong with a symbol after a typecode: it is no active symbol, or is a variable that is not typed
abbrev pub later_fault : List Said → List ℕ → Option FrameNumber
later_fault before name = if is_no_active_symbol before name then Some F10 else (if is_untyped before name then Some F11 else None)

-- what is wrong with a symbol of a `$e`, `$a` or `$p`: with its typecode, or with a later symbol
abbrev pub expression_fault : List Said → ℕ → List ℕ → Option FrameNumber
expression_fault before n name = if n == 0 then typecode_fault before name else later_fault before name

-- what is wrong with symbol n of a statement of this kind
abbrev pub symbol_fault_of : Kind → List Said → Said → ℕ → List ℕ → Option FrameNumber
symbol_fault_of Constants before item n name = constant_fault before item n name
symbol_fault_of Variables before item n name = variable_fault before item n name
symbol_fault_of Disjoint before item n name = disjoint_fault before item n name
symbol_fault_of Floating before item n name = floating_fault before item n name
symbol_fault_of Essential before item n name = expression_fault before n name
symbol_fault_of Axiom before item n name = expression_fault before n name
symbol_fault_of Theorem before item n name = expression_fault before n name
symbol_fault_of _ before item n name = None

-- what is wrong with symbol n of a statement
abbrev pub symbol_fault : List Said → Said → ℕ → List ℕ → Option FrameNumber
symbol_fault before item n name = symbol_fault_of item.kind before item n name

-- what is wrong with a label: it is a label already, or a declared symbol
abbrev pub label_fault : List Said → List ℕ → Option FrameNumber
label_fault before label = if is_label before label then Some F06 else (if is_declared before label then Some F07 else None)

-- what is wrong with the label of a statement, if it has one
abbrev pub labels_fault : List Said → List (List ℕ) → Option FrameNumber
labels_fault before [] = None
labels_fault before (label ∷ labels) = label_fault before label

-- what is wrong at the first word: a `$c` is in a block, or the label is wrong
abbrev pub front_fault : List Said → Said → Option FrameNumber
front_fault before item = if is_kind Constants item.kind && is_inside before then Some F02 else labels_fault before (labels_of item)

-- what is wrong at the end: there are too few symbols
abbrev pub end_fault : Said → Option FrameNumber
end_fault item = if is_short item.kind (length item.symbols) then Some F01 else None

-- the first fault among the symbols
abbrev pub symbols_fault : List Said → Said → Option (ℕ × FrameNumber)
symbols_fault before item = first_fault (symbol_fault before item) (first_symbol item) 0 item.symbols

-- the fault at the first word, or else the first one among the symbols, or else that at the end
abbrev pub fault_by_kind : List Said → Said → Option (ℕ × FrameNumber)
fault_by_kind before item = fault_or 0 (front_fault before item) (option_or (symbols_fault before item) (fault_or (closing_word item) (end_fault item) None))
