-- Frames: the mandatory variables, hypotheses and pairs of an assertion, and what a label means (Metamath book, section 4.2.7).
use Rattle.std.specs.Prelude.{ℕ, Bool, ◌&&◌, ◌||◌, if◌then◌else◌, List, [], ◌∷◌, ◌++◌, take, map, filter, flat_map}
use Rattle.mm_machine.specs.Language.Frame.{Symbol, Mandatory, Frame, LabelMeaning, Hypothesis, Assertion, Inactive, Unknown, Setting}
use Rattle.mm_statement.specs.Language.Item.{Said, is_kind, Disjoint, Essential, Floating, is_assertion, has, labels_of, variable_of}
use Rattle.mm_frame.specs.Language.Scope.{stays, active, active_numbers, symbols_by, active_variables}
use Rattle.mm_frame.specs.Language.Sound.{sound_items}

-- what a name is after these items: a variable if an active variable has it, and else a constant
abbrev pub symbol : List Said → List ℕ → Symbol
symbol before name = record { name = name; variable = has (active_variables before) name }

-- the expression of a statement after these items: its symbols, each as a constant or a variable
abbrev pub expression : List Said → Said → List Symbol
expression before item = map (symbol before) item.symbols

-- the mandatory variables of a statement, as often as they occur: those in its expression, then those in the active `$e`
abbrev pub mandatory_variables : List Said → Said → List (List ℕ)
mandatory_variables before item = filter (has (active_variables before)) (item.symbols ++ symbols_by (is_kind Essential) (active before))

-- the hypothesis is mandatory: an `$e`, or the `$f` of a mandatory variable
abbrev pub is_mandatory : List (List ℕ) → Said → Bool
is_mandatory mandatory item = is_kind Essential item.kind || (is_kind Floating item.kind && has mandatory (variable_of item))

-- a hypothesis as a frame has it: whether it is a `$f`, and its expression
abbrev pub hypothesis : List Said → Said → Mandatory
hypothesis before item = record { floating = is_kind Floating item.kind; expression = expression before item }

-- the mandatory hypotheses of a statement: the active ones that are mandatory, in order of occurrence
abbrev pub mandatory_hypotheses : List Said → Said → List Mandatory
mandatory_hypotheses before item = map (hypothesis before) (filter (is_mandatory (mandatory_variables before item)) (active before))

-- the numbers of the items that are the mandatory hypotheses of a statement, in order
abbrev pub mandatory_numbers : List Said → Said → List ℕ
mandatory_numbers before item = active_numbers (is_mandatory (mandatory_variables before item)) before

-- the pairs that a `$d` with these variables stands for: each variable with each later one
abbrev pub pairs_of : List Symbol → List (Symbol × Symbol)
pairs_of [] = []
pairs_of (x ∷ xs) = map (λ y. (x, y)) xs ++ pairs_of xs

-- the pairs of all active `$d`
abbrev pub active_pairs : List Said → List (Symbol × Symbol)
active_pairs before = flat_map (λ item. if is_kind Disjoint item.kind then pairs_of (expression before item) else []) (active before)

-- both variables of the pair are mandatory
abbrev pub is_mandatory_pair : List (List ℕ) → Symbol × Symbol → Bool
is_mandatory_pair mandatory pair = has mandatory pair.0.name && has mandatory pair.1.name

-- the frame of an assertion after these items: its expression, its mandatory hypotheses, and the active pairs of two mandatory variables
abbrev pub frame : List Said → Said → Frame
frame before item = record {
  expression = expression before item;
  hypotheses = mandatory_hypotheses before item;
  pairs = filter (is_mandatory_pair (mandatory_variables before item)) (active_pairs before);
}

-- what the label of an item means after the whole list: an assertion means its frame, after the items in front of it alone; a hypothesis
-- means its expression, if no `$}` at the back has ended its block
abbrev pub meaning : List Said → List Said → Said → List Said → LabelMeaning
meaning whole front item back =
    if is_assertion item.kind then Assertion (frame front item)
    else if stays back then Hypothesis (expression whole item)
    else Inactive

-- what a label means after the whole list, if it is looked for in the back part alone
-- In words: `labels_mean`: The label of a sound assertion means it at each later item; a label that no sound item before has means nothing.
-- In words: `hypotheses_mean`: The label of a sound `$f` or `$e` means it while it is active, and then a hypothesis that is not active.
abbrev pub resolve_from : List Said → List Said → List Said → List ℕ → LabelMeaning
resolve_from whole front [] label = Unknown
resolve_from whole front (item ∷ back) label =
    if has (labels_of item) label then meaning whole front item back
    else resolve_from whole (front ++ item ∷ []) back label

-- what a label means after these items: what the first of them that has it means, and `Unknown` if none has it
abbrev pub resolve : List Said → List ℕ → LabelMeaning
resolve before label = resolve_from before [] before label

-- what a proof after these items is read against
abbrev pub setting : List Said → Setting
setting before = record { resolve = resolve before; active = active_pairs before }

-- the sound items before number j
abbrev pub before_of : List Said → ℕ → List Said
before_of items j = sound_items (take j items)

-- what the proof of item j is read against
abbrev pub setting_of : List Said → ℕ → Setting
setting_of items j = setting (before_of items j)
