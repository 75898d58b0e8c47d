-- Symbols, mandatory hypotheses, frames, and what a label means at a statement (Metamath book, section 4.2.7).
use Rattle.std.specs.Prelude.{◌≡◌, ◌↔◌, ℕ, Bool, true, ◌⊎◌, List, Contains}

-- A symbol: a name, as a constant or as a variable.
pub record Symbol : Type 0 where
  pub name : List ℕ
  pub variable : Bool

-- A mandatory hypothesis: a `$f` or else a `$e`, with its expression.
pub record Mandatory : Type 0 where
  pub floating : Bool
  pub expression : List Symbol

-- What citing an assertion needs and gives: its expression, its mandatory hypotheses in order, and its mandatory pairs (4.2.7).
pub record Frame : Type 0 where
  pub expression : List Symbol
  pub hypotheses : List Mandatory
  pub pairs : List (Symbol × Symbol)

-- What a label means at a statement: an active hypothesis with its expression, an assertion with its frame, a hypothesis that is no longer
-- active, or nothing.
pub data LabelMeaning : Type 0 where
  Hypothesis : List Symbol → LabelMeaning
  Assertion : Frame → LabelMeaning
  Inactive : LabelMeaning
  Unknown : LabelMeaning

-- What a proof is read against: what each label means there, and all pairs of variables that are active there.
pub record Setting : Type 0 where
  pub resolve : List ℕ → LabelMeaning
  pub active : List (Symbol × Symbol)

-- the two variables are one of the pairs, in one order or the other
abbrev pub ArePair : List (Symbol × Symbol) → Symbol → Symbol → Type 0
ArePair pairs x y = Contains pairs (x, y) ⊎ Contains pairs (y, x)

-- x is a variable of the list
abbrev pub HasVariable : List Symbol → Symbol → Type 0
HasVariable symbols x = Contains symbols x × (x.variable ≡ true)

-- the lists have the same pairs, in whatever order, and each of them in one order or the other
abbrev pub AreSamePairs : List (Symbol × Symbol) → List (Symbol × Symbol) → Type 0
AreSamePairs pairs others = (x y : Symbol) → ArePair pairs x y ↔ ArePair others x y

-- two frames are the same: one expression, one list of hypotheses, and the same pairs
pub record AreSameFrame (frame other : Frame) : Type 0 where
  pub expression : frame.expression ≡ other.expression
  pub hypotheses : frame.hypotheses ≡ other.hypotheses
  pub pairs : AreSamePairs frame.pairs other.pairs
