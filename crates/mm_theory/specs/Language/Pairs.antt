-- Provable as the book has it: with a list of extra pairs, each of which has a dummy variable in it (Metamath book, Appendix C).
use Rattle.std.specs.Prelude.{List, ◌++◌, Contains}
use Rattle.mm_frame.specs.mm_machine.Language.Frame.{Symbol, Frame, ArePair}
use Rattle.mm_theory.specs.Language.System.{System, IsInClosure, symbols_of}

-- the statement is provable by these extra pairs: each of them has a variable that is not in the statement, and by them and its own pairs its
-- expression is in the closure of its hypotheses
pub record IsProvableBy (system : System) (frame : Frame) (extra : List (Symbol × Symbol)) : Type 0 where
  pub dummies : (x y : Symbol) → Contains extra (x, y) → Contains (symbols_of frame) x → Contains (symbols_of frame) y → ⊥
  pub closure : IsInClosure system (ArePair (frame.pairs ++ extra)) frame.hypotheses frame.expression
