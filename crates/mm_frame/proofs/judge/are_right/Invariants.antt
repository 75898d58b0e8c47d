use Rattle.std.proofs.Common.{◌≡◌, ℕ, List, map, take}
use Rattle.mm_frame.{specs.Code.{KeptSymbols.{symbol_by}, KnownItem.{numbers_of}}, proofs.lemmas.faults.FaultLemmas.{Passes}}
use Rattle.mm_frame.proofs.judge.are_right.Given as goal

abbrev pub invariant-loop-n : goal.invariant-loop-n
invariant-loop-n l =
    ((all : List (List ℕ)) → Passes all l.scope l.statement (numbers_of l.symbols) l.n)
    × (map (symbol_by l.scope.tables) (numbers_of (take l.n l.symbols)) ≡ take l.n l.symbols)
