use Rattle.std.proofs.Common.{◌≡◌, ◌++◌, ℕ, List, length}
use Rattle.mm_machine.specs.Language.Names.{Begins}
use Rattle.mm_frame.specs.Code.Numbers.{AreNameNumbers}
use Rattle.mm_frame.proofs.draft.number_all.Given as goal

abbrev pub invariant-loop-symbol : goal.invariant-loop-symbol
invariant-loop-symbol l = record {
  grows : Begins l.initial.names l.names;
  done : (done : List (List ℕ)) × (l.initial.symbols ≡ done ++ l.symbols) × (length l.numbers.items ≡ length done)
      × ((all : List (List ℕ)) → Begins l.names all → AreNameNumbers all l.numbers.items done);
}

abbrev pub decreases-loop-symbol : goal.decreases-loop-symbol
decreases-loop-symbol l = length l.symbols
