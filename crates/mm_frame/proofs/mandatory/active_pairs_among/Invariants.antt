use Rattle.std.proofs.Common.{◌≡◌, ℕ, ◌++◌, List, filter, drop, All, IfSome}
use Rattle.mm_machine.specs.Language.{Frame.{Symbol}, NumberedSymbols.{symbols_of, IsNumbered, ArePairsRead}}
use Rattle.mm_statement.specs.Language.Item.{Said}
use Rattle.mm_frame.specs.{Language.{Framing.{pairs_of, active_pairs}, Answering.{are_paired}}, Code.{KeptPlaces.{ArePlaces}, KeptEarlier.{KnowsEarlier}, KeptAnswers.{KnowsAnswers}}}
use Rattle.mm_frame.proofs.mandatory.active_pairs_among.Given as goal

abbrev pub invariant-loop-n : goal.invariant-loop-n
invariant-loop-n l = record {
  placed : IfSome l.placed.places (ArePlaces l.variables);
  answers : (all : List (List ℕ)) (before : List Said) → KnowsEarlier all before l.earlier → KnowsAnswers all before l.initial.answers → KnowsAnswers all before l.answers;
  pairs : (all : List (List ℕ)) (before : List Said) → KnowsEarlier all before l.earlier → KnowsAnswers all before l.initial.answers → All (IsNumbered all) l.variables
      → (said : List (Symbol × Symbol)) × (said ++ filter (are_paired (active_pairs before)) (pairs_of (symbols_of all (drop l.n l.variables))) ≡ filter
      (are_paired (active_pairs before)) (pairs_of (symbols_of all l.variables))) × ArePairsRead all said l.pairs.items;
}
