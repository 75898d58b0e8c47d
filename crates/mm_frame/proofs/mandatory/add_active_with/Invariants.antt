use Rattle.std.proofs.Common.{ℕ, ◌++◌, List, filter, take, All}
use Rattle.mm_machine.specs.Language.{Frame.{Symbol}, NumberedSymbols.{symbol_of, symbols_of, IsNumbered, ArePairsRead}}
use Rattle.mm_statement.specs.Language.Item.{Said}
use Rattle.mm_frame.specs.{Language.{Framing.{active_pairs}, Answering.{are_paired}}, Code.{KeptDisjointRows.{ReadsPairs}, KeptAnswers.{KnowsAnswers, KeepsAnswers}}}
use Rattle.mm_frame.proofs.lemmas.pairs.ActivePairLemmas.{pairs_with}
use Rattle.mm_frame.proofs.mandatory.add_active_with.Given as goal

abbrev pub invariant-loop-second : goal.invariant-loop-second
invariant-loop-second l = record {
  answers : KeepsAnswers l.table l.blocks l.initial.answers l.answers;
  pairs : (all : List (List ℕ)) (before : List Said) (said : List (Symbol × Symbol)) → ReadsPairs all before l.table l.blocks
      → KnowsAnswers all before l.initial.answers → IsNumbered all l.first → All (IsNumbered all) l.later → ArePairsRead all said l.initial.pairs.items
      → ArePairsRead all (said ++ filter (are_paired (active_pairs before)) (pairs_with (symbol_of all l.first) (symbols_of all (take l.second-index l.later)))) l.pairs.items;
}
