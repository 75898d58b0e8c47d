-- What the code keeps of the sound items before an assertion, from which its frame is made.
use Rattle.std.specs.Prelude.{◌≡◌, ℕ, true, List}
use Rattle.mm_frame.specs.declared.earlier.Earlier.{Earlier}
use Rattle.mm_machine.specs.declared.symbol.NumberedSymbol.{NumberedSymbol}
use Rattle.mm_statement.specs.Language.Item.{Said, is_assertion}
use Rattle.mm_frame.specs.Language.Sound.{AreSound, IsSound}
use Rattle.mm_frame.specs.Language.Framing.{expression}
use Rattle.mm_frame.specs.Code.BlockMarks.{block_marks}
use Rattle.mm_frame.specs.Code.LastItems.{is_essential_item}
use Rattle.mm_frame.specs.Language.Scope.{active_numbers}
use Rattle.mm_frame.specs.Code.KeptTables.{Knows}
use Rattle.mm_frame.specs.Code.KeptDisjointRows.{KnowsPairs}
use Rattle.mm_frame.specs.Code.KeptVariables.{AreVariablesOf}
use Rattle.mm_machine.specs.Language.NumberedSymbols.{AreSymbolsRead}
use Rattle.mm_frame.specs.Code.KeptSymbols.{AreExpressions, AreNumbered, AreSymbols}

-- the items are sound, and this is known of them
pub record KnowsEarlier (all : List (List ℕ)) (before : List Said) (earlier : Earlier) : Type 0 where
  pub sound : AreSound before
  pub known : Knows all before earlier.tables.now
  pub pairs : KnowsPairs all before earlier.pairs.now
  pub marks : earlier.blocks.now ≡ block_marks before
  pub essentials : earlier.essentials.now ≡ active_numbers is_essential_item before
  pub variables : AreVariablesOf earlier.essentials.now earlier.expressions.now earlier.variables.now
  pub expressions : AreExpressions all before earlier.expressions.now
  pub numbered : AreNumbered all earlier.expressions.now
  pub symbols : AreSymbols all before earlier.expressions.now

-- the item is a sound `$a` or `$p` after these items, and has these symbols
pub record IsFramed (all : List (List ℕ)) (before : List Said) (item : Said) (own : List NumberedSymbol) : Type 0 where
  pub sound : IsSound before item
  pub assertion : is_assertion item.kind ≡ true
  pub symbols : AreSymbolsRead all (expression before item) own
