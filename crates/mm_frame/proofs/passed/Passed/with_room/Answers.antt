use Rattle.std.proofs.{Common.{refl, List, [], sym, subst}, lemmas.List.Elements.{All-nil}}
use Rattle.mm_machine.specs.{Language.NumberedSymbols.{IsNumbered}, declared.symbol.NumberedSymbol.{NumberedSymbol}}
use Rattle.mm_frame.{specs.{Language.Answering.{AreRows, IsLabelTold}, Code.{KeptActiveItems.{AreActiveKept}, KeptSymbols.{AreSymbols}}}, proofs.lemmas.base.BaseLemmas.{rows_none}}
use Rattle.mm_frame.proofs.passed.Passed.with_room.Goals as goal

pub returns : goal.returns
returns c = λ all distinct.
    let none = c.in_ok-expressions.ensures in
    record {
      scope = c.in_ok-scope.ensures all distinct;
      kept = c.in_ok-rows.ensures.kept;
      rows = subst (AreRows IsLabelTold []) (sym c.in_ok-rows.ensures.none) (rows_none IsLabelTold);
      symbols = subst (AreSymbols all []) (sym none) (record { count = refl; numbered = λ n. All-nil (IsNumbered all); each = λ n item e t. cc });
      active = subst (λ (w : List (List NumberedSymbol)). AreActiveKept [] w c.new.result) (sym none) c.new.ensures;
      disjoint_rows = c.new-2.ensures all;
    }
