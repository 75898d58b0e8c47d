use Rattle.std.proofs.{Common.{◌+◌, ◌++◌, false, sym, subst, filter, All, IfSome}, lemmas.{List.{take_rest, Elements.{All-contains, All-drop}}, Option.{get_or_from_slice_get}, Result.{on_ok_weaker}}}
use Rattle.mm_machine.specs.Language.NumberedSymbols.{symbol_of, symbols_of, IsNumbered, ArePairsRead}
use Rattle.mm_frame.{specs.{Language.{Framing.{active_pairs}, Answering.{are_paired}}, Code.KeptPlaces.{ArePlaces}}, proofs.lemmas.lists.Members.{in_contains, get_in}}
use Rattle.mm_frame.proofs.lemmas.pairs.{ActivePairLemmas.{pairs_with}, PlaceLemmas.{reads_earlier}}
use Rattle.mm_frame.proofs.mandatory.add_pairs_with_later.Goals as goal

pub returns-then-fewer_variables_than-clause-pairs : goal.returns-then-fewer_variables_than-clause-pairs
returns-then-fewer_variables_than-clause-pairs c = on_ok_weaker c.add_partners.result (λ added all before said first known m placed numbered r there.
    added all before said first known (subst (λ o. IfSome o (ArePlaces c.args.placed.now.variables.now)) c.in-Some.is placed) numbered r there) c.add_partners.ensures

pub returns-clause-pairs : goal.returns-clause-pairs
returns-clause-pairs c = on_ok_weaker c.add_active_with.result (λ added all before said first known m placed numbered r there.
    let variables = c.args.placed.now.variables.now in
    let here = get_or_from_slice_get variables c.args.n first (record { name = 0; variable = false }) there in
    let later = take_rest variables (c.args.n + 1) in
    let a = subst (IsNumbered all) (sym here) (All-contains (IsNumbered all) variables first numbered (in_contains first variables (get_in first variables c.args.n there))) in
    let full = added all before said (reads_earlier all before c.args.earlier.now known) m a (subst (All (IsNumbered all)) (sym later) (All-drop (IsNumbered all) (c.args.n + 1) variables numbered)) r in
    subst (λ w. ArePairsRead all w c.add_active_with.new.pairs.items) (λ i. said ++ filter (are_paired (active_pairs before)) (pairs_with (symbol_of all (here i)) (symbols_of all (later i)))) full) c.add_active_with.ensures.pairs
