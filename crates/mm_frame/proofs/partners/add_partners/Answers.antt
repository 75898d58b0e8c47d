use Rattle.std.proofs.{Common.{ap, sym, subst, ◌++◌, flat_map, filter, drop, ◌∙◌, ◌+◌, ℕ, List, false, Contains, ◌↔◌}, lemmas.{Option.{get_or_from_slice_get}, Result.{on_ok_weaker}}}
use Rattle.mm_machine.specs.{declared.symbol.NumberedSymbol.{NumberedSymbol}, Language.NumberedSymbols.{symbol_of, symbols_of, ArePairsRead}}
use Rattle.mm_frame.specs.{Language.{Framing.{active_pairs}, Answering.{are_paired}}, Code.{KeptPlaces.{later_places_at, pair_at}, KeptDisjointRows.{row_at}}}
use Rattle.mm_frame.proofs.lemmas.pairs.{ActivePairLemmas.{pairs_with}, PlaceLemmas.{Searches, partners_added, reads_earlier}}
use Rattle.mm_frame.proofs.partners.add_partners.Goals as goal

pub returns : goal.returns
returns c = on_ok_weaker c.add_partners_at.result (λ added all before said first known places numbered r there.
    let earlier = c.args.earlier.now in
    let table = earlier.pairs.now in
    let marks = earlier.blocks.now in
    let expressions = earlier.expressions.now in
    let variables = c.args.variables.now in
    let found = c.in_ok-found.found.items in
    let here = get_or_from_slice_get variables c.args.n first (record { name = 0; variable = false }) there in
    let reached = λ (row : List ℕ). flat_map (later_places_at c.args.places.now marks expressions c.args.n) row in
    let same = subst (λ w. (k : ℕ) → Contains found k ↔ Contains (reached w) k) (c.row-row.ensures ∙ ap (λ (s : NumberedSymbol). row_at table s.name) here) c.in_ok-found.ensures.same in
    let whole = added ∙ (λ i. c.args.pairs.now.items ++ flat_map (pair_at (here i) variables) (c.deref.ensures.value i)) in
    let searches : Searches all before table marks expressions c.args.places.now variables c.args.n first =
    record { reads = reads_earlier all before earlier known; symbols = known.symbols; placed = places; numbered = numbered; there = there } in
    let full = partners_added all before table marks expressions c.args.places.now variables c.args.n first searches found c.in_ok-found.ensures.rising same said c.args.pairs.now.items r in
    subst (ArePairsRead all (said ++ filter (are_paired (active_pairs before)) (pairs_with (symbol_of all first) (symbols_of all (drop (c.args.n + 1) variables))))) (sym whole) full) c.add_partners_at.ensures
