use Rattle.std.proofs.{Common.{◌≡◌, ◌+◌, true, get_or, sym, subst, take}, lemmas.List.{get_or_default, Elements.{All-contains}}}
use Rattle.mm_machine.specs.{Language.{Frame.{Symbol}, CodeLists.{meant_pair}, Typing.{IsTyped}}, declared.gather.SlotPair.{SlotPair}, Code.{Filling.{frame_taking}, PairClause.{HasSlots, IsSlot}}}
use Rattle.mm_machine.proofs.lemmas.{machine.{FlatLemmas.{mapped_or_get}, PairClauseLemmas.{slots_more}, TakenLemmas.{slot_found}}, lists.Members.{contains_at}}
use Rattle.mm_machine.proofs.pairs.find_slots.Goals as goal

pub loop-n-preserved : goal.loop-n-preserved
loop-n-preserved g c =
    let m = g.S.Symbol.means in
    let listed = g.S.Listed.Symbol.means in
    let taken = c.args.taken.now in
    let is = c.requires.taken in
    let frame = frame_taking m listed taken in
    let pairs = taken.cited.now.pairs.now in
    let n = c.loop-n.n in
    let x = c.index-pairs-n.result in
    let y = c.index-pairs-n-in-loop-n.result in
    let one = get_or pairs n x in
    let at = λ (d : g.row.S-Listed.Denot × g.row.S-Listed.Denot). mapped_or_get (meant_pair listed) pairs n d c.loop-n-test.true in
    let typed = λ (d : g.row.S-Listed.Denot × g.row.S-Listed.Denot). All-contains
    (λ (pair : Symbol × Symbol). (pair.0.variable ≡ true) × (pair.1.variable ≡ true) × IsTyped frame.hypotheses pair.0 × IsTyped frame.hypotheses pair.1)
    frame.pairs (meant_pair listed (get_or pairs n d)) is.cited.frame.pairs_typed (contains_at frame.pairs n (meant_pair listed (get_or pairs n d)) (at d)) in
    let p : SlotPair = record { first = c.in_ok-first.first; second = c.in_ok-second.second } in
    let found = slot_found m listed g.S.Kept.key_of taken is c.args.given.now c.requires.given in
    let second = found (listed (get_or pairs n y).1) p.second (typed y).1 (typed y).3 c.in_ok-second.ensures in
    subst (HasSlots frame.hypotheses (take (n + 1) frame.pairs)) (sym c.in_ok-push.ensures.items)
    (slots_more frame.hypotheses frame.pairs n (meant_pair listed one) c.loop-n.to.items p (at x) (found (listed one.0) p.first (typed x).0 (typed x).2 c.in_ok-first.ensures)
    (subst (λ (q : g.row.S-Listed.Denot × g.row.S-Listed.Denot). IsSlot frame.hypotheses p.second (listed q.1)) (get_or_default pairs n y x c.loop-n-test.true) second) c.loop-n.invariant)
