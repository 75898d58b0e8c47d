use Rattle.std.proofs.{Common.{ap, arith, Some, None, ◌++◌, ◌∷◌, [], ◌∙◌, sym, subst}, lemmas.Grind.{common_steps}}
use Rattle.mm_frame.specs.{Language.{Answering.{is_told_proof, AreRows}, Base.{is_proof_at}, Sound.{sound_items}, Framing.{active_pairs}}, Code.KeptAssertions.{TellsPairs}}
use Rattle.mm_frame.proofs.lemmas.{base.FromOlderLemmas.{before_next}, pairs.PairListLemmas.{pairs_more, keeps_all, no_number, some_number}}
use Rattle.mm_machine.specs.Language.{Frame.{AreSamePairs}, NumberedSymbols.{AreSamePairsRead, kept_pairs}}
use Rattle.mm_frame.proofs.older_assertions.copy_pairs.Goals as goal

pub returns-in_default-clause-pairs : goal.returns-in_default-clause-pairs
returns-in_default-clause-pairs c all base said item next number symbols disjoints by_count rows =
    let lists = c.args.lists.now in
    let none =
    c.in_default.ensures.some base (all, next.by) ∙ (ap (is_proof_at base) number ∙ (λ j. is_told_proof (sound_items (next.front j)) (next.here j))) in
    grind (arith, common_steps, pairs_more all said item lists lists c.args.numbers.now None (keeps_all lists) rows (no_number all lists (sound_items said) item none)) steps 500000

pub returns-clause-by_count : goal.returns-clause-by_count
returns-clause-by_count c all base said item next number symbols disjoints rows by_count =
    let some = c.in-Some.ensures.some base (all, next.by) in
    let pairs = subst (λ w. AreSamePairs (kept_pairs all c.in-Some.pairs.now) (active_pairs w)) (before_next base said c.args.old.number next.front number) (c.in-Some.ensures.pairs all base next.by) in
    let read : AreSamePairsRead all (active_pairs (sound_items said)) c.in-Some.pairs.now = record { pairs = pairs; numbered = c.in-Some.ensures.numbered all base next.by } in
    c.in_ok-k.ensures.by_count all base said next.by next.front number (sym some) read (c.in-Some.ensures.order base (all, next.by)) symbols disjoints rows by_count

pub returns-clause-pairs : goal.returns-clause-pairs
returns-clause-pairs c all base said item next number symbols disjoints by_count rows =
    let new = c.older_list.new.lists in
    let some = c.in-Some.ensures.some base (all, next.by) in
    let pairs = subst (λ w. AreSamePairs (kept_pairs all c.in-Some.pairs.now) (active_pairs w)) (before_next base said c.args.old.number next.front number) (c.in-Some.ensures.pairs all base next.by) in
    let read : AreSamePairsRead all (active_pairs (sound_items said)) c.in-Some.pairs.now = record { pairs = pairs; numbered = c.in-Some.ensures.numbered all base next.by } in
    let list = c.in_ok-k.ensures.list all base said next.by next.front number (sym some) read (c.in-Some.ensures.order base (all, next.by)) symbols disjoints by_count rows in
    subst (λ w. AreRows (TellsPairs all new) (said ++ item ∷ []) w) (sym c.in_ok-add-2.ensures.ok)
    (pairs_more all said item c.args.lists.now new c.args.numbers.now (Some c.in_ok-k.k) c.in_ok-k.ensures.kept rows
    (some_number all new (sound_items said) item c.in_ok-k.k
    (some ∙ (ap (is_proof_at base) number ∙ (λ j. is_told_proof (sound_items (next.front j)) (next.here j)))) list))
