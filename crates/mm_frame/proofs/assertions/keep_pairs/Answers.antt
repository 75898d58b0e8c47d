use Rattle.std.proofs.{Common.{arith, Some, None, ◌++◌, ◌∷◌, [], ◌∙◌, sym, subst}, lemmas.Grind.{common_steps}}
use Rattle.mm_frame.{specs.{Language.{Sound.{sound_items}, Answering.{AreRows}}, Code.KeptAssertions.{TellsPairs}}, proofs.lemmas.base.BaseLemmas.{kept_are_sound}}
use Rattle.mm_frame.proofs.lemmas.pairs.PairListLemmas.{pairs_more, keeps_all, no_number, some_number}
use Rattle.mm_frame.proofs.assertions.keep_pairs.Goals as goal

pub returns-then-not-proof-clause-pairs : goal.returns-then-not-proof-clause-pairs
returns-then-not-proof-clause-pairs c all said item a d m e rows =
    let lists = c.args.pair_lists.now in
    grind (arith, common_steps, pairs_more all said item lists lists c.args.pairs.now None (keeps_all lists) rows (no_number all lists (sound_items said) item (sym c.if-not-proof.true ∙ e))) steps 500000

pub returns-clause-pairs : goal.returns-clause-pairs
returns-clause-pairs c all said item a d m e rows =
    let new = c.list_of.new.self in
    subst (λ w. AreRows (TellsPairs all new) (said ++ item ∷ []) w) (sym c.in_ok-add-2.ensures.ok)
    (pairs_more all said item c.args.pair_lists.now new c.args.pairs.now (Some c.in_ok-k.k) c.in_ok-k.ensures.kept rows
    (some_number all new (sound_items said) item c.in_ok-k.k (sym c.if-not-proof.false ∙ e) (c.in_ok-k.ensures.pairs all (sound_items said) (kept_are_sound said) a d m)))
