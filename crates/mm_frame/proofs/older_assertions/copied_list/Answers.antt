use Rattle.mm_frame.{specs.Language.{Sound.{sound_items}, Framing.{active_pairs}}, proofs.lemmas.pairs.PairListLemmas.{is_list}}
use Rattle.mm_frame.proofs.older_assertions.copied_list.Goals as goal

pub returns-in-Some-list_number-clause-list : goal.returns-in-Some-list_number-clause-list
returns-in-Some-list_number-clause-list c all base said by front number proof read order rows =
    is_list all _ c.in_ok-k.k c.args.proof.pairs.now (active_pairs (sound_items said)) c.in_ok-k.ensures.there read order
