use Rattle.mm_frame.{specs.Language.{Sound.{sound_items}, Framing.{active_pairs}}, proofs.lemmas.base.{BaseLemmas.{kept_are_sound}, FromOlderLemmas.{lists_stay, list_kept_on}}}
use Rattle.mm_frame.proofs.older_assertions.older_list.Goals as goal

pub returns-in-Some-clause-list : goal.returns-in-Some-clause-list
returns-in-Some-clause-list c all base said by front number proof read order symbols disjoints by_count rows = c.in-Some.ensures all (sound_items said) (kept_are_sound said) symbols disjoints by_count

pub returns-clause-list : goal.returns-clause-list
returns-clause-list c all base said by front number proof read order symbols disjoints by_count rows =
    list_kept_on all c.copied_list.new.lists c.keep_list.new.self c.in_ok-k.k (active_pairs (sound_items said)) c.in_ok-keep_list.ensures.lists (c.in_ok-k.ensures.list all base said by front number proof read order rows)

pub returns-clause-by_count : goal.returns-clause-by_count
returns-clause-by_count c all base said by front number proof read order symbols disjoints rows by_count =
    c.in_ok-keep_list.ensures.by_count all (sound_items said) (kept_are_sound said) symbols disjoints (c.in_ok-k.ensures.list all base said by front number proof read order rows)
    (lists_stay all (sound_items said) c.args.lists.now c.copied_list.new.lists c.in_ok-k.ensures.kept c.in_ok-k.ensures.by_count by_count)
