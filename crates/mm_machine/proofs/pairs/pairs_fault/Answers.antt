use Rattle.std.proofs.Common.{◌++◌, length, map, sym, subst}
use Rattle.mm_machine.specs.{Language.CodeLists.{meant_pairs}, declared.apart.KnownApart.{KnownApart}, Code.{Filling.{entries_of, frame_taking}, PairClause.{KnowsApart}}}
use Rattle.mm_machine.proofs.lemmas.machine.{EntryFaults.{hypotheses_known}, PairClauseLemmas.{apart_given, shared_given, none_shared, lack_given, slots_within, knows_more}, TakenLemmas.{taken_count}}
use Rattle.mm_machine.proofs.pairs.pairs_fault.Goals as goal

pub all_apart-requires-clause-known : goal.all_apart-requires-clause-known
all_apart-requires-clause-known g c =
    let m = g.S.Symbol.means in
    let active = meant_pairs g.S.Listed.Symbol.means c.args.active.now.pairs.now in
    let old = c.args.room.now in
    let new = c.gather_all.new.self in
    let e = c.in_ok-gather_all.ensures in
    let all = map m old.variables.all.items in
    let more : KnowsApart active (all ++ e.grows.0) new.known = subst (λ (k : KnownApart). KnowsApart active (all ++ e.grows.0) k) (sym e.known) (knows_more active all e.grows.0 old.known c.requires.room.known) in
    rw c.deref.ensures.value (subst (λ w. KnowsApart active w new.known) (sym e.grows.1) more)

pub all_apart-requires-clause-numbers : goal.all_apart-requires-clause-numbers
all_apart-requires-clause-numbers g c = rw (c.deref.ensures.value, c.deref-2.ensures.value) c.in_ok-gather_all.ensures.gathers.numbers

pub all_apart-requires-clause-slots : goal.all_apart-requires-clause-slots
all_apart-requires-clause-slots g c =
    let m = g.S.Symbol.means in
    let taken = c.args.taken.now in
    let frame = frame_taking m g.S.Listed.Symbol.means taken in
    rw (c.deref-3.ensures.value, c.deref-4.ensures.value) (slots_within frame.hypotheses c.gather_all.new.self.spans.items (length taken.entries.now) frame.pairs c.find_slots.new.to.items
    (taken_count m g.S.Listed.Symbol.means g.S.Kept.key_of taken c.requires.taken) c.in_ok-gather_all.ensures.gathers.count c.in_ok-find_slots.ensures)

pub any_share-requires-clause-slots : goal.any_share-requires-clause-slots
any_share-requires-clause-slots g c =
    let m = g.S.Symbol.means in
    let taken = c.args.taken.now in
    let frame = frame_taking m g.S.Listed.Symbol.means taken in
    rw (c.deref-6.ensures.value, c.deref-7.ensures.value) (slots_within frame.hypotheses c.gather_all.new.self.spans.items (length taken.entries.now) frame.pairs c.find_slots.new.to.items
    (taken_count m g.S.Listed.Symbol.means g.S.Kept.key_of taken c.requires.taken) c.in_ok-gather_all.ensures.gathers.count c.in_ok-find_slots.ensures)

pub returns-then-any_share-clause-room : goal.returns-then-any_share-clause-room
returns-then-any_share-clause-room g c = record { numbered = c.in_ok-gather_all.ensures.numbered; known = rw c.deref.ensures.value at c.in_ok-all_apart.ensures.known }

pub returns-then-branch-clause-says : goal.returns-then-branch-clause-says
returns-then-branch-clause-says g c given gives =
    let m = g.S.Symbol.means in
    let taken = c.args.taken.now in
    let frame = frame_taking m g.S.Listed.Symbol.means taken in
    let new = c.gather_all.new.self in
    let e = c.in_ok-gather_all.ensures in
    let active = meant_pairs g.S.Listed.Symbol.means c.args.active.now.pairs.now in
    let long = taken_count m g.S.Listed.Symbol.means g.S.Kept.key_of taken c.requires.taken in
    apart_given frame.hypotheses (entries_of m taken) (map m new.variables.all.items) new.sets.chunks.items new.spans.items (length taken.entries.now) long given
    (hypotheses_known frame c.requires.taken.cited.frame) gives e.gathers frame.pairs c.find_slots.new.to.items c.in_ok-find_slots.ensures e.numbered.once active
    (rw (c.deref.ensures.value, c.deref-2.ensures.value, c.deref-3.ensures.value, c.deref-4.ensures.value) at (rw c.if-branch.true at c.in_ok-all_apart.ensures.apart))

pub returns-then-any_share-clause-says : goal.returns-then-any_share-clause-says
returns-then-any_share-clause-says g c given gives =
    let m = g.S.Symbol.means in
    let taken = c.args.taken.now in
    let frame = frame_taking m g.S.Listed.Symbol.means taken in
    let new = c.gather_all.new.self in
    let e = c.in_ok-gather_all.ensures in
    let long = taken_count m g.S.Listed.Symbol.means g.S.Kept.key_of taken c.requires.taken in
    let h = rw (c.deref-5.ensures.value, c.deref-6.ensures.value, c.deref-7.ensures.value) at c.if-any_share.ensures in
    shared_given frame.hypotheses (entries_of m taken) (map m new.variables.all.items) new.sets.chunks.items new.spans.items (length taken.entries.now) long given
    (hypotheses_known frame c.requires.taken.cited.frame) gives e.gathers frame.pairs c.find_slots.new.to.items c.in_ok-find_slots.ensures e.numbered.once h.0 h.1 h.2 h.3

pub returns-clause-says : goal.returns-clause-says
returns-clause-says g c given gives =
    let m = g.S.Symbol.means in
    let taken = c.args.taken.now in
    let frame = frame_taking m g.S.Listed.Symbol.means taken in
    let known = hypotheses_known frame c.requires.taken.cited.frame in
    let es = entries_of m taken in
    let new = c.gather_all.new.self in
    let e = c.in_ok-gather_all.ensures in
    let all = map m new.variables.all.items in
    let chunks = new.sets.chunks.items in
    let slots = c.find_slots.new.to.items in
    let active = meant_pairs g.S.Listed.Symbol.means c.args.active.now.pairs.now in
    let count = length taken.entries.now in
    let long = taken_count m g.S.Listed.Symbol.means g.S.Kept.key_of taken c.requires.taken in
    let none = rw (c.deref-5.ensures.value, c.deref-6.ensures.value, c.deref-7.ensures.value) at c.if-any_share.ensures in
    let lack = rw (c.deref.ensures.value, c.deref-2.ensures.value, c.deref-3.ensures.value, c.deref-4.ensures.value) at (rw c.if-branch.false at c.in_ok-all_apart.ensures.apart) in (
      none_shared frame.hypotheses es all chunks new.spans.items count long given known gives e.gathers frame.pairs slots c.in_ok-find_slots.ensures e.numbered.once none,
      lack_given frame.hypotheses es all chunks new.spans.items count long given known gives e.gathers frame.pairs slots c.in_ok-find_slots.ensures e.numbered.once active lack.0 lack.1 lack.2 lack.3 none,
    )
