use Rattle.std.proofs.{Common.{arith, length, sym, ◌∙◌, ap}, lemmas.{Grind.{common_steps}, List.{nil_from_length}}}
use Rattle.mm_frame.proofs.lemmas.pairs.SortedLemmas.{adds_nothing, nothing_adds, some_within}
use Rattle.mm_frame.proofs.sorted_lists.SortedLists.joined.Goals as goal

pub returns-then-is_empty-clause-joined : goal.returns-then-is_empty-clause-joined
returns-then-is_empty-clause-joined c one two =
    adds_nothing c.args.self.now c.args.first c.args.second (sym c.at.ensures ∙ nil_from_length c.at.result.now (grind (arith, common_steps, c.if-is_empty.ensures) steps 200000)) one

pub returns-then-is_empty-2-clause-joined : goal.returns-then-is_empty-2-clause-joined
returns-then-is_empty-2-clause-joined c one two =
    nothing_adds c.args.self.now c.args.first c.args.second (sym c.at-2.ensures ∙ nil_from_length c.at-2.result.now (grind (arith, common_steps, c.if-is_empty-2.ensures) steps 200000)) two

pub make-requires-clause-first : goal.make-requires-clause-first
make-requires-clause-first c = some_within c.args.self.now c.args.first (λ none. grind (arith, common_steps, ap length (c.at-2.ensures ∙ none), c.if-is_empty-2.ensures) steps 200000)

pub make-requires-clause-second : goal.make-requires-clause-second
make-requires-clause-second c = some_within c.args.self.now c.args.second (λ none. grind (arith, common_steps, ap length (c.at.ensures ∙ none), c.if-is_empty.ensures) steps 200000)
