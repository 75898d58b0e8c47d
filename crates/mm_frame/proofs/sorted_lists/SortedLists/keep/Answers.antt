use Rattle.std.proofs.Common.{◌≡◌, length, slice_get, [], ◌∷◌, refl, sym, ◌∙◌, ap, append-nil, arith}
use Rattle.mm_frame.proofs.lemmas.{pairs.SortedLemmas.{joined_stays}, scope.BlockLemmas.{get_last}}
use Rattle.mm_frame.proofs.sorted_lists.SortedLists.keep.Goals as goal

pub invariant_of-self : goal.invariant_of-self
invariant_of-self c n join e =
    joined_stays c.self.inside.lists.items c.push.new.self.items join.first join.second join.list (record { more = []; whole = c.in_err-push.ensures.items ∙ sym (append-nil c.self.inside.lists.items) }) (c.self.invariant n join e)

pub invariant_of-self-2 : goal.invariant_of-self-2
invariant_of-self-2 c n join e =
    joined_stays c.self.inside.lists.items c.push.new.self.items join.first join.second join.list (record { more = c.args.list ∷ []; whole = c.in_ok-push.ensures.items }) (c.self.invariant n join e)

pub returns-clause-there : goal.returns-clause-there
returns-clause-there c =
    let lists = c.self.inside.lists in
    let number : c.len-count.result ≡ length lists.items = omega (arith, c.len-count.ensures, lists.ok.0) in
    record { list = c.args.list; there = ap (λ w. slice_get w c.len-count.result) c.in_ok-push.ensures.items ∙ get_last lists.items c.args.list c.len-count.result number; same = refl }
