use Rattle.std.proofs.Common.{slice_get, inl, inr, sym, ◌∙◌, ap, subst}
use Rattle.mm_frame.{specs.{declared.sorted_lists.Join.{Join}, Code.KeptSortedLists.{IsJoined}}, proofs.lemmas.{pairs.SortedLemmas.{one_joined}, scope.BlockLemmas.{get_cases}}}
use Rattle.mm_frame.proofs.sorted_lists.SortedLists.make.Goals as goal

pub invariant_of-self : goal.invariant_of-self
invariant_of-self c n join e = c.self.invariant n join (ap (λ w. slice_get w n) (sym c.in_err-push.ensures.items) ∙ e)

pub invariant_of-self-2 : goal.invariant_of-self-2
invariant_of-self-2 c n join e =
    let lists = c.self.inside.lists.items in
    let made : Join = record { first = c.args.first; second = c.args.second; list = c.in_ok-list.list } in
    elim (get_cases c.self.inside.joins.items made join n (ap (λ w. slice_get w n) (sym c.in_ok-push.ensures.items) ∙ e)) [
      | inl there ↦ c.self.invariant n join there
      | inr last ↦ subst (λ (j : Join). IsJoined lists j.first j.second j.list) last.1
          (subst (λ w. IsJoined w made.first made.second made.list) (sym c.self.view_is)
          (one_joined c.args.self.now c.keep.new.self made.first made.second made.list c.in_ok-both.both.items c.in_ok-list.ensures.kept c.requires.first c.requires.second c.in_ok-both.ensures c.in_ok-list.ensures.there))
    ]
