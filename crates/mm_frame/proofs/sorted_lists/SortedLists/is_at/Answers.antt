use Rattle.std.proofs.Common.{slice_get, sym, ◌∙◌, ap}
use Rattle.mm_frame.proofs.sorted_lists.SortedLists.is_at.Goals as goal

pub returns-in-Some : goal.returns-in-Some
returns-in-Some c t = record {
  list = c.in-Some.kept.now;
  there = ap (λ w. slice_get w c.args.k) (sym (c.deref.ensures.value ∙ c.self.view_is)) ∙ sym c.in-Some.ensures;
  same = sym c.deref-in-Some.ensures.value ∙ c.same_pairs.ensures.0 t;
}
