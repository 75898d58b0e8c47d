use Rattle.std.proofs.{Common.{length, slice_get, refl, ◌∙◌, ap, sym, arith}, lemmas.Option.{slice_get_read}}
use Rattle.mm_frame.proofs.lemmas.frames.FrameNumbers.{kind_at}
use Rattle.mm_frame.proofs.base.Base.item.Goals as goal

pub returns-clause-kind : goal.returns-clause-kind
returns-clause-kind c base is =
    let items = c.self.inside.items.items in
    let same = ap (λ a. a.items) c.self.view_is in
    let long = ap length same in
    let count = c.requires.1.1.count in
    kind_at c.args.self.now.items base c.args.i c.index.result.now is.1.kinds (ap (λ w. slice_get w c.args.i) (sym same) ∙ (slice_get_read items (length items) c.args.i c.index.result.now refl (omega arith) c.index.ensures))
