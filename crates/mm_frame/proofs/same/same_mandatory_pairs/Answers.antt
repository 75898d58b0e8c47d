use Rattle.std.proofs.Common.{◌∙◌, ap, sym, subst}
use Rattle.mm_frame.{specs.Language.{Base.{frame_at}, Answering.{pairs_in_order}}, proofs.lemmas.{base.BaseLemmas.{framed_in_order}, frames.SameFrames.{same_by_order}}}
use Rattle.mm_frame.proofs.lemmas.frames.SameLemmas.{pairs_from_readings}
use Rattle.mm_machine.specs.Language.NumberedSymbols.{kept_pairs, ArePairsRead}
use Rattle.mm_frame.proofs.same.same_mandatory_pairs.Goals as goal

pub returns-in-Some-Some : goal.returns-in-Some-Some
returns-in-Some-Some c names base copy is are s t h =
    let frame = frame_at base c.args.i in
    let other = frame_at copy c.args.j in
    let mine = subst (ArePairsRead names (pairs_in_order frame)) (sym c.deref.ensures.value) (c.in-Some-Some.ensures.order names base is) in
    let yours = subst (ArePairsRead names (pairs_in_order other)) (sym c.deref-in-Some-Some.ensures.value) (c.in-Some-Some.ensures'.order names copy are) in
    let same = c.same_pairs.ensures in
    same_by_order frame other c.same_pairs.result (framed_in_order base c.args.i s) (framed_in_order copy c.args.j t) h (
      (λ q. sym mine.pairs ∙ ap (kept_pairs names) (same.0 q) ∙ yours.pairs),
      (λ q. same.1 (pairs_from_readings names is.distinct c.deref.result.now c.deref-in-Some-Some.result.now mine.numbered yours.numbered (mine.pairs ∙ q ∙ sym yours.pairs))),
    )
