use Rattle.std.proofs.Common.{IsTrue, sym, subst}
use Rattle.mm_frame.{specs.Language.Base.{AreHypotheses}, proofs.lemmas.frames.SameFrames.{same_by_numbers}}
use Rattle.mm_frame.proofs.same.same_mandatory_hypotheses.Goals as goal

pub returns-in-Some-Some : goal.returns-in-Some-Some
returns-in-Some-Some c names base copy is are s t =
    let i = c.args.i in
    let j = c.args.j in
    let mine = subst (AreHypotheses base i) (sym c.deref.ensures.value) (c.in-Some-Some.ensures.means base (names, is)) in
    let yours = subst (AreHypotheses copy j) (sym c.deref-in-Some-Some.ensures.value) (c.in-Some-Some.ensures'.means copy (names, are)) in
    same_by_numbers base copy i j c.deref.result.now c.deref-in-Some-Some.result.now (IsTrue c.same_hypotheses.result) mine yours
    (c.same_hypotheses.ensures names base copy is are (λ k d l. (mine.each k d l).1) (λ k d l. (yours.each k d l).1))
