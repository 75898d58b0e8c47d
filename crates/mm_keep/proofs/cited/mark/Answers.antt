use Rattle.std.proofs.{Common.{sym, ◌∙◌}, lemmas.Option.{same_Some}}
use Rattle.mm_proof.specs.mm_frame.Language.Resolving.{IsCarrier}
use Rattle.mm_keep.proofs.CitedWords.{mark_one}
use Rattle.mm_keep.proofs.cited.mark.Goals as goal

pub bounds-marks-k : goal.bounds-marks-k
bounds-marks-k c = let r = c.requires in r.2 c.in-Some.k ((c.find.ensures r.0 c.in-Some.k r.1).0 c.in-Some.is)

pub returns-in-Some : goal.returns-in-Some
returns-in-Some c view is =
    let r = c.requires in
    let k = c.in-Some.k in
    let within = r.2 k ((c.find.ensures r.0 k r.1).0 c.in-Some.is) in
    mark_one (IsCarrier view c.args.label.now) c.args.marks.now k within ((c.find.ensures view k is).0 c.in-Some.is)
    (λ j h. same_Some j k (sym ((c.find.ensures view j is).1 h) ∙ c.in-Some.is))
