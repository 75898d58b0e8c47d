use Rattle.std.proofs.Common.{◌<◌, ℕ, length, sym, subst, arith}
use Rattle.mm_proof.specs.mm_frame.Language.Resolving.{IsCarrier}
use Rattle.mm_keep.{specs.Code.Cited.{HasLabelAmong, IsAmongCited, MarksMore}, proofs.{CitedWords.{words_more, words_skip}, cited.mark_words.Goals.{in-Some, in_default}}}
use Rattle.mm_keep.proofs.cited.mark_words.Goals as goal

pub mark-requires : goal.mark-requires
mark-requires c =
    let r = c.requires.places in
    let cites = c.args.check.now.cites in
    let there = sym (c.in-Some.ensures.word c.args.words c.loop-x.invariant.left) in
    let before : c.loop-x.x < length cites = omega (arith, c.loop-x-test.true, c.count-x-end.ensures) in
    let among : IsAmongCited c.args.words cites (length cites) c.in-Some.word.now = record { at = c.loop-x.x; before = before; there = there } in
    let has : (k : ℕ) → IsCarrier r.0 c.in-Some.word.now k → HasLabelAmong r.0 c.args.words cites (length cites) k = λ k carrier. record { label = c.in-Some.word.now; among = among; carrier = carrier } in
    (r.0, r.1, λ k carrier. let l = r.2 k (has k carrier) in omega (arith, l, ((c.loop-x.invariant.marks r.0 r.1).count)))

pub loop-x-preserved : goal.loop-x-preserved
loop-x-preserved c = record {
  left = c.cited_word.ensures.left c.args.words c.loop-x.invariant.left;
  marks = λ view is. elim c.match-cited_word.branch [
    | in-Some w ↦
        let there = sym (w.in-Some.ensures.word c.args.words c.loop-x.invariant.left) in
        let marks = subst (MarksMore (IsCarrier view w.in-Some.word.now) c.loop-x.marks) (sym w.marks-is) (w.mark.ensures view is) in
        words_more view c.args.words c.args.check.now.cites c.loop-x.x w.in-Some.word.now c.args.marks.now c.loop-x.marks c.match-cited_word.marks there (c.loop-x.invariant.marks view is) marks
    | in_default w ↦
        let none = sym (w.in_default.ensures.word c.args.words c.loop-x.invariant.left) in
        let marks = subst (MarksMore (HasLabelAmong view c.args.words c.args.check.now.cites c.loop-x.x) c.args.marks.now) (sym w.marks-is) (c.loop-x.invariant.marks view is) in
        words_skip view c.args.words c.args.check.now.cites c.loop-x.x c.args.marks.now c.match-cited_word.marks none marks
  ];
}

pub returns : goal.returns
returns c view is = grind (arith, c.loop-x.invariant.marks view is) steps 200000
