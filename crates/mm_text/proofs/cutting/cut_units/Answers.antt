use Rattle.std.proofs.{lemmas.{Grind.{common_steps}, Bool.{false≢true}, Result.{err_from_is_err_and}}, Common.{refl, ◌≤◌, length, sym, ap, ◌∙◌, arith}}
use Rattle.mm_text.proofs.{CutPartLemmas.{no_end, divided_none, parts_more, parts_skip, parts_end, parts_next}, CutLemmas.{progress_start, progress_skip, words_fault}}
use Rattle.mm_text.proofs.CutStepLemmas.{lies, ends_fault, ends_cut, from_before, refused, keeps_more, keeps_piece}
use Rattle.mm_text.proofs.cutting.cut_units.Goals as goal

pub loop-parts-init : goal.loop-parts-init
loop-parts-init c = grind (arith, common_steps, divided_none, progress_start) steps 200000

pub add-requires-clause-behind : goal.add-requires-clause-behind
add-requires-clause-behind c = (lies _ _ _ _ c.loop-parts.grammar c.loop-parts.invariant.progress _ _ (rw (c.in-Some.is, c.loop-parts.invariant.text) at c.in_ok-word.ensures.word)).0

pub returns-in_err-word-clause-fault : goal.returns-in_err-word-clause-fault
returns-in_err-word-clause-fault c =
    let p = err_from_is_err_and c.from_residual.result c.from_residual.ensures.1 in
    rw (p.1, p.2) (words_fault _ _ _ _ _ _ _ c.loop-parts.invariant.progress _ _ c.requires.allowed (rw c.loop-parts.invariant.text at c.in_err-word.ensures.word))

pub returns-in_err-read-clause-fault : goal.returns-in_err-read-clause-fault
returns-in_err-read-clause-fault c =
    let p = err_from_is_err_and c.from_residual-in_err-read.result c.from_residual-in_err-read.ensures.1 in
    rw (p.1, p.2) (refused _ _ _ _ c.loop-parts.grammar c.loop-parts.invariant.progress _ _ (rw (c.in-Some.is, c.loop-parts.invariant.text) at c.in_ok-word.ensures.word) _ c.read.new.self refl _ c.requires.allowed c.in_err-read.ensures)

pub push_piece-requires-clause-start : goal.push_piece-requires-clause-start
push_piece-requires-clause-start c = from_before _ _ _ _ c.loop-parts.grammar c.loop-parts.invariant.progress _ _ (rw (c.in-Some.is, c.loop-parts.invariant.text) at c.in_ok-word.ensures.word) c.white_len.result

pub loop-parts-preserved-then-is_whole : goal.loop-parts-preserved-then-is_whole
loop-parts-preserved-then-is_whole c =
    let taken = rw (c.in-Some.is, c.loop-parts.invariant.text) at c.in_ok-word.ensures.word in
    let place = lies _ _ _ _ c.loop-parts.grammar c.loop-parts.invariant.progress _ _ taken in
    let same = c.in_ok-word.ensures.text ∙ c.loop-parts.invariant.text in
    let most : c.next_word.new.self.from ≤ length c.next_word.new.self.text.now = c.next_word.new.self.in_text in
    record {
      text = c.in_ok-word.ensures.text ∙ c.loop-parts.invariant.text;
      read = parts_next _ _ _ c.loop-parts.parts c.loop-parts.invariant.read c.in-Some.word _ taken place c.add.new.self c.in_ok-add.ensures c.requires.allowed
          (rw same at most) c.white_len.result c.white_len.ensures.value c.push_piece.new.parts c.push_piece.ensures.nothing c.push_piece.ensures.first;
      divided = (rw c.requires.same at c.in_ok-push_piece.ensures.parts) c.loop-parts.invariant.divided (parts_end _ _ _ c.loop-parts.parts c.loop-parts.invariant.read c.in-Some.word _ taken place c.add.new.self c.in_ok-add.ensures c.requires.allowed
          (rw same at most) c.white_len.result c.white_len.ensures.value);
      progress = keeps_piece _ _ _ _ c.loop-parts.grammar c.loop-parts.invariant.progress _ _ taken _ c.read.new.self refl c.in_ok-read.ensures c.requires.allowed (rw same at most) (c.is_whole.ensures.0 c.if-is_whole.true)
          c.white_len.result c.white_len.ensures.value _ (rw c.requires.same at c.in_ok-push_piece.ensures.texts);
    }

pub loop-parts-preserved : goal.loop-parts-preserved
loop-parts-preserved c =
    let taken = rw (c.in-Some.is, c.loop-parts.invariant.text) at c.in_ok-word.ensures.word in
    record {
      text = c.in_ok-word.ensures.text ∙ c.loop-parts.invariant.text;
      read = parts_more _ _ _ c.loop-parts.parts c.loop-parts.invariant.read c.in-Some.word _ taken (lies _ _ _ _ c.loop-parts.grammar c.loop-parts.invariant.progress _ _ taken) c.add.new.self c.in_ok-add.ensures;
      divided = c.loop-parts.invariant.divided;
      progress = keeps_more _ _ _ _ c.loop-parts.grammar c.loop-parts.invariant.progress _ _ taken _ c.read.new.self refl c.in_ok-read.ensures (λ whole. false≢true (sym c.if-is_whole.false ∙ c.is_whole.ensures.1 whole));
    }

pub loop-parts-preserved-then-is_within : goal.loop-parts-preserved-then-is_within
loop-parts-preserved-then-is_within c =
    let taken = rw (c.in-Some.is, c.loop-parts.invariant.text) at c.in_ok-word.ensures.word in
    let place = lies _ _ _ _ c.loop-parts.grammar c.loop-parts.invariant.progress _ _ taken in
    let same = c.in_ok-word.ensures.text ∙ c.loop-parts.invariant.text in
    let more = keeps_more _ _ _ _ c.loop-parts.grammar c.loop-parts.invariant.progress _ _ taken _ c.read.new.self refl c.in_ok-read.ensures (λ whole. false≢true (sym c.if-is_whole.false ∙ c.is_whole.ensures.1 whole)) in
    record {
      text = c.skip_plain.ensures.text ∙ same;
      read = parts_skip _ _ _ c.loop-parts.parts c.loop-parts.invariant.read c.in-Some.word _ taken place c.add.new.self c.in_ok-add.ensures _
          (no_end _ _ _ _ _ c.in_ok-read.ensures.phase (sym c.is_within.ensures ∙ c.if-is_within.true)) (rw same at c.skip_plain.ensures.skips);
      divided = c.loop-parts.invariant.divided;
      progress = progress_skip _ _ _ _ _ _ _ more _ (rw same at c.skip_plain.ensures.skips) (sym c.is_within.ensures ∙ c.if-is_within.true);
    }

pub returns-in_err-push_piece-clause-fault : goal.returns-in_err-push_piece-clause-fault
returns-in_err-push_piece-clause-fault c = let p = err_from_is_err_and c.from_residual-in_err-push_piece.result c.from_residual-in_err-push_piece.ensures.1 in rw (p.1, p.2) tt

pub returns-in-Some-end-clause-fault : goal.returns-in-Some-end-clause-fault
returns-in-Some-end-clause-fault c = ends_fault _ _ _ _ c.loop-parts.grammar c.loop-parts.invariant.progress _ _ c.requires.allowed (rw (c.in_default.is, c.loop-parts.invariant.text) at c.in_ok-word.ensures.word) c.in-Some-end.ensures

pub returns-clause-within : goal.returns-clause-within
returns-clause-within c = c.loop-parts.invariant.progress.within

pub returns-clause-cut : goal.returns-clause-cut
returns-clause-cut c = ends_cut _ _ _ _ c.loop-parts.grammar c.loop-parts.invariant.progress c.requires.allowed (rw (c.in_default.is, c.loop-parts.invariant.text) at c.in_ok-word.ensures.word) c.in-None.ensures

-- the reader goes on with each word, and further if it skips plain words
pub loop-parts-smaller-then-is_whole : goal.loop-parts-smaller-then-is_whole
loop-parts-smaller-then-is_whole c =
    let taken = rw c.in-Some.is at c.in_ok-word.ensures.word in omega (arith, ap length c.in_ok-word.ensures.text, taken.begins, taken.some, taken.next, c.next_word.new.self.in_text)

pub loop-parts-smaller : goal.loop-parts-smaller
loop-parts-smaller c = grind (arith, common_steps) steps 200000

pub loop-parts-smaller-then-is_within : goal.loop-parts-smaller-then-is_within
loop-parts-smaller-then-is_within c = grind (arith, common_steps) steps 200000
