use Rattle.std.proofs.{Common.{◌∙◌, ◌∷◌, ◌++◌, [], ap, append-nil, append_assoc, arith, length, sym, subst}, lemmas.List.{length_push}}
use Rattle.mm_frame.{specs.Code.Numbers.{AreNameNumbers}, proofs.lemmas.{names.NumberLemmas.{begins_on}, base.BaseLemmas.{numbers_push}}}
use Rattle.mm_frame.proofs.draft.number_all.Goals as goal

pub loop-symbol-preserved : goal.loop-symbol-preserved
loop-symbol-preserved c =
    let was = c.loop-symbol.invariant in
    let done = was.done in
    let word = c.in-Some.symbol.now in
    let number = c.in_ok-number.number in
    let items = c.loop-symbol.numbers.items in
    let more = done.0 ++ word ∷ [] in
    let grown = ap length c.in_ok-push.ensures.items in
    record {
      grows = begins_on _ _ _ was.grows c.intern.ensures.grows;
      done = (
        more,
        done.1 ∙ ap (λ w. done.0 ++ w) c.in-Some.ensures ∙ sym (append_assoc done.0 (word ∷ []) c.next_word.new.self),
        omega (arith, grown, done.2, length_push items number, length_push done.0 word),
        λ all begins. subst (λ ns. AreNameNumbers all ns more) (sym c.in_ok-push.ensures.items)
            (numbers_push all items done.0 number word (done.3 all (begins_on _ _ _ c.intern.ensures.grows begins)) (begins number word c.in_ok-number.ensures.named)),
      );
    }

pub returns : goal.returns
returns c =
    let done = c.loop-symbol.invariant.done in
    let all_done = done.1 ∙ ap (λ w. done.0 ++ w) c.in_default.ensures.0 ∙ append-nil done.0 in
    record {
      grows = c.loop-symbol.invariant.grows;
      count = omega (arith, done.2, ap length all_done);
      numbers = λ all begins. subst (AreNameNumbers all c.loop-symbol.numbers.items) (sym all_done) (done.3 all begins);
    }
