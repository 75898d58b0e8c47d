use Rattle.std.proofs.{Common.{arith, ◌∙◌, sym}, lemmas.Grind.{common_steps}}
use Rattle.mm_text.specs.Language.Asked.{edited_name}
use Rattle.mm_script.proofs.LineLemmas.{both_numbers, edit_named, edit_numbers, equal, numbers_are, parts_of_line, says_delete, says_insert, says_move, says_replace, unequal, word_is}
use Rattle.mm_script.specs.Code.Growing.{line_bytes}
use Rattle.mm_script.proofs.line.edit_asked.Goals as goal

pub name_and_rest-requires : goal.name_and_rest-requires
name_and_rest-requires c = (parts_of_line _ _ c.in_ok-word.rest.now c.requires.line.1.one_line c.in_ok-word.ensures.some.is).1

pub returns-in_err-name-clause-none : goal.returns-in_err-name-clause-none
returns-in_err-name-clause-none c = λ none e good is.
    c.name_and_rest.ensures.none c.in_err-name.was (edited_name e) (edit_numbers e) (edit_named e good)
    (word_is (line_bytes c.args.bytes.now c.args.line) c.in_ok-word.word.now c.in_ok-word.rest.now e c.in_ok-word.ensures.some is).1

pub returns-in_err-at-clause-none : goal.returns-in_err-at-clause-none
returns-in_err-at-clause-none c = λ none e good is.
    let are = numbers_are _ c.in_ok-word.word.now c.in_ok-word.rest.now c.in_ok-name.name.now c.in_ok-name.numbers.now e c.in_ok-word.ensures.some c.in_ok-name.ensures.some good is in
    let word = sym are.0 ∙ equal _ _ c.if-eq.ensures ∙ c.as_slice.ensures in
    grind (arith, common_steps, are, word, good, c.number.ensures.none c.in_err-at.was) steps 200000

pub returns-in_err-at-2-clause-none : goal.returns-in_err-at-2-clause-none
returns-in_err-at-2-clause-none c = λ none e good is.
    let are = numbers_are _ c.in_ok-word.word.now c.in_ok-word.rest.now c.in_ok-name.name.now c.in_ok-name.numbers.now e c.in_ok-word.ensures.some c.in_ok-name.ensures.some good is in
    let both = both_numbers e good (λ word. unequal _ _ c.if-eq.ensures (are.0 ∙ word ∙ sym c.as_slice.ensures)) in
    c.two_numbers.ensures.none c.in_err-at-2.was both.0 both.1 both.2 both.3 (are.1 ∙ both.4)

pub returns-then-eq-clause-some : goal.returns-then-eq-clause-some
returns-then-eq-clause-some c =
    says_delete c.args.bytes.now _ c.args.line c.requires.line.1 c.in_ok-word.word.now c.in_ok-word.rest.now c.in_ok-word.ensures.some c.in_ok-name.name.now _ c.in_ok-name.ensures.some
    c.in_ok-at.at (equal _ _ c.if-eq.ensures ∙ c.as_slice.ensures) c.in_ok-at.ensures.some.0 c.in_ok-at.ensures.some.1

pub returns-then-eq-2-clause-some : goal.returns-then-eq-2-clause-some
returns-then-eq-2-clause-some c =
    says_move c.args.bytes.now _ c.args.line c.requires.line.1 c.in_ok-word.word.now c.in_ok-word.rest.now c.in_ok-word.ensures.some c.in_ok-name.name.now _ c.in_ok-name.ensures.some
    c.in_ok-at-2.at c.in_ok-at-2.other (equal _ _ c.if-eq-2.ensures ∙ c.as_slice-2.ensures) c.in_ok-at-2.ensures.some

pub returns-then-eq-3-clause-some : goal.returns-then-eq-3-clause-some
returns-then-eq-3-clause-some c =
    says_insert c.args.bytes.now _ c.args.line c.requires.line.1 c.in_ok-word.word.now c.in_ok-word.rest.now c.in_ok-word.ensures.some c.in_ok-name.name.now _ c.in_ok-name.ensures.some
    c.in_ok-at-2.at c.in_ok-at-2.other (equal _ _ c.if-eq-3.ensures ∙ c.as_slice-3.ensures) c.in_ok-at-2.ensures.some

pub returns-then-eq-4-clause-some : goal.returns-then-eq-4-clause-some
returns-then-eq-4-clause-some c =
    says_replace c.args.bytes.now _ c.args.line c.requires.line.1 c.in_ok-word.word.now c.in_ok-word.rest.now c.in_ok-word.ensures.some c.in_ok-name.name.now _ c.in_ok-name.ensures.some
    c.in_ok-at-2.at c.in_ok-at-2.other (equal _ _ c.if-eq-4.ensures ∙ c.as_slice-else-eq-3.ensures) c.in_ok-at-2.ensures.some

pub returns-else-eq-4-clause-none : goal.returns-else-eq-4-clause-none
returns-else-eq-4-clause-none c = λ none e good is.
    let first = (word_is _ c.in_ok-word.word.now c.in_ok-word.rest.now e c.in_ok-word.ensures.some is).0 in
    grind (
      arith,
      common_steps,
      first,
      unequal c.in_ok-word.word.now c.as_slice.result.now c.if-eq.ensures,
      unequal c.in_ok-word.word.now c.as_slice-2.result.now c.if-eq-2.ensures,
      unequal c.in_ok-word.word.now c.as_slice-3.result.now c.if-eq-3.ensures,
      unequal c.in_ok-word.word.now c.as_slice-else-eq-3.result.now c.if-eq-4.ensures,
      c.as_slice.ensures,
      c.as_slice-2.ensures,
      c.as_slice-3.ensures,
      c.as_slice-else-eq-3.ensures,
    ) steps 200000
