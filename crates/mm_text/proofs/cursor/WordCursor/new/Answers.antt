use Rattle.std.{proofs.Common.{◌<◌, ◌≤◌, sym, ◌∙◌, ap, subst, length}, specs.List.{AllByRecursion, flat_map}}
use Rattle.mm_text.{specs.{Code.Cursor.{words_from, AreLast}, Language.{Reading.{HasWords}, Unit.{spellings}}}, proofs.CursorLemmas.{all_left, at_first, few_words, some_bytes, few_bytes}}
use Rattle.mm_text.proofs.cursor.WordCursor.new.Goals as goal

pub invariant_of-result : goal.invariant_of-result
invariant_of-result c = subst (λ text. AreLast text c.new.result.from) (sym c.new.ensures.text) (at_first c.args.text.now c.requires.0 c.new.result.from c.requires.1 c.new.ensures.from)

pub returns-clause-only : goal.returns-clause-only
returns-clause-only c words has = ap (λ text. words_from text c.new.result.from) c.new.ensures.text ∙ all_left c.args.text.now words c.new.result.from has c.new.ensures.from

pub returns-clause-words : goal.returns-clause-words
returns-clause-words c = subst (HasWords c.args.text.now) (sym (returns-clause-only c c.requires.0 c.requires.1)) c.requires.1

pub returns-clause-few : goal.returns-clause-few
returns-clause-few c = subst (λ words. length words ≤ length c.args.text.now) (sym (returns-clause-only c c.requires.0 c.requires.1)) (few_words c.args.text.now c.requires.0 c.requires.1)

pub returns-clause-some : goal.returns-clause-some
returns-clause-some c = subst (λ words. AllByRecursion (λ bytes. 0 < length bytes) (spellings c.args.text.now words)) (sym (returns-clause-only c c.requires.0 c.requires.1)) (some_bytes c.args.text.now c.requires.0 c.requires.1)

pub returns-clause-bytes : goal.returns-clause-bytes
returns-clause-bytes c = subst (λ words. length (flat_map (λ bytes. bytes) (spellings c.args.text.now words)) ≤ length c.args.text.now) (sym (returns-clause-only c c.requires.0 c.requires.1)) (few_bytes c.args.text.now c.requires.0 c.requires.1)
