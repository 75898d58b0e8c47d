use Rattle.std.proofs.{lemmas.Grind.{common_steps}, Common.{◌≡◌, ◌+◌, ◌∙◌, ap, drop, length, arith}}
use Rattle.mm_store.specs.mm_text.Language.Unit.{tokens_of}
use Rattle.mm_statement.{specs.Language.Statement.{kind_of, symbols_from, symbols_in}, proofs.{PieceLemmas.{has_one, has_words, ends_within}, NthOfProof.{left_more, left_next, left_none, nth_said}}}
use Rattle.mm_statement.proofs.statement.nth_of_proof.Goals as goal

pub slice_bounds-text-end : goal.slice_bounds-text-end
slice_bounds-text-end c = grind (arith, common_steps, ends_within c.args.files.now c.args.item.now c.piece-bytes.result.now c.requires c.piece-bytes.ensures.text) steps 200000

pub new-requires : goal.new-requires
new-requires c = (c.requires.words, has_words c.args.files.now c.args.item.now c.piece-bytes.result.now c.requires c.piece-bytes.ensures.text)

pub behind_symbols-words-requires : goal.behind_symbols-words-requires
behind_symbols-words-requires c = has_one c.args.files.now c.args.item.now c.piece-bytes.result.now c.requires c.piece-bytes.ensures.text c.new.result.words c.new.ensures.only

pub loop-number-preserved : goal.loop-number-preserved
loop-number-preserved c = left_more c.behind_symbols-words.result.words c.loop-number.words.words c.next_word.new.self.words c.loop-number._number c.next_word.result c.loop-number.invariant c.next_word.ensures.word

pub returns-in_err-next_word : goal.returns-in_err-next_word
returns-in_err-next_word c said says =
    let item = c.args.item.now in
    let kind = kind_of item.kind in
    let words = c.new.ensures.only says.read.words (has_words c.args.files.now item c.piece-bytes.result.now says.read c.piece-bytes.ensures.text) in
    let rest = c.behind_symbols-words.ensures.rest ∙ (λ i. drop (symbols_from kind + length (symbols_in kind (tokens_of (c.new.ensures.text i) (words i))) + 1) (words i)) in
    c.from_residual.ensures ∙ left_none c.behind_symbols-words.result.words c.loop-number.words.words c.loop-number._number c.args.n c.loop-number.invariant c.in_err-next_word.ensures.word.0 (omega arith)
    ∙ nth_said c.args.files.now item c.piece-bytes.result.now c.piece-bytes.ensures.text said says c.behind_symbols-words.result.words c.args.n rest

pub returns : goal.returns
returns c said says =
    let item = c.args.item.now in
    let all : c.loop-number._number ≡ c.args.n = omega arith in
    let kind = kind_of item.kind in
    let words = c.new.ensures.only says.read.words (has_words c.args.files.now item c.piece-bytes.result.now says.read c.piece-bytes.ensures.text) in
    let rest = c.behind_symbols-words.ensures.rest ∙ (λ i. drop (symbols_from kind + length (symbols_in kind (tokens_of (c.new.ensures.text i) (words i))) + 1) (words i)) in
    left_next c.behind_symbols-words.result.words c.loop-number.words.words c.next_word-2.new.self.words c.args.n c.next_word-2.result (c.loop-number.invariant ∙ ap (λ k. drop k c.behind_symbols-words.result.words) all) c.next_word-2.ensures.word
    ∙ nth_said c.args.files.now item c.piece-bytes.result.now c.piece-bytes.ensures.text said says c.behind_symbols-words.result.words c.args.n rest
