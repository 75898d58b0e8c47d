use Rattle.std.proofs.{Common.{arith, ◌≡◌, ◌+◌, drop, length, ap, sym, ◌∙◌}, lemmas.Grind.{common_steps}}
use Rattle.mm_store.specs.mm_text.Language.Unit.{tokens_of}
use Rattle.mm_statement.{specs.{Language.{Item.{Said}, Statement.{kind_of, symbols_from, symbols_in}}, Code.PlainWords.{plain_bytes}}, proofs.SpokenLemmas.{few_from, names_from}}
use Rattle.mm_statement.proofs.statement.words_of_proof.Goals.{After-behind_symbols}
use Rattle.mm_statement.proofs.statement.words_of_proof.Goals as goal

-- the words of the proof, by the text of the item
rest_of : (c : After-behind_symbols) → c.behind_symbols.result.words ≡ drop (symbols_from (kind_of c.args.item.now.kind)
    + length (symbols_in (kind_of c.args.item.now.kind) (tokens_of c.words_of-words.result.0.now c.words_of-words.result.1.words)) + 1) c.words_of-words.result.1.words
rest_of c = grind (arith, common_steps) steps 200000

pub new-requires-clause-few : goal.new-requires-clause-few
new-requires-clause-few c = few_from _ c.words_of-words.result.1 _ _ c.words_of-words.ensures.words (rest_of (goal.at.new-requires-clause-few c).After-behind_symbols)

pub returns : goal.returns
returns c = record {
  words = λ said says.
      let text = c.words_of-words.result.0.now in
      c.new.ensures ∙ ap (plain_bytes text) (rest_of (goal.at.returns c).After-behind_symbols) ∙ sym (names_from text c.words_of-words.result.1.words _) ∙ ap (λ (x : Said). x.proof) (c.words_of-words.ensures.only said says);
}
