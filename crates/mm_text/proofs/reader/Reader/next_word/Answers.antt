use Rattle.std.proofs.{lemmas.Grind.{common_steps}, Common.{arith}}
use Rattle.mm_text.proofs.{KindLemmas.{plain_word}, ReaderLemmas.{word_here}, RunLemmas.{white_at}}
use Rattle.mm_text.proofs.reader.Reader.next_word.Goals as goal

pub other_word-requires-clause-white : goal.other_word-requires-clause-white
other_word-requires-clause-white c = white_at c.args.self.now.text.now c.args.self.now.from c.white_len.result c.white_len.ensures.value

pub returns-clause-word : goal.returns-clause-word
returns-clause-word c = grind (arith, common_steps, plain_word, white_at, word_here) steps 200000
