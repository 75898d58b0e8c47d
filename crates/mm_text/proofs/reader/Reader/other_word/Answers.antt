use Rattle.std.proofs.Common.{rules, sym, arith}
use Rattle.mm_text.{specs.declared.word.WordKind.TheVariants.{Keyword}, proofs.ReaderLemmas.{word_here}}
use Rattle.mm_text.proofs.reader.Reader.other_word.Goals as goal

pub returns-clause-word : goal.returns-clause-word
returns-clause-word c = word_here c.args.self.now.text.now c.args.self.now.from c.args.start 2 (Keyword c.in-Some.keyword) c.requires.forward (search (rules, arith)) c.requires.white (sym c.in-Some.ensures.len) (omega arith) c.in-Some.ensures.kind
