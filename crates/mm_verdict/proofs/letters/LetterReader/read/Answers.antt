use Rattle.std.proofs.Common.{rules}
use Rattle.mm_verdict.proofs.lemmas.decoding.ReaderLemmas.{last_found, other_found, if_err, if_ok}
use Rattle.mm_verdict.proofs.letters.LetterReader.read.Goals as goal

pub add-requires-else-letter-lt25-clause-within : goal.add-requires-else-letter-lt25-clause-within
add-requires-else-letter-lt25-clause-within c = c.action.ensures.within c.args.self.now.labels

pub returns-then-letter-lt20-clause-ok : goal.returns-then-letter-lt20-clause-ok
returns-then-letter-lt20-clause-ok c = search (rules, if_ok, last_found)

pub returns-then-letter-lt20-clause-err : goal.returns-then-letter-lt20-clause-err
returns-then-letter-lt20-clause-err c = search (rules, if_err, last_found)

pub returns-else-letter-lt25-clause-ok : goal.returns-else-letter-lt25-clause-ok
returns-else-letter-lt25-clause-ok c = search (rules, if_ok, other_found)

pub returns-else-letter-lt25-clause-err : goal.returns-else-letter-lt25-clause-err
returns-else-letter-lt25-clause-err c = search (rules, if_err, other_found)
