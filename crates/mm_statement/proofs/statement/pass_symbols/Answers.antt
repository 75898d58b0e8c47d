use Rattle.std.proofs.{Common.{arith, rules, ◌++◌, sym}, lemmas.Grind.{common_steps}}
use Rattle.mm_statement.proofs.{SpokenLemmas.{Symbols, symbols_passed, symbols_more, symbols_closed, symbols_ended}, statement.pass_symbols.Goals.{After-skip_plain}}
use Rattle.mm_statement.proofs.statement.pass_symbols.Goals as goal

-- the symbols so far, with the plain words that are passed over
skipped : (c : After-skip_plain) → Symbols c.args.words.now.words c.skip_plain.new.self.words (c.loop-word.invariant.1.0 ++ c.skip_plain.ensures.skips.passed)
skipped c = search (rules, symbols_passed)

pub returns-in_default-clause-rest : goal.returns-in_default-clause-rest
returns-in_default-clause-rest c =
    symbols_closed _ _ _ _ _ (skipped (goal.at.returns-in_default-clause-rest c).After-skip_plain) c.in-Some.ensures.word (sym c.if-is_plain.ensures)

pub returns-in_default-2-clause-rest : goal.returns-in_default-2-clause-rest
returns-in_default-2-clause-rest c = grind (arith, common_steps, skipped, symbols_ended) steps 200000

pub loop-word-preserved : goal.loop-word-preserved
loop-word-preserved c =
    grind (arith, common_steps, skipped (goal.at.loop-word-preserved c).After-skip_plain, symbols_more _ _ _ _ _ (skipped (goal.at.loop-word-preserved c).After-skip_plain) c.in-Some.ensures.word (sym c.if-is_plain.ensures)) steps 200000
