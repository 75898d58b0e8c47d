use Rattle.std.proofs.Common.{ap, append-nil, sym, ◌∙◌, ◌++◌, false, subst, filter, take, take_all}
use Rattle.mm_frame.proofs.lemmas.{names.NumberLemmas.{name_there}, pairs.{FramePairs.{no_pairs, with_more}, DisjointRowLemmas.{none_told}, ActivePairLemmas.{pairs_with}}}
use Rattle.mm_frame.specs.Language.{Framing.{active_pairs}, Answering.{are_paired}}
use Rattle.mm_machine.specs.{Language.{Frame.{Symbol}, Names.{name_at}, NumberedSymbols.{symbol_of, symbols_of, ArePairsRead}}, declared.symbol.NumberedSymbol.{NumberedSymbol}}
use Rattle.mm_frame.proofs.mandatory.add_active_with.Goals as goal

pub returns-then-not-has-clause-pairs : goal.returns-then-not-has-clause-pairs
returns-then-not-has-clause-pairs c all before said reads m a others r =
    let told = λ (y : Symbol). none_told all before c.args.table.now c.args.blocks.now c.args.first.name (name_at all c.args.first.name) y.name reads
    (name_there all c.args.first.name a) (c.has.ensures c.if-not-has.true) in
    subst (λ w. ArePairsRead all w c.args.pairs.now.items)
    (sym (append-nil said)
    ∙ ap (λ w. said ++ w) (sym (no_pairs (are_paired (active_pairs before)) (symbol_of all c.args.first) (symbols_of all c.args.later.now) told))) r

pub loop-second-preserved : goal.loop-second-preserved
loop-second-preserved c = record {
  answers = λ all before reads m. c.in_ok-add_if_active.ensures.answers all before reads (c.loop-second.invariant.answers all before reads m);
  pairs = λ all before said reads m a others r. (
      let later = c.args.later.now in
      let n = c.loop-second.second-index in
      let d : NumberedSymbol = record { name = 0; variable = false } in
      let test = are_paired (active_pairs before) in
      let so_far = said ++ filter test (pairs_with (symbol_of all c.args.first) (symbols_of all (take n later))) in
      with_more all test (symbol_of all c.args.first) later n d said c.add_if_active.new.pairs.items c.loop-second-test.true
      (c.in_ok-add_if_active.ensures.pairs all before so_far reads (c.loop-second.invariant.answers all before reads m) a (others n d c.loop-second-test.true) (c.loop-second.invariant.pairs all before said reads m a others r))
      );
}

pub returns-clause-pairs : goal.returns-clause-pairs
returns-clause-pairs c all before said reads m a others r =
    subst (λ w. ArePairsRead all (said ++ filter (are_paired (active_pairs before)) (pairs_with (symbol_of all c.args.first) (symbols_of all w)))
    c.loop-second.pairs.items) (take_all c.loop-second.second-index c.args.later.now c.loop-second-test.false)
    (c.loop-second.invariant.pairs all before said reads m a others r)
