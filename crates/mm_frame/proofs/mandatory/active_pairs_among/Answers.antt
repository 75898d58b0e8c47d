use Rattle.std.proofs.{Common.{arith, ◌+◌, ◌++◌, false, filter, drop, get_or, append-nil}, lemmas.{Grind.{common_steps}, List.{drop_all}, Option.{slice_get-get_or}, Result.{IfOk-weaker}}}
use Rattle.mm_machine.specs.{declared.symbol.NumberedSymbol.{NumberedSymbol}, Language.NumberedSymbols.{symbol_of, symbols_of}}
use Rattle.mm_frame.{specs.Language.{Framing.{active_pairs, pairs_of}, Answering.{are_paired}}, proofs.lemmas.pairs.{ActivePairLemmas.{pairs_with}, FramePairs.{among_more}}}
use Rattle.mm_frame.proofs.mandatory.active_pairs_among.Goals as goal

pub loop-n-preserved : goal.loop-n-preserved
loop-n-preserved c = record {
  placed = c.loop-n.invariant.placed;
  answers = λ all before known m. c.in_ok-add_pairs_with_later.ensures.answers all before known (c.loop-n.invariant.answers all before known m);
  pairs = λ all before known m numbered. (
      let n = c.loop-n.n in
      let variables = c.args.variables.now in
      let d : NumberedSymbol = record { name = 0; variable = false } in
      let x = get_or variables n d in
      let test = are_paired (active_pairs before) in
      let so_far = c.loop-n.invariant.pairs all before known m numbered in
      let more = c.in_ok-add_pairs_with_later.ensures.pairs all before so_far.0 x known (c.loop-n.invariant.answers all before known m) c.loop-n.invariant.placed numbered so_far.2 (slice_get-get_or variables n d c.loop-n-test.true) in (
        so_far.0 ++ filter test (pairs_with (symbol_of all x) (symbols_of all (drop (n + 1) variables))),
        among_more all test variables n d so_far.0 (filter test (pairs_of (symbols_of all variables))) c.loop-n-test.true so_far.1,
        more,
      )
      );
}

pub returns-clause-pairs : goal.returns-clause-pairs
returns-clause-pairs c = IfOk-weaker c.from_slice.result _ _ (λ pairs copy all before reads m numbered.
    let so_far = c.loop-n.invariant.pairs all before reads m numbered in
    grind (arith, common_steps, copy, so_far, append-nil so_far.0, drop_all c.loop-n.n c.args.variables.now c.loop-n-test.false) steps 200000) c.from_slice.ensures.items
