use Rattle.std.proofs.{Math.Seq.{take-suc}, lemmas.{List.{map-append}, Grind.{common_steps}}, Common.{◌<◌, ◌+◌, length, get_or, [], sym, ◌∙◌, arith}}
use Rattle.mm_frame.{specs.Code.KnownItem.{numbers_of}, proofs.lemmas.{faults.FaultLemmas.{none_left, passes_more, expression_is}, names.KnownSymbols.{named_number}}}
use Rattle.mm_frame.proofs.judge.are_right.Goals as goal

pub loop-n-preserved : goal.loop-n-preserved
loop-n-preserved c =
    let item = c.args.statement.now in
    let symbols = c.args.symbols.now in
    let n = c.loop-n.n in
    let within : n < length symbols = omega (arith, c.loop-n-test.true) in
    let right = c.if-not-is_right.false in (
      λ all. passes_more item (numbers_of symbols) n (n + 1) (omega arith) (omega (arith, within, c.requires.count)) (c.loop-n.invariant.0 all)
          (λ before h k a. c.is_right.ensures.fault right all before (get_or item.symbols n []) h k (named_number all symbols item.symbols n _ within a) ∙ expression_is item.kind c.requires.expression before item n (get_or item.symbols n [])),
      grind (arith, common_steps, map-append, take-suc, sym (c.is_right.ensures.sort right), c.loop-n.invariant.1) steps 200000,
    )

pub returns-clause-faults : goal.returns-clause-faults
returns-clause-faults c t all =
    none_left c.args.statement.now (numbers_of c.args.symbols.now) c.loop-n.n (omega (arith, c.loop-n-test.false, c.requires.count)) (c.loop-n.invariant.0 all)
