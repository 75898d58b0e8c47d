use Rattle.std.proofs.Common.{◌+◌, refl, arith}
use Rattle.mm_frame.{specs.declared.tables.Declared.TheVariants.{Constant}, proofs.lemmas.scope.KnownLemmas.{declares_first, declares_all}}
use Rattle.mm_frame.proofs.tables.Tables.take_constants.Goals as goal

pub loop-n-preserved : goal.loop-n-preserved
loop-n-preserved c =
    declares_first c.args.numbers.now c.loop-n.n (c.loop-n.n + 1) 0 c.args.self.now c.loop-n.self c.declare.new.self (λ _. Constant) Constant
    (omega arith) (omega arith) (λ old. refl) c.loop-n.invariant refl c.in_ok-declare.ensures

pub returns : goal.returns
returns c = declares_all c.args.numbers.now c.loop-n.n c.args.self.now c.loop-n.self (λ _. Constant) (omega arith) c.loop-n.invariant
