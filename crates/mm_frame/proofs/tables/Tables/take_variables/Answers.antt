use Rattle.std.proofs.Common.{◌+◌, ap, refl, arith}
use Rattle.mm_frame.{specs.{declared.tables.Declared.TheVariants.{Variable}, Code.KeptTables.{float_of}}, proofs.lemmas.scope.KnownLemmas.{declares_first, declares_all}}
use Rattle.mm_frame.proofs.tables.Tables.take_variables.Goals as goal

pub loop-n-preserved : goal.loop-n-preserved
loop-n-preserved c =
    declares_first c.args.numbers.now c.loop-n.n (c.loop-n.n + 1) 0 c.args.self.now c.loop-n.self c.declare.new.self (λ old. Variable c.args.number (float_of old)) (Variable c.args.number c.float.result)
    (omega arith) (omega arith) (λ old. refl) c.loop-n.invariant (ap (Variable c.args.number) c.float.ensures.value) c.in_ok-declare.ensures

pub returns : goal.returns
returns c = declares_all c.args.numbers.now c.loop-n.n c.args.self.now c.loop-n.self (λ old. Variable c.args.number (float_of old)) (omega arith) c.loop-n.invariant
