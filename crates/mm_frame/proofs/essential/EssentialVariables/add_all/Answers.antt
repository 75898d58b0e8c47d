use Rattle.std.proofs.Common.{false}
use Rattle.mm_machine.specs.declared.symbol.NumberedSymbol.{NumberedSymbol}
use Rattle.mm_frame.proofs.lemmas.frames.VariableLemmas.{adds_more}
use Rattle.mm_frame.proofs.essential.EssentialVariables.add_all.Goals as goal

pub loop-k-preserved : goal.loop-k-preserved
loop-k-preserved c rising active =
    let none : NumberedSymbol = record { name = 0; variable = false } in
    adds_more c.args.essentials.now c.args.number c.args.symbols.now c.loop-k.k none c.args.self.now.found.items c.loop-k.self.found.items
    c.add.new.self.found.items c.loop-k-test.true (c.loop-k.invariant rising active) (c.in_ok-add.ensures rising active)
