use Rattle.std.proofs.{Common.{arith}, lemmas.Grind.{common_steps}}
use Rattle.mm_machine.specs.Language.{Lasting.{lasting_of}, NumberedSymbols.{by_code}}
use Rattle.mm_verdict.proofs.lemmas.machine.LoadedLemmas.{loaded_kept}
use Rattle.mm_verdict.proofs.known.Known.widen.Goals as goal

pub widen-requires : goal.widen-requires
widen-requires c = c.requires

pub returns : goal.returns
returns c base is = grind (arith, common_steps, loaded_kept base (lasting_of by_code c.args.self.now.machine) _ is.loaded c.widen.ensures.lasting) steps 200000
