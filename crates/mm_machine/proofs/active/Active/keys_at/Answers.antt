use Rattle.std.proofs.{Common.{arith}, lemmas.Grind.{common_steps}}
use Rattle.mm_machine.{specs.Language.CodeLists.{meant_pair}, proofs.lemmas.machine.FlatLemmas.{mapped_or}}
use Rattle.mm_machine.proofs.active.Active.keys_at.Goals as goal

pub returns : goal.returns
returns g c p at = grind (arith, common_steps, mapped_or (meant_pair g.S.Listed.Symbol.means) c.args.self.now.pairs.now c.args.place c.index-self-place.result p c.requires at) steps 200000
