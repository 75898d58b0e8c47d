use Rattle.std.proofs.{lemmas.Grind.{common_steps}, Common.{arith}}
use Rattle.mm_store.proofs.lemmas.files.FileLemmas.{shown}
use Rattle.mm_store.proofs.files.Files.count_in.Goals as goal

pub returns : goal.returns
returns c = grind (arith, common_steps, shown c.self.inside c.args.number c.self.invariant c.as_slice.ensures.entries c.get_index.ensures.entry c.unwrap.ensures) steps 200000
