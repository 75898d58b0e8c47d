use Rattle.mmkeep.proofs.LoadLemmas.{memory_stops}
use Rattle.mmkeep.proofs.loading.load_session.Goals as goal

pub returns-clause-unloaded : goal.returns-clause-unloaded
returns-clause-unloaded g c = memory_stops g.S.Opened.Read.remaining (g.S.Source.holds c.args.source.now) c.args.top.now c.begin_session.result c.begin_session.ensures.memory
