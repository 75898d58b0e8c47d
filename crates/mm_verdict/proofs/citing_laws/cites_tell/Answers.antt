use Rattle.mm_verdict.proofs.lemmas.citing.TellLemmas.{each_names, cites_tell}
use Rattle.mm_verdict.proofs.citing_laws.cites_tell.Goals as goal

pub returns-clause-each : goal.returns-clause-each
returns-clause-each c = each_names c.kept_next.ensures

pub returns-clause-tell : goal.returns-clause-tell
returns-clause-tell c = cites_tell c.mandatory_labels_mean.ensures c.labels_mean.ensures.assertions
