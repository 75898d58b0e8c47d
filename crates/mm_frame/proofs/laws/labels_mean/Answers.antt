use Rattle.mm_frame.proofs.lemmas.base.OwnLabels.{label_or_unknown, assertion_is_meant}
use Rattle.mm_frame.proofs.laws.labels_mean.Goals as goal

pub returns-clause-one : goal.returns-clause-one
returns-clause-one c = label_or_unknown

pub returns-clause-assertions : goal.returns-clause-assertions
returns-clause-assertions c = assertion_is_meant
