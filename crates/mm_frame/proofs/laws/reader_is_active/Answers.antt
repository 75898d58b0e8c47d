use Rattle.mm_frame.proofs.lemmas.scope.Stack.{reader_active}
use Rattle.mm_frame.proofs.laws.reader_is_active.Goals as goal

pub returns : goal.returns
returns c = reader_active
