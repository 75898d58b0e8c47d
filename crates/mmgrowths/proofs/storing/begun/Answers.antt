use Rattle.std.proofs.Common.{rules}
use Rattle.mmgrowths.proofs.storing.begun.Goals as goal

pub begin-requires : goal.begin-requires
begin-requires g c = search rules
