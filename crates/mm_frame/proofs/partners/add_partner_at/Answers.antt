use Rattle.std.proofs.{Common.{arith, append-nil}, lemmas.{Grind.{common_steps}, Option.{slice_get_past}}}
use Rattle.mm_frame.proofs.partners.add_partner_at.Goals as goal

pub returns-in_default : goal.returns-in_default
returns-in_default c = grind (arith, common_steps, append-nil c.args.pairs.now.items, slice_get_past c.args.variables.now c.args.place c.in_default.ensures.lookup.3) steps 200000
