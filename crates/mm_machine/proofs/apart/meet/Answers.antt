use Rattle.std.proofs.Common.{rules, inl, inr}
use Rattle.mm_machine.proofs.lemmas.machine.SetLemmas.{chunks_meet, chunks_apart}
use Rattle.mm_machine.proofs.apart.meet.Goals as goal

pub returns-then-one-other : goal.returns-then-one-other
returns-then-one-other c = chunks_apart c.args.one c.args.other (inr c.if-one-other.true)

pub returns-then-one-other-eq0 : goal.returns-then-one-other-eq0
returns-then-one-other-eq0 c = chunks_apart c.args.one c.args.other (inl c.if-one-other-eq0.true)

pub returns : goal.returns
returns c = chunks_meet c.args.one c.args.other c.if-one-other.false c.if-one-other-eq0.false (search rules)
