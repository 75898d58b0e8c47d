use Rattle.std.proofs.{Common.{arith, ◌≡◌, subst}, lemmas.Grind.{common_steps}}
use Rattle.mm_proof.specs.{mm_verdict.Language.VerdictAt.{IsVerdictAt}, mm_machine.declared.Verdict.TheVariants.{Incomplete, Wrong}}
use Rattle.mm_keep.proofs.answers.judged.Goals as goal

pub place_of_spot-requires : goal.place_of_spot-requires
place_of_spot-requires c =
    let is : c.args.verdict ≡ Incomplete c.in-Incomplete.spot = cc in
    grind (arith, common_steps, c.spots_are_in.ensures c.requires.1 c.args.number (Incomplete c.in-Incomplete.spot) (subst (IsVerdictAt c.requires.1 c.args.number) is c.requires.5)) steps 200000

pub place_of_spot-requires-in-Wrong : goal.place_of_spot-requires-in-Wrong
place_of_spot-requires-in-Wrong c =
    let is : c.args.verdict ≡ Wrong c.in-Wrong.fault c.in-Wrong.spot = cc in
    grind (arith, common_steps, c.spots_are_in.ensures c.requires.1 c.args.number (Wrong c.in-Wrong.fault c.in-Wrong.spot) (subst (IsVerdictAt c.requires.1 c.args.number) is c.requires.5)) steps 200000

pub returns-in-Incomplete : goal.returns-in-Incomplete
returns-in-Incomplete c names view is proof verdict = grind (arith, c.place_of_spot.ensures names view is proof) steps 200000

pub returns-in-Wrong : goal.returns-in-Wrong
returns-in-Wrong c names view is proof verdict = grind (arith, c.place_of_spot-in-Wrong.ensures names view is proof) steps 200000
