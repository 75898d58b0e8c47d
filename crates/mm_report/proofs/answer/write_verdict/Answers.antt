use Rattle.std.proofs.{Common.{arith, refl, inr}, lemmas.Grind.{common_steps}}
use Rattle.mm_keep.specs.Language.Findings.{told}
use Rattle.mm_report.proofs.FileLemmas.{told_in}
use Rattle.mm_report.proofs.answer.write_verdict.Goals as goal

pub write_told-requires : goal.write_told-requires
write_told-requires g c = grind (arith, common_steps, told_in) steps 200000

pub returns-in-Ok : goal.returns-in-Ok
returns-in-Ok g c = record {
  answer = _;
  is = (inr (told c.in-Ok.finding, c.in-Ok.ensures.ok, refl), refl);
  writes = rw c.files.ensures.files at c.write_told.ensures;
}
