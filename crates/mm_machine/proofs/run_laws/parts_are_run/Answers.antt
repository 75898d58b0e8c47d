use Rattle.std.proofs.{Common.{ap, arith, length}, lemmas.{List.{length-take-le}, Option.{slice_get_within}}}
use Rattle.mm_machine.{specs.Language.Expansion.{NotKnown}, proofs.lemmas.verdicts.Part.{known_iff_run, part_ends, reached_run}}
use Rattle.mm_machine.proofs.run_laws.parts_are_run.Goals as goal

pub returns : goal.returns
returns c = record {
  known = known_iff_run;
  unknown = λ steps n at known. (
    part_ends steps n known at,
    omega (arith, ap length (part_ends steps n known at), length-take-le n steps (omega (arith, slice_get_within steps n NotKnown at))),
  );
  reached = reached_run;
}
