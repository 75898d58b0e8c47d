use Rattle.std.proofs.Common.{refl}
use Rattle.mm_verdict.proofs.lemmas.decoding.ReaderLemmas.{step_rest, no_save}
use Rattle.mm_verdict.proofs.letters.LetterReader.add.Goals as goal

pub returns-else-byte-eq90-clause-ok : goal.returns-else-byte-eq90-clause-ok
returns-else-byte-eq90-clause-ok c = λ aim ls found goes. record {
  digits = 0;
  labels_are = goes.labels_are;
  digits_are = refl;
  rest =
      step_rest aim.names aim.close aim.total c.args.self.now.saves goes.digits c.args.byte c.args.spot c.in-Ok.action ls c.args.self.now.steps.items _
      c.args.self.now.saves found.other (rw c.in-Ok.is at found.says goes.digits goes.labels_are goes.digits_are)
      c.push_reserved.ensures.items (no_save c.args.byte c.args.self.now.saves c.if-byte-eq90.false) goes.rest;
}
