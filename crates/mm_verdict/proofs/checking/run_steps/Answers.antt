use Rattle.mm_verdict.specs.{Language.{BaseLabels.{setting_at}, VerdictAt.{statement_at}, DecodedSteps.{entry_steps}}, Code.{DecodedProof.{steps_of}, NumberedBase.{numbered_setting}}}
use Rattle.mm_verdict.proofs.lemmas.{base.FrameLemmas.{shown_proof}, decoding.DecodedProofs.{decoded_saved}, machine.NamedLemmas.{named_by, ran}}
use Rattle.mm_verdict.proofs.checking.run_steps.Goals as goal

pub name_all-requires : goal.name_all-requires
name_all-requires c =
    let has = c.requires.decoded in
    record {
      labels = rw c.deref-labels.ensures.value (named_by c.args.proof.base.now has.0 c.args.proof.i has.1.theorem.base c.args.proof.decoding.now.labels.items has.1.entries);
      known = c.requires.known;
    }

pub run-requires : goal.run-requires
run-requires c =
    let is = c.in_ok-name_all.ensures in
    record {
      holds = is.of_base.holds;
      cited = rw c.deref.ensures.value (λ k d l. (is.cited k d l).cited);
      within = rw (c.deref.ensures.value, c.deref-2.ensures.value) is.within;
      saved = rw c.deref-3.ensures.value (decoded_saved c.mandatory_are_active.ensures c.decodes_surely.ensures _ _ _ _ _ c.requires.decoded.1);
    }

pub returns : goal.returns
returns c = record {
  within = rw c.deref-3.ensures.value at c.in_ok-outcome.ensures.within;
  says = λ view is. let proof = c.args.proof in
      let i = proof.i in
      let d = proof.decoding.now in
      let names = is.theorem.base.0 in
      let base = is.theorem.base.1 in
      let labels = d.labels.items in
      let mean = (rw c.deref-labels.ensures.value at c.in_ok-name_all.ensures.means) names view base i is.entries in
      let frames = c.numbers_keep_places.ensures names (setting_at view i) (c.places_have_frames.ensures view i) in
      let said = c.in_ok-outcome.ensures.says (numbered_setting names view i) (entry_steps view labels) frames (rw c.new-active.ensures (c.active.ensures.same names view base is.theorem.is_sound))
      (rw (c.deref.ensures.value, c.deref-2.ensures.value) mean) in
      let here = rw (c.deref-3.ensures.value, c.expression.ensures names view base (shown_proof view i is.theorem.is_sound)) at said in
      c.numbers_say_the_same.ensures names (setting_at view i) (steps_of proof view) (statement_at view i) c.in_ok-outcome.outcome here;
  known = ran c.args.proof.base.now _ _ c.in_ok-name_all.ensures.of_base c.in_ok-outcome.ensures.holds c.in_ok-outcome.ensures.lasting;
}
