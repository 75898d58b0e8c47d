-- The decoding that the code has.
use Rattle.std.proofs.{Common.{arith, ◌≡◌, ◌∙◌, ap, ℕ, Ok, List, length, map}, lemmas.{Grind.{common_steps}, Simd.{map-map}}}
use Rattle.mm_frame.specs.Language.Base.{BaseView, said_at}
use Rattle.mm_verdict.{proofs.lemmas.decoding.OrderLemmas.{decoded}, specs.Language.{BaseLabels.{setting_at}, DecodedSteps.{TellsFault}, VerdictAt.{decoding_at, mandatory_labels}}}
use Rattle.mm_verdict.specs.{Language.Decoding.{Steps, steps_in, word_spot, decoding}, Code.Coded.{meant_steps, TellsSteps}, declared.undecoded.Undecoded.{Undecoded}}
use Rattle.mm_machine.specs.{Language.{Expansion.{Step}, NamedSteps.{meant}, Verdict.{Decoded}}, declared.{Spot.{Spot}, step.ProofStep.{ProofStep}}}
use Rattle.mm_verdict.specs.declared.undecoded.Undecoded.TheVariants as errors

abbrev made : List Step → List ProofStep → Spot → Decoded
made names steps close = record { steps = map (λ (step : ProofStep). meant names step.action) steps; spots = map (λ (step : ProofStep). step.spot) steps; close = close }

decoded_is : (names : List Step) (steps : List ProofStep) (close : Spot) → decoded close (Ok (meant_steps names steps)) ≡ Ok (made names steps close)
decoded_is names steps close = grind (arith, common_steps, map-map) steps 200000

module _ (view : BaseView) (i : ℕ) (words : List (List ℕ)) (says : (said_at view i).proof ≡ words) where
  -- what the words of the proof of an item say
  abbrev given : Steps
  given = steps_in (setting_at view i) (mandatory_labels view i) words (word_spot (length words))

  its_decoding : decoding_at view i ≡ decoded (word_spot (length words)) given
  its_decoding = ap (decoding (setting_at view i) (mandatory_labels view i)) says

  pub decodes_so : (names : List Step) (steps : List ProofStep) → given ≡ Ok (meant_steps names steps) → decoding_at view i ≡ Ok (made names steps (word_spot (length words)))
  decodes_so names steps e = its_decoding ∙ ap (decoded (word_spot (length words))) e ∙ decoded_is names steps (word_spot (length words))

  pub fails_so : (e : Undecoded) → TellsSteps e given → TellsFault e (decoding_at view i)
  fails_so (errors.Fault fault) tells = its_decoding ∙ ap (decoded (word_spot (length words))) tells
  fails_so errors.Memory tells = tt
