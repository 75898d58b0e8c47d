-- The proof of an item of a base that is judged, with what it decodes to.
use Rattle.std.specs.Prelude.{◌≡◌, ◌<◌, ℕ, List, length}
use Rattle.mm_frame.specs.Language.Base.{BaseView}
use Rattle.mm_verdict.specs.Language.DecodedSteps.{decoded_steps}
use Rattle.mm_machine.specs.Language.Expansion.{Step}
use Rattle.mm_machine.specs.Language.NamedSteps.{IsOutcomeWithin, RunSays}
use Rattle.mm_machine.specs.declared.stepping.RunOutcome.{RunOutcome}
use Rattle.mm_verdict.specs.Language.BaseLabels.{setting_at}
use Rattle.mm_verdict.specs.Language.VerdictAt.{IsVerdictAt, AreDoneAt, cites_at, statement_at}
use Rattle.mm_verdict.specs.Code.Judged.{IsDecoding}
use Rattle.mm_verdict.specs.Code.NamedItems.{AreKnownOf}
use Rattle.mm_verdict.specs.declared.known.Known.{Known}
use Rattle.mm_verdict.specs.declared.reading.DecodedProof.{DecodedProof}
use Rattle.mm_verdict.specs.declared.work.Checked.{Checked}

-- in this view of the base the proof decodes to this
abbrev pub IsDecodedIn : DecodedProof → BaseView → Type 0
IsDecodedIn proof view = IsDecoding proof.base.now proof.i proof.words.now proof.decoding.now view

-- this holds in each such view
abbrev pub OfDecoded : DecodedProof → (BaseView → Type 0) → Type 0
OfDecoded proof holds = (view : BaseView) → IsDecodedIn proof view → holds view

-- there is such a view
abbrev pub IsDecoded : DecodedProof → Type 0
IsDecoded proof = (view : BaseView) × IsDecodedIn proof view × (proof.i < length view)

-- the steps that it decodes to
abbrev pub steps_of : DecodedProof → BaseView → List Step
steps_of proof view = (decoded_steps view proof.decoding.now proof.words.now).steps

-- this is what a run of the proof's steps comes to, and what is known is the base's
pub record IsRun (proof : DecodedProof) (outcome : RunOutcome) (now : Known) : Type 0 where
  pub within : IsOutcomeWithin (length proof.decoding.now.steps.items) outcome
  pub says : OfDecoded proof (λ view. RunSays (setting_at view proof.i) (steps_of proof view) (statement_at view proof.i) outcome)
  pub known : AreKnownOf proof.base.now now

-- the verdict and the words that cite are those of the item's proof, and this many of its steps are done
pub record IsJudgedProof (view : BaseView) (i : ℕ) (judged : Checked × ℕ) : Type 0 where
  pub verdict : IsVerdictAt view i judged.0.verdict
  pub cites : judged.0.cites ≡ cites_at view i
  pub done : AreDoneAt view i judged.1
