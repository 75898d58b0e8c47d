-- What a decoding of the code stands for at an item of a base: which label each entry of its table is, and which steps its actions are.
use Rattle.std.specs.Prelude.{◌≡◌, ℕ, Result, Err, List, ◌++◌, length, map, drop, if◌then◌else◌, bytes_eq, codes}
use Rattle.std.specs.List.{AllByRecursion, before_first}
use Rattle.mm_frame.specs.Language.Base.{BaseView}
use Rattle.mm_frame.specs.Language.Resolving.{Resolves}
use Rattle.mm_frame.specs.declared.base.Resolved.{Resolved}
use Rattle.mm_frame.specs.declared.base.Resolved.TheVariants as answers
use Rattle.mm_verdict.specs.Language.BaseLabels.{label_at}
use Rattle.mm_verdict.specs.Language.Decoding.{word_spot, is_close, is_compressed, decoding}
use Rattle.mm_machine.specs.Language.Expansion.{Step, Named, NotKnown}
use Rattle.mm_machine.specs.Language.Verdict.{Decoded}
use Rattle.mm_machine.specs.Language.NamedSteps.{meant}
use Rattle.mm_verdict.specs.declared.decoding.Decoding.{Decoding}
use Rattle.mm_machine.specs.declared.step.ProofFault.{ProofFault}
use Rattle.mm_verdict.specs.declared.undecoded.Undecoded.{Undecoded}
use Rattle.mm_verdict.specs.declared.undecoded.Undecoded.TheVariants as errors

-- the step that an entry of the table stands for: its label, or `?`
abbrev pub entry_step : BaseView → Resolved → Step
entry_step base (answers.Hypothesis j) = Named (label_at base j)
entry_step base (answers.Assertion j) = Named (label_at base j)
entry_step base answers.Inactive = NotKnown
entry_step base answers.Unknown = NotKnown

-- the steps that the entries of the table stand for
abbrev pub entry_steps : BaseView → List Resolved → List Step
entry_steps base labels = map (entry_step base) labels

-- the label of an entry means there what the entry says
abbrev pub IsEntry : BaseView → ℕ → Resolved → Type 0
IsEntry base i (answers.Hypothesis j) = Resolves base i (label_at base j) (answers.Hypothesis j)
IsEntry base i (answers.Assertion j) = Resolves base i (label_at base j) (answers.Assertion j)
IsEntry base i answers.Inactive = Unit {0}
IsEntry base i answers.Unknown = Unit {0}

-- the label of each entry means there what the entry says
abbrev pub AreEntries : BaseView → ℕ → List Resolved → Type 0
AreEntries base i labels = AllByRecursion (IsEntry base i) labels

-- the labels of items
abbrev pub labels_at : BaseView → List ℕ → List (List ℕ)
labels_at base numbers = map (label_at base) numbers

-- a word of a normal proof as a step: a label, or `?`
abbrev pub word_step : List ℕ → Step
word_step word = if bytes_eq word (codes "?") then NotKnown else Named word

-- what the table of a proof has: the mandatory hypotheses and the listed labels, or each word
abbrev pub label_table : List (List ℕ) → List (List ℕ) → List Step
label_table mandatory words = if is_compressed words then map Named (mandatory ++ before_first is_close (drop 1 words)) else map word_step words

-- the steps of a decoding, with their spots, and the spot after these words
abbrev pub decoded_steps : BaseView → Decoding → List (List ℕ) → Decoded
decoded_steps base d words = record {
  steps = map (λ step. meant (entry_steps base d.labels.items) step.action) d.steps.items;
  spots = map (λ step. step.spot) d.steps.items;
  close = word_spot (length words);
}

-- a fault that is reported is the fault; running out of memory is none
abbrev pub TellsFault : Undecoded → Result Decoded ProofFault → Type 0
TellsFault (errors.Fault fault) decoding = decoding ≡ Err fault
TellsFault errors.Memory decoding = Unit {0}
