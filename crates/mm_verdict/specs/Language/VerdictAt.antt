-- The verdict on the proof of an item of a base, its decoding included; which of its words cite, and how many of its steps are done.
use Rattle.std.specs.Prelude.{◌≡◌, ℕ, Result, Ok, Err, List, map}
use Rattle.mm_frame.specs.Language.Base.{BaseView, before, said_at}
use Rattle.mm_frame.specs.Language.Framing.{expression, mandatory_numbers}
use Rattle.mm_machine.specs.Language.Frame.{Symbol, Setting}
use Rattle.mm_verdict.specs.Language.BaseLabels.{label_at, setting_at}
use Rattle.mm_verdict.specs.Language.Citing.{cites}
use Rattle.mm_verdict.specs.Language.Decoding.{decoding}
use Rattle.mm_machine.specs.Language.Run.{AreDone}
use Rattle.mm_machine.specs.Language.Verdict.{Decoded, IsVerdict}
use Rattle.mm_machine.specs.declared.Verdict.{Verdict}
use Rattle.mm_machine.specs.declared.step.ProofFault.{ProofFault}

-- the labels of the mandatory hypotheses of the item with this number, in order
abbrev pub mandatory_labels : BaseView → ℕ → List (List ℕ)
mandatory_labels view i = map (label_at view) (mandatory_numbers (before view i) (said_at view i))

-- the expression that the proof of the item with this number has to derive: the item's symbols, as they are after the sound items before it
abbrev pub statement_at : BaseView → ℕ → List Symbol
statement_at view i = expression (before view i) (said_at view i)

-- what the proof of the item with this number decodes to
abbrev pub decoding_at : BaseView → ℕ → Result Decoded ProofFault
decoding_at view i = decoding (setting_at view i) (mandatory_labels view i) (said_at view i).proof

-- the verdict on the proof of the item with this number
abbrev pub IsVerdictAt : BaseView → ℕ → Verdict → Type 0
IsVerdictAt view i verdict = IsVerdict (setting_at view i) (statement_at view i) (decoding_at view i) verdict

-- the numbers of the words that cite, of the proof of the item with this number
abbrev pub cites_at : BaseView → ℕ → List ℕ
cites_at view i = cites (setting_at view i) (said_at view i).proof (decoding_at view i)

-- this many steps of what decoding gives are done; none if decoding finds a fault
abbrev pub AreDoneIn : Setting → Result Decoded ProofFault → ℕ → Type 0
AreDoneIn place (Err fault) count = count ≡ 0
AreDoneIn place (Ok d) count = AreDone place d.steps count

-- this many steps of the proof of the item with this number are done
abbrev pub AreDoneAt : BaseView → ℕ → ℕ → Type 0
AreDoneAt view i count = AreDoneIn (setting_at view i) (decoding_at view i) count
