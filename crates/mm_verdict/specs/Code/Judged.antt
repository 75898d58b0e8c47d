-- A theorem whose proof is judged, and what a run says of it.
use Rattle.std.specs.Prelude.{◌≡◌, ℕ, ◌+◌, ◌<◌, true, List, Ok, length}
use Rattle.mm_frame.specs.declared.base.Base.{Base}
use Rattle.mm_frame.specs.Language.Base.{BaseView, AreLabelled, said_at, is_proof_at}
use Rattle.mm_frame.specs.Language.Answering.{IsBase}
use Rattle.mm_verdict.specs.Language.VerdictAt.{decoding_at, mandatory_labels}
use Rattle.mm_verdict.specs.Language.DecodedSteps.{decoded_steps, AreEntries, entry_steps, label_table}
use Rattle.mm_verdict.specs.declared.decoding.Decoding.{Decoding}
use Rattle.mm_machine.specs.declared.stepping.RunOutcome.{RunOutcome}
use Rattle.mm_machine.specs.declared.stepping.RunOutcome.TheVariants.{Proved, Fault, Unknown, NotOne, Other}

-- the code's base answers this, by what its items' words say, and the item with this number is a sound `$p` with a proof of
-- these words
pub record IsTheorem (code : Base) (i : ℕ) (proof : List (List ℕ)) (view : BaseView) : Type 0 where
  pub base : IsBase view code
  pub said : AreLabelled view
  pub is_sound : is_proof_at view i ≡ true
  pub says : (said_at view i).proof ≡ proof

-- this holds in each such view of the base
abbrev pub OfProof : Base → ℕ → List (List ℕ) → (BaseView → Type 0) → Type 0
OfProof code i proof holds = (view : BaseView) → IsTheorem code i proof view → holds view

-- there is such a view of the base
abbrev pub HasProof : Base → ℕ → List (List ℕ) → Type 0
HasProof code i proof = (view : BaseView) × IsTheorem code i proof view × (i < length view)

-- it has such a theorem, and its proof decodes to this
pub record IsDecoding (code : Base) (i : ℕ) (proof : List (List ℕ)) (d : Decoding) (view : BaseView) : Type 0 where
  pub theorem : IsTheorem code i proof view
  pub decodes : decoding_at view i ≡ Ok (decoded_steps view d proof)
  pub entries : AreEntries view i d.labels.items
  pub table : entry_steps view d.labels.items ≡ label_table (mandatory_labels view i) proof

-- how many of this many steps are done
abbrev pub done_by : ℕ → RunOutcome → ℕ
done_by steps Proved = steps
done_by steps (Fault number n) = n + 1
done_by steps (Unknown n) = n
done_by steps NotOne = steps
done_by steps Other = steps
