-- What Proved means, without the proof: labels derive the statement, whatever words the proof has and however they are read.
use Rattle.std.specs.Prelude.{◌≡◌, ℕ, true, List}
use Rattle.mm_proof.specs.mm_frame.Language.Base.{BaseView, is_proof_at}
use Rattle.mm_proof.specs.mm_machine.Language.Derivation.{Derives}
use Rattle.mm_proof.specs.mm_verdict.Language.BaseLabels.{setting_at}
use Rattle.mm_proof.specs.mm_verdict.Language.VerdictAt.{statement_at}
use Rattle.mm_keep.specs.Language.Sessions.{SessionView, OfItems, IsAssertion}

-- the item with this number is a sound `$p`, and some labels derive its statement
pub record IsDerivableAt (base : BaseView) (i : ℕ) : Type 0 where
  pub theorem : is_proof_at base i ≡ true
  pub labels : List (List ℕ)
  pub derive : Derives (setting_at base i) labels (statement_at base i)

-- the session's item with this number is a sound `$p`, and some labels derive its statement
abbrev pub IsDerivable : SessionView → ℕ → Type 0
IsDerivable session i = OfItems session (λ base. IsDerivableAt base i)

-- the session's assertion with this label is a `$p`, and some labels derive its statement
abbrev pub IsLabelDerivable : SessionView → List ℕ → Type 0
IsLabelDerivable session label = OfItems session (λ base. (i : ℕ) × IsAssertion base label i × IsDerivableAt base i)
