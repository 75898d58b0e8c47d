-- What is proved of views: each is the contract of a function.
use Rattle.std.specs.Prelude.{◌≡◌, ℕ}
use Rattle.mm_frame.specs.Language.Base.{BaseView, AreLabelled}
use Rattle.mm_verdict.specs.Language.View.{view_at, AreSameViews}
use Rattle.mm_verdict.specs.Language.VerdictAt.{IsVerdictAt, cites_at}
use Rattle.mm_verdict.specs.mm_machine.declared.Verdict.{Verdict}

-- Two theorems with equal views have equal verdicts, spots included, in any two databases.
abbrev pub SameViewSameVerdict : Type 0
SameViewSameVerdict =
    (base copy : BaseView) (i j : ℕ) → AreLabelled base → AreLabelled copy → AreSameViews (view_at base i) (view_at copy j) →
    (v : Verdict) → IsVerdictAt base i v → IsVerdictAt copy j v

-- In two theorems with equal views the same words of the proofs cite.
abbrev pub SameViewSameCites : Type 0
SameViewSameCites =
    (base copy : BaseView) (i j : ℕ) → AreLabelled base → AreLabelled copy → AreSameViews (view_at base i) (view_at copy j) →
    cites_at base i ≡ cites_at copy j
