-- What holds before a proof is checked, and what a check of it answers and records.
use Rattle.std.specs.Prelude.{◌≡◌, ◌<◌, ◌≤◌, ◌+◌, ◌++◌, ◌∷◌, ◌^◌, [], ℕ, List, Result, IfOk, OnOk, OnErr}
use Rattle.std.specs.declared.alloc.AllocError.{AllocError}
use Rattle.mm_frame.specs.mm_store.Language.FilesView.{FilesView}
use Rattle.mm_frame.specs.Language.Answering.{BaseAnswers}
use Rattle.mm_verdict.specs.Language.ReadIn.{HasTheorem, OfTheorem}
use Rattle.mm_verdict.specs.Language.VerdictAt.{IsVerdictAt, AreDoneAt, cites_at}
use Rattle.mm_verdict.specs.Language.Work.{Judgement, Recorded}

-- the item with this number is a theorem, and one more run can be recorded, with as many steps as it can have
pub record CanCheck (names : List (List ℕ)) (files : FilesView) (base : BaseAnswers) (i : ℕ) (work : Recorded) : Type 0 where
  pub theorem : HasTheorem names files base i
  pub room : 0 < work.room
  pub steps : work.steps + 4294967295 < 2 ^ 64

-- the verdict is that on the item's proof, its decoding included, and the words are those that cite; one more run is recorded, with the
-- steps that are done in it, or nothing if memory runs out
pub record IsCheck (names : List (List ℕ)) (files : FilesView) (base : BaseAnswers) (i : ℕ)
    (before : Recorded) (result : Result Judgement AllocError) (after : Recorded) : Type 0 where
  pub verdict : IfOk result (λ checked. OfTheorem names files base i (λ view. IsVerdictAt view i checked.verdict))
  pub cites : IfOk result (λ checked. OfTheorem names files base i (λ view. checked.cites ≡ cites_at view i))
  pub run : OnOk result (after.runs ≡ before.runs ++ i ∷ [])
  pub room : OnOk result (after.room + 1 ≡ before.room)
  pub done : OnOk result (OfTheorem names files base i (λ view.
      (n : ℕ) × AreDoneAt view i n × (n ≤ 4294967295) × (after.steps ≡ before.steps + n)))
  pub memory : OnErr result (after ≡ before)
