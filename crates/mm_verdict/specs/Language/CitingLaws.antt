-- What is proved of the words that cite: each is the contract of a function.
use Rattle.std.specs.Prelude.{◌≡◌, ◌↔◌, ℕ, true, Ok, Some, List, Contains, slice_get}
use Rattle.mm_frame.specs.Language.Base.{BaseView, AreLabelled, said_at, is_framed_at}
use Rattle.mm_frame.specs.Language.Resolving.{IsLabelOf}
use Rattle.mm_machine.specs.Language.Expansion.{Named}
use Rattle.mm_machine.specs.Language.Verdict.{Decoded}
use Rattle.mm_verdict.specs.Language.VerdictAt.{decoding_at, cites_at}

-- item i cites item k: a decoded step of its proof names a label, and that is the label of item k, a sound assertion before item i
pub record NamesAssertionAt (view : BaseView) (i k : ℕ) : Type 0 where
  pub decoded : Decoded
  pub decodes : decoding_at view i ≡ Ok decoded
  pub label : List ℕ
  pub named : Contains decoded.steps (Named label)
  pub means : IsLabelOf view i k label × (is_framed_at view k ≡ true)

-- word n of the proof of item i is one of those that cite, and the label of item k, a sound assertion before item i
pub record IsCiteOf (view : BaseView) (i n k : ℕ) : Type 0 where
  pub cites : Contains (cites_at view i) n
  pub label : List ℕ
  pub there : slice_get (said_at view i).proof n ≡ Some label
  pub means : IsLabelOf view i k label × (is_framed_at view k ≡ true)

-- Each word that cites is the label of an assertion.
abbrev pub CitesNameAssertions : Type 0
CitesNameAssertions = (view : BaseView) (i n : ℕ) → Contains (cites_at view i) n → (k : ℕ) × IsCiteOf view i n k

-- The words that cite are labels of exactly the assertions that decoded steps name.
abbrev pub CitesTellAssertions : Type 0
CitesTellAssertions = (view : BaseView) (i k : ℕ) → AreLabelled view → NamesAssertionAt view i k ↔ ((n : ℕ) × IsCiteOf view i n k)
