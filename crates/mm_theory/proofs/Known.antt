-- What lower crates promise of databases, as the proofs here use it: each is the contract of a law there.
use Rattle.mm_frame.specs.Language.Laws.{SoundItemsStand, FloatsAreTypings, FloatsAgree, AssertionsHaveFrames, FramesHavePairs, PairsAreOfTwo, MandatoryStandBefore, HasItemOrIsUnknown, AssertionsMean}
use Rattle.mm_frame.specs.Language.Laws.{ActiveHypothesesMean, EndedHypothesesMean}

-- of the statements of a database
pub record KnownStatements : Type 0 where
  pub stand : SoundItemsStand
  pub read : FloatsAreTypings
  pub agree : FloatsAgree
  pub typed : AssertionsHaveFrames
  pub mandatory : MandatoryStandBefore

-- of its labels and pairs
pub record KnownMeanings : Type 0 where
  pub one : HasItemOrIsUnknown
  pub assertions : AssertionsMean
  pub active : ActiveHypothesesMean
  pub ended : EndedHypothesesMean
  pub pairs : FramesHavePairs
  pub two : PairsAreOfTwo
