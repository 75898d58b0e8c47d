-- What the code keeps of the labels of a proof.
use Rattle.std.specs.Prelude.{◌≡◌, ◌<◌, ℕ, ◌+◌, Result, Err, List, ◌++◌, length, map, take, drop, false}
use Rattle.std.specs.List.{list_any, before_first}
use Rattle.mm_frame.specs.declared.base.Resolved.{Resolved}
use Rattle.mm_machine.specs.declared.ProofNumber.{ProofNumber}
use Rattle.mm_verdict.specs.declared.undecoded.Undecoded.{Undecoded}
use Rattle.mm_verdict.specs.declared.undecoded.Undecoded.TheVariants as errors
use Rattle.mm_frame.specs.Language.Base.{BaseView}
use Rattle.mm_frame.specs.Language.Answering.{IsBase}
use Rattle.mm_frame.specs.declared.base.Base.{Base}
use Rattle.mm_verdict.specs.Language.BaseLabels.{setting_at}
use Rattle.mm_machine.specs.Language.Expansion.{Step, Named}
use Rattle.mm_verdict.specs.Language.DecodedSteps.{entry_steps, AreEntries, word_step}
use Rattle.mm_verdict.specs.Language.Decoding.{word_spot, compressed_steps, letter_steps, in_order, readings_of_words, read_word, is_close}
use Rattle.mm_verdict.specs.Code.LeftToRight.{list_on, with_steps}
use Rattle.mm_verdict.specs.Code.Coded.{TellsSteps, meant_steps}
use Rattle.mm_verdict.specs.Code.Left.{AreLeft}
use Rattle.mm_machine.specs.declared.step.ProofStep.{ProofStep}

-- this holds in each view that the base stands for
abbrev pub InViews : Base → (BaseView → Type 0) → Type 0
InViews code holds = (view : BaseView) → IsBase view code → holds view

-- a fault that is reported is that of a word
abbrev pub TellsWord : Undecoded → ℕ → Result Step ProofNumber → Type 0
TellsWord (errors.Fault fault) n read = (read ≡ Err fault.number) × (fault.spot ≡ word_spot n)
TellsWord errors.Memory n read = Unit {0}

-- before the list: these words are left after the `(`, and the entries are those of the mandatory hypotheses
pub record BeginsTable (base : BaseView) (i : ℕ) (mandatory words behind : List (List ℕ)) (labels : List Resolved) : Type 0 where
  pub left : AreLeft words behind 1
  pub labels_are : entry_steps base labels ≡ map Named mandatory
  pub entries : AreEntries base i labels

-- this holds of each such proof at an item of the base
abbrev pub FromBegin : Base → ℕ → List (List ℕ) → List Resolved → (BaseView → List (List ℕ) → List (List ℕ) → Type 0) → Type 0
FromBegin code i behind labels holds =
    (base : BaseView) (mandatory words : List (List ℕ)) → IsBase base code → BeginsTable base i mandatory words behind labels → holds base mandatory words

-- a fault that is reported is that of the compressed proof
abbrev pub TellsListed : Undecoded → BaseView → ℕ → List (List ℕ) → List (List ℕ) → Type 0
TellsListed e base i mandatory words = TellsSteps e (compressed_steps (setting_at base i) mandatory (drop 1 words) (word_spot (length words)))

-- the labels that were listed before word n, and what the words from there on give
pub record Lists (base : BaseView) (i : ℕ) (mandatory words : List (List ℕ)) (n : ℕ) (labels : List Resolved) : Type 0 where
  pub listed : List (List ℕ)
  pub labels_are : entry_steps base labels ≡ map Named (mandatory ++ listed)
  pub entries : AreEntries base i labels
  pub before : drop 1 words ≡ listed ++ drop n words
  pub open_yet : list_any is_close listed ≡ false
  pub rest :
      compressed_steps (setting_at base i) mandatory (drop 1 words) (word_spot (length words))
      ≡ list_on (setting_at base i) mandatory (word_spot (length words)) listed n (drop n words)

-- the labels that are listed before the `)`, which is word n, and what the letters give
pub record IsListed (base : BaseView) (i : ℕ) (mandatory words : List (List ℕ)) (n : ℕ) (labels : List Resolved) : Type 0 where
  pub listed : List (List ℕ)
  pub labels_are : entry_steps base labels ≡ map Named (mandatory ++ listed)
  pub entries : AreEntries base i labels
  pub within : n < length words
  pub whole : before_first is_close (drop 1 words) ≡ listed
  pub rest :
      compressed_steps (setting_at base i) mandatory (drop 1 words) (word_spot (length words))
      ≡ letter_steps mandatory listed (n + 1) (drop (n + 1) words) (word_spot (length words))

-- what the words of a normal proof before word n gave, and what those from there on give, however many labels follow
pub record Normal (base : BaseView) (i : ℕ) (words : List (List ℕ)) (n : ℕ) (labels : List Resolved) (steps : List ProofStep) : Type 0 where
  pub count : length labels ≡ n
  pub entries : AreEntries base i labels
  pub table : entry_steps base labels ≡ map word_step (take n words)
  pub rest :
      (more : List Step) →
      with_steps (meant_steps (entry_steps base labels ++ more) steps) (in_order (readings_of_words (read_word (setting_at base i)) n (drop n words)))
      ≡ in_order (readings_of_words (read_word (setting_at base i)) 0 words)
