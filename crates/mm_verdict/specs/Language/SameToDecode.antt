-- What makes two proofs decode to the same, at two places.
use Rattle.std.specs.Prelude.{◌≡◌, ℕ, List, filter, bytes_eq, codes, not, drop, if◌then◌else◌}
use Rattle.std.specs.List.{AllZip, AllByRecursion, before_first}
use Rattle.mm_machine.specs.Language.Frame.{Symbol, Hypothesis, Setting, AreSamePairs}
use Rattle.mm_machine.specs.Language.SameProof.{AreSameMeaning}
use Rattle.mm_verdict.specs.Language.Decoding.{is_compressed, is_close}

-- the labels that the words of a proof name: those of a normal one except `?`, or those of a compressed one after the `(` up to the first
-- `)`
abbrev pub labels_named : List (List ℕ) → List (List ℕ)
labels_named words = if is_compressed words then before_first is_close (drop 1 words) else filter (λ word. not (bytes_eq word (codes "?"))) words

-- the mandatory hypotheses have the same expression at both places, though their labels may differ
abbrev pub IsSameHypothesis : Setting → Setting → List ℕ → List ℕ → Type 0
IsSameHypothesis place other a b = (e : List Symbol) × (place.resolve a ≡ Hypothesis e) × (other.resolve b ≡ Hypothesis e)

-- the label means the same at both places
abbrev pub IsSameLabel : Setting → Setting → List ℕ → Type 0
IsSameLabel place other label = AreSameMeaning (place.resolve label) (other.resolve label)

-- what decoding sees of a view: the active pairs, what the mandatory hypotheses are, and what the labels mean that the words name
pub record AreSameToDecode (place other : Setting) (mandatory others words : List (List ℕ)) : Type 0 where
  pub active : AreSamePairs place.active other.active
  pub hypotheses : AllZip (IsSameHypothesis place other) mandatory others
  pub labels : AllByRecursion (IsSameLabel place other) (labels_named words)
