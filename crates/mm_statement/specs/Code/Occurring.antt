-- Bytes that occur in others.
use Rattle.std.specs.Prelude.{◌≡◌, ℕ, List, slice_range}

-- these bytes occur one after another in the text
abbrev pub OccurIn : List ℕ → List ℕ → Type 0
OccurIn text bytes = (from : ℕ) × (to : ℕ) × (slice_range text from to ≡ bytes)
