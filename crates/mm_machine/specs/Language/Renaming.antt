-- Renaming of symbols, one to one, and what it makes of frames and of what labels mean.
use Rattle.std.specs.Prelude.{◌≡◌, ℕ, List, map}
use Rattle.mm_machine.specs.Language.Frame.{Symbol, Mandatory, Frame, LabelMeaning, Hypothesis, Assertion, Inactive, Unknown, Setting, AreSamePairs}
use Rattle.mm_machine.specs.Language.SameProof.{AreSameMeaning}

-- the one gives each symbol a symbol of its kind, and the other gives it back
pub record IsRenaming (to back : Symbol → Symbol) : Type 0 where
  pub there : (s : Symbol) → back (to s) ≡ s
  pub again : (s : Symbol) → to (back s) ≡ s
  pub kinds : (s : Symbol) → (to s).variable ≡ s.variable

-- a pair with both symbols renamed
abbrev pub renamed_pair : (Symbol → Symbol) → Symbol × Symbol → Symbol × Symbol
renamed_pair to pair = (to pair.0, to pair.1)

-- pairs with their symbols renamed
abbrev pub renamed_pairs : (Symbol → Symbol) → List (Symbol × Symbol) → List (Symbol × Symbol)
renamed_pairs to pairs = map (renamed_pair to) pairs

-- a hypothesis with its symbols renamed
abbrev pub renamed_mandatory : (Symbol → Symbol) → Mandatory → Mandatory
renamed_mandatory to h = record h { expression = map to h.expression }

-- a frame with all its symbols renamed
abbrev pub renamed_frame : (Symbol → Symbol) → Frame → Frame
renamed_frame to frame = record {
  expression = map to frame.expression;
  hypotheses = map (renamed_mandatory to) frame.hypotheses;
  pairs = renamed_pairs to frame.pairs;
}

-- what a label means, with all symbols renamed
abbrev pub renamed_meaning : (Symbol → Symbol) → LabelMeaning → LabelMeaning
renamed_meaning to (Hypothesis e) = Hypothesis (map to e)
renamed_meaning to (Assertion frame) = Assertion (renamed_frame to frame)
renamed_meaning to Inactive = Inactive
renamed_meaning to Unknown = Unknown

-- the labels of both places mean the same but for the names of symbols, and so do the active pairs
pub record IsRenamedSetting (to : Symbol → Symbol) (place other : Setting) : Type 0 where
  pub resolve : (label : List ℕ) → AreSameMeaning (renamed_meaning to (place.resolve label)) (other.resolve label)
  pub active : AreSamePairs (renamed_pairs to place.active) other.active

-- the setting whose symbols are renamed
abbrev pub renamed_setting : (Symbol → Symbol) → Setting → Setting
renamed_setting to place = record { resolve = λ label. renamed_meaning to (place.resolve label); active = renamed_pairs to place.active }
