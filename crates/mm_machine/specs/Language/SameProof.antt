-- When two decoded proofs, at two places, are the same proof. Steps are compared by meaning, not by labels.
use Rattle.std.specs.Prelude.{◌≡◌, Result, Ok, Err}
use Rattle.std.specs.List.{AllZip}
use Rattle.mm_machine.specs.Language.Frame.{LabelMeaning, Hypothesis, Assertion, Inactive, Unknown, Setting, AreSamePairs, AreSameFrame}
use Rattle.mm_machine.specs.Language.Expansion.{Step, Named, Saved, Save, NotKnown}
use Rattle.mm_machine.specs.Language.Verdict.{Decoded}
use Rattle.mm_machine.specs.declared.step.ProofFault.{ProofFault}

-- a label means the same here and there: one expression, the same frame, or in both places inactive or unknown
abbrev pub AreSameMeaning : LabelMeaning → LabelMeaning → Type 0
AreSameMeaning (Hypothesis e) (Hypothesis f) = e ≡ f
AreSameMeaning (Assertion frame) (Assertion other) = AreSameFrame frame other
AreSameMeaning Inactive Inactive = Unit {0}
AreSameMeaning Unknown Unknown = Unit {0}
AreSameMeaning _ _ = ⊥

-- the two steps are the same, though a label may have another name
abbrev pub IsSameStep : Setting → Setting → Step → Step → Type 0
IsSameStep place other (Named a) (Named b) = AreSameMeaning (place.resolve a) (other.resolve b)
IsSameStep place other (Saved n) (Saved m) = n ≡ m
IsSameStep place other Save Save = Unit {0}
IsSameStep place other NotKnown NotKnown = Unit {0}
IsSameStep place other _ _ = ⊥

-- the two proofs are the same: they have the same active pairs, the same steps, and the same spots
pub record IsSameProof (place other : Setting) (proof copy : Decoded) : Type 0 where
  pub active : AreSamePairs place.active other.active
  pub steps : AllZip (IsSameStep place other) proof.steps copy.steps
  pub spots : proof.spots ≡ copy.spots
  pub close : proof.close ≡ copy.close

-- the two decodings give the same proof, or the same fault
abbrev pub IsSameDecoding : Setting → Setting → Result Decoded ProofFault → Result Decoded ProofFault → Type 0
IsSameDecoding place other (Ok proof) (Ok copy) = IsSameProof place other proof copy
IsSameDecoding place other (Err fault) (Err same) = fault ≡ same
IsSameDecoding place other _ _ = ⊥
