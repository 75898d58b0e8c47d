-- What is proved of formal systems: each is the contract of a function.
use Rattle.std.specs.Prelude.{◌≡◌, ◌↔◌, ◌⊎◌, ℕ, true, List, Contains}
use Rattle.mm_frame.specs.mm_machine.Language.Frame.{Symbol, Mandatory, Frame, ArePair}
use Rattle.mm_frame.specs.mm_machine.Language.Substitution.{substituted}
use Rattle.mm_frame.specs.mm_machine.declared.Verdict.TheVariants as verdicts
use Rattle.mm_frame.specs.Language.Base.{BaseView, frame_at, is_framed_at, is_proof_at}
use Rattle.mm_keep.specs.mm_verdict.Language.VerdictAt.{IsVerdictAt}
use Rattle.mm_keep.specs.Language.Citations.{IsAxiomOf, LeadsTo}
use Rattle.mm_keep.specs.Language.Resting.{RestsOn}
use Rattle.mm_keep.specs.Language.Sessions.{SessionView, OfItems, IsTally, IsAssertion, AreAxiomsOf}
use Rattle.mm_keep.specs.Language.Told.{Counts}
use Rattle.mm_theory.specs.Language.System.{System, AreApartBy, IsInClosure, MayBePaired, IsProvable, IsSystem, IsStatement}
use Rattle.mm_theory.specs.Language.Pairs.{IsProvableBy}
use Rattle.mm_theory.specs.Language.Databases.{system_of}

-- A statement is provable exactly if it is provable by some list of extra pairs.
abbrev pub ProvableByPairs : Type 0
ProvableByPairs = (system : System) (frame : Frame) → IsProvable system frame ↔ ((extra : List (Symbol × Symbol)) × IsProvableBy system frame extra)

-- the expression is in the closure in which a proof of the statement looks for its expression
abbrev pub Follows : System → Frame → List Symbol → Type 0
Follows system frame e = IsInClosure system (MayBePaired frame) frame.hypotheses e

-- a proof of the statement may cite another one with this substitution: what it makes of the other's hypotheses follows, and what it gives for
-- the variables of each of the other's pairs is kept apart
pub record MayBeCited (system : System) (frame cited : Frame) (given : Symbol → List Symbol) : Type 0 where
  pub hypotheses : (h : Mandatory) → Contains cited.hypotheses h → Follows system frame (substituted given h.expression)
  pub pairs : (v w : Symbol) → ArePair cited.pairs v w → AreApartBy (MayBePaired frame) (given v) (given w)

-- What a provable statement says follows wherever it may be cited.
abbrev pub ProvableActs : Type 0
ProvableActs =
    (system : System) (frame cited : Frame) (given : Symbol → List Symbol) → IsSystem system → IsStatement system cited
    → IsProvable system cited → MayBeCited system frame cited given → Follows system frame (substituted given cited.expression)

-- the same system, with provable statements among its axioms
pub record IsExtended (system more : System) : Type 0 where
  pub typecodes : (v : Symbol) → more.typecode v ≡ system.typecode v
  pub axioms : (frame : Frame) → Contains more.axioms frame → Contains system.axioms frame ⊎ (IsStatement system frame × IsProvable system frame)

-- Provable statements, added as axioms, make nothing more provable.
abbrev pub ProvableAddsNothing : Type 0
ProvableAddsNothing = (system more : System) → IsSystem system → IsExtended system more → (frame : Frame) → IsProvable more frame → IsProvable system frame

-- The variables of a database with their copies, and frames of its assertions, are a formal system.
abbrev pub DatabasesAreSystems : Type 0
DatabasesAreSystems = (base : BaseView) (axioms : List ℕ) → IsSystem (system_of base axioms)

-- The frame of a sound assertion is a statement of such a system.
abbrev pub FramesAreStatements : Type 0
FramesAreStatements = (base : BaseView) (axioms : List ℕ) (i : ℕ) → is_framed_at base i ≡ true → IsStatement (system_of base axioms) (frame_at base i)

-- What rests on axioms is provable in the formal system of these axioms.
abbrev pub RestingIsProvable : Type 0
RestingIsProvable = (base : BaseView) (axioms : List ℕ) (i : ℕ) → RestsOn base axioms i → IsProvable (system_of base axioms) (frame_at base i)

-- An assertion is provable from its axioms, if each theorem is proved to which chains of citations lead from it, itself included.
abbrev pub ProvedIsProvable : Type 0
ProvedIsProvable =
    (base : BaseView) (i : ℕ) (axioms : List ℕ) → is_framed_at base i ≡ true
    → ((k : ℕ) → IsAxiomOf base i k → Contains axioms k)
    → ((k : ℕ) → LeadsTo base k i → is_proof_at base k ≡ true → IsVerdictAt base k verdicts.Proved)
    → IsProvable (system_of base axioms) (frame_at base i)

-- the session's assertion with this label is provable in the formal system whose axioms are the assertions with these numbers
abbrev pub IsProvableFrom : SessionView → List ℕ → List ℕ → Type 0
IsProvableFrom session label numbers =
    OfItems session (λ base. (i : ℕ) × IsAssertion base label i × IsProvable (system_of base numbers) (frame_at base i))

-- In a session without a wrong and without an incomplete proof, each assertion is provable from its axioms, as they are answered.
abbrev pub CleanIsProvable : Type 0
CleanIsProvable =
    (session : SessionView) (counted : Counts) → IsTally session counted → counted.wrong ≡ 0 → counted.incomplete ≡ 0
    → (label : List ℕ) (numbers : List ℕ) → AreAxiomsOf session label numbers → IsProvableFrom session label numbers
