-- The verdict on the proof of an item of a base.
use Rattle.std.{proofs.{lemmas.Grind.{elements, common_steps}, Common.{arith, ◌≡◌, ℕ, Result, Ok, Err, List, [], ◌∷◌, map, refl, sym, ◌∙◌, subst, ◌↔◌, length}}, specs.List.{AllZip, AllByRecursion}}
use Rattle.mm_frame.specs.Language.{Base.{BaseView, AreLabelled, before, said_at, hypothesis_at, frame_at}, Framing.{mandatory_numbers}}
use Rattle.mm_machine.specs.Language.{Frame.{Symbol, Setting}, Typing.{HasFrames}, Machine.{IsUsable, AreDecoded}, Verdict.{Decoded, StepsDerive, IsVerdict}}
use Rattle.mm_machine.specs.{Language.Laws.{HasCount, HasOneCount, HasOneVerdict, HasVerdict, ProvedIsDerived}, declared.{Verdict.{Verdict, TheVariants.{Proved, Wrong}}, step.ProofFault.{ProofFault}}}
use Rattle.mm_verdict.specs.Language.{BaseLabels.{label_at, setting_at, AreActive}, Decoding.{decoding}, ItemLaws.{MeansHypothesis, IsDerivedAt}}
use Rattle.mm_verdict.specs.Language.{VerdictAt.{mandatory_labels, statement_at, decoding_at, IsVerdictAt, AreDoneIn, AreDoneAt}, DecodingLaws.{DecodesSurely}}
use Rattle.mm_verdict.proofs.lemmas.base.BaseLemmas.{mandatory_are_active}
use Rattle.mm_frame.specs.Language.Laws as frame

-- labels of active hypotheses mean them
active_mean : (view : BaseView) (i : ℕ) (numbers : List ℕ) → AreActive view i numbers → AllZip (MeansHypothesis (setting_at view i)) (map (label_at view) numbers) (map (hypothesis_at view) numbers)
active_mean view i [] a = tt
active_mean view i (n ∷ numbers) a = (a.0.1, active_mean view i numbers a.1)

pub labels_mean : frame.ItemsHaveLabels → frame.MandatoryMeans → frame.MandatoryStandBefore → (view : BaseView) (i : ℕ) → AreLabelled view → AllZip (MeansHypothesis (setting_at view i)) (mandatory_labels view i) (frame_at view i).hypotheses
labels_mean has means stand view i said = grind (arith, common_steps, active_mean, mandatory_are_active) steps 200000

-- they can be used
pub active_usable : (view : BaseView) (i : ℕ) (numbers : List ℕ) → AreActive view i numbers → AllByRecursion (λ label. IsUsable ((setting_at view i).resolve label)) (map (label_at view) numbers)
active_usable view i [] a = tt
active_usable view i (n ∷ numbers) a = (subst IsUsable (sym a.0.1) tt, active_usable view i numbers a.1)

-- what holds of a fault, and of what decoding makes sure of, holds of what a proof decodes to
of_decoding :
    (P : Result Decoded ProofFault → Type 0) → DecodesSurely → (place : Setting) (mandatory words : List (List ℕ)) → AllByRecursion
    (λ label. IsUsable (place.resolve label)) mandatory →
    ((fault : ProofFault) → P (Err fault)) → ((d : Decoded) → AreDecoded place d.steps → length d.spots ≡ length d.steps → P (Ok d)) →
    (found : Result Decoded ProofFault) → decoding place mandatory words ≡ found → P found
of_decoding P sure place mandatory words usable bad good (Err fault) e = bad fault
of_decoding P sure place mandatory words usable bad good (Ok d) e = let s = sure place mandatory words d usable e in good d s.0 s.1

pub has_verdict_at : DecodesSurely → HasVerdict → frame.PlacesHaveFrames → frame.ItemsHaveLabels → frame.MandatoryMeans → frame.MandatoryStandBefore → (view : BaseView) (i : ℕ) → AreLabelled view → (v : Verdict) × IsVerdictAt view i v
has_verdict_at sure has_one frames has means stand view i said =
    let usable = active_usable view i (mandatory_numbers (before view i) (said_at view i)) (mandatory_are_active has means stand view i said) in
    of_decoding (λ found. (v : Verdict) × IsVerdict (setting_at view i) (statement_at view i) found v) sure (setting_at view i) (mandatory_labels view i)
    (said_at view i).proof usable
    (λ fault. (Wrong fault.number fault.spot, refl)) (has_one (setting_at view i) (frames view i) (statement_at view i)) (decoding_at view i) refl

pub one_verdict_at : HasOneVerdict → frame.PlacesHaveFrames → (view : BaseView) (i : ℕ) (v w : Verdict) → IsVerdictAt view i v → IsVerdictAt view i w → v ≡ w
one_verdict_at one frames view i v w p q = one (setting_at view i) (frames view i) (statement_at view i) (decoding_at view i) v w p q

-- what Proved says of what a proof decodes to
abbrev IsDerivedBy : Setting → List Symbol → Result Decoded ProofFault → Type 0
IsDerivedBy place statement found = (d : Decoded) × (found ≡ Ok d) × StepsDerive place d.steps statement

proved_by : ProvedIsDerived → (place : Setting) (statement : List Symbol) (found : Result Decoded ProofFault) → IsVerdict place statement found Proved ↔ IsDerivedBy place statement found
proved_by derived place statement (Err fault) = grind (arith, elements) steps 200000
proved_by derived place statement (Ok d) = grind (arith, common_steps, (derived place statement d).0) steps 200000

pub proved_at : ProvedIsDerived → (view : BaseView) (i : ℕ) → IsVerdictAt view i Proved ↔ IsDerivedAt view i
proved_at derived view i = proved_by derived (setting_at view i) (statement_at view i) (decoding_at view i)

one_count_in : HasOneCount → (place : Setting) → HasFrames place → (found : Result Decoded ProofFault) (a b : ℕ) → AreDoneIn place found a → AreDoneIn place found b → a ≡ b
one_count_in one place is (Err fault) a b p q = p ∙ sym q
one_count_in one place is (Ok d) a b p q = one place is d.steps a b p q

pub one_count_at : HasOneCount → frame.PlacesHaveFrames → (view : BaseView) (i a b : ℕ) → AreDoneAt view i a → AreDoneAt view i b → a ≡ b
one_count_at one frames view i a b p q = one_count_in one (setting_at view i) (frames view i) (decoding_at view i) a b p q

-- of what a proof decodes to some steps are done
pub has_count_at :
    DecodesSurely → HasCount → frame.PlacesHaveFrames → frame.ItemsHaveLabels → frame.MandatoryMeans → frame.MandatoryStandBefore →
    (view : BaseView) (i : ℕ) → AreLabelled view → (count : ℕ) × AreDoneAt view i count
has_count_at sure has_one frames has means stand view i said =
    let usable = active_usable view i (mandatory_numbers (before view i) (said_at view i)) (mandatory_are_active has means stand view i said) in
    of_decoding (λ found. (count : ℕ) × AreDoneIn (setting_at view i) found count) sure (setting_at view i) (mandatory_labels view i) (said_at view i).proof
    usable
    (λ fault. (0, refl)) (λ d s l. has_one (setting_at view i) (frames view i) d.steps s) (decoding_at view i) refl
