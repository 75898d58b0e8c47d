-- Equal views have equal verdicts, and their proofs cite by the same words.
use Rattle.std.{proofs.{Common.{rules, arith, ℕ, Result, Ok, Err, List, [], ◌∷◌, map, sym, subst}, lemmas.Grind.{common_steps}}, specs.List.{AllZip, AllByRecursion}}
use Rattle.mm_frame.specs.{Language.{Base.{BaseView, AreLabelled, before, said_at, frame_at}, Framing.{resolve}}, mm_machine.Language.Frame.{Symbol, Mandatory, Setting, LabelMeaning}}
use Rattle.mm_proof.specs.{Code.KeptMarks.{ShareHypotheses, SharePairs, ShareProof}, Language.ViewLaws.{SameViewSameCites, SameViewSameVerdict}}
use Rattle.mm_verdict.specs.Language.{BaseLabels.{setting_at}, Decoding.{decoding}, DecodingLaws.{SameCitesSame, SameDecodesSame}, ItemLaws.{MandatoryLabelsMean, MeansHypothesis}}
use Rattle.mm_verdict.specs.Language.{SameToDecode.{AreSameToDecode, IsSameHypothesis, labels_named}, VerdictAt.{mandatory_labels, statement_at, decoding_at}, View.{view_at, AreSameViews}}
use Rattle.mm_verdict.specs.mm_machine.{Language.{Laws.{SameProofSameVerdict}, SameProof.{AreSameMeaning, IsSameDecoding}, Verdict.{Decoded, IsVerdict}}, declared.Verdict.{Verdict}}
use Rattle.mm_verdict.specs.mm_machine.declared.step.ProofFault.{ProofFault}

-- labels that mean the same hypotheses, one by one
same_hypotheses :
    (place other : Setting) (mine yours : List (List ℕ)) (hs : List Mandatory) → AllZip (MeansHypothesis place) mine hs → AllZip (MeansHypothesis other) yours hs →
    AllZip (IsSameHypothesis place other) mine yours
same_hypotheses place other [] [] hs a b = tt
same_hypotheses place other [] (y ∷ yours) (h ∷ hs) a b = absurd a
same_hypotheses place other (x ∷ mine) yours [] a b = absurd a
same_hypotheses place other (x ∷ mine) (y ∷ yours) (h ∷ hs) a b = ((h.expression, a.0, b.0), same_hypotheses place other mine yours hs a.1 b.1)
same_hypotheses place other _ _ _ a b = absurd b

-- what each of these labels means
pub same_labels : (f g : List ℕ → LabelMeaning) (labels : List (List ℕ)) → AllZip AreSameMeaning (map f labels) (map g labels) → AllByRecursion (λ label. AreSameMeaning (f label) (g label)) labels
same_labels f g [] a = tt
same_labels f g (label ∷ labels) a = (a.0, same_labels f g labels a.1)

to_decode :
    MandatoryLabelsMean → (base copy : BaseView) (i j : ℕ) → AreLabelled base → AreLabelled copy → AreSameViews (view_at base i) (view_at copy j) →
    AreSameToDecode (setting_at base i) (setting_at copy j) (mandatory_labels base i) (mandatory_labels copy j) (said_at base i).proof
to_decode mean base copy i j f g v =
    let mine = resolve (before base i) in
    let yours = resolve (before copy j) in
    record {
      active = v.active;
      hypotheses =
          let there = subst (λ (hs : List Mandatory). AllZip (MeansHypothesis (setting_at copy j)) (mandatory_labels copy j) hs) (sym v.hypotheses) (mean copy j g) in
          same_hypotheses (setting_at base i) (setting_at copy j) (mandatory_labels base i) (mandatory_labels copy j) (frame_at base i).hypotheses (mean base i f) there;
      labels = same_labels mine yours (labels_named (said_at base i).proof)
          (subst (λ (words : List (List ℕ)). AllZip AreSameMeaning (map mine (labels_named (said_at base i).proof)) (map yours (labels_named words))) (sym v.proof) v.meanings);
    }

moved :
    SameProofSameVerdict → (place other : Setting) (statement : List Symbol) (a b : Result Decoded ProofFault) (v : Verdict) → IsSameDecoding place other a b →
    IsVerdict place statement a v → IsVerdict other statement b v
moved same place other statement (Ok a) (Ok b) v s h = same place other statement a b v s h
moved same place other statement (Err a) (Err b) v s h = subst (λ (fault : ProofFault). IsVerdict other statement (Err fault) v) s h
moved same place other statement _ _ v s h = absurd s

pub verdict_kept : MandatoryLabelsMean → SameDecodesSame → SameProofSameVerdict → SameViewSameVerdict
verdict_kept mean decodes same base copy i j f g v verdict h =
    let place = setting_at base i in
    let other = setting_at copy j in
    let mine = mandatory_labels base i in
    let yours = mandatory_labels copy j in
    let here = decodes place other mine yours (said_at base i).proof (to_decode mean base copy i j f g v) in
    let there = subst (λ (words : List (List ℕ)). IsSameDecoding place other (decoding_at base i) (decoding other yours words)) v.proof here in
    subst (λ (statement : List Symbol). IsVerdict other statement (decoding_at copy j) verdict) v.expression
    (moved same place other (statement_at base i) (decoding_at base i) (decoding_at copy j) verdict there h)

pub cites_kept : MandatoryLabelsMean → SameCitesSame → SameViewSameCites
cites_kept mean same base copy i j f g v = search (rules, to_decode mean base copy i j f g v)

-- ---- what is compared of two views

zip_labels : (f g : List ℕ → LabelMeaning) (labels : List (List ℕ)) → AllByRecursion (λ label. AreSameMeaning (f label) (g label)) labels → AllZip AreSameMeaning (map f labels) (map g labels)
zip_labels f g [] a = tt
zip_labels f g (label ∷ labels) a = (a.0, zip_labels f g labels a.1)

pub shared_view : (base copy : BaseView) (i j : ℕ) → ShareHypotheses base copy i j → SharePairs base copy i j → ShareProof base copy i j → AreSameViews (view_at base i) (view_at copy j)
shared_view base copy i j h s p = grind (arith, common_steps, zip_labels (resolve (before base i)) (resolve (before copy j)) (labels_named (said_at copy j).proof) p.labels) steps 200000

pub view_proof : (base copy : BaseView) (i j : ℕ) → AreSameViews (view_at base i) (view_at copy j) → ShareProof base copy i j
view_proof base copy i j v = grind (arith, common_steps, same_labels) steps 200000
