-- A proof that is decoded, and what a run says of it.
use Rattle.std.proofs.Common.{◌≡◌, ℕ, zero, suc, ◌<◌, false, cond, Some, Err, List, [], ◌∷◌, length, take, get_or, refl, sym, ◌∙◌, ap, subst, arith, inl, inr, slice_get, count_by}
use Rattle.std.{proofs.lemmas.{Grind.{common_steps, elements}, List.{take-map, Sums.{sum_by-cons}}, Option.{slice_get-map}}, specs.Option.{option_map}}
use Rattle.mm_frame.specs.{declared.base.{Base.{Base}, Resolved.{Resolved}}, Language.{Base.{BaseView, before, said_at}, Framing.{mandatory_numbers}}}
use Rattle.mm_machine.specs.Language.{Frame.{Symbol, Setting}, Expansion.{Step, Saved, NotKnown}, Machine.{AreDecoded, is_save}, Run.{AreDone}}
use Rattle.mm_machine.specs.{Language.NamedSteps.{meant, AreSavedBefore, IsSavedWithin, RunSays, actions_mean, saves_by, saves_in}, declared.step.{Action.{Action}, ProofStep.{ProofStep}}}
use Rattle.mm_machine.specs.declared.{step.ProofFault.{ProofFault}, stepping.RunOutcome.{RunOutcome, TheVariants.{Proved, Fault, Unknown, NotOne, Other}}, Verdict.TheVariants.{Wrong}}
use Rattle.mm_verdict.specs.Language.{BaseLabels.{setting_at}, DecodingLaws.{DecodesSurely, MandatoryAreActive}, VerdictAt.{mandatory_labels, decoding_at}, DecodedSteps.{decoded_steps, entry_steps}}
use Rattle.mm_verdict.specs.{Code.{Judged.{IsDecoding, done_by}, DecodedProof.{IsJudgedProof}}, declared.{decoding.Decoding.{Decoding}, work.Checked.{Checked}}}
use Rattle.mm_verdict.proofs.lemmas.verdicts.ItemLemmas.{active_usable}
use Rattle.mm_machine.specs.declared.step.Action.TheVariants as actions

-- ---- entries

-- no entry is a save
entry_saves : (view : BaseView) (labels : List Resolved) (k : ℕ) → is_save (get_or (entry_steps view labels) k NotKnown) ≡ false
entry_saves view [] k = refl
entry_saves view (l ∷ labels) zero = grind (arith, elements) steps 200000
entry_saves view (l ∷ labels) (suc k) = entry_saves view labels k

-- ---- saves

one_saves : (view : BaseView) (labels : List Resolved) (action : Action) → cond (is_save (meant (entry_steps view labels) action)) 1 0 ≡ saves_by action
one_saves view labels (actions.Label k) = ap (λ b. cond b 1 0) (entry_saves view labels k)
one_saves view labels _ = refl

saves_count : (view : BaseView) (labels : List Resolved) (steps : List ProofStep) → count_by is_save (actions_mean (entry_steps view labels) steps) ≡ saves_in steps
saves_count view labels [] = refl
saves_count view labels (step ∷ steps) = grind (arith, common_steps, one_saves view labels step.action, saves_count view labels steps, sum_by-cons) steps 200000

-- what decoding makes sure of, said of the code's steps
pub saved_before : (place : Setting) (view : BaseView) (labels : List Resolved) (steps : List ProofStep) → AreDecoded place (actions_mean (entry_steps view labels) steps) → AreSavedBefore steps
saved_before place view labels steps decoded n step at = by_action step.action refl
  where
    counted : count_by is_save (take n (actions_mean (entry_steps view labels) steps)) ≡ saves_in (take n steps)
    counted = ap (count_by is_save) (take-map (λ (s : ProofStep). meant (entry_steps view labels) s.action) n steps) ∙ saves_count view labels (take n steps)

    by_action : (action : Action) → step.action ≡ action → IsSavedWithin (saves_in (take n steps)) action
    by_action (actions.Saved k) e =
        let there : slice_get (actions_mean (entry_steps view labels) steps) n ≡ Some (Saved k) =
        slice_get-map (λ (s : ProofStep). meant (entry_steps view labels) s.action) steps n ∙ ap (λ o. option_map (λ (s : ProofStep). meant (entry_steps view labels) s.action) o) at ∙ ap (λ a. Some (meant (entry_steps view labels) a)) e in
        subst (λ m. k < m) counted (decoded.saved n k there)
    by_action _ e = tt

pub decoded_saved : MandatoryAreActive → DecodesSurely → (code : Base) (i : ℕ) (proof : List (List ℕ)) (d : Decoding) (view : BaseView) → IsDecoding code i proof d view → AreSavedBefore d.steps.items
decoded_saved active sure code i proof d view is =
    let usable = active_usable view i (mandatory_numbers (before view i) (said_at view i)) (active view i is.theorem.said) in
    saved_before (setting_at view i) view d.labels.items d.steps.items (sure (setting_at view i) (mandatory_labels view i) (said_at view i).proof (decoded_steps view d proof) usable is.decodes).0

-- ---- what is judged

-- a fault of decoding is the verdict, with no word that cites and no step that is done
pub fault_judged : (view : BaseView) (i : ℕ) (fault : ProofFault) (judged : Checked) → judged.verdict ≡ Wrong fault.number fault.spot → judged.cites ≡ [] → decoding_at view i ≡ Err fault → IsJudgedProof view i (judged, 0)
fault_judged view i fault judged verdict cited is = grind (arith, common_steps) steps 200000

-- ---- steps that are done

pub done_says : (place : Setting) (statement : List Symbol) (steps : List Step) (outcome : RunOutcome) → RunSays place steps statement outcome → AreDone place steps (done_by (length steps) outcome)
done_says place statement steps Proved r = inr ((statement ∷ [], rw r.0 r.1), sym (ap length r.0))
done_says place statement steps (Fault number n) r = inl (n, number, r, refl)
done_says place statement steps (Unknown n) r = inr (r.2, r.0)
done_says place statement steps NotOne r = inr ((r.1, rw r.0 r.2), sym (ap length r.0))
done_says place statement steps Other r = inr ((r.1 ∷ [], rw r.0 r.2), sym (ap length r.0))
