-- There is one verdict on each proof.
use Rattle.std.proofs.lemmas.{Grind.{common_steps}, Option.{slice_get_within, slice_get-get_or}}
use Rattle.std.proofs.Common.{◌≡◌, ◌≢◌, ℕ, Some, Result, Ok, List, ◌∷◌, length, get_or, refl, sym, ◌∙◌, ap, subst, arith, inl, inr, ◌⊎◌, slice_get, ◌↔◌, []}
use Rattle.mm_machine.specs.Language.{Frame.{Symbol, Setting}, Typing.{HasFrames}, Expansion.{Step, NotKnown}, Reaches.{Reaches, IsStepFault}, Machine.{AreDecoded}, Run.{run_part, IsReached}}
use Rattle.mm_machine.specs.{Language.Verdict.{Decoded, StepsDerive, IsWrongBy, IsVerdictOnSteps, IsVerdict}, declared.{Spot.{Spot}, ProofNumber.{ProofNumber, TheVariants.{P14, P15}}}}
use Rattle.mm_machine.specs.declared.{Verdict.{Verdict, TheVariants.{Proved, Incomplete, Wrong}}, step.ProofFault.{ProofFault}}
use Rattle.mm_machine.proofs.lemmas.{verdicts.{Part.{part_front, not_all_run, reached_run, run_or_unknown}, Choices.{expression_discrete}, Joins.{alone}}, machine.Reaching.{reached, only}}
use Rattle.mm_machine.proofs.lemmas.machine.Running.{run_right, RunSays, same_reached, no_fault, same_fault}

-- so the verdict on steps is Proved exactly when they derive the statement
pub proved_derived : (place : Setting) (statement : List Symbol) (d : Decoded) → IsVerdict place statement (Ok d) Proved ↔ StepsDerive place d.steps statement
proved_derived place statement d = grind (arith, common_steps, alone, only) steps 200000

-- what makes steps wrong, with the case that it is
data Wrongness (place : Setting) (statement : List Symbol) (d : Decoded) (number : ProofNumber) (spot : Spot) : Type 0 where
  not_one : (stack : List (List Symbol)) → Reaches place d.steps stack → length stack ≢ 1 → number ≡ P14 → spot ≡ d.close → Wrongness place statement d number spot
  other_one : (e : List Symbol) → Reaches place d.steps (e ∷ []) → e ≢ statement → number ≡ P15 → spot ≡ d.close → Wrongness place statement d number spot
  at_step : (n : ℕ) → IsStepFault place (run_part d.steps) n number → slice_get d.spots n ≡ Some spot → Wrongness place statement d number spot

wrongness : (place : Setting) (statement : List Symbol) (d : Decoded) (number : ProofNumber) (spot : Spot) → IsWrongBy place statement d number spot → Wrongness place statement d number spot
wrongness place statement d P14 spot w = not_one w.0 w.1 w.2 refl w.3
wrongness place statement d P15 spot w = other_one w.0 w.1 w.2 refl w.3
wrongness place statement d _ spot w = at_step w.0 w.1 w.2

-- what reaches a stack with all its steps has no fault in the part that is run
no_part_fault : (place : Setting) (steps : List Step) (stack : List (List Symbol)) (n : ℕ) (number : ProofNumber) → Reaches place steps stack → IsStepFault place (run_part steps) n number → ⊥
no_part_fault place steps stack n number r f = no_fault place steps stack n number r (subst (λ w. IsStepFault place w n number) (reached_run place steps stack r) f)

same_wrong : (place : Setting) → HasFrames place → (statement : List Symbol) (d : Decoded) (a b : ProofNumber) (s t : Spot) → Wrongness place statement d a s → Wrongness place statement d b t → (a ≡ b) × (s ≡ t)
same_wrong place is statement d a b s t (not_one stack r n e c) (not_one stack' r' n' e' c') = (e ∙ sym e', c ∙ sym c')
same_wrong place is statement d a b s t (not_one stack r n e c) (other_one x r' n' e' c') = absurd (n (ap length (same_reached place is d.steps stack (x ∷ []) r r')))
same_wrong place is statement d a b s t (not_one stack r n e c) (at_step m f c') = absurd (no_part_fault place d.steps stack m b r f)
same_wrong place is statement d a b s t (other_one x r n e c) (not_one stack' r' n' e' c') = absurd (n' (ap length (same_reached place is d.steps stack' (x ∷ []) r' r)))
same_wrong place is statement d a b s t (other_one x r n e c) (other_one x' r' n' e' c') = (e ∙ sym e', c ∙ sym c')
same_wrong place is statement d a b s t (other_one x r n e c) (at_step m f c') = absurd (no_part_fault place d.steps (x ∷ []) m b r f)
same_wrong place is statement d a b s t (at_step m f c) (not_one stack' r' n' e' c') = absurd (no_part_fault place d.steps stack' m a r' f)
same_wrong place is statement d a b s t (at_step m f c) (other_one x r' n' e' c') = absurd (no_part_fault place d.steps (x ∷ []) m a r' f)
same_wrong place is statement d a b s t (at_step m f c) (at_step m' f' c') = grind (arith, common_steps, same_fault place is (run_part d.steps) m m' a b f f') steps 200000

not_wrong : (place : Setting) → HasFrames place → (statement : List Symbol) (d : Decoded) (a : ProofNumber) (s : Spot) → Reaches place d.steps (statement ∷ []) → Wrongness place statement d a s → ⊥
not_wrong place is statement d a s v (not_one stack r n e c) = n (ap length (same_reached place is d.steps stack (statement ∷ []) r v))
not_wrong place is statement d a s v (other_one x r n e c) = n (let q = same_reached place is d.steps (x ∷ []) (statement ∷ []) r v in (cc))
not_wrong place is statement d a s v (at_step m f c) = no_part_fault place d.steps (statement ∷ []) m a v f

-- an incomplete proof is not wrong
not_both : (place : Setting) (statement : List Symbol) (d : Decoded) (a : ProofNumber) (s : Spot) → (run_part d.steps ≢ d.steps) → IsReached place d.steps → Wrongness place statement d a s → ⊥
not_both place statement d a s u r (not_one stack r' m e c) = u (reached_run place d.steps stack r')
not_both place statement d a s u r (other_one x r' m e c) = u (reached_run place d.steps (x ∷ []) r')
not_both place statement d a s u r (at_step m f c) = no_fault place (run_part d.steps) r.0 m a r.1 f

same_on_steps : (place : Setting) → HasFrames place → (statement : List Symbol) (d : Decoded) (v w : Verdict) → IsVerdictOnSteps place statement d v → IsVerdictOnSteps place statement d w → v ≡ w
same_on_steps place is statement d Proved Proved p q = refl
same_on_steps place is statement d Proved (Incomplete t) p q = absurd (q.0 (reached_run place d.steps (statement ∷ []) p))
same_on_steps place is statement d Proved (Wrong b t) p q = absurd (not_wrong place is statement d b t p (wrongness place statement d b t q))
same_on_steps place is statement d (Incomplete s) Proved p q = absurd (p.0 (reached_run place d.steps (statement ∷ []) q))
same_on_steps place is statement d (Incomplete s) (Incomplete t) p q = grind (arith, common_steps) steps 200000
same_on_steps place is statement d (Incomplete s) (Wrong b t) p q = absurd (not_both place statement d b t p.0 p.2 (wrongness place statement d b t q))
same_on_steps place is statement d (Wrong a s) Proved p q = absurd (not_wrong place is statement d a s q (wrongness place statement d a s p))
same_on_steps place is statement d (Wrong a s) (Incomplete t) p q = absurd (not_both place statement d a s q.0 q.2 (wrongness place statement d a s p))
same_on_steps place is statement d (Wrong a s) (Wrong b t) p q =
    grind (arith, common_steps, same_wrong place is statement d a b s t (wrongness place statement d a s p) (wrongness place statement d b t q)) steps 200000

-- one verdict at most
pub same_verdict : (place : Setting) → HasFrames place → (statement : List Symbol) (decoding : Result Decoded ProofFault) (v w : Verdict) → IsVerdict place statement decoding v → IsVerdict place statement decoding w → v ≡ w
same_verdict place is statement decoding v w p q = grind (arith, common_steps, same_on_steps) steps 200000

-- a step at fault has a number of its own
pub wrong_by_fault : (place : Setting) (statement : List Symbol) (d : Decoded) (n : ℕ) (number : ProofNumber) (spot : Spot) → IsStepFault place (run_part d.steps) n number → slice_get d.spots n ≡ Some spot → IsWrongBy place statement d number spot
wrong_by_fault place statement d n number spot f e = grind (arith, common_steps) steps 200000

-- the spot of a step
spot_at : (d : Decoded) (n : ℕ) (step : Step) → length d.spots ≡ length d.steps → slice_get d.steps n ≡ Some step → (spot : Spot) × (slice_get d.spots n ≡ Some spot)
spot_at d n step l e = let w = slice_get_within d.steps n step e in (get_or d.spots n d.close, slice_get-get_or d.spots n d.close (omega arith))

one_stack_verdict : (place : Setting) (statement : List Symbol) (d : Decoded) (stack : List (List Symbol)) → Reaches place d.steps stack → (v : Verdict) × IsVerdictOnSteps place statement d v
one_stack_verdict place statement d [] r = (Wrong P14 d.close, ([], r, (λ e. (cc)), refl))
one_stack_verdict place statement d (x ∷ (y ∷ ys)) r = (Wrong P14 d.close, (x ∷ y ∷ ys, r, (λ e. omega arith), refl))
one_stack_verdict place statement d (x ∷ []) r = by_choice (expression_discrete x statement)
  where
    by_choice : Dec (x ≡ statement) → (v : Verdict) × IsVerdictOnSteps place statement d v
    by_choice (yes e) = (Proved, subst (λ w. Reaches place d.steps (w ∷ [])) e r)
    by_choice (no n) = (Wrong P15 d.close, (x, r, n, refl))

part_verdict : (place : Setting) (statement : List Symbol) (d : Decoded) → length d.spots ≡ length d.steps →
    (run_part d.steps ≡ d.steps) ⊎ (slice_get d.steps (length (run_part d.steps)) ≡ Some NotKnown) → RunSays place (run_part d.steps) →
    (v : Verdict) × IsVerdictOnSteps place statement d v
part_verdict place statement d l (inl k) (inl f) =
    one_stack_verdict place statement d f.0.stack (subst (λ w. Reaches place w f.0.stack) k (reached place (run_part d.steps) f.0 f.1))
part_verdict place statement d l (inr u) (inl f) = let t =
    spot_at d (length (run_part d.steps)) NotKnown l u in (Incomplete t.0, (not_all_run d.steps (length (run_part d.steps)) u, t.1, (f.0.stack, reached place (run_part d.steps) f.0 f.1)))
part_verdict place statement d l u (inr f) = let t =
    spot_at d f.0 f.2.step l (part_front d.steps f.0 f.2.step f.2.at_fault) in (Wrong f.1 t.0, wrong_by_fault place statement d f.0 f.1 t.0 f.2 t.1)

-- and one at least, for steps as decoding gives them
pub some_verdict : (place : Setting) → HasFrames place → (statement : List Symbol) (d : Decoded) → AreDecoded place d.steps → length d.spots ≡ length d.steps → (v : Verdict) × IsVerdict place statement (Ok d) v
some_verdict place is statement d decoded l = part_verdict place statement d l (run_or_unknown d.steps) (run_right place is d.steps decoded)
