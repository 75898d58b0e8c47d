-- Whole runs of the machine: what it ends with is what is reached, and its first fault is the step at fault.
use Rattle.std.proofs.lemmas.{Grind.{common_steps}, Option.{slice_get_within}}
use Rattle.std.proofs.Common.{◌≡◌, ◌≢◌, ℕ, ◌+◌, ◌≤◌, ◌<◌, Some, List, ◌∷◌, ◌++◌, length, take, refl, sym, ◌∙◌, ap, subst, append_assoc, arith, length-append, slice_get, ◌↔◌, append-nil, take_at}
use Rattle.std.proofs.Common.{take_all, inl, inr, ◌⊎◌, []}
use Rattle.mm_machine.specs.Language.{Run.{AreDone, run_part}, Frame.{Symbol, Setting}, Typing.{HasFrames}, Expansion.{Step, NotKnown}, Faults.{StepLineHolds, row_of, IsLowest}}
use Rattle.mm_machine.specs.{Language.{Reaches.{Reaches, IsStepFault}, Machine.{State, Turns, IsReady, Runs, nothing_yet, AreDecodedAfter, AreDecoded}}, declared.ProofNumber.{ProofNumber}}
use Rattle.mm_machine.proofs.lemmas.machine.{Reaching.{Follows, follows_on, goes, reached, at_start, one_stack}, Turning.{no_turn, same_number, turns_or_fails}, Threaded.{threaded}}
use Rattle.mm_machine.proofs.lemmas.verdicts.{Fronts.{reached_earlier, reached_front}, Part.{AreKnown, part_decoded, part_known}}

-- a run ends with a state, or there is a step at fault
abbrev pub RunSays : Setting → List Step → Type 0
RunSays place steps = ((s : State) × Follows place steps s) ⊎ ((n : ℕ) × (number : ProofNumber) × IsStepFault place steps n number)

seam : (done rest : List Step) (step : Step) → slice_get (done ++ step ∷ rest) (length done) ≡ Some step
seam [] rest step = refl
seam (x ∷ done) rest step = seam done rest step

take_seam : (done rest : List Step) (step : Step) → take (length done + 1) (done ++ step ∷ rest) ≡ done ++ step ∷ []
take_seam done rest step = ap (λ l. take (length done + 1) l) (sym (append_assoc done (step ∷ []) rest)) ∙ take_at (done ++ step ∷ []) rest (length done + 1) (length-append done (step ∷ []))

-- if the machine has no turn, the step is at fault
pub faulty :
    (place : Setting) → HasFrames place → (done rest : List Step) (s : State) (step : Step) (number : ProofNumber) → Follows place done s →
    IsLowest place step s.stack number → IsStepFault place (done ++ step ∷ rest) (length done) number
faulty place is done rest s step number f p = record {
  stack = s.stack;
  step = step;
  reached = subst (λ l. Reaches place l s.stack) (sym (take_at done (step ∷ rest) (length done) refl)) (reached place done s f);
  at_fault = seam done rest step;
  nothing_after = λ next r.
      let g = goes place is done step s next f (subst (λ l. Reaches place l next) (take_seam done rest step) r) in
      no_turn place is s g.after step number p.holds g.turns;
  number_is = p;
}

pub decoded_on : (place : Setting) (s after : State) (step : Step) (rest : List Step) → step ≢ NotKnown
    → AreDecodedAfter place (length s.saved) (step ∷ rest) → IsReady place s step × (Turns place step s after
    → AreDecodedAfter place (length after.saved) rest)
decoded_on place s after step rest k d = grind (arith, common_steps) steps 200000

pub run_says : (place : Setting) → HasFrames place → (done : List Step) (s : State) (rest : List Step) → Follows place done s
    → AreDecodedAfter place (length s.saved) rest → AreKnown rest → RunSays place (done ++ rest)
run_says place is done s [] f d k = inl (s, subst (λ l. Follows place l s) (sym (append-nil done)) f)
run_says place is done s (step ∷ rest) f d k =
    let ready = decoded_on place s s step rest k.0 d in
    elim (turns_or_fails place is s step ready.0) [
      | inl t ↦ subst (RunSays place) (append_assoc done (step ∷ []) rest)
          (run_says place is (done ++ step ∷ []) t.0 rest (follows_on place done step s t.0 f t.1) ((decoded_on place s t.0 step rest k.0 d).1 t.1) k.1)
      | inr w ↦ inr (length done, w.0, faulty place is done rest s step w.0 f w.1)
    ]

-- one stack is reached
pub same_reached : (place : Setting) → HasFrames place → (steps : List Step) (xs ys : List (List Symbol)) → Reaches place steps xs → Reaches place steps ys → xs ≡ ys
same_reached place is steps xs ys r q = grind (arith, common_steps, one_stack) steps 200000

within_steps : (steps : List Step) (n : ℕ) (step : Step) → slice_get steps n ≡ Some step → n + 1 ≤ length steps
within_steps steps n step e = let l = slice_get_within steps n step e in omega arith

-- no fault if all is reached
pub no_fault : (place : Setting) (steps : List Step) (stack : List (List Symbol)) (n : ℕ) (number : ProofNumber) → Reaches place steps stack → IsStepFault place steps n number → ⊥
no_fault place steps stack n number r f =
    let whole = sym (take_all (length steps) steps (omega arith)) in
    let e = reached_earlier place steps (n + 1) (length steps) stack (within_steps steps n f.step f.at_fault) (subst (λ l. Reaches place l stack) whole r) in
    f.nothing_after e.0 e.1

-- one fault
no_earlier : (place : Setting) (steps : List Step) (n m : ℕ) (a b : ProofNumber) → IsStepFault place steps n a → IsStepFault place steps m b → n < m → ⊥
no_earlier place steps n m a b f g l =
    let e = reached_earlier place steps (n + 1) m g.stack (omega arith) g.reached in
    f.nothing_after e.0 e.1

same_row : (place : Setting) → HasFrames place → (steps : List Step) (n m : ℕ) (a b : ProofNumber) → n ≡ m → IsStepFault place steps n a → IsStepFault place steps m b → row_of a ≡ row_of b
same_row place is steps n m a b e f g =
    let steps_same : g.step ≡ f.step = cc in
    let stacks = same_reached place is (take n steps) g.stack f.stack (subst (λ k. Reaches place (take k steps) g.stack) (sym e) g.reached) f.reached in
    let h : StepLineHolds place f.step f.stack b = subst (λ w. StepLineHolds place w f.stack b) steps_same (subst (λ k. StepLineHolds place g.step k b) stacks g.number_is.holds) in
    let i : StepLineHolds place g.step g.stack a = subst (λ w. StepLineHolds place w g.stack a) (sym steps_same) (subst (λ k. StepLineHolds place f.step k a) (sym stacks) f.number_is.holds) in
    omega arith

pub same_fault : (place : Setting) → HasFrames place → (steps : List Step) (n m : ℕ) (a b : ProofNumber) → IsStepFault place steps n a → IsStepFault place steps m b → (n ≡ m) × (a ≡ b)
same_fault place is steps n m a b f g =
    let below = no_earlier place steps n m a b f g in
    let above = no_earlier place steps m n b a g f in
    let e : n ≡ m = omega arith in
    (e, same_number a b (same_row place is steps n m a b e f g))

-- the machine ends with what is reached
pub run_right : (place : Setting) → HasFrames place → (steps : List Step) → AreDecoded place steps → RunSays place (run_part steps)
run_right place is steps d =
    run_says place is [] nothing_yet (run_part steps) (at_start place) (part_decoded place 0 steps (threaded place steps d)) (part_known steps)

-- the runs of the machine and what is reached
pub runs_follow : (place : Setting) (done rest : List Step) (s after : State) → Follows place done s → Runs place s rest after → Follows place (done ++ rest) after
runs_follow place done [] s after f r = subst (λ l. Follows place l after) (sym (append-nil done)) (subst (Follows place done) (sym r) f)
runs_follow place done (step ∷ rest) s after f r = subst (λ l. Follows place l after) (append_assoc done (step ∷ []) rest) (runs_follow place (done ++ step ∷ []) rest r.0 after (follows_on place done step s r.0 f r.1) r.2)

follow_runs : (place : Setting) → HasFrames place → (done rest : List Step) (s : State) (stack : List (List Symbol)) → Follows place done s → Reaches place (done ++ rest) stack → (after : State) × Runs place s rest after × (after.stack ≡ stack)
follow_runs place is done [] s stack f r = (s, refl, same_reached place is done s.stack stack (reached place done s f) (subst (λ l. Reaches place l stack) (append-nil done) r))
follow_runs place is done (step ∷ rest) s stack f r =
    let early = reached_front place (done ++ step ∷ []) rest stack (subst (λ l. Reaches place l stack) (sym (append_assoc done (step ∷ []) rest)) r) in
    let g = goes place is done step s early.0 f early.1 in
    let on = follow_runs place is (done ++ step ∷ []) rest g.after stack (follows_on place done step s g.after f g.turns) (subst (λ l. Reaches place l stack) (sym (append_assoc done (step ∷ []) rest)) r) in
    (on.0, (g.after, g.turns, on.1), on.2)

pub runs_reach : (place : Setting) → HasFrames place → (steps : List Step) (stack : List (List Symbol)) → ((after : State) × Runs place nothing_yet steps after × (after.stack ≡ stack)) ↔ Reaches place steps stack
runs_reach place is steps stack = (
  λ r. let f = runs_follow place [] steps nothing_yet r.0 (at_start place) r.1 in subst (Reaches place steps) r.2 (reached place steps r.0 f),
  λ r. follow_runs place is [] steps nothing_yet stack (at_start place) r,
)

-- ---- how many steps are done

-- one number at most
pub one_count : (place : Setting) → HasFrames place → (steps : List Step) (a b : ℕ) → AreDone place steps a → AreDone place steps b → a ≡ b
one_count place is steps a b (inl f) (inl g) = f.3 ∙ ap (λ (n : ℕ). n + 1) (same_fault place is (run_part steps) f.0 g.0 f.1 g.1 f.2 g.2).0 ∙ sym g.3
one_count place is steps a b (inl f) (inr r) = absurd (no_fault place (run_part steps) r.0.0 f.0 f.1 r.0.1 f.2)
one_count place is steps a b (inr r) (inl g) = absurd (no_fault place (run_part steps) r.0.0 g.0 g.1 r.0.1 g.2)
one_count place is steps a b (inr r) (inr t) = r.1 ∙ sym t.1

-- and one at least
pub some_count : (place : Setting) → HasFrames place → (steps : List Step) → AreDecoded place steps → (count : ℕ) × AreDone place steps count
some_count place is steps decoded = elim (run_right place is steps decoded) [
  | inl f ↦ (length (run_part steps), inr ((f.0.stack, reached place (run_part steps) f.0 f.1), refl))
  | inr f ↦ (f.0 + 1, inl (f.0, f.1, f.2, refl))
]
