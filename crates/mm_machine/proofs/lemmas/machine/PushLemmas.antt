-- What a label does that pushes an expression.
use Rattle.std.proofs.{Common.{◌≡◌, ℕ, true, ◌≤◌, List, [], ◌∷◌, ◌++◌, length, refl, ap, subst, arith, append-nil, Contains}, lemmas.Grind.{common_steps}}
use Rattle.mm_machine.specs.Language.{Frame.{Symbol, Frame, LabelMeaning, Hypothesis, Assertion, Inactive, Unknown, Setting}, Substitution.{substituted}, Typing.{IsFrame, IsTyped, HasFrames}}
use Rattle.mm_machine.specs.Language.{Steps.{Cites, Moves}, NamedSteps.{Pushes}}

in_nothing : {X : Type 0} (x : X) → Contains [] x → ⊥
in_nothing x c = absurd (omega (arith, c.1))

-- no variable of a frame is typed if it has no mandatory hypothesis
untyped : (frame : Frame) (v : Symbol) → frame.hypotheses ≡ [] → IsTyped frame.hypotheses v → ⊥
untyped frame v nothing t = in_nothing _ (subst (λ hs. Contains hs (record { floating = true; expression = t.0 ∷ v ∷ [] })) nothing t.2)

-- each symbol put for itself
itself : (e : List Symbol) → substituted (λ s. s ∷ []) e ≡ e
itself [] = refl
itself (s ∷ e) = grind (arith, common_steps, itself e) steps 200000

no_pairs : (frame : Frame) (pairs : List (Symbol × Symbol)) → frame.pairs ≡ pairs → IsFrame frame → frame.hypotheses ≡ [] → pairs ≡ []
no_pairs frame [] is_list is nothing = refl
no_pairs frame (p ∷ pairs) is_list is nothing =
    let typed = is.pairs_typed 0 p (omega (arith, ap length is_list)) in
    absurd (untyped frame _ nothing typed.2)

-- an assertion that takes nothing pushes what it says
nothing_taken : (active : List (Symbol × Symbol)) (frame : Frame) (e : List Symbol) (stack : List (List Symbol)) → IsFrame frame → frame.hypotheses ≡ [] → frame.expression ≡ e → length e ≤ 1000000
    → Cites active frame stack (stack ++ e ∷ [])
nothing_taken active frame e stack is nothing says short =
    grind (arith, common_steps, append-nil stack, itself e, no_pairs frame frame.pairs refl is nothing) steps 200000

pub pushed_moves : (place : Setting) → HasFrames place → (label : List ℕ) (meaning : LabelMeaning) (e : List Symbol) (stack : List (List Symbol)) → place.resolve label ≡ meaning → Pushes meaning e
    → Moves place.active meaning stack (stack ++ e ∷ [])
pushed_moves place is label (Hypothesis h) e stack at p = rw p refl
pushed_moves place is label (Assertion frame) e stack at p = nothing_taken place.active frame e stack (is label frame at) p.0 p.1 p.2
pushed_moves place is label Inactive e stack at p = absurd p
pushed_moves place is label Unknown e stack at p = absurd p
