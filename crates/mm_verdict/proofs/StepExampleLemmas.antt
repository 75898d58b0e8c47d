-- The worked labels and views are proved, by the definitions.
use Rattle.std.proofs.Common.{zero, suc, ◌≡◌, ◌≢◌, ℕ, ◌<◌, true, false, List, [], ◌∷◌, refl, sym, ◌∙◌, subst, inl, inr, ap, arith, codes, slice_get, slice_index_or, Contains, AllPairs}
use Rattle.std.proofs.lemmas.{Bool.{false≢true}, List.Elements.{All-cons, All-nil}}
use Rattle.mm_frame.specs.Language.Examples.{letter_symbol, p, q, r, typing}
use Rattle.mm_machine.specs.Language.{Frame.{Symbol, Mandatory, Frame, ArePair, AreSameFrame, HasVariable}, Typing.{HasFrames, IsFrame, IsTyped, IsTyping}}
use Rattle.mm_verdict.{specs.Language.FaultExamples.{bracketed}, proofs.{ExampleLemmas.{derives_whole, is_proved}, FaultExampleLemmas.{only, p_not_r, q_not_r}}}
use Rattle.mm_verdict.specs.Language.StepExamples as examples

pub is_done_and_derived : examples.IsDoneAndDerived
is_done_and_derived = (refl, inr ((_, is_proved), refl), (_, refl, (_, refl, derives_whole)))

-- the pairs of three variables, and the same turned round
abbrev three : List (Symbol × Symbol)
three = (p, q) ∷ (p, r) ∷ (q, r) ∷ []

abbrev turned : List (Symbol × Symbol)
turned = (r, q) ∷ (r, p) ∷ (q, p) ∷ []

module _ (x y : Symbol) where
  there : (k : ℕ) → k < 3 → ◌≡◌ {A = Symbol × Symbol} (slice_index_or three k (x, y)) (x, y) → Contains turned (y, x)
  there zero l e = (2, omega arith, λ i. ((e i).1, (e i).0))
  there (suc zero) l e = (1, omega arith, λ i. ((e i).1, (e i).0))
  there (suc (suc zero)) l e = (0, omega arith, λ i. ((e i).1, (e i).0))
  there (suc (suc (suc k))) l e = absurd (omega (arith, l))

  back : (k : ℕ) → k < 3 → ◌≡◌ {A = Symbol × Symbol} (slice_index_or turned k (x, y)) (x, y) → Contains three (y, x)
  back zero l e = (2, omega arith, λ i. ((e i).1, (e i).0))
  back (suc zero) l e = (1, omega arith, λ i. ((e i).1, (e i).0))
  back (suc (suc zero)) l e = (0, omega arith, λ i. ((e i).1, (e i).0))
  back (suc (suc (suc k))) l e = absurd (omega (arith, l))

all_turned : (x y : Symbol) → ArePair three x y → ArePair turned x y
all_turned x y (inl c) = inr (there x y c.0 c.1 c.2)
all_turned x y (inr c) = inl (there y x c.0 c.1 c.2)

all_back : (x y : Symbol) → ArePair turned x y → ArePair three x y
all_back x y (inl c) = inr (back x y c.0 c.1 c.2)
all_back x y (inr c) = inl (back y x c.0 c.1 c.2)

same_frame : (frame : Frame) → AreSameFrame frame frame
same_frame frame = record { expression = refl; hypotheses = refl; pairs = λ x y. ((λ a. a), (λ a. a)) }

pub keeps_view : examples.KeepsView
keeps_view = record { proof = refl; expression = refl; hypotheses = refl; active = λ x y. (all_turned x y, all_back x y); meanings = (same_frame _, tt) }

not_among : ArePair ((p, q) ∷ []) p r → ⊥
not_among (inl c) = q_not_r (ap (λ (pair : Symbol × Symbol). pair.1) (only (p, q) (p, r) c))
not_among (inr c) = p_not_r (ap (λ (pair : Symbol × Symbol). pair.0) (only (p, q) (r, p) c))

pub changes_view : examples.ChangesView
changes_view same = not_among ((same.active p r).0 (inl (1, omega arith, refl)))

-- ---- a frame

no_constant : (v : Symbol) (n : ℕ) → letter_symbol n ≡ v → (letter_symbol n).variable ≡ false → v.variable ≡ true → ⊥
no_constant v n same constant variable = false≢true (sym constant ∙ ap (λ (s : Symbol). s.variable) same ∙ variable)

typed_p : IsTyped bracketed.hypotheses p
typed_p = (letter_symbol 119, refl, (0, omega arith, refl))

in_expression : (v : Symbol) (k : ℕ) → k < 3 → slice_index_or bracketed.expression k v ≡ v → v.variable ≡ true → IsTyped bracketed.hypotheses v
in_expression v zero l e is = absurd (no_constant v 119 e refl is)
in_expression v (suc zero) l e is = subst (IsTyped bracketed.hypotheses) e typed_p
in_expression v (suc (suc zero)) l e is = absurd (no_constant v 41 e refl is)
in_expression v (suc (suc (suc k))) l e is = absurd (omega (arith, l))

in_hypothesis : (v : Symbol) (k : ℕ) → k < 2 → slice_index_or (typing (codes "wp")).expression k v ≡ v → v.variable ≡ true → IsTyped bracketed.hypotheses v
in_hypothesis v zero l e is = absurd (no_constant v 119 e refl is)
in_hypothesis v (suc zero) l e is = subst (IsTyped bracketed.hypotheses) e typed_p
in_hypothesis v (suc (suc k)) l e is = absurd (omega (arith, l))

in_hypotheses : (h : Mandatory) → Contains bracketed.hypotheses h → (v : Symbol) → HasVariable h.expression v → IsTyped bracketed.hypotheses v
in_hypotheses h c v has =
    let here = subst (λ (m : Mandatory). HasVariable m.expression v) (sym (only (typing (codes "wp")) h c)) has in
    in_hypothesis v here.0.0 here.0.1 here.0.2 here.1

is_frame : IsFrame bracketed
is_frame = record {
  expression_typed = λ v has. in_expression v has.0.0 has.0.1 has.0.2 has.1;
  hypotheses_typed = in_hypotheses;
  pairs_typed = All-nil (λ pair. (pair.0.variable ≡ true) × (pair.1.variable ≡ true) × IsTyped bracketed.hypotheses pair.0 × IsTyped bracketed.hypotheses pair.1);
  typings = All-cons (λ (h : Mandatory). h.floating ≡ true → IsTyping h.expression) (typing (codes "wp")) [] (λ e. (letter_symbol 119, p, refl, refl, refl))
      (All-nil (λ (h : Mandatory). h.floating ≡ true → IsTyping h.expression));
  typed_once = once;
}
  where
    once : AllPairs (λ (h g : Mandatory). h.floating ≡ true → g.floating ≡ true → slice_get h.expression 1 ≢ slice_get g.expression 1) bracketed.hypotheses
    once = λ i j d less within. absurd (omega (arith, less, within))

untyped : IsFrame examples.without_typing → ⊥
untyped is = let typed = is.expression_typed p ((1, omega arith, refl), refl) in omega (arith, typed.2.1)

pub has_typed_variable : examples.HasTypedVariable
has_typed_variable = (is_frame, untyped, frames, λ has. untyped (has [] examples.without_typing refl))
  where
    frames : HasFrames (examples.place_of bracketed)
    frames label frame e = let q : bracketed ≡ frame = cc in subst IsFrame q is_frame
