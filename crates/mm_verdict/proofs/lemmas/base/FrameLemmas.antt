-- Frames that are the same, and what a theorem and an assertion of a base are.
use Rattle.std.proofs.{Common.{arith, ◌≡◌, ◌≢◌, ℕ, true, List, get_or, sym, subst, inl, inr, slice_get, All, AllPairs, Contains}, lemmas.{Grind.{common_steps}, Bool.{false≢true, and_from, and_parts}}}
use Rattle.std.proofs.lemmas.List.{get_or_default, Elements.{All-contains}}
use Rattle.mm_frame.specs.Language.Base.{BaseView, is_shown_at, is_framed_at, is_proof_at}
use Rattle.mm_machine.specs.Language.{Frame.{Symbol, Mandatory, Frame, AreSameFrame, HasVariable}, Typing.{IsTyped, IsTyping, IsFrame}}

-- both are variables with a mandatory `$f`
abbrev Typed : List Mandatory → Symbol × Symbol → Type 0
Typed hypotheses pair = (pair.0.variable ≡ true) × (pair.1.variable ≡ true) × IsTyped hypotheses pair.0 × IsTyped hypotheses pair.1

typed_there : (hs gs : List Mandatory) (pair : Symbol × Symbol) → gs ≡ hs → Typed gs pair → Typed hs pair
typed_there hs gs pair e t = subst (λ w. Typed w pair) e t

-- what is the same as a frame of a sound assertion is one
pub frame_moved : (f g : Frame) → AreSameFrame f g → IsFrame g → IsFrame f
frame_moved f g s is = record {
  expression_typed = λ v h. subst (λ hs. IsTyped hs v) (sym s.hypotheses) (is.expression_typed v (subst (λ e. HasVariable e v) s.expression h));
  hypotheses_typed = λ h c v w. subst (λ hs. IsTyped hs v) (sym s.hypotheses) (is.hypotheses_typed h (subst (λ hs. Contains hs h) s.hypotheses c) v w);
  pairs_typed = λ k d l.
      let pair = get_or f.pairs k d in
      let there = (s.pairs pair.0 pair.1).0 (inl (k, l, get_or_default f.pairs k pair d l)) in
      elim there [
        | inl c ↦ typed_there f.hypotheses g.hypotheses pair (sym s.hypotheses) (All-contains (Typed g.hypotheses) g.pairs (pair.0, pair.1) is.pairs_typed c)
        | inr c ↦ (let t = typed_there f.hypotheses g.hypotheses (pair.1, pair.0) (sym s.hypotheses) (All-contains (Typed g.hypotheses) g.pairs (pair.1, pair.0) is.pairs_typed c) in (t.1, t.0, t.3, t.2))
      ];
  typings = subst (λ hs. All (λ (h : Mandatory). h.floating ≡ true → IsTyping h.expression) hs) (sym s.hypotheses) is.typings;
  typed_once = subst (λ hs. AllPairs (λ (h g : Mandatory). h.floating ≡ true → g.floating ≡ true → slice_get h.expression 1 ≢ slice_get g.expression 1) hs) (sym s.hypotheses) is.typed_once;
}

-- a sound theorem is a sound statement with a label
pub shown_proof : (view : BaseView) (n : ℕ) → is_proof_at view n ≡ true → is_shown_at view n ≡ true
shown_proof view n e = grind (arith, common_steps, and_from, and_parts, false≢true) steps 200000

-- and a sound assertion
pub framed_proof : (view : BaseView) (n : ℕ) → is_proof_at view n ≡ true → is_framed_at view n ≡ true
framed_proof view n e = grind (arith, common_steps, and_from, and_parts, false≢true) steps 200000

-- which is a statement with a label, too
pub shown_framed : (view : BaseView) (n : ℕ) → is_framed_at view n ≡ true → is_shown_at view n ≡ true
shown_framed view n e = grind (arith, common_steps, and_from, and_parts, false≢true) steps 200000
