-- Frames are the same exactly when their expressions, their hypotheses and their pairs in one order are.
use Rattle.std.proofs.{lemmas.{Bool.{and_from, and_parts}, Grind.{common_steps}}, Common.{arith, ◌≡◌, ℕ, Bool, true, ◌&&◌, ◌||◌, List, map, sym, ◌∙◌, subst, inl, inr, IsTrue, ◌↔◌}}
use Rattle.mm_frame.proofs.lemmas.{pairs.ActivePairLemmas.{is_pair}, faults.FaultLemmas.{same_test}, lists.Members.{in_contains, contains_in}, scope.SoundItems.{filter_same, in_any}}
use Rattle.mm_frame.{proofs.lemmas.scope.TableLemmas.{any_in}, specs.Language.Base.{BaseView, is_shown_at, is_framed_at, hypothesis_at, frame_at, AreHypotheses}}
use Rattle.mm_frame.specs.Language.Answering.{are_paired, pairs_in_order}
use Rattle.mm_machine.specs.Language.Frame.{Symbol, Frame, ArePair, AreSamePairs}

swapped : (a b c d : Bool) → ((a && b) || (c && d)) ≡ true → ((d && c) || (b && a)) ≡ true
swapped a b c d t = grind (arith, common_steps) steps 200000

paired_from : (pairs others : List (Symbol × Symbol)) → AreSamePairs pairs others → (named : Symbol × Symbol) → are_paired pairs named ≡ true → are_paired others named ≡ true
paired_from pairs others s named t =
    let r = any_in (is_pair named) pairs t in
    let pair = r.0 in
    elim ((s pair.0 pair.1).0 (inl (in_contains pair pairs r.1))) [
      | inl c ↦ in_any (is_pair named) pair others (contains_in pair others c) r.2
      | inr c ↦ grind (arith, common_steps, contains_in, in_any, swapped) steps 200000
    ]

pub same_paired : (pairs others : List (Symbol × Symbol)) → AreSamePairs pairs others → (named : Symbol × Symbol) → are_paired pairs named ≡ are_paired others named
same_paired pairs others s named = same_test (are_paired pairs named) (are_paired others named) (paired_from pairs others s named) (paired_from others pairs (λ x y. ((s x y).1, (s x y).0)) named)

-- frames have the same pairs if these are the same in one order
pub same_from_order : (frame other : Frame) → AreSamePairs (pairs_in_order frame) frame.pairs → AreSamePairs (pairs_in_order other) other.pairs
    → pairs_in_order frame ≡ pairs_in_order other → AreSamePairs frame.pairs other.pairs
same_from_order frame other a b p x y =
    (λ q. (b x y).0 (subst (λ w. ArePair w x y) p ((a x y).1 q)), λ q. (a x y).0 (subst (λ w. ArePair w x y) (sym p) ((b x y).1 q)))

-- the test of the pairs of two frames that have the same hypotheses
pub same_by_order : (frame other : Frame) (pairs : Bool) → AreSamePairs (pairs_in_order frame) frame.pairs → AreSamePairs (pairs_in_order other) other.pairs
    → frame.hypotheses ≡ other.hypotheses → IsTrue pairs ↔ (pairs_in_order frame ≡ pairs_in_order other) → IsTrue pairs ↔ AreSamePairs frame.pairs other.pairs
same_by_order frame other pairs a b h p = (λ t. same_from_order frame other a b (p.0 t), λ s. p.1 (grind (arith, common_steps, filter_same, same_paired) steps 200000))

-- a sound assertion is a sound item with a label
pub framed_shown : (base : BaseView) (i : ℕ) → is_framed_at base i ≡ true → is_shown_at base i ≡ true
framed_shown base i e = grind (arith, common_steps, and_from, and_parts) steps 200000

-- hypotheses by their numbers are the same exactly when those of the frames are
pub same_by_numbers : (base copy : BaseView) (i j : ℕ) (mine yours : List ℕ) (P : Type 0) → AreHypotheses base i mine → AreHypotheses copy j yours
    → P ↔ (map (hypothesis_at base) mine ≡ map (hypothesis_at copy) yours) → P ↔ ((frame_at base i).hypotheses ≡ (frame_at copy j).hypotheses)
same_by_numbers base copy i j mine yours P a b p = (λ x. sym a.are ∙ p.0 x ∙ b.are, λ e. p.1 (a.are ∙ e ∙ sym b.are))
