-- If a fault of a step holds, nothing is reached by it.
use Rattle.std.proofs.lemmas.{Grind.{common_steps}, List.{length-map, Elements.{All-contains}}, Option.{slice_get-map}}
use Rattle.std.proofs.Common.{◌≡◌, ◌≢◌, ◌<◌, true, false, List, length, ◌∙◌, ap, subst, arith, length-append, slice_get, All, Any, Some, ℕ}
use Rattle.mm_machine.specs.Language.{Frame.{Symbol, Mandatory, Frame}, Substitution.{substituted}, Derivation.{AreApart, ShareVariable}, Typing.{IsTyped, IsFrame, IsTyping}, Steps.{Cites}}
use Rattle.mm_machine.specs.{Language.Faults.{AnyZip, last_entries, LackPair, CitingFails, UnderSubstitution}, declared.ProofNumber.{ProofNumber, TheVariants.{P07, P08, P09, P10, P11, P12}}}
use Rattle.mm_machine.proofs.lemmas.{verdicts.Unique.{substituted-typing, same_substituted, FloatsMatch, agree, floats_of, parts_are}, lists.{Members.{contains_at}, Zips.{any_place, any_at}}}

-- what is known of a mandatory pair
abbrev pub IsTypedPair : List Mandatory → Symbol × Symbol → Type 0
IsTypedPair hs pair = (pair.0.variable ≡ true) × (pair.1.variable ≡ true) × IsTyped hs pair.0 × IsTyped hs pair.1

-- what is said by one substitution, said by another that gives the same entries
pub wrong_by :
    (frame : Frame) → IsFrame frame → (f g : Symbol → List Symbol) (es : List (List Symbol)) → FloatsMatch f frame.hypotheses es →
    FloatsMatch g frame.hypotheses es → AnyZip (λ h e. (h.floating ≡ false) × (substituted f h.expression ≢ e)) frame.hypotheses es →
    AnyZip (λ h e. (h.floating ≡ false) × (substituted g h.expression ≢ e)) frame.hypotheses es
wrong_by frame is f g es a b any =
    let hs = frame.hypotheses in
    let p = any_place (λ h e. (h.floating ≡ false) × (substituted f h.expression ≢ e)) hs es any in
    let same = same_substituted f g p.1.expression (λ v w. agree f g hs es v a b w.1 (is.hypotheses_typed p.1 (contains_at hs p.0 p.1 p.3) v w)) in
    any_at (λ h e. (h.floating ≡ false) × (substituted g h.expression ≢ e)) hs es p.0 p.1 p.2 p.3 p.4 (p.5.0, λ s. p.5.1 (same ∙ s))

pub pairs_by :
    (R : List Symbol → List Symbol → Type 0) (frame : Frame) → IsFrame frame → (f g : Symbol → List Symbol) (es : List (List Symbol)) →
    FloatsMatch f frame.hypotheses es → FloatsMatch g frame.hypotheses es → Any (λ pair. R (f pair.0) (f pair.1)) frame.pairs →
    Any (λ pair. R (g pair.0) (g pair.1)) frame.pairs
pairs_by R frame is f g es a b any =
    let pair = any.1 in
    let t = subst (IsTypedPair frame.hypotheses) any.3 (is.pairs_typed any.0 any.1 any.2) in
    let first = agree f g frame.hypotheses es pair.0 a b t.0 t.2 in
    (any.0, any.1, any.2, any.3, subst (λ w. R w (g pair.1)) first (subst (R (f pair.0)) (agree f g frame.hypotheses es pair.1 a b t.1 t.3) any.4))

pub long_by : (frame : Frame) → IsFrame frame → (f g : Symbol → List Symbol) (es : List (List Symbol)) → FloatsMatch f frame.hypotheses es
    → FloatsMatch g frame.hypotheses es → 1000000 < length (substituted f frame.expression) → 1000000 < length (substituted g frame.expression)
long_by frame is f g es a b l =
    let s = ap length (same_substituted f g frame.expression (λ v w. agree f g frame.hypotheses es v a b w.1 (is.expression_typed v w))) in
    omega arith

-- an element of which one is said, and of all the other
pub any_all : {X : Type 0} (P Q : X → Type 0) (xs : List X) → Any P xs → All Q xs → (x : X) × P x × Q x
any_all P Q xs a b = (a.1, a.4, subst Q a.3 (b a.0 a.1 a.2))

-- if a line holds, the assertion is not cited
no_typecode : (f : Symbol → List Symbol) (h : Mandatory) → IsTyping h.expression → slice_get h.expression 0 ≡ slice_get (substituted f h.expression) 0
no_typecode f h t = grind (arith, common_steps, substituted-typing f t.0 t.1 t.3 t.4) steps 200000

module _ (active : List (Symbol × Symbol)) (frame : Frame) (is : IsFrame frame) (stack next : List (List Symbol)) (m : Cites active frame stack next) where
  entry_at : (k : ℕ) (h : Mandatory) (e : List Symbol) → slice_get frame.hypotheses k ≡ Some h → slice_get (last_entries frame stack) k ≡ Some e →
      substituted m.given h.expression ≡ e
  entry_at k h e a b = grind (arith, common_steps, parts_are, slice_get-map) steps 200000

  -- what is said by some substitution is said by the one of the citation
  by_own :
      (P : (Symbol → List Symbol) → Type 0) →
      ((f g : Symbol → List Symbol) → FloatsMatch f frame.hypotheses (last_entries frame stack) → FloatsMatch g frame.hypotheses (last_entries frame stack) → P f
      → P g) →
      UnderSubstitution frame (last_entries frame stack) P → P m.given
  by_own P each u = each u.0 m.given u.1 (floats_of active frame stack next m) u.2

  -- each fault of a citation
  pub not_cited : (number : ProofNumber) → CitingFails 1000000 active frame stack number → ⊥
  not_cited P07 h = grind (arith, common_steps, length-append m.below m.entries, length-map) steps 200000
  not_cited P08 h =
      let p = any_place (λ h e. (h.floating ≡ true) × (slice_get h.expression 0 ≢ slice_get e 0)) frame.hypotheses (last_entries frame stack) h in
      let t = All-contains (λ h. h.floating ≡ true → IsTyping h.expression) frame.hypotheses p.1 is.typings (contains_at frame.hypotheses p.0 p.1 p.3) p.5.0 in
      p.5.1 (no_typecode m.given p.1 t ∙ ap (λ e. slice_get e 0) (entry_at p.0 p.1 p.2 p.3 p.4))
  not_cited P09 h =
      let p = any_place (λ h e. (h.floating ≡ false) × (substituted m.given h.expression ≢ e)) frame.hypotheses (last_entries frame stack)
      (by_own (λ f. AnyZip (λ h e. (h.floating ≡ false) × (substituted f h.expression ≢ e)) frame.hypotheses (last_entries frame stack))
      (λ f g. wrong_by frame is f g (last_entries frame stack)) h) in
      p.5.1 (entry_at p.0 p.1 p.2 p.3 p.4)
  not_cited P10 h =
      let a = by_own (λ f. Any (λ pair. ShareVariable (f pair.0) (f pair.1)) frame.pairs) (λ f g. pairs_by ShareVariable frame is f g (last_entries frame stack))
      h in
      let z = any_all (λ pair. ShareVariable (m.given pair.0) (m.given pair.1)) (λ pair. AreApart active (m.given pair.0) (m.given pair.1)) frame.pairs a
      m.takes.apart in
      z.2.unshared z.1
  not_cited P11 h =
      let a = by_own (λ f. Any (λ pair. LackPair active (f pair.0) (f pair.1)) frame.pairs)
      (λ f g. pairs_by (LackPair active) frame is f g (last_entries frame stack)) h in
      let z = any_all (λ pair. LackPair active (m.given pair.0) (m.given pair.1)) (λ pair. AreApart active (m.given pair.0) (m.given pair.1)) frame.pairs a
      m.takes.apart in
      z.1.5 (z.2.paired z.1.0 z.1.1 z.1.2 z.1.3 z.1.4)
  not_cited P12 h =
      let l = by_own (λ f. 1000000 < length (substituted f frame.expression)) (λ f g. long_by frame is f g (last_entries frame stack)) h in
      let e = ap length m.takes.result_matches in
      omega (arith, m.takes.short)
  not_cited _ h = absurd h
