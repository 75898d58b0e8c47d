-- Of a substitution only what it gives for the mandatory variables counts.
use Rattle.std.proofs.Common.{◌≡◌, ℕ, List, [], ◌∷◌, map, get_or, refl, sym, ◌∙◌, subst, Contains}
use Rattle.mm_machine.specs.Language.{Frame.{Symbol, Mandatory, Frame}, Typing.{IsTyped, IsFrame}, Substitution.{substituted}, Derivation.{AreApart, Takes}}
use Rattle.mm_machine.proofs.lemmas.{lists.Members.{Contains-here, contains_there}, verdicts.Unique.{same_substituted}}

same_entries :
    (given other : Symbol → List Symbol) (hs : List Mandatory) →
    ((h : Mandatory) → Contains hs h → substituted given h.expression ≡ substituted other h.expression) →
    map (λ h. substituted given h.expression) hs ≡ map (λ h. substituted other h.expression) hs
same_entries given other [] each = refl
same_entries given other (h ∷ hs) each = λ i. (each h (Contains-here h hs)) i ∷ (same_entries given other hs (λ g c. each g (contains_there h hs g c))) i

pub only_mandatory :
    (longest : ℕ) (active : List (Symbol × Symbol)) (frame : Frame) → IsFrame frame → (given other : Symbol → List Symbol) →
    ((v : Symbol) → IsTyped frame.hypotheses v → given v ≡ other v) →
    (entries : List (List Symbol)) (result : List Symbol) → Takes longest active frame given entries result → Takes longest active frame other entries result
only_mandatory longest active frame is given other same entries result t = record {
  entries_match =
      sym (same_entries given other frame.hypotheses (λ h c. same_substituted given other h.expression (λ v w. same v (is.hypotheses_typed h c v w))))
      ∙ t.entries_match;
  result_matches = sym (same_substituted given other frame.expression (λ v w. same v (is.expression_typed v w))) ∙ t.result_matches;
  apart = λ k d l.
      let pair = get_or frame.pairs k d in
      let p = is.pairs_typed k d l in
      subst (λ w. AreApart active w (other pair.1)) (same pair.0 p.2) (subst (λ w. AreApart active (given pair.0) w) (same pair.1 p.3) (t.apart k d l));
  short = t.short;
}
