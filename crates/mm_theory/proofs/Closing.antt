-- Closure under substitution: what is in one closure, is under a substitution in another.
use Rattle.std.proofs.lemmas.{Grind.{flat_map-append}, Bool.{false≢true}, List.{append-nil, Elements.{Contains-append_cases}}}
use Rattle.std.proofs.Common.{◌≡◌, ◌≢◌, Bool, true, false, Some, List, [], ◌∷◌, ◌++◌, refl, sym, ap, ap₂, ◌∙◌, subst, inl, inr, arith, Contains}
use Rattle.mm_frame.specs.mm_machine.Language.{Frame.{Symbol, Mandatory, Frame, HasVariable}, Substitution.{replacement, substituted}}
use Rattle.mm_theory.{specs.Language.System.{System, AreApartBy, IsInClosure, by_type, by_hypothesis, by_axiom}, proofs.Members.{only_one, here, there}}

-- one substitution after another
abbrev pub after : (Symbol → List Symbol) → (Symbol → List Symbol) → Symbol → List Symbol
after outer inner v = substituted outer (inner v)

-- what takes the place of a variable, and of a constant
pub replacement-variable : (f : Symbol → List Symbol) (s : Symbol) → s.variable ≡ true → replacement f s ≡ f s
replacement-variable f s e = rw e refl

pub replacement-constant : (f : Symbol → List Symbol) (s : Symbol) → s.variable ≡ false → replacement f s ≡ s ∷ []
replacement-constant f s e = rw e refl

replacement_after_by : (outer inner : Symbol → List Symbol) (s : Symbol) (b : Bool) → s.variable ≡ b → substituted outer (replacement inner s) ≡ replacement (after outer inner) s
replacement_after_by outer inner s true e = ap (substituted outer) (replacement-variable inner s e) ∙ sym (replacement-variable (after outer inner) s e)
replacement_after_by outer inner s false e =
    ap (substituted outer) (replacement-constant inner s e) ∙ append-nil (replacement outer s) ∙ replacement-constant outer s e
    ∙ sym (replacement-constant (after outer inner) s e)

pub substituted_after : (outer inner : Symbol → List Symbol) (e : List Symbol) → substituted outer (substituted inner e) ≡ substituted (after outer inner) e
substituted_after outer inner [] = refl
substituted_after outer inner (s ∷ e) =
    flat_map-append (replacement outer) (replacement inner s) (substituted inner e)
    ∙ ap₂ ◌++◌ (replacement_after_by outer inner s s.variable refl) (substituted_after outer inner e)

-- a variable of what a substitution makes of an expression stands in what it gives for some variable of the expression
abbrev pub HasOrigin : (Symbol → List Symbol) → List Symbol → Symbol → Type 0
HasOrigin given e x = (v : Symbol) × HasVariable e v × HasVariable (given v) x

one_origin : (given : Symbol → List Symbol) (s : Symbol) (e : List Symbol) (x : Symbol) (b : Bool) → s.variable ≡ b → Contains (replacement given s) x → x.variable ≡ true → HasOrigin given (s ∷ e) x
one_origin given s e x true is c v = (s, (here s e, is), (subst (λ (l : List Symbol). Contains l x) (replacement-variable given s is) c, v))
one_origin given s e x false is c v =
    let same : s ≡ x = only_one s x (subst (λ (l : List Symbol). Contains l x) (replacement-constant given s is) c) in
    absurd (false≢true (sym is ∙ ap (λ (y : Symbol). y.variable) same ∙ v))

pub origin : (given : Symbol → List Symbol) (e : List Symbol) (x : Symbol) → HasVariable (substituted given e) x → HasOrigin given e x
origin given [] x h = absurd (omega (arith, h.0.1))
origin given (s ∷ e) x h = elim (Contains-append_cases (replacement given s) (substituted given e) x h.0) [
  | inl a ↦ one_origin given s e x s.variable refl a h.1
  | inr b ↦ (let o = origin given e x (b, h.1) in (o.0, (there s e o.0 o.1.0, o.1.1), o.2))
]

-- what is in one closure, is under a substitution in another
module _ (system other : System) (IsPair IsOtherPair : Symbol → Symbol → Type 0) (hypotheses others : List Mandatory) (given : Symbol → List Symbol)
    (axioms : (frame : Frame) → Contains system.axioms frame → Contains other.axioms frame)
    (types : (c v : Symbol) → system.typecode v ≡ Some c → IsInClosure other IsOtherPair others (substituted given (c ∷ v ∷ [])))
    (holds : (h : Mandatory) → Contains hypotheses h → IsInClosure other IsOtherPair others (substituted given h.expression))
    (apart : (v w : Symbol) → v.variable ≡ true → w.variable ≡ true → v ≢ w → IsPair v w → AreApartBy IsOtherPair (given v) (given w)) where
  apart_after : (inner : Symbol → List Symbol) (v w : Symbol) → AreApartBy IsPair (inner v) (inner w) → AreApartBy IsOtherPair (after given inner v) (after given inner w)
  apart_after inner v w are x y in_x in_y =
      let a = origin given (inner v) x in_x in
      let b = origin given (inner w) y in_y in
      let two = are a.0 b.0 a.1 b.1 in
      apart a.0 b.0 a.1.1 b.1.1 two.0 two.1 x y a.2 b.2

  pub substituted_in : {e : List Symbol} → IsInClosure system IsPair hypotheses e → IsInClosure other IsOtherPair others (substituted given e)
  substituted_in (by_type {c = c} {v = v} typed) = types c v typed
  substituted_in (by_hypothesis {h = h} has) = holds h has
  substituted_in (by_axiom {frame = frame} {given = inner} is entries are) =
      subst (IsInClosure other IsOtherPair others) (sym (substituted_after given inner frame.expression))
      (by_axiom {frame = frame} {given = after given inner} (axioms frame is)
      (λ h has. subst (IsInClosure other IsOtherPair others) (substituted_after given inner h.expression) (substituted_in (entries h has)))
      (λ v w pair. apart_after inner v w (are v w pair)))
