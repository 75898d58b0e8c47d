-- Finitely many extra pairs are enough, and no list of them proves more.
use Rattle.std.proofs.{lemmas.List.Elements.{Contains-append_left, Contains-append_right, Contains-append_cases}, Common.{◌≡◌, ◌⊎◌, List, [], ◌∷◌, ◌++◌, sym, ap, subst, inl, inr, arith, Contains}}
use Rattle.std.specs.List.{flat_map}
use Rattle.mm_frame.specs.mm_machine.Language.{Frame.{Symbol, Mandatory, Frame, ArePair}, Substitution.{substituted}}
use Rattle.mm_theory.specs.Language.{System.{System, IsInClosure, by_type, by_hypothesis, by_axiom, symbols_of, MayBePaired, IsProvable}, Pairs.{IsProvableBy}, Laws.{ProvableByPairs}}
use Rattle.mm_theory.proofs.{Citing.{among}, Members.{only_one, here, there, in_flat, from_flat}}

-- more pairs make the closure no smaller
module _ (system : System) (IsPair IsOther : Symbol → Symbol → Type 0) (hypotheses : List Mandatory) (more : (x y : Symbol) → IsPair x y → IsOther x y) where
  pub grown : {e : List Symbol} → IsInClosure system IsPair hypotheses e → IsInClosure system IsOther hypotheses e
  grown (by_type t) = by_type t
  grown (by_hypothesis c) = by_hypothesis c
  grown (by_axiom {frame = frame} {given = given} is entries apart) =
      by_axiom {frame = frame} {given = given} is (λ h has. grown (entries h has)) (λ v w are x y h k. (let a = apart v w are x y h k in (a.0, more x y a.1)))

pair_left : (xs ys : List (Symbol × Symbol)) (x y : Symbol) → ArePair xs x y → ArePair (xs ++ ys) x y
pair_left xs ys x y (inl c) = inl (Contains-append_left xs ys (x, y) c)
pair_left xs ys x y (inr c) = inr (Contains-append_left xs ys (y, x) c)

pair_right : (xs ys : List (Symbol × Symbol)) (x y : Symbol) → ArePair ys x y → ArePair (xs ++ ys) x y
pair_right xs ys x y (inl c) = inl (Contains-append_right xs ys (x, y) c)
pair_right xs ys x y (inr c) = inr (Contains-append_right xs ys (y, x) c)

pair_cases : (xs ys : List (Symbol × Symbol)) (x y : Symbol) → ArePair (xs ++ ys) x y → ArePair xs x y ⊎ ArePair ys x y
pair_cases xs ys x y (inl c) = elim (Contains-append_cases xs ys (x, y) c) [ inl a ↦ inl (inl a) | inr b ↦ inr (inl b) ]
pair_cases xs ys x y (inr c) = elim (Contains-append_cases xs ys (y, x) c) [ inl a ↦ inl (inr a) | inr b ↦ inr (inr b) ]

module _ (system : System) (frame : Frame) where
  abbrev HasDummies : List (Symbol × Symbol) → Type 0
  HasDummies extra = (x y : Symbol) → Contains extra (x, y) → Contains (symbols_of frame) x → Contains (symbols_of frame) y → ⊥

  abbrev By : List (Symbol × Symbol) → List Symbol → Type 0
  By extra e = IsInClosure system (ArePair (frame.pairs ++ extra)) frame.hypotheses e

  -- no list proves more
  may_by : (extra : List (Symbol × Symbol)) → HasDummies extra → (x y : Symbol) → ArePair frame.pairs x y ⊎ ArePair extra x y → MayBePaired frame x y
  may_by extra d x y (inl a) p q = a
  may_by extra d x y (inr (inl c)) p q = absurd (d x y c p q)
  may_by extra d x y (inr (inr c)) p q = absurd (d y x c q p)

  no_more : (extra : List (Symbol × Symbol)) → IsProvableBy system frame extra → IsProvable system frame
  no_more extra is = grown system (ArePair (frame.pairs ++ extra)) (MayBePaired frame) frame.hypotheses (λ x y are. may_by extra is.dummies x y (pair_cases frame.pairs extra x y are)) is.closure

  -- a list is enough
  longer_left : (xs ys : List (Symbol × Symbol)) (x y : Symbol) → ArePair (frame.pairs ++ xs) x y → ArePair (frame.pairs ++ (xs ++ ys)) x y
  longer_left xs ys x y are = elim (pair_cases frame.pairs xs x y are) [
    | inl a ↦ pair_left frame.pairs (xs ++ ys) x y a
    | inr b ↦ pair_right frame.pairs (xs ++ ys) x y (pair_left xs ys x y b)
  ]

  longer_right : (xs ys : List (Symbol × Symbol)) (x y : Symbol) → ArePair (frame.pairs ++ ys) x y → ArePair (frame.pairs ++ (xs ++ ys)) x y
  longer_right xs ys x y are = elim (pair_cases frame.pairs ys x y are) [
    | inl a ↦ pair_left frame.pairs (xs ++ ys) x y a
    | inr b ↦ pair_right frame.pairs (xs ++ ys) x y (pair_right xs ys x y b)
  ]

  by_left : (xs ys : List (Symbol × Symbol)) {e : List Symbol} → By xs e → By (xs ++ ys) e
  by_left xs ys d = grown system (ArePair (frame.pairs ++ xs)) (ArePair (frame.pairs ++ (xs ++ ys))) frame.hypotheses (longer_left xs ys) d

  by_right : (xs ys : List (Symbol × Symbol)) {e : List Symbol} → By ys e → By (xs ++ ys) e
  by_right xs ys d = grown system (ArePair (frame.pairs ++ ys)) (ArePair (frame.pairs ++ (xs ++ ys))) frame.hypotheses (longer_right xs ys) d

  both_dummies : (xs ys : List (Symbol × Symbol)) → HasDummies xs → HasDummies ys → HasDummies (xs ++ ys)
  both_dummies xs ys a b x y c p q = elim (Contains-append_cases xs ys (x, y) c) [ inl l ↦ a x y l p q | inr r ↦ b x y r p q ]

  none_dummies : HasDummies []
  none_dummies x y c p q = omega (arith, c.1)

  record IsEnough (e : List Symbol) : Type 0 where
    extra : List (Symbol × Symbol)
    dummies : HasDummies extra
    closure : By extra e

  record AreEnough (given : Symbol → List Symbol) (hs : List Mandatory) : Type 0 where
    extra : List (Symbol × Symbol)
    dummies : HasDummies extra
    closure : (h : Mandatory) → Contains hs h → By extra (substituted given h.expression)

  enough_more : (given : Symbol → List Symbol) (h : Mandatory) (hs : List Mandatory) → IsEnough (substituted given h.expression) → AreEnough given hs → AreEnough given (h ∷ hs)
  enough_more given h hs a b = record {
    extra = a.extra ++ b.extra;
    dummies = both_dummies a.extra b.extra a.dummies b.dummies;
    closure = λ g c. elim (Contains-append_cases (h ∷ []) hs g c) [
      | inl l ↦ subst (λ (k : Mandatory). By (a.extra ++ b.extra) (substituted given k.expression)) (only_one h g l) (by_left a.extra b.extra a.closure)
      | inr r ↦ by_right a.extra b.extra (b.closure g r)
    ];
  }

  all_enough : (given : Symbol → List Symbol) (hs : List Mandatory) → ((h : Mandatory) → Contains hs h → IsEnough (substituted given h.expression)) → AreEnough given hs
  all_enough given [] each = record { extra = []; dummies = none_dummies; closure = λ h c. absurd (omega (arith, c.1)) }
  all_enough given (h ∷ hs) each = enough_more given h hs (each h (here h hs)) (all_enough given hs (λ g c. each g (there h hs g c)))

  -- a pair, unless both are in the statement
  abbrev Among : Symbol → Type 0
  Among x = Contains (symbols_of frame) x ⊎ (Contains (symbols_of frame) x → ⊥)

  abbrev pair_if : (x y : Symbol) → Among x → Among y → List (Symbol × Symbol)
  pair_if x y (inl a) (inl b) = []
  pair_if x y (inl a) (inr b) = (x, y) ∷ []
  pair_if x y (inr a) b = (x, y) ∷ []

  abbrev crossing : (Symbol → List Symbol) → Symbol × Symbol → List (Symbol × Symbol)
  crossing given pair = flat_map (λ x. flat_map (λ y. pair_if x y (among (symbols_of frame) x) (among (symbols_of frame) y)) (given pair.1)) (given pair.0)

  abbrev crossings : (Symbol → List Symbol) → List (Symbol × Symbol) → List (Symbol × Symbol)
  crossings given pairs = flat_map (crossing given) pairs

  same_pair : (x y v w : Symbol) → Contains {X = Symbol × Symbol} ((v, w) ∷ []) (x, y) → (v ≡ x) × (w ≡ y)
  same_pair x y v w c = let q = only_one (v, w) (x, y) c in (ap (λ (p : Symbol × Symbol). p.0) q, ap (λ (p : Symbol × Symbol). p.1) q)

  if_dummies : (v w : Symbol) (a : Among v) (b : Among w) → HasDummies (pair_if v w a b)
  if_dummies v w (inl a) (inl b) = none_dummies
  if_dummies v w (inl a) (inr out) = λ x y c p q. out (subst (Contains (symbols_of frame)) (sym (same_pair x y v w c).1) q)
  if_dummies v w (inr out) b = λ x y c p q. out (subst (Contains (symbols_of frame)) (sym (same_pair x y v w c).0) p)

  cross_dummies : (given : Symbol → List Symbol) (pairs : List (Symbol × Symbol)) → HasDummies (crossings given pairs)
  cross_dummies given pairs x y c p q =
      let r = from_flat (crossing given) pairs (x, y) c in
      let s = from_flat (λ (v : Symbol). flat_map (λ w. pair_if v w (among (symbols_of frame) v) (among (symbols_of frame) w)) (given r.0.1)) (given r.0.0) (x, y) r.2 in
      let t = from_flat (λ (w : Symbol). pair_if s.0 w (among (symbols_of frame) s.0) (among (symbols_of frame) w)) (given r.0.1) (x, y) s.2 in
      if_dummies s.0 t.0 (among (symbols_of frame) s.0) (among (symbols_of frame) t.0) x y t.2 p q

  cross_in : (given : Symbol → List Symbol) (pairs : List (Symbol × Symbol)) (v w x y : Symbol) → Contains pairs (v, w) → Contains (given v) x → Contains (given w) y
      → Contains (pair_if x y (among (symbols_of frame) x) (among (symbols_of frame) y)) (x, y) → Contains (crossings given pairs) (x, y)
  cross_in given pairs v w x y c h k d =
      in_flat (crossing given) pairs (v, w) (x, y) c
      (in_flat (λ (s : Symbol). flat_map (λ t. pair_if s t (among (symbols_of frame) s) (among (symbols_of frame) t)) (given w)) (given v) x (x, y) h
      (in_flat (λ (t : Symbol). pair_if x t (among (symbols_of frame) x) (among (symbols_of frame) t)) (given w) y (x, y) k d))

  if_there : (x y : Symbol) (a : Among x) (b : Among y) → (Contains (symbols_of frame) x × Contains (symbols_of frame) y) ⊎ Contains (pair_if x y a b) (x, y)
  if_there x y (inl a) (inl b) = inl (a, b)
  if_there x y (inl a) (inr out) = inr (here (x, y) [])
  if_there x y (inr out) b = inr (here (x, y) [])

  crossed : (given : Symbol → List Symbol) (pairs : List (Symbol × Symbol)) (v w x y : Symbol) → ArePair pairs v w → Contains (given v) x → Contains (given w) y → MayBePaired frame x y
      → ArePair (frame.pairs ++ crossings given pairs) x y
  crossed given pairs v w x y (inl c) h k may = elim (if_there x y (among (symbols_of frame) x) (among (symbols_of frame) y)) [
    | inl p ↦ pair_left frame.pairs (crossings given pairs) x y (may p.0 p.1)
    | inr d ↦ pair_right frame.pairs (crossings given pairs) x y (inl (cross_in given pairs v w x y c h k d))
  ]
  crossed given pairs v w x y (inr c) h k may = elim (if_there y x (among (symbols_of frame) y) (among (symbols_of frame) x)) [
    | inl p ↦ pair_left frame.pairs (crossings given pairs) x y (may p.1 p.0)
    | inr d ↦ pair_right frame.pairs (crossings given pairs) x y (inr (cross_in given pairs w v y x c k h d))
  ]

  enough : {e : List Symbol} → IsInClosure system (MayBePaired frame) frame.hypotheses e → IsEnough e
  enough (by_type t) = record { extra = []; dummies = none_dummies; closure = by_type t }
  enough (by_hypothesis c) = record { extra = []; dummies = none_dummies; closure = by_hypothesis c }
  enough (by_axiom {frame = ax} {given = given} is entries apart) =
      let all = all_enough given ax.hypotheses (λ h has. enough (entries h has)) in
      let own = crossings given ax.pairs in
      record {
        extra = all.extra ++ own;
        dummies = both_dummies all.extra own all.dummies (cross_dummies given ax.pairs);
        closure = by_axiom {frame = ax} {given = given} is (λ h has. by_left all.extra own (all.closure h has))
            (λ v w are x y h k. (let a = apart v w are x y h k in (a.0, longer_right all.extra own x y (crossed given ax.pairs v w x y are h.0 k.0 a.1))));
      }

pub provable_by_pairs : ProvableByPairs
provable_by_pairs system frame = (
  (λ p. let e = enough system frame p in (e.extra, record { dummies = e.dummies; closure = e.closure })),
  λ q. no_more system frame q.0 q.1,
)
