-- Whether two views are equal is decided.
use Rattle.std.{proofs.{lemmas.Grind.{common_steps}, Common.{◌≡◌, List, [], ◌∷◌, subst, inl, inr, arith, Contains}, Math.Decide.{map_dec}}, specs.List.{AllByRecursion}}
use Rattle.mm_proof.specs.mm_machine.Language.Frame.{Symbol, Mandatory, Frame, LabelMeaning, Hypothesis, Assertion, Inactive, Unknown, ArePair, AreSamePairs, AreSameFrame}
use Rattle.mm_proof.specs.{mm_machine.Language.SameProof.{AreSameMeaning}, mm_verdict.Language.View.{View, AreSameViews}}
use Rattle.mm_keep.proofs.DecidingLemmas.{dec_and, dec_or, dec_bool, dec_bytes, dec_list, dec_contains, dec_each, dec_zip, first_of_list, later_of_list, member_cases}

dec_symbol : (a b : Symbol) → Dec (a ≡ b)
dec_symbol a b = map_dec (λ e i. record { name = e.0 i; variable = e.1 i }) (λ e. (λ i. (e i).name, λ i. (e i).variable)) (dec_and (dec_bytes a.name b.name) (dec_bool a.variable b.variable))

dec_symbols : (a b : List Symbol) → Dec (a ≡ b)
dec_symbols a b = dec_list dec_symbol a b

dec_hypothesis : (a b : Mandatory) → Dec (a ≡ b)
dec_hypothesis a b = map_dec (λ e i. record { floating = e.0 i; expression = e.1 i }) (λ e. (λ i. (e i).floating, λ i. (e i).expression)) (dec_and (dec_bool a.floating b.floating) (dec_symbols a.expression b.expression))

dec_pair : (p q : Symbol × Symbol) → Dec (p ≡ q)
dec_pair p q = map_dec (λ e i. (e.0 i, e.1 i)) (λ e. (λ i. (e i).0, λ i. (e i).1)) (dec_and (dec_symbol p.0 q.0) (dec_symbol p.1 q.1))

-- ---- pairs

-- each of the pairs is one of the others
abbrev AreAmong : List (Symbol × Symbol) → List (Symbol × Symbol) → Type 0
AreAmong pairs others = AllByRecursion (λ pair. ArePair others pair.0 pair.1) pairs

dec_are_among : (pairs others : List (Symbol × Symbol)) → Dec (AreAmong pairs others)
dec_are_among pairs others = dec_each (λ (pair : Symbol × Symbol). ArePair others pair.0 pair.1) (λ pair. (dec_or (dec_contains dec_pair others (pair.0, pair.1)) (dec_contains dec_pair others (pair.1, pair.0)))) pairs

member_among : (pairs others : List (Symbol × Symbol)) (pair : Symbol × Symbol) → AreAmong pairs others → Contains pairs pair → ArePair others pair.0 pair.1
member_among [] others pair h c = absurd (omega (arith, c.1))
member_among (first ∷ pairs) others pair h c = elim (member_cases first pair pairs c) [
  | inl e ↦ subst (λ (p : Symbol × Symbol). ArePair others p.0 p.1) e h.0
  | inr k ↦ member_among pairs others pair h.1 k
]

pair_among : (pairs others : List (Symbol × Symbol)) (x y : Symbol) → AreAmong pairs others → ArePair pairs x y → ArePair others x y
pair_among pairs others x y h (inl c) = member_among pairs others (x, y) h c
pair_among pairs others x y h (inr c) = grind (arith, common_steps, member_among pairs others (y, x) h c) steps 200000

among_by : (pairs others : List (Symbol × Symbol)) → ((pair : Symbol × Symbol) → Contains pairs pair → ArePair others pair.0 pair.1) → AreAmong pairs others
among_by [] others f = tt
among_by (first ∷ pairs) others f = (f first (first_of_list first pairs), among_by pairs others (λ pair c. f pair (later_of_list first pair pairs c)))

dec_same_pairs : (pairs others : List (Symbol × Symbol)) → Dec (AreSamePairs pairs others)
dec_same_pairs pairs others = map_dec to from (dec_and (dec_are_among pairs others) (dec_are_among others pairs))
  where
    to : AreAmong pairs others × AreAmong others pairs → AreSamePairs pairs others
    to h x y = (pair_among pairs others x y h.0, pair_among others pairs x y h.1)

    from : AreSamePairs pairs others → AreAmong pairs others × AreAmong others pairs
    from same = (among_by pairs others (λ pair c. (same pair.0 pair.1).0 (inl c)), among_by others pairs (λ pair c. (same pair.0 pair.1).1 (inl c)))

-- ---- meanings

dec_frame : (frame other : Frame) → Dec (AreSameFrame frame other)
dec_frame frame other =
    map_dec
    (λ h. record { expression = h.0; hypotheses = h.1.0; pairs = h.1.1 })
    (λ h. (h.expression, (h.hypotheses, h.pairs)))
    (dec_and (dec_symbols frame.expression other.expression) (dec_and (dec_list dec_hypothesis frame.hypotheses other.hypotheses) (dec_same_pairs frame.pairs other.pairs)))

dec_meaning : (one other : LabelMeaning) → Dec (AreSameMeaning one other)
dec_meaning (Hypothesis e) (Hypothesis f) = dec_symbols e f
dec_meaning (Assertion frame) (Assertion other) = dec_frame frame other
dec_meaning Inactive Inactive = yes tt
dec_meaning Unknown Unknown = yes tt
dec_meaning _ _ = no (λ e. e)

-- ---- views

pub dec_views : (one other : View) → Dec (AreSameViews one other)
dec_views one other =
    map_dec
    (λ h. record { proof = h.0.0; expression = h.0.1; hypotheses = h.1.0; active = h.1.1.0; meanings = h.1.1.1 })
    (λ h. ((h.proof, h.expression), (h.hypotheses, (h.active, h.meanings))))
    (dec_and
    (dec_and (dec_list dec_bytes one.proof other.proof) (dec_symbols one.expression other.expression))
    (dec_and (dec_list dec_hypothesis one.hypotheses other.hypotheses) (dec_and (dec_same_pairs one.active other.active) (dec_zip AreSameMeaning dec_meaning one.meanings other.meanings))))
