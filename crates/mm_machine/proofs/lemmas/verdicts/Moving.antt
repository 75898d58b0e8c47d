-- A verdict depends on what the labels mean alone.
use Rattle.std.proofs.Common.{arith, ◌≡◌, ℕ, zero, suc, ◌+◌, Bool, true, false, Option, Some, None, List, ◌∷◌, ◌++◌, take, get_or, refl, sym, ◌∙◌, ap, subst, inl, inr, slice_get, All, Any, length}
use Rattle.std.{proofs.{Common.{if◌then◌else◌, []}, lemmas.{Grind.{common_steps}, List.{get_or_default, Elements.{All-contains}}, Slice.Zip.{AllZip-long}}}, specs.{List.{AllZip}, Option.{option_map}}}
use Rattle.mm_machine.specs.Language.Frame.{Symbol, Mandatory, Frame, LabelMeaning, Hypothesis, Assertion, Inactive, Unknown, Setting, ArePair, AreSamePairs, AreSameFrame}
use Rattle.mm_machine.specs.Language.Derivation.{Derives, DeriveInOrder, by_hypothesis, by_assertion, nothing, first_then, Takes, AreApart, ShareVariable}
use Rattle.mm_machine.specs.Language.{Expansion.{Step, Expanded, expand_one, expand_from, expansion, last_part, weight}, Faults.{LackPair, CitingFails, LabelFails, StepLineHolds}}
use Rattle.mm_machine.specs.Language.{Reaches.{Reaches, IsStepFault}, Run.{run_part}, Verdict.{Decoded, IsWrongBy, IsVerdictOnSteps}, SameProof.{AreSameMeaning, IsSameStep, IsSameProof}}
use Rattle.mm_machine.specs.declared.{Spot.{Spot}, ProofNumber.{ProofNumber, TheVariants.{P10, P11, P14, P15}}, Verdict.{Verdict, TheVariants.{Proved, Incomplete, Wrong}}}
use Rattle.mm_machine.proofs.lemmas.{verdicts.Part.{AreKnown, all_known, known_part, part_same}, lists.Zips.{both_joined, flipped, zip_at}}

-- the lists of labels mean the same, one by one
abbrev pub AreSameLabels : Setting → Setting → List (List ℕ) → List (List ℕ) → Type 0
AreSameLabels p q xs ys = AllZip (λ a b. AreSameMeaning (p.resolve a) (q.resolve b)) xs ys

-- a list that is related to two joined ones, cut
pub record Beside {A B : Type 0} (R : A → B → Type 0) (xs ys : List A) (zs : List B) : Type 0 where
  pub front : List B
  pub back : List B
  pub whole : zs ≡ front ++ back
  pub of_front : AllZip R xs front
  pub of_back : AllZip R ys back

beside : {A B : Type 0} (R : A → B → Type 0) (xs ys : List A) (zs : List B) → AllZip R (xs ++ ys) zs → Beside R xs ys zs
beside R [] ys zs a = record { front = []; back = zs; whole = refl; of_front = tt; of_back = a }
beside R (x ∷ xs) ys [] a = absurd a
beside R (x ∷ xs) ys (z ∷ zs) a =
    let b = beside R xs ys zs a.1 in
    record { front = z ∷ b.front; back = b.back; whole = ap (λ w. z ∷ w) b.whole; of_front = (a.0, b.of_front); of_back = b.of_back }

alone_beside : {A B : Type 0} (R : A → B → Type 0) (x : A) (zs : List B) → AllZip R (x ∷ []) zs → (z : B) × (zs ≡ z ∷ []) × R x z
alone_beside R x zs a = grind (arith, common_steps) steps 200000

taken_beside : {A B : Type 0} (R : A → B → Type 0) (n : ℕ) (xs : List A) (ys : List B) → AllZip R xs ys → AllZip R (take n xs) (take n ys)
taken_beside R (suc n) [] (y ∷ ys) a = absurd a
taken_beside R (suc n) (x ∷ xs) [] a = absurd a
taken_beside R (suc n) (x ∷ xs) (y ∷ ys) a = (a.0, taken_beside R n xs ys a.1)
taken_beside R _ _ _ a = tt

-- the same, the other way round
pub frame_back : (a b : Frame) → AreSameFrame a b → AreSameFrame b a
frame_back a b s = record { expression = sym s.expression; hypotheses = sym s.hypotheses; pairs = λ x y. ((s.pairs x y).1, (s.pairs x y).0) }

meaning_back : (r s : LabelMeaning) → AreSameMeaning r s → AreSameMeaning s r
meaning_back (Hypothesis e) (Hypothesis f) m = sym m
meaning_back (Assertion a) (Assertion b) m = frame_back a b m
meaning_back Inactive Inactive m = m
meaning_back Unknown Unknown m = m
meaning_back _ _ m = absurd m

step_back : (p q : Setting) (a b : Step) → IsSameStep p q a b → IsSameStep q p b a
step_back p q a b s = grind (arith, common_steps, meaning_back) steps 200000

-- pairs, in one order or the other
pair_back : (pairs : List (Symbol × Symbol)) (x y : Symbol) → ArePair pairs x y → ArePair pairs y x
pair_back pairs x y s = elim s [ inl c ↦ inr c | inr c ↦ inl c ]

apart_back : (active : List (Symbol × Symbol)) (xs ys : List Symbol) → AreApart active xs ys → AreApart active ys xs
apart_back active xs ys a = record {
  unshared = λ s. a.unshared (s.0, s.2, s.1);
  paired = λ x y h k n. pair_back active y x (a.paired y x k h (λ e. n (sym e)));
}

apart_moved : (active others : List (Symbol × Symbol)) (xs ys : List Symbol) → AreSamePairs active others → AreApart active xs ys → AreApart others xs ys
apart_moved active others xs ys s a = record {
  unshared = a.unshared;
  paired = λ x y h k n. (s x y).0 (a.paired x y h k n);
}

all_apart : (active others : List (Symbol × Symbol)) (a b : Frame) (given : Symbol → List Symbol) → AreSamePairs active others → AreSameFrame a b
    → All (λ pair. AreApart active (given pair.0) (given pair.1)) a.pairs → All (λ pair. AreApart others (given pair.0) (given pair.1)) b.pairs
all_apart active others a b given s f all k d l =
    let pair = get_or b.pairs k d in
    apart_moved active others (given pair.0) (given pair.1) s (elim ((f.pairs pair.0 pair.1).1 (inl (k, l, get_or_default b.pairs k pair d l))) [
      | inl c ↦ All-contains (λ pair. AreApart active (given pair.0) (given pair.1)) a.pairs (pair.0, pair.1) all c
      | inr c ↦ apart_back active (given pair.1) (given pair.0) (All-contains (λ pair. AreApart active (given pair.0) (given pair.1)) a.pairs (pair.1, pair.0) all c)
    ])

pub takes_moved : (active others : List (Symbol × Symbol)) (a b : Frame) (given : Symbol → List Symbol) (entries : List (List Symbol))
    (result : List Symbol) → AreSamePairs active others → AreSameFrame a b → Takes 1000000 active a given entries result → Takes 1000000 others b given entries result
takes_moved active others a b given entries result s f t = grind (arith, common_steps, all_apart active others a b given s f t.apart) steps 200000

-- what a label with the same meaning means
same_hypothesis : (r s : LabelMeaning) (e : List Symbol) → AreSameMeaning r s → r ≡ Hypothesis e → s ≡ Hypothesis e
same_hypothesis r s e m is = grind (arith, common_steps) steps 200000

same_assertion : (r s : LabelMeaning) (a : Frame) → AreSameMeaning r s → r ≡ Assertion a → (b : Frame) × (s ≡ Assertion b) × AreSameFrame a b
same_assertion r s a m is = grind (arith, common_steps) steps 200000

mutual
  -- what a list derives, a list of the same meaning derives
  pub derived_moved : (p q : Setting) → AreSamePairs p.active q.active → {labels : List (List ℕ)} {e : List Symbol} → Derives p labels e → (others : List (List ℕ)) → AreSameLabels p q labels others → Derives q others e
  derived_moved p q s (by_hypothesis {label = label} {e = e} is) others m =
      let z = alone_beside (λ a b. AreSameMeaning (p.resolve a) (q.resolve b)) label others m in
      subst (λ l. Derives q l e) (sym z.1) (by_hypothesis (same_hypothesis (p.resolve label) (q.resolve z.0) e z.2 is))
  derived_moved p q s (by_assertion {labels = labels} {label = label} {frame = frame} {given = given} {entries = entries} {result = result} d is t) others m =
      let b = beside (λ a b. AreSameMeaning (p.resolve a) (q.resolve b)) labels (label ∷ []) others m in
      let z = alone_beside (λ a b. AreSameMeaning (p.resolve a) (q.resolve b)) label b.back b.of_back in
      let f = same_assertion (p.resolve label) (q.resolve z.0) frame z.2 is in
      subst (λ l. Derives q l result) (sym (b.whole ∙ ap (λ w. b.front ++ w) z.1)) (by_assertion (joined_moved p q s d b.front b.of_front) f.1 (takes_moved p.active q.active frame f.0 given entries result s f.2 t))

  pub joined_moved : (p q : Setting) → AreSamePairs p.active q.active → {labels : List (List ℕ)} {es : List (List Symbol)} → DeriveInOrder p labels es → (others : List (List ℕ)) → AreSameLabels p q labels others → DeriveInOrder q others es
  joined_moved p q s nothing [] m = nothing
  joined_moved p q s nothing (z ∷ zs) m = absurd m
  joined_moved p q s (first_then {first = first} {rest = rest} {e = e} {es = es} h t) others m =
      let b = beside (λ a b. AreSameMeaning (p.resolve a) (q.resolve b)) first rest others m in
      subst (λ l. DeriveInOrder q l (e ∷ es)) (sym b.whole) (first_then (derived_moved p q s h b.front b.of_front) (joined_moved p q s t b.back b.of_back))

-- both are there and related, or neither is there
abbrev pub BothOrNone : {A B : Type 0} → (A → B → Type 0) → Option A → Option B → Type 0
BothOrNone R None None = Unit {0}
BothOrNone R (Some x) (Some y) = R x y
BothOrNone R None (Some y) = ⊥
BothOrNone R (Some x) None = ⊥

tested : {A B : Type 0} (R : A → B → Type 0) (b c : Bool) (x : A) (y : B) → b ≡ c → R x y → BothOrNone R (if b then Some x else None) (if c then Some y else None)
tested R true true x y e r = r
tested R false false x y e r = tt
tested R _ _ x y e r = cc

found_beside : {A B : Type 0} (R : A → B → Type 0) (xs : List A) (ys : List B) (n : ℕ) → AllZip R xs ys → BothOrNone R (slice_get xs n) (slice_get ys n)
found_beside R [] [] n a = tt
found_beside R (x ∷ xs) (y ∷ ys) zero a = a.0
found_beside R (x ∷ xs) (y ∷ ys) (suc n) a = found_beside R xs ys n a.1
found_beside R _ _ n a = absurd a

same_weight : (p q : Setting) (xs ys : List (List ℕ)) → AreSameLabels p q xs ys → weight p xs ≡ weight q ys
same_weight p q [] [] a = refl
same_weight p q (x ∷ xs) (y ∷ ys) a = grind (arith, common_steps, same_weight p q xs ys a.1) steps 200000
same_weight p q _ _ a = absurd a

same_part : (p q : Setting) (xs ys : List (List ℕ)) → AreSameLabels p q xs ys → BothOrNone (AreSameLabels p q) (last_part p xs) (last_part q ys)
same_part p q [] [] a = tt
same_part p q (x ∷ xs) (y ∷ ys) a = grind (arith, common_steps, same_part p q xs ys a.1, same_weight p q (x ∷ xs) (y ∷ ys) a, tested) steps 200000
same_part p q _ _ a = absurd a

pub record AreSameExpanded (p q : Setting) (x y : Expanded) : Type 0 where
  pub labels : AreSameLabels p q x.labels y.labels
  pub saved : AllZip (AreSameLabels p q) x.saved y.saved

same_again : (p q : Setting) (x y : Expanded) (o r : Option (List (List ℕ))) → AreSameExpanded p q x y → BothOrNone (AreSameLabels p q) o r →
    BothOrNone (AreSameExpanded p q) (option_map (λ (part : List (List ℕ)). record x { labels = x.labels ++ part }) o) (option_map (λ (part : List (List ℕ)). record y { labels = y.labels ++ part }) r)
same_again p q x y o r s b = grind (arith, common_steps, both_joined) steps 200000

same_one : (p q : Setting) (x y : Expanded) (a b : Step) → AreSameExpanded p q x y → IsSameStep p q a b → BothOrNone (AreSameExpanded p q) (expand_one p x a) (expand_one q y b)
same_one p q x y a b s m = grind (arith, common_steps, both_joined, found_beside, same_again, same_part) steps 200000

same_from : (p q : Setting) (o r : Option Expanded) (xs ys : List Step) → BothOrNone (AreSameExpanded p q) o r → AllZip (IsSameStep p q) xs ys → BothOrNone (AreSameExpanded p q) (expand_from p o xs) (expand_from q r ys)
same_from p q o r [] [] s a = s
same_from p q None None (x ∷ xs) (y ∷ ys) s a = tt
same_from p q (Some v) (Some w) (x ∷ xs) (y ∷ ys) s a = same_from p q (expand_one p v x) (expand_one q w y) xs ys (same_one p q v w x y s a.0) a.1
same_from p q None (Some w) (x ∷ xs) (y ∷ ys) s a = absurd s
same_from p q (Some v) None (x ∷ xs) (y ∷ ys) s a = absurd s
same_from p q o r _ _ s a = absurd a

expansion_moved : (p q : Setting) (xs ys : List Step) (x : Expanded) → AllZip (IsSameStep p q) xs ys → expansion p xs ≡ Some x → (y : Expanded) × (expansion q ys ≡ Some y) × AreSameExpanded p q x y
expansion_moved p q xs ys x a e =
    let start : Expanded = record { labels = []; saved = [] } in
    grind (arith, common_steps, same_from p q (Some start) (Some start) xs ys (record { labels = tt; saved = tt }) a) steps 200000

pub reached_moved : (p q : Setting) → AreSamePairs p.active q.active → (xs ys : List Step) (stack : List (List Symbol)) → AllZip (IsSameStep p q) xs ys → Reaches p xs stack → Reaches q ys stack
reached_moved p q s xs ys stack a r =
    let y = expansion_moved p q xs ys r.expanded a r.expands in
    record { expanded = y.0; expands = y.1; in_order = joined_moved p q s r.in_order y.0.labels y.2.labels }

-- a line that holds, at the other place
any_moved : (P : Symbol → Symbol → Type 0) (pairs others : List (Symbol × Symbol)) → ((x y : Symbol) → P x y → P y x) → AreSamePairs pairs others → Any (λ pair. P pair.0 pair.1) pairs → Any (λ pair. P pair.0 pair.1) others
any_moved P pairs others back s a =
    let pair = a.1 in
    elim ((s pair.0 pair.1).0 (inl (a.0, a.2, a.3))) [
      | inl c ↦ (c.0, (pair.0, pair.1), c.1, c.2, a.4)
      | inr c ↦ (c.0, (pair.1, pair.0), c.1, c.2, back pair.0 pair.1 a.4)
    ]

lack_back : (active : List (Symbol × Symbol)) (xs ys : List Symbol) → LackPair active xs ys → LackPair active ys xs
lack_back active xs ys l = (l.1, l.0, l.3, l.2, (λ e. l.4 (sym e)), (λ r. l.5 (pair_back active l.1 l.0 r)))

lack_moved : (active others : List (Symbol × Symbol)) (xs ys : List Symbol) → AreSamePairs active others → LackPair active xs ys → LackPair others xs ys
lack_moved active others xs ys s l = (l.0, l.1, l.2, l.3, l.4, (λ r. l.5 ((s l.0 l.1).1 r)))

pairs_moved :
    (active others : List (Symbol × Symbol)) (expression : List Symbol) (hypotheses : List Mandatory) (pairs : List (Symbol × Symbol)) (b : Frame) (stack : List (List Symbol)) (number : ProofNumber) →
    AreSamePairs active others → AreSamePairs pairs b.pairs → expression ≡ b.expression → hypotheses ≡ b.hypotheses →
    CitingFails 1000000 active (record { expression = expression; hypotheses = hypotheses; pairs = pairs }) stack number → CitingFails 1000000 others b stack number
pairs_moved active others expression hypotheses pairs b stack number s f e h c =
    by_number number (subst (λ (w : Frame). CitingFails 1000000 active w stack number) (λ i. record { expression = e i; hypotheses = h i; pairs = pairs }) c) where
      by_number : (number : ProofNumber) → CitingFails 1000000 active (record b { pairs = pairs }) stack number → CitingFails 1000000 others b stack number
      by_number P10 c = (c.0, c.1, any_moved (λ x y. ShareVariable (c.0 x) (c.0 y)) pairs b.pairs (λ x y z. (z.0, z.2, z.1)) f c.2)
      by_number P11 c = (c.0, c.1, any_moved (λ x y. LackPair others (c.0 x) (c.0 y)) pairs b.pairs (λ x y z. lack_back others (c.0 x) (c.0 y) z) f (c.2.0, c.2.1, c.2.2, c.2.3, lack_moved active others (c.0 c.2.1.0) (c.0 c.2.1.1) s c.2.4))
      by_number _ c = c

pub label_moved : (active others : List (Symbol × Symbol)) (r t : LabelMeaning) (stack : List (List Symbol)) (number : ProofNumber) → AreSamePairs active others → AreSameMeaning r t → LabelFails active r stack number →
    LabelFails others t stack number
label_moved active others (Assertion a) (Assertion b) stack number s m c = pairs_moved active others a.expression a.hypotheses a.pairs b stack number s m.pairs m.expression m.hypotheses c
label_moved active others (Assertion a) _ stack number s m c = absurd m
label_moved active others _ t stack number s m c = absurd c

pub line_moved : (p q : Setting) (a b : Step) (stack : List (List Symbol)) (number : ProofNumber) → AreSamePairs p.active q.active → IsSameStep p q a b → StepLineHolds p a stack number → StepLineHolds q b stack number
line_moved p q a b stack number s m c = grind (arith, common_steps, label_moved) steps 200000

steps_back : (p q : Setting) (xs ys : List Step) → AllZip (IsSameStep p q) xs ys → AllZip (IsSameStep q p) ys xs
steps_back p q xs ys a = flipped (IsSameStep p q) (IsSameStep q p) xs ys (step_back p q) a

fault_moved : (p q : Setting) → AreSamePairs p.active q.active → (xs ys : List Step) (n : ℕ) (number : ProofNumber) → AllZip (IsSameStep p q) xs ys → IsStepFault p xs n number → IsStepFault q ys n number
fault_moved p q s xs ys n number a f =
    let z = zip_at (IsSameStep p q) xs ys n f.step a f.at_fault in
    let back : AreSamePairs q.active p.active = λ x y. ((s x y).1, (s x y).0) in
    record {
      stack = f.stack;
      step = z.0;
      reached = reached_moved p q s (take n xs) (take n ys) f.stack (taken_beside (IsSameStep p q) n xs ys a) f.reached;
      at_fault = z.1;
      nothing_after = λ next r. f.nothing_after next (reached_moved q p back (take (n + 1) ys) (take (n + 1) xs) next (taken_beside (IsSameStep q p) (n + 1) ys xs (steps_back p q xs ys a)) r);
      number_is = grind (arith, common_steps, line_moved p q f.step z.0 f.stack number s z.2 f.number_is.holds, step_back p q f.step z.0 z.2, line_moved) steps 200000;
    }

whole_moved : (p q : Setting) (xs ys : List Step) → AllZip (IsSameStep p q) xs ys → run_part xs ≡ xs → run_part ys ≡ ys
whole_moved p q xs ys a e = known_part ys (known_moved p q xs ys a (all_known xs e))
  where
    known_moved : (p q : Setting) (xs ys : List Step) → AllZip (IsSameStep p q) xs ys → AreKnown xs → AreKnown ys
    known_moved p q [] [] a k = k
    known_moved p q (x ∷ xs) (y ∷ ys) a k = grind (arith, common_steps, known_moved p q xs ys a.1 k.1) steps 200000
    known_moved p q _ _ a k = absurd a

wrong_moved : (p q : Setting) (statement : List Symbol) (c d : Decoded) (number : ProofNumber) (spot : Spot) → IsSameProof p q c d → IsWrongBy p statement c number spot → IsWrongBy q statement d number spot
wrong_moved p q statement c d P14 spot s w = (w.0, reached_moved p q s.active c.steps d.steps w.0 s.steps w.1, w.2, w.3 ∙ s.close)
wrong_moved p q statement c d P15 spot s w = (w.0, reached_moved p q s.active c.steps d.steps (w.0 ∷ []) s.steps w.1, w.2, w.3 ∙ s.close)
wrong_moved p q statement c d number spot s w = grind (arith, fault_moved p q s.active (run_part c.steps) (run_part d.steps) w.0 number (part_same p q c.steps d.steps s.steps) w.1) steps 200000

-- the same proof has the same verdict
pub verdict_moved : (p q : Setting) (statement : List Symbol) (c d : Decoded) (v : Verdict) → IsSameProof p q c d → IsVerdictOnSteps p statement c v → IsVerdictOnSteps q statement d v
verdict_moved p q statement c d Proved s v = reached_moved p q s.active c.steps d.steps (statement ∷ []) s.steps v
verdict_moved p q statement c d (Incomplete spot) s v =
    let parts = part_same p q c.steps d.steps s.steps in (
      λ e. v.0 (whole_moved q p d.steps c.steps (steps_back p q c.steps d.steps s.steps) e),
      subst (λ n. slice_get d.spots n ≡ Some spot) (sym (AllZip-long (IsSameStep p q) (run_part c.steps) (run_part d.steps) parts)) (ap (λ w. slice_get w (length (run_part c.steps))) (sym s.spots) ∙ v.1),
      (v.2.0, reached_moved p q s.active (run_part c.steps) (run_part d.steps) v.2.0 parts v.2.1),
    )
verdict_moved p q statement c d (Wrong number spot) s v = wrong_moved p q statement c d number spot s v
