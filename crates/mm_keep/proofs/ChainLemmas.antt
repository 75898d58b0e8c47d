-- Chains of citations, and marks of the items to which they lead.
use Rattle.std.proofs.lemmas.{Grind.{common_steps}, Bool.{false≢true}, List.{get_or-set_same, get_or-set_other}}
use Rattle.std.proofs.{Common.{◌≡◌, ◌<◌, ◌≤◌, ℕ, suc, ◌+◌, Bool, true, List, ◌∷◌, ◌++◌, length, take, set, refl, ap, ◌∙◌, subst, inl, inr, arith}, Math.{Decide.{dec_lt}, ListN.{get_or-eq_default}}}
use Rattle.mm_proof.specs.mm_frame.Language.Base.{BaseView}
use Rattle.mm_keep.specs.{Language.{Citations.{CitesItem, LeadsTo, none, step, IsAxiomOf}, Runs.{AreThose}, Told.{IsAxiom}}, Code.Cited.{IsMarked, MarksMore, MarksBehind}}
use Rattle.mm_keep.proofs.{CitedItems.{cites_earlier}, RunLemmas.{those_moved}}

-- ---- chains

pub leads_earlier : (view : BaseView) (k i : ℕ) → LeadsTo view k i → k ≤ i
leads_earlier view k i none = omega arith
leads_earlier view k i (step {j = j} c rest) = let l = cites_earlier view i j c in let m = leads_earlier view k j rest in omega (arith, l, m)

-- one chain and another after it
pub leads_on : (view : BaseView) (k j i : ℕ) → LeadsTo view j i → LeadsTo view k j → LeadsTo view k i
leads_on view k j i none more = more
leads_on view k j i (step {j = n} c rest) more = step c (leads_on view k j n rest more)

-- ---- marks

pub marked_within : (marks : List Bool) (k : ℕ) → IsMarked marks k → k < length marks
marked_within marks k m = grind (arith, common_steps, dec_lt, false≢true, get_or-eq_default) steps 200000

-- of the marked items from a front on all that they cite is marked
pub record AreBehind (view : BaseView) (before now : List Bool) (front : ℕ) : Type 0 where
  pub count : length now ≡ length before
  pub kept : (k : ℕ) → IsMarked before k → IsMarked now k
  pub leads : (k : ℕ) → IsMarked now k → (i : ℕ) × IsMarked before i × LeadsTo view k i
  pub closed : (i k : ℕ) → front ≤ i → IsMarked now i → CitesItem view i k → IsMarked now k

pub behind_none : (view : BaseView) (marks : List Bool) (front : ℕ) → front ≡ length marks → AreBehind view marks marks front
behind_none view marks front e = record {
  count = refl;
  kept = λ k m. m;
  leads = λ k m. (k, m, none);
  closed = λ i k l m c. let w = marked_within marks i m in absurd (omega (arith, l, w, e));
}

pub behind_skip : (view : BaseView) (before now : List Bool) (j front : ℕ) → front ≡ j + 1 → AreBehind view before now front → (IsMarked now j → ⊥) → AreBehind view before now j
behind_skip view before now j front e behind not = record {
  count = behind.count;
  kept = behind.kept;
  leads = behind.leads;
  closed = λ i k l m c. grind (arith, common_steps, dec_lt j i, behind.closed i k) steps 200000;
}

pub behind_more :
    (view : BaseView) (before now after : List Bool) (j front : ℕ) → front ≡ j + 1 → AreBehind view before now front → IsMarked now j → MarksMore (CitesItem view j) now after →
    AreBehind view before after j
behind_more view before now after j front e behind here more = record {
  count = more.count ∙ behind.count;
  kept = λ k m. (more.each k).1 (inl (behind.kept k m));
  leads = λ k m. elim ((more.each k).0 m) [
    | inl n ↦ behind.leads k n
    | inr c ↦ (let first = behind.leads j here in (first.0, first.1, leads_on view k j first.0 first.2 (step c none)))
  ];
  closed = λ i k l m c. elim ((more.each i).0 m) [
    | inl n ↦ elim (dec_lt j i) [
      | yes later ↦ (more.each k).1 (inl (behind.closed i k (omega (arith, later, e)) n c))
      | no no_later ↦ (let same : i ≡ j = omega (arith, l, no_later) in (more.each k).1 (inr (subst (λ x. CitesItem view x k) same c)))
    ]
    | inr back ↦ (let earlier = cites_earlier view j i back in absurd (omega (arith, l, earlier)))
  ];
}

reached : (view : BaseView) (now : List Bool) → ((i k : ℕ) → IsMarked now i → CitesItem view i k → IsMarked now k) → (k i : ℕ) → LeadsTo view k i → IsMarked now i → IsMarked now k
reached view now closed k i none m = m
reached view now closed k i (step {j = j} c rest) m = reached view now closed k j rest (closed i j m c)

pub behind_all : (view : BaseView) (before now : List Bool) → AreBehind view before now 0 → MarksBehind view before now
behind_all view before now behind = record {
  count = behind.count;
  each = λ k. (behind.leads k, λ from. reached view now (λ i n m c. behind.closed i n (omega arith) m c) k from.0 from.2 (behind.kept from.0 from.1));
}

-- what is cited, by the marks
pub cites_marked :
    (view : BaseView) (i : ℕ) (fresh marks : List Bool) (numbers : List ℕ) → i < length view → length fresh ≡ i → ((k : ℕ) → IsMarked fresh k → ⊥) →
    MarksMore (CitesItem view i) fresh marks → AreThose (IsMarked marks) (length marks) numbers → AreThose (CitesItem view i) (length view) numbers
cites_marked view i fresh marks numbers within count empty more those =
    those_moved (IsMarked marks) (CitesItem view i) (length marks) (length view) numbers those
    (λ k l m. elim ((more.each k).0 m) [
      | inl f ↦ absurd (empty k f)
      | inr c ↦ (let e = cites_earlier view i k c in (omega (arith, e, within), c))
    ])
    (λ k l c. let e = cites_earlier view i k c in (omega (arith, e, more.count, count), (more.each k).1 (inr c)))

-- the axioms, by the marks
pub axioms_marked :
    (view : BaseView) (i : ℕ) (fresh marks : List Bool) (numbers : List ℕ) → i < length view → length fresh ≡ i + 1 → IsMarked fresh i → ((k : ℕ) → IsMarked fresh k → k ≡ i) →
    MarksBehind view fresh marks → AreThose (λ k. IsMarked marks k × IsAxiom view k) (length marks) numbers → AreThose (IsAxiomOf view i) (length view) numbers
axioms_marked view i fresh marks numbers within count here only behind those =
    those_moved (λ k. IsMarked marks k × IsAxiom view k) (IsAxiomOf view i) (length marks) (length view) numbers those
    (λ k l m.
    let from = (behind.each k).0 m.0 in
    (omega (arith, l, behind.count, count, within), record { is_axiom = m.1; leads = subst (λ x. LeadsTo view k x) (only from.0 from.1) from.2 }))
    (λ k l a. let e = leads_earlier view k i a.leads in (omega (arith, e, behind.count, count), ((behind.each k).1 (i, here, a.leads), a.is_axiom)))

-- the one that is marked first
pub one_marked : (fresh : List Bool) (i : ℕ) → i < length fresh → ((k : ℕ) → IsMarked fresh k → ⊥) → IsMarked (set fresh i true) i × ((k : ℕ) → IsMarked (set fresh i true) k → k ≡ i)
one_marked fresh i within empty = grind (arith, common_steps, get_or-set_other, get_or-set_same) steps 200000

-- a whole list that is written over another of its length
pub take_front : {X : Type 0} (xs ys : List X) (n : ℕ) → n ≡ length xs → take n (xs ++ ys) ≡ xs
take_front (x ∷ xs) ys (suc n) e = ap (λ w. x ∷ w) (take_front xs ys n (omega (arith, e)))
take_front xs ys n e = grind (arith, common_steps) steps 200000
