-- Of an assertion there is one list each of what it cites, of what cites it, and of its axioms.
use Rattle.std.proofs.{Common.{rules, arith, ◌≡◌, ℕ, List, length, refl, sym, subst, Contains}, lemmas.{Grind.{common_steps}, Bool.{and_parts, false≢true}}}
use Rattle.mm_proof.specs.{mm_statement.Language.{Database.{Located}, Laws.{FilesHaveOneDatabase}}, mm_frame.Language.{Base.{BaseView, base_of}, Laws.{HasOwnLabels}}}
use Rattle.mm_keep.specs.Language.{Citations.{LeadsTo, none, step, CitesItem, IsAxiomOf}, Laws.{OneListEach, IsOneList, AxiomsHaveThemselves}, Runs.{AreThose}, Sessions.{IsAssertion, AreNumbersOf}}
use Rattle.mm_keep.{specs.Language.Told.{IsAxiom}, proofs.{CitedItems.{assertion_carries}, NumberLemmas.{one_rising}}}

-- ---- one list

among : (P : ℕ → Type 0) (count : ℕ) (numbers copies : List ℕ) → AreThose P count numbers → AreThose P count copies → (k : ℕ) → Contains numbers k → Contains copies k
among P count numbers copies a b k h = (b.each k).1 ((a.each k).0 h)

one_list_of : FilesHaveOneDatabase → HasOwnLabels → (stands : BaseView → ℕ → ℕ → Type 0) → IsOneList (λ session label numbers. AreNumbersOf session label stands numbers)
one_list_of one own stands label session numbers copies a b =
    let base = base_of a.0 in
    let same : b.0 ≡ a.0 = one session.files session.top b.0 a.0 b.1 a.1 in
    let theirs = subst (λ (items : List Located). IsAssertion (base_of items) label b.2.0) same b.2.1 in
    let number : b.2.0 ≡ a.2.0 = own base b.2.0 a.2.0 label (assertion_carries base label b.2.0 theirs) (assertion_carries base label a.2.0 a.2.1) in
    let moved = subst (λ (items : List Located). AreThose (stands (base_of items) b.2.0) (length (base_of items)) copies) same b.2.2 in
    let those = subst (λ i. AreThose (stands base i) (length base) copies) number moved in
    one_rising numbers copies a.2.2.rising those.rising
    (among (stands base a.2.0) (length base) numbers copies a.2.2 those) (among (stands base a.2.0) (length base) copies numbers those a.2.2)

pub one_list_each : FilesHaveOneDatabase → HasOwnLabels → OneListEach
one_list_each one own =
    search (rules, one_list_of one own (λ base i k. CitesItem base i k), one_list_of one own (λ base i k. CitesItem base k i), one_list_of one own (λ base i k. IsAxiomOf base i k))

-- ---- axioms

leads_itself : (base : BaseView) (i k : ℕ) → IsAxiom base i → LeadsTo base k i → k ≡ i
leads_itself base i k a none = refl
leads_itself base i k a (step c rest) = grind (arith, common_steps, and_parts, false≢true) steps 200000

pub themselves : AxiomsHaveThemselves
themselves base i k a = (λ of. leads_itself base i k a of.leads, λ e. record { is_axiom = subst (IsAxiom base) (sym e) a; leads = subst (λ n. LeadsTo base n i) (sym e) none })
