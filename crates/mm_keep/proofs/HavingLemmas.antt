-- Sessions have answers: items, lists of runs, and what assertions cite.
use Rattle.std.proofs.lemmas.{Grind.{common_steps}, List.{get_or_default}, Option.{same_Some}}
use Rattle.std.proofs.{Common.{◌≡◌, ◌⊎◌, ◌<◌, ℕ, zero, suc, Bool, true, false, Some, List, length, refl, sym, ◌∙◌, subst, inl, inr, arith, slice_index}, Math.Decide.{dec_lt, ℕ_discrete, map_dec}}
use Rattle.std.specs.List.{AllZip}
use Rattle.mm_proof.specs.mm_store.Language.{FileFacts.{HoldsPieces}, FilesView.{File, FilesView, plain}}
use Rattle.mm_proof.specs.mm_frame.Language.{Base.{BaseView, base_of, AreLabelled, IsOfFiles, said_at, is_framed_at, is_proof_at, is_sound_at}, Laws.{HasOwnLabels, SaidAreLabelled}}
use Rattle.mm_proof.specs.{mm_frame.Language.Resolving.{IsCarrier}, mm_statement.Language.{Database.{IsDatabase, Located}, Laws.{FilesHaveOneDatabase, LocatedAreItems}, Locating.{IsLocated}}}
use Rattle.mm_proof.specs.mm_verdict.Language.{CitingLaws.{CitesNameAssertions, CitesTellAssertions, IsCiteOf}, View.{view_at}, VerdictAt.{cites_at}}
use Rattle.mm_keep.specs.Language.{Citations.{CitesItem, LeadsTo, none, step, IsAxiomOf}, Laws.{HasListOfRuns, HasListOf, HasListEach, LabelsAreDecided}, Runs.{HasSameView, HadView, IsRun}}
use Rattle.mm_keep.{specs.Language.Sessions.{IsAssertion, HasAssertion, AreNumbersOf}, proofs.{CitedItems.{cites_earlier, none_cited}, DecidedViews.{dec_views}}}
use Rattle.mm_keep.proofs.DecidingLemmas.{dec_and, dec_not, dec_bool, dec_label, dec_below, have_those}
use Rattle.mm_proof.specs.mm_store.declared.item.Item as store

-- ---- items

-- there are files with keys that mean what these mean
abbrev pub KeysThere : Type 0
KeysThere = (files : List File) → (view : FilesView) × HoldsPieces view × (plain view ≡ files)

-- the items of files are those of some files with keys
pub record Keyed (files : List File) (top : List ℕ) (items : List Located) : Type 0 where
  pub view : FilesView
  pub holds : HoldsPieces view
  pub means : plain view ≡ files
  pub found : List store.Item
  pub of_files : IsOfFiles view top found (base_of items)
  pub located : AllZip (IsLocated view) found items

pub keyed : KeysThere → LocatedAreItems → (files : List File) (top : List ℕ) (items : List Located) → IsDatabase files top items → Keyed files top items
keyed keys located files top items is =
    let view = keys files in
    let placed = located view.0 top items view.1 (subst (λ (all : List File). IsDatabase all top items) (sym view.2) is) in
    record { view = view.0; holds = view.1; means = view.2; found = placed.0; of_files = record { expansion = placed.1; each = placed.2 }; located = placed.3 }

pub are_labelled : KeysThere → LocatedAreItems → SaidAreLabelled → (files : List File) (top : List ℕ) (items : List Located) → IsDatabase files top items → AreLabelled (base_of items)
are_labelled keys located labelled files top items is = let k = keyed keys located files top items is in labelled k.view k.found (base_of items) k.of_files.each

-- ---- runs

dec_same_view : (old new : BaseView) (i j : ℕ) → Dec (HasSameView old new i j)
dec_same_view old new i j =
    map_dec
    (λ h. record { within = h.0.0; was = h.0.1; is = h.1.0; label = h.1.1.0; view = h.1.1.1 })
    (λ h. ((h.within, h.was), (h.is, (h.label, h.view))))
    (dec_and
    (dec_and (dec_lt i (length old)) (dec_bool (is_proof_at old i) true))
    (dec_and (dec_bool (is_proof_at new j) true) (dec_and (dec_label (said_at old i).label (said_at new j).label) (dec_views (view_at old i) (view_at new j)))))

dec_had_view : (old new : BaseView) (j : ℕ) → Dec (HadView old new j)
dec_had_view old new j = map_dec (λ h. (h.0, h.2)) (λ h. (h.0, h.1.within, h.1)) (dec_below (λ i. HasSameView old new i j) (length old) (λ i l. dec_same_view old new i j))

dec_run : (old new : BaseView) (j : ℕ) → Dec (IsRun old new j)
dec_run old new j = map_dec (λ h. record { theorem = h.0; changed = h.1 }) (λ h. (h.theorem, h.changed)) (dec_and (dec_bool (is_proof_at new j) true) (dec_not (dec_had_view old new j)))

pub has_runs : HasListOfRuns
has_runs before after top old new were are =
    let those = have_those (IsRun (base_of old) (base_of new)) (dec_run (base_of old) (base_of new)) (length (base_of new)) in
    (those.0, record { old = old; new = new; were = were; are = are; those = those.1 })

-- ---- assertions

dec_assertion : (base : BaseView) (label : List ℕ) (i : ℕ) → Dec (IsAssertion base label i)
dec_assertion base label i =
    map_dec (λ h. record { within = h.0; framed = h.1.0; label_is = h.1.1 }) (λ h. (h.within, (h.framed, h.label_is)))
    (dec_and (dec_lt i (length base)) (dec_and (dec_bool (is_framed_at base i) true) (dec_label (said_at base i).label (Some label))))

pub labels_decided : FilesHaveOneDatabase → LabelsAreDecided
labels_decided one session label items = by (dec_below (IsAssertion (base_of items.0) label) (length (base_of items.0)) (λ i l. dec_assertion (base_of items.0) label i))
  where
    by : Dec ((i : ℕ) × (i < length (base_of items.0)) × IsAssertion (base_of items.0) label i) → HasAssertion session label ⊎ (¬ HasAssertion session label)
    by (yes h) = inl (items.0, items.1, (h.0, h.2))
    by (no n) = inr (λ has.
        let same : has.0 ≡ items.0 = one session.files session.top has.0 items.0 has.1 items.1 in
        let there = subst (λ (all : List Located). (i : ℕ) × IsAssertion (base_of all) label i) same has.2 in
        n (there.0, there.1.within, there.1))

-- ---- citations

module _ (each : CitesNameAssertions) (tell : CitesTellAssertions) (own : HasOwnLabels) (view : BaseView) (said : AreLabelled view) where
  -- the word at this place cites the item
  abbrev CitesAt : ℕ → ℕ → ℕ → Type 0
  CitesAt i k a = IsCiteOf view i (slice_index (cites_at view i) a) k

  dec_cites_at : (i k a : ℕ) → a < length (cites_at view i) → Dec (CitesAt i k a)
  dec_cites_at i k a l =
      let n = slice_index (cites_at view i) a in
      let m = each view i n (a, l, get_or_default (cites_at view i) a n 0 l) in
      elim (ℕ_discrete m.0 k) as (λ (d : Dec (m.0 ≡ k)). Dec (CitesAt i k a)) [
        | yes e ↦ yes (subst (IsCiteOf view i n) e m.1)
        | no q ↦ no (λ h.
            let same : m.1.label ≡ h.label = same_Some m.1.label h.label (sym m.1.there ∙ h.there) in
            q (own view m.0 k h.label (subst (λ (x : List ℕ). IsCarrier view x m.0) same m.1.means.0.carrier) h.means.0.carrier))
      ]

  pub dec_cites : (i k : ℕ) → Dec (CitesItem view i k)
  dec_cites i k = by (is_proof_at view i) refl
    where
      to : is_proof_at view i ≡ true → (a : ℕ) × (a < length (cites_at view i)) × CitesAt i k a → CitesItem view i k
      to e h = record { theorem = e; names = (tell view i k said).1 (slice_index (cites_at view i) h.0, h.2) }

      from : CitesItem view i k → (a : ℕ) × (a < length (cites_at view i)) × CitesAt i k a
      from c =
          let n = (tell view i k said).0 c.names in
          let at = n.1.cites in
          let is : slice_index (cites_at view i) at.0 ≡ n.0 = get_or_default (cites_at view i) at.0 0 n.0 at.1 ∙ at.2 in
          (at.0, at.1, subst (λ x. IsCiteOf view i x k) (sym is) n.1)

      by : (proof : Bool) → is_proof_at view i ≡ proof → Dec (CitesItem view i k)
      by false e = no (none_cited view i k e)
      by true e = map_dec (to e) from (dec_below (CitesAt i k) (length (cites_at view i)) (dec_cites_at i k))

  lead_cases : (k i : ℕ) → LeadsTo view k i → (i ≡ k) ⊎ ((j : ℕ) × (CitesItem view i j × LeadsTo view k j))
  lead_cases k i none = inl refl
  lead_cases k i (step {j = j} c rest) = inr (j, (c, rest))

  dec_leads : (k bound i : ℕ) → i < bound → Dec (LeadsTo view k i)
  dec_leads k zero i l = absurd (omega (arith, l))
  dec_leads k (suc bound) i l = by (ℕ_discrete i k) (dec_below (λ j. CitesItem view i j × LeadsTo view k j) i (λ j less. dec_and (dec_cites i j) (dec_leads k bound j (omega (arith, less, l)))))
    where
      by : Dec (i ≡ k) → Dec ((j : ℕ) × (j < i) × (CitesItem view i j × LeadsTo view k j)) → Dec (LeadsTo view k i)
      by (yes e) r = yes (subst (λ x. LeadsTo view k x) (sym e) none)
      by (no q) (yes h) = yes (step h.2.0 h.2.1)
      by (no q) (no r) = no (λ f. elim (lead_cases k i f) [
        | inl e ↦ q e
        | inr h ↦ r (h.0, cites_earlier view i h.0 h.1.0, h.1)
      ])

  dec_axiom : (i k : ℕ) → Dec (IsAxiomOf view i k)
  dec_axiom i k = grind (arith, common_steps, dec_bool (is_sound_at view k) true, dec_leads k (suc i) i (omega arith)) steps 200000

module _ (keys : KeysThere) (located : LocatedAreItems) (labelled : SaidAreLabelled) (each : CitesNameAssertions) (tell : CitesTellAssertions) (own : HasOwnLabels) where
  list_of : (stands : BaseView → ℕ → ℕ → Type 0) → ((base : BaseView) → AreLabelled base → (i k : ℕ) → Dec (stands base i k)) → HasListOf (λ session label numbers. AreNumbersOf session label stands numbers)
  list_of stands decides session label has =
      let base = base_of has.0 in
      let i = has.2.0 in
      let h = have_those (stands base i) (decides base (are_labelled keys located labelled session.files session.top has.0 has.1) i) (length base) in
      (h.0, (has.0, has.1, (i, has.2.1, h.1)))

  pub list_each : HasListEach
  list_each = (
    list_of (λ base i k. CitesItem base i k) (λ base said i k. dec_cites each tell own base said i k),
    list_of (λ base i k. CitesItem base k i) (λ base said i k. dec_cites each tell own base said k i),
    list_of (λ base i k. IsAxiomOf base i k) (λ base said i k. dec_axiom each tell own base said i k),
  )
