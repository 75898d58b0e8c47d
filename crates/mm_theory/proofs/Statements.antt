-- What assertions and labels are at an item, in the words of the formal system.
use Rattle.std.proofs.lemmas.{Grind.{common_steps}, Bool.{and_parts, and_from, or_left}, List.Elements.{Contains-append_cases, All-contains}}
use Rattle.std.{proofs.Common.{◌≡◌, ◌≢◌, ◌<◌, ◌⊎◌, ℕ, Bool, true, false, ◌&&◌, Some, List, [], ◌∷◌, refl, sym, ap, ◌∙◌, subst, inl, inr, arith, Contains}, specs.List.{flat_map}}
use Rattle.mm_frame.specs.mm_machine.Language.{Frame.{Symbol, Mandatory, Frame, Hypothesis, Assertion, Inactive, Unknown, ArePair, HasVariable}, Typing.{IsTyped, IsFrame}}
use Rattle.mm_frame.specs.mm_statement.Language.Item.{Kind, is_kind, Essential, Floating, is_labelled, is_assertion, variable_of, has}
use Rattle.mm_frame.specs.Language.Framing.{active_pairs, mandatory_numbers, mandatory_variables, resolve}
use Rattle.mm_frame.specs.Language.{Base.{BaseView, before, said_at, hypothesis_at, frame_at, is_sound_at, is_shown_at, is_framed_at, IsMandatoryAt}, Resolving.{IsLabelOf}}
use Rattle.mm_frame.specs.Language.Laws.{IsVariableOf, is_active_at}
use Rattle.mm_theory.{specs.Language.{System.{symbols_of, IsStatement}, Databases.{system_of}}, proofs.{Known.{KnownStatements, KnownMeanings}, Floats.{IsTypingOf, float_is}}}
use Rattle.mm_theory.proofs.Members.{here, there, in_map, from_map, from_flat}

-- ---- variables of a frame

variable_of_frame : (frame : Frame) (v : Symbol) → HasVariable (symbols_of frame) v → IsVariableOf frame v
variable_of_frame frame v h = elim (Contains-append_cases frame.expression (flat_map (λ (g : Mandatory). g.expression) frame.hypotheses) v h.0) [
  | inl a ↦ inl (a, h.1)
  | inr b ↦ (let r = from_flat (λ (g : Mandatory). g.expression) frame.hypotheses v b in inr (r.0, r.1, (r.2, h.1)))
]

abbrev IsTypedVariable : Frame → Symbol → Type 0
IsTypedVariable frame v = IsTyped frame.hypotheses v × (v.variable ≡ true)

typed_is_variable : (frame : Frame) (v : Symbol) → IsTypedVariable frame v → IsVariableOf frame v
typed_is_variable frame v t =
    let c = t.0.0 in
    inr (record { floating = true; expression = c ∷ v ∷ [] }, t.0.2, (there c (v ∷ []) v (here v []), t.1))

of_pair : (frame : Frame) → IsFrame frame → (v w : Symbol) → Contains frame.pairs (v, w) → IsTypedVariable frame v × IsTypedVariable frame w
of_pair frame is v w c =
    let p = All-contains (λ (pair : Symbol × Symbol). (pair.0.variable ≡ true) × (pair.1.variable ≡ true) × IsTyped frame.hypotheses pair.0 × IsTyped frame.hypotheses pair.1)
    frame.pairs (v, w) is.pairs_typed c in ((p.2, p.0), (p.3, p.1))

pair_typed : (frame : Frame) → IsFrame frame → (v w : Symbol) → ArePair frame.pairs v w → IsTypedVariable frame v × IsTypedVariable frame w
pair_typed frame is v w (inl c) = let p = of_pair frame is v w c in (p.0, p.1)
pair_typed frame is v w (inr c) = let p = of_pair frame is w v c in (p.1, p.0)

-- ---- the statement of an assertion

module _ (known : KnownStatements) (base : BaseView) (i : ℕ) where
  abbrev hypotheses : List Mandatory
  hypotheses = (frame_at base i).hypotheses

  typed_variable : is_framed_at base i ≡ true → (v : Symbol) → HasVariable (symbols_of (frame_at base i)) v → IsTyped (hypotheses) v
  typed_variable framed v h =
      let is = known.typed base i framed in
      elim (variable_of_frame (frame_at base i) v h) [ inl a ↦ is.expression_typed v a | inr r ↦ is.hypotheses_typed r.0 r.1 v r.2 ]

  -- a hypothesis of the frame is that of an item
  hypothesis_of : (h : Mandatory) → Contains (hypotheses) h → (n : ℕ) × (is_shown_at base n ≡ true) × (hypothesis_at base n ≡ h)
  hypothesis_of h c =
      let numbers = mandatory_numbers (before base i) (said_at base i) in
      let are = known.mandatory base i in
      let r = from_map (hypothesis_at base) numbers h (subst (λ (hs : List Mandatory). Contains hs h) (sym are.are) c) in
      (r.0, (All-contains (λ n. (n < i) × (is_shown_at base n ≡ true)) numbers r.0 are.each r.1).1, r.2)

  same_two : (a b c d : Symbol) → a ∷ b ∷ [] ≡ c ∷ d ∷ [] → (a ≡ c) × (b ≡ d)
  same_two a b c d e = (cc, cc)

  float_here : (axioms : List ℕ) (v : Symbol) → IsTyped (hypotheses) v
      → (c : Symbol) × ((system_of base axioms).typecode v ≡ Some c) × ((h : Mandatory) × Contains (hypotheses) h × (h.expression ≡ c ∷ v ∷ []))
  float_here axioms v t =
      let c = t.0 in
      let h : Mandatory = record { floating = true; expression = c ∷ v ∷ [] } in
      let from = hypothesis_of h t.2 in
      let floating = and_from (is_shown_at base from.0) (is_kind Floating (said_at base from.0).kind) from.1 (ap (λ (g : Mandatory). g.floating) from.2) in
      let is = float_is known base axioms from.0 floating in
      let same = same_two is.c is.v c v (sym is.is ∙ ap (λ (g : Mandatory). g.expression) from.2) in
      (c, ap (system_of base axioms).typecode (sym same.1) ∙ is.typed ∙ ap Some same.0, (h, t.2, refl))

  pub statement : (axioms : List ℕ) → is_framed_at base i ≡ true → IsStatement (system_of base axioms) (frame_at base i)
  statement axioms framed = record { has_float = λ v h. float_here axioms v (typed_variable framed v h) }

-- ---- what labels mean at an item, and its pairs

module _ (known : KnownStatements) (meanings : KnownMeanings) (base : BaseView) (axioms : List ℕ) (i : ℕ) where
  abbrev pub AreHeld : List Symbol → Type 0
  AreHeld e = IsTypingOf base axioms e ⊎ ((h : Mandatory) × Contains (frame_at base i).hypotheses h × (h.expression ≡ e))

  kind_cases : (kind : Kind) → is_labelled kind ≡ true → is_assertion kind ≡ false → (is_kind Floating kind ≡ true) ⊎ (is_kind Essential kind ≡ true)
  kind_cases kind l a = grind (arith, common_steps) steps 200000

  unframed_kind : (sound assertion : Bool) → sound ≡ true → (sound && assertion) ≡ false → assertion ≡ false
  unframed_kind true assertion s f = f
  unframed_kind false assertion s f = absurd (cc)

  -- an active hypothesis is a typing, or one of the frame's
  active_held : (j : ℕ) (label : List ℕ) → IsLabelOf base i j label → is_active_at base i j ≡ true
      → (is_kind Floating (said_at base j).kind ≡ true) ⊎ (is_kind Essential (said_at base j).kind ≡ true) → AreHeld (hypothesis_at base j).expression
  active_held j label is active (inl t) = inl (float_is known base axioms j (and_from (is_shown_at base j) (is_kind Floating (said_at base j).kind) is.carrier.shown t))
  active_held j label is active (inr t) =
      let item = said_at base j in
      let numbers = mandatory_numbers (before base i) (said_at base i) in
      let are = known.mandatory base i in
      let at : IsMandatoryAt base i j = record {
        earlier = is.earlier;
        shown = is.carrier.shown;
        active = active;
        mandatory = or_left (is_kind Essential item.kind) (is_kind Floating item.kind && has (mandatory_variables (before base i) (said_at base i)) (variable_of item)) t;
      } in
      let there = in_map (hypothesis_at base) numbers j ((are.which j).1 at) in
      inr (hypothesis_at base j, subst (λ (hs : List Mandatory). Contains hs (hypothesis_at base j)) are.are there, refl)

  pub held : (label : List ℕ) (e : List Symbol) → resolve (before base i) label ≡ Hypothesis e → AreHeld e
  held label e means = elim (meanings.one base i label) [
    | inl j ↦ by_kind j.0 j.1 (is_framed_at base j.0) refl
    | inr u ↦ (let q : Unknown ≡ Hypothesis e = sym u.1 ∙ means in absurd (cc))
  ]
    where
      by_activity : (j : ℕ) → IsLabelOf base i j label → is_framed_at base j ≡ false → (b : Bool) → is_active_at base i j ≡ b → AreHeld e
      by_activity j is unframed true active =
          let q : Hypothesis (hypothesis_at base j).expression ≡ Hypothesis e = sym (meanings.active base i j label is unframed active) ∙ means in
          let same : (hypothesis_at base j).expression ≡ e = cc in
          let p = and_parts (is_sound_at base j) (is_labelled (said_at base j).kind) is.carrier.shown in
          subst AreHeld same
          (active_held j label is active (kind_cases (said_at base j).kind p.1 (unframed_kind (is_sound_at base j) (is_assertion (said_at base j).kind) p.0 unframed)))
      by_activity j is unframed false ended = let q : Inactive ≡ Hypothesis e = sym (meanings.ended base i j label is unframed ended) ∙ means in absurd (cc)

      by_kind : (j : ℕ) → IsLabelOf base i j label → (b : Bool) → is_framed_at base j ≡ b → AreHeld e
      by_kind j is true framed = let q : Assertion (frame_at base j) ≡ Hypothesis e = sym (meanings.assertions base i j label is framed).2 ∙ means in absurd (cc)
      by_kind j is false unframed = by_activity j is unframed (is_active_at base i j) refl

  -- a label that means an assertion is that of an earlier one
  abbrev pub IsCitedAt : List ℕ → Frame → Type 0
  IsCitedAt label g = (k : ℕ) × (IsLabelOf base i k label × (is_framed_at base k ≡ true)) × (frame_at base k ≡ g)

  pub cited_at : (label : List ℕ) (g : Frame) → resolve (before base i) label ≡ Assertion g → IsCitedAt label g
  cited_at label g means = elim (meanings.one base i label) [
    | inl j ↦ by_kind j.0 j.1 (is_framed_at base j.0) refl
    | inr u ↦ (let q : Unknown ≡ Assertion g = sym u.1 ∙ means in absurd (cc))
  ]
    where
      by_activity : (j : ℕ) → IsLabelOf base i j label → is_framed_at base j ≡ false → (b : Bool) → is_active_at base i j ≡ b → IsCitedAt label g
      by_activity j is unframed true active =
          let q : Hypothesis (hypothesis_at base j).expression ≡ Assertion g = sym (meanings.active base i j label is unframed active) ∙ means in absurd (cc)
      by_activity j is unframed false ended = let q : Inactive ≡ Assertion g = sym (meanings.ended base i j label is unframed ended) ∙ means in absurd (cc)

      by_kind : (j : ℕ) → IsLabelOf base i j label → (b : Bool) → is_framed_at base j ≡ b → IsCitedAt label g
      by_kind j is true framed =
          let r = meanings.assertions base i j label is framed in
          let q : Assertion (frame_at base j) ≡ Assertion g = sym r.2 ∙ means in
          let same : frame_at base j ≡ g = cc in (j, (is, framed), same)
      by_kind j is false unframed = by_activity j is unframed (is_active_at base i j) refl

  -- ---- pairs

  pub pairs_kept : is_framed_at base i ≡ true → (x y : Symbol) → HasVariable (symbols_of (frame_at base i)) x → HasVariable (symbols_of (frame_at base i)) y
      → ArePair (active_pairs (before base i)) x y → ArePair (frame_at base i).pairs x y
  pairs_kept framed x y h k are = (meanings.pairs base i x y framed (variable_of_frame (frame_at base i) x h) (variable_of_frame (frame_at base i) y k)).1 are

  pub different : is_framed_at base i ≡ true → (v w : Symbol) → ArePair (frame_at base i).pairs v w → v ≢ w
  different framed v w are =
      let both = pair_typed (frame_at base i) (known.typed base i framed) v w are in
      meanings.two base i v w ((meanings.pairs base i v w framed (typed_is_variable (frame_at base i) v both.0) (typed_is_variable (frame_at base i) w both.1)).0 are)
