-- What rests on axioms is provable from them.
use Rattle.std.proofs.lemmas.{Grind.{common_steps}, Bool.{false≢true, and_parts}, List.Elements.{All-contains, Contains-append_left, Contains-append_right}}
use Rattle.std.proofs.Common.{◌≡◌, ◌≢◌, ◌⊎◌, ℕ, Bool, true, false, ◌&&◌, List, [], ◌∷◌, ◌++◌, refl, sym, ap, ◌∙◌, subst, inl, inr, arith, Contains, All}
use Rattle.mm_frame.specs.mm_machine.Language.{Frame.{Symbol, Mandatory, Frame, ArePair, HasVariable}, Substitution.{replacement, substituted}}
use Rattle.mm_frame.specs.mm_machine.Language.Derivation.{Derives, DeriveInOrder, by_hypothesis, by_assertion, nothing, first_then, AreApart}
use Rattle.mm_frame.specs.{mm_statement.Language.Item.{Kind, is_assertion, is_kind, Theorem}, Language.Base.{BaseView, said_at, frame_at, is_sound_at, is_framed_at, is_proof_at}}
use Rattle.mm_frame.specs.Language.Resolving.{IsLabelOf}
use Rattle.mm_keep.specs.{mm_verdict.Language.BaseLabels.{setting_at}, Language.{Told.{IsAxiom}, Resting.{RestsOn}}}
use Rattle.mm_theory.specs.Language.{System.{AreApartBy, IsInClosure, MayBePaired, IsProvable, IsStatement}, Databases.{system_of}, Laws.{RestingIsProvable}}
use Rattle.mm_theory.proofs.{Known.{KnownStatements, KnownMeanings}, Supply.{is_system}, Citing.{acts}, Statements.{AreHeld, held, cited_at, statement, pairs_kept, different}}
use Rattle.mm_theory.proofs.Members.{none, only_one, here, first_or_later, in_map}
use Rattle.mm_keep.specs.Language.Resting as resting
use Rattle.mm_theory.specs.Language.System as systems

-- ---- the substitution that changes nothing

abbrev just : Symbol → List Symbol
just v = v ∷ []

just_one : (s : Symbol) (b : Bool) → s.variable ≡ b → replacement just s ≡ s ∷ []
just_one s true e = rw e refl
just_one s false e = rw e refl

substituted_just : (e : List Symbol) → substituted just e ≡ e
substituted_just [] = refl
substituted_just (s ∷ e) = (λ i. just_one s s.variable refl i ++ substituted_just e i)

-- ---- kinds

sound_asserts : (sound assertion : Bool) → sound ≡ true → assertion ≡ true → (sound && assertion) ≡ true
sound_asserts true assertion s a = a
sound_asserts false assertion s a = absurd (false≢true s)

theorem_asserts : (kind : Kind) → is_kind Theorem kind ≡ true → is_assertion kind ≡ true
theorem_asserts kind t = grind (arith, common_steps) steps 200000

proof_framed : (base : BaseView) (i : ℕ) → is_proof_at base i ≡ true → is_framed_at base i ≡ true
proof_framed base i t =
    let p = and_parts (is_sound_at base i) (is_kind Theorem (said_at base i).kind) t in
    sound_asserts (is_sound_at base i) (is_assertion (said_at base i).kind) p.0 (theorem_asserts (said_at base i).kind p.1)

axiom_framed : (base : BaseView) (i : ℕ) → IsAxiom base i → is_framed_at base i ≡ true
axiom_framed base i is = sound_asserts (is_sound_at base i) (is_assertion (said_at base i).kind) is.sound (ap is_assertion is.kind)

-- ---- a proof, and chains of citations

module _ (known : KnownStatements) (meanings : KnownMeanings) (base : BaseView) (axioms : List ℕ) where
  -- an assertion that may be cited: one of the axioms, or provable
  abbrev IsAvailable : ℕ → Type 0
  IsAvailable k = Contains (system_of base axioms).axioms (frame_at base k) ⊎ (IsStatement (system_of base axioms) (frame_at base k) × IsProvable (system_of base axioms) (frame_at base k))

  module _ (i : ℕ) (framed : is_framed_at base i ≡ true) where
    abbrev InFrame : List Symbol → Type 0
    InFrame e = IsInClosure (system_of base axioms) (MayBePaired (frame_at base i)) (frame_at base i).hypotheses e

    from_held : (e : List Symbol) → AreHeld known meanings base axioms i e → InFrame e
    from_held e (inl t) = subst InFrame (sym t.is) (systems.by_type t.typed)
    from_held e (inr h) = subst InFrame h.2 (systems.by_hypothesis {h = h.0} h.1)

    abbrev AllAvailable : List (List ℕ) → Type 0
    AllAvailable labels = (label : List ℕ) (k : ℕ) → Contains labels label → IsLabelOf base i k label × (is_framed_at base k ≡ true) → IsAvailable k

    apart_by : (xs ys : List Symbol) → AreApart (setting_at base i).active xs ys → AreApartBy (MayBePaired (frame_at base i)) xs ys
    apart_by xs ys a x y h k =
        let other : x ≢ y = λ e. a.unshared (x, h, subst (HasVariable ys) (sym e) k) in
        (other, λ p q. pairs_kept known meanings base axioms i framed x y (p, h.1) (q, k.1) (a.paired x y h k other))

    turned : (xs ys : List Symbol) → AreApartBy (MayBePaired (frame_at base i)) xs ys → AreApartBy (MayBePaired (frame_at base i)) ys xs
    turned xs ys a x y h k = let r = a y x k h in (λ e. r.0 (sym e), λ p q. turn (r.1 q p))
      where
        turn : ArePair (frame_at base i).pairs y x → ArePair (frame_at base i).pairs x y
        turn (inl c) = inr c
        turn (inr c) = inl c

    apart_all : (pairs : List (Symbol × Symbol)) (given : Symbol → List Symbol) → All (λ pair. AreApart (setting_at base i).active (given pair.0) (given pair.1)) pairs
        → (v w : Symbol) → ArePair pairs v w → AreApartBy (MayBePaired (frame_at base i)) (given v) (given w)
    apart_all pairs given all v w (inl c) = apart_by (given v) (given w) (All-contains (λ (pair : Symbol × Symbol). AreApart (setting_at base i).active (given pair.0) (given pair.1)) pairs (v, w) all c)
    apart_all pairs given all v w (inr c) = turned (given w) (given v) (apart_by (given w) (given v) (All-contains (λ (pair : Symbol × Symbol). AreApart (setting_at base i).active (given pair.0) (given pair.1)) pairs (w, v) all c))

    use_cited : (k : ℕ) (given : Symbol → List Symbol) → IsAvailable k
        → ((h : Mandatory) → Contains (frame_at base k).hypotheses h → InFrame (substituted given h.expression))
        → ((v w : Symbol) → ArePair (frame_at base k).pairs v w → AreApartBy (MayBePaired (frame_at base i)) (given v) (given w))
        → InFrame (substituted given (frame_at base k).expression)
    use_cited k given (inl a) entries apart = systems.by_axiom {frame = frame_at base k} {given = given} a entries apart
    use_cited k given (inr p) entries apart = acts (system_of base axioms) (is_system base axioms) (frame_at base k) (frame_at base i) given p.0 p.1 entries apart

    use_frame : (g : Frame) (k : ℕ) (given : Symbol → List Symbol) → frame_at base k ≡ g → IsAvailable k
        → ((h : Mandatory) → Contains g.hypotheses h → InFrame (substituted given h.expression))
        → ((v w : Symbol) → ArePair g.pairs v w → AreApartBy (MayBePaired (frame_at base i)) (given v) (given w))
        → InFrame (substituted given g.expression)
    use_frame g k given same may entries apart =
        subst (λ (f : Frame). ((h : Mandatory) → Contains f.hypotheses h → InFrame (substituted given h.expression))
        → ((v w : Symbol) → ArePair f.pairs v w → AreApartBy (MayBePaired (frame_at base i)) (given v) (given w))
        → InFrame (substituted given f.expression)) same (use_cited k given may) entries apart

    entry_cases : (e : List Symbol) (es : List (List Symbol)) (f : List Symbol) → InFrame e → ((g : List Symbol) → Contains es g → InFrame g) → Contains (e ∷ es) f → InFrame f
    entry_cases e es f a b c = elim (first_or_later e es f c) [ inl q ↦ subst InFrame q a | inr h ↦ b f h ]

    mutual
      derived : {labels : List (List ℕ)} {e : List Symbol} → Derives (setting_at base i) labels e → AllAvailable labels → InFrame e
      derived (by_hypothesis {label = label} {e = e} means) cited = from_held e (held known meanings base axioms i label e means)
      derived (by_assertion {labels = labels} {label = label} {frame = g} {given = given} {entries = entries} inner means takes) cited =
          let c = cited_at known meanings base axioms i label g means in
          subst InFrame takes.result_matches
          (use_frame g c.0 given c.2 (cited label c.0 (Contains-append_right labels (label ∷ []) label (here label [])) c.1)
          (λ h has. in_order inner (λ other k among r. cited other k (Contains-append_left labels (label ∷ []) other among) r) (substituted given h.expression)
          (subst (λ (l : List (List Symbol)). Contains l (substituted given h.expression)) takes.entries_match (in_map (λ (h : Mandatory). substituted given h.expression) g.hypotheses h has)))
          (apart_all g.pairs given takes.apart))

      in_order : {labels : List (List ℕ)} {es : List (List Symbol)} → DeriveInOrder (setting_at base i) labels es → AllAvailable labels → (f : List Symbol) → Contains es f → InFrame f
      in_order nothing cited f c = absurd (none f c)
      in_order (first_then {first = first} {rest = rest} {e = e} {es = es} d later) cited f c =
          entry_cases e es f (derived d (λ label k among r. cited label k (Contains-append_left first rest label among) r))
          (in_order later (λ label k among r. cited label k (Contains-append_right first rest label among) r)) c

    -- an axiom is provable from itself
    itself_apart : (v w : Symbol) → ArePair (frame_at base i).pairs v w → AreApartBy (MayBePaired (frame_at base i)) (just v) (just w)
    itself_apart v w are x y h k =
        let a = only_one v x h.0 in
        let b = only_one w y k.0 in
        ((λ e. different known meanings base axioms i framed v w are (a ∙ e ∙ sym b)), λ p q. subst (λ (z : Symbol). ArePair (frame_at base i).pairs z y) a (subst (λ (z : Symbol). ArePair (frame_at base i).pairs v z) b are))

    axiom_provable : Contains (system_of base axioms).axioms (frame_at base i) → IsProvable (system_of base axioms) (frame_at base i)
    axiom_provable among =
        subst InFrame (substituted_just (frame_at base i).expression)
        (systems.by_axiom {frame = frame_at base i} {given = just} among
        (λ h has. subst InFrame (sym (substituted_just h.expression)) (systems.by_hypothesis {h = h} has))
        itself_apart)

  available : {i : ℕ} → RestsOn base axioms i → IsAvailable i
  available (resting.by_axiom {k = k} is among) = inl (in_map (frame_at base) axioms k among)
  available (resting.by_labels {i = i} derivable each) =
      let framed = proof_framed base i derivable.theorem in
      inr (statement known base i axioms framed, derived i framed derivable.derive (λ label k among r. available (each label k among r)))

  provable : {i : ℕ} → RestsOn base axioms i → IsProvable (system_of base axioms) (frame_at base i)
  provable (resting.by_axiom {k = k} is among) = axiom_provable k (axiom_framed base k is) (in_map (frame_at base) axioms k among)
  provable (resting.by_labels {i = i} derivable each) =
      derived i (proof_framed base i derivable.theorem) derivable.derive (λ label k among r. available (each label k among r))

pub provable_by : KnownStatements → KnownMeanings → RestingIsProvable
provable_by known meanings base axioms i r = provable known meanings base axioms r
