-- A provable statement is cited: its dummy variables are renamed to fresh ones.
use Rattle.std.proofs.lemmas.{Bool.{false≢true}, Option.{same_Some}, Slice.Eq.{bytes_eq-Decides}, List.{append-nil, Elements.{Contains-append_left, Contains-append_right, Contains-append_cases}}}
use Rattle.std.{proofs.Common.{◌≡◌, ◌≢◌, ◌⊎◌, ℕ, Bool, true, false, Some, List, [], ◌∷◌, ◌++◌, refl, sym, ap, ap₂, ◌∙◌, subst, inl, inr, arith, Contains, bytes_eq}, specs.List.{flat_map}}
use Rattle.mm_frame.specs.mm_machine.Language.{Frame.{Symbol, Mandatory, Frame, ArePair, HasVariable}, Substitution.{replacement, substituted}}
use Rattle.mm_theory.specs.Language.System.{System, AreApartBy, IsInClosure, by_type, by_hypothesis, by_axiom, symbols_of, MayBePaired, IsProvable, IsFresh, IsSystem, IsStatement}
use Rattle.mm_theory.proofs.{Closing.{replacement-variable, replacement-constant, substituted_in}, Members.{only_one, here, there, in_flat}}

-- ---- which symbols stand in a list

same_flags : (a b : Bool) → (a ≡ b) ⊎ (a ≢ b)
same_flags true true = inl refl
same_flags true false = inr (λ e. false≢true (sym e))
same_flags false true = inr (λ e. false≢true e)
same_flags false false = inl refl

same_names : (x y : List ℕ) (b : Bool) → bytes_eq x y ≡ b → (x ≡ y) ⊎ (x ≢ y)
same_names x y true e = inl ((bytes_eq-Decides x y).0 e)
same_names x y false e = inr (λ s. false≢true (sym e ∙ (bytes_eq-Decides x y).1 s))

same_by : (s v : Symbol) → (s.name ≡ v.name) ⊎ (s.name ≢ v.name) → (s.variable ≡ v.variable) ⊎ (s.variable ≢ v.variable) → (s ≡ v) ⊎ (s ≢ v)
same_by s v (inl p) (inl q) = inl (λ i. record { name = p i; variable = q i })
same_by s v (inr p) q = inr (λ e. p (ap (λ (x : Symbol). x.name) e))
same_by s v (inl p) (inr q) = inr (λ e. q (ap (λ (x : Symbol). x.variable) e))

pub same_symbol : (s v : Symbol) → (s ≡ v) ⊎ (s ≢ v)
same_symbol s v = same_by s v (same_names s.name v.name _ refl) (same_flags s.variable v.variable)

abbrev IsAmongOrNot : List Symbol → Symbol → Type 0
IsAmongOrNot xs v = Contains xs v ⊎ (Contains xs v → ⊥)

among_more : (s : Symbol) (xs : List Symbol) (v : Symbol) → (s ≡ v) ⊎ (s ≢ v) → IsAmongOrNot xs v → IsAmongOrNot (s ∷ xs) v
among_more s xs v (inl e) later = inl (subst (Contains (s ∷ xs)) e (here s xs))
among_more s xs v (inr n) (inl c) = inl (there s xs v c)
among_more s xs v (inr n) (inr out) = inr (λ c. elim (Contains-append_cases (s ∷ []) xs v c) [ inl a ↦ n (only_one s v a) | inr b ↦ out b ])

pub among : (xs : List Symbol) (v : Symbol) → IsAmongOrNot xs v
among [] v = inr (λ c. omega (arith, c.1))
among (s ∷ xs) v = among_more s xs v (same_symbol s v) (among xs v)

abbrev chosen : (xs : List Symbol) (v : Symbol) → IsAmongOrNot xs v → List Symbol → List Symbol → List Symbol
chosen xs v (inl c) a b = a
chosen xs v (inr out) a b = b

chosen_in : (xs : List Symbol) (v : Symbol) (is : IsAmongOrNot xs v) (a b : List Symbol) → Contains xs v → chosen xs v is a b ≡ a
chosen_in xs v (inl c) a b has = refl
chosen_in xs v (inr out) a b has = absurd (out has)

chosen_out : (xs : List Symbol) (v : Symbol) (is : IsAmongOrNot xs v) (a b : List Symbol) → (Contains xs v → ⊥) → chosen xs v is a b ≡ b
chosen_out xs v (inl c) a b out = absurd (out c)
chosen_out xs v (inr n) a b out = refl

-- substitutions that agree on an expression's variables give the same
same_one : (f g : Symbol → List Symbol) (s : Symbol) (b : Bool) → s.variable ≡ b → (s.variable ≡ true → f s ≡ g s) → replacement f s ≡ replacement g s
same_one f g s true e h = replacement-variable f s e ∙ h e ∙ sym (replacement-variable g s e)
same_one f g s false e h = replacement-constant f s e ∙ sym (replacement-constant g s e)

pub same_substituted : (f g : Symbol → List Symbol) (e : List Symbol) → ((v : Symbol) → HasVariable e v → f v ≡ g v) → substituted f e ≡ substituted g e
same_substituted f g [] h = refl
same_substituted f g (s ∷ e) h = ap₂ ◌++◌ (same_one f g s s.variable refl (λ v. h s (here s e, v))) (same_substituted f g e (λ v w. h v (there s e v w.0, w.1)))

pub substituted-typing : (f : Symbol → List Symbol) (c v : Symbol) → c.variable ≡ false → v.variable ≡ true → substituted f (c ∷ v ∷ []) ≡ c ∷ f v
substituted-typing f c v constant variable =
    ap (λ (l : List Symbol). l ++ (replacement f v ++ [])) (replacement-constant f c constant)
    ∙ ap (λ (l : List Symbol). c ∷ l) (append-nil (replacement f v) ∙ replacement-variable f v variable)

-- ---- a citation

module _ (system : System) (is : IsSystem system) (cited frame : Frame) (given : Symbol → List Symbol) (stands : IsStatement system cited) (proved : IsProvable system cited)
    (entries : (h : Mandatory) → Contains cited.hypotheses h → IsInClosure system (MayBePaired frame) frame.hypotheses (substituted given h.expression))
    (apart : (v w : Symbol) → ArePair cited.pairs v w → AreApartBy (MayBePaired frame) (given v) (given w)) where
  abbrev taken : List Symbol
  taken = symbols_of frame ++ flat_map given (symbols_of cited)

  abbrev fresh : (to : Symbol → Symbol) × IsFresh system taken to
  fresh = is.endless taken

  abbrev to : Symbol → Symbol
  to = (fresh).0

  abbrev renamed : Symbol → List Symbol
  renamed v = chosen (symbols_of cited) v (among (symbols_of cited) v) (given v) (to v ∷ [])

  renamed_in : (v : Symbol) → Contains (symbols_of cited) v → renamed v ≡ given v
  renamed_in v c = chosen_in (symbols_of cited) v (among (symbols_of cited) v) (given v) (to v ∷ []) c

  renamed_out : (v : Symbol) → (Contains (symbols_of cited) v → ⊥) → renamed v ≡ to v ∷ []
  renamed_out v out = chosen_out (symbols_of cited) v (among (symbols_of cited) v) (given v) (to v ∷ []) out

  not_there : (v : Symbol) → Contains (symbols_of frame) (to v) → ⊥
  not_there v c = (fresh).1.outside v (Contains-append_left (symbols_of frame) (flat_map given (symbols_of cited)) (to v) c)

  not_given : (v w : Symbol) → Contains (symbols_of cited) v → Contains (given v) (to w) → ⊥
  not_given v w has c = (fresh).1.outside w (Contains-append_right (symbols_of frame) (flat_map given (symbols_of cited)) (to w) (in_flat given (symbols_of cited) v (to w) has c))

  abbrev InFrame : List Symbol → Type 0
  InFrame e = IsInClosure system (MayBePaired frame) frame.hypotheses e

  typed_in : (c v : Symbol) → system.typecode v ≡ Some c → IsAmongOrNot (symbols_of cited) v → InFrame (substituted renamed (c ∷ v ∷ []))
  typed_in c v typed (inl has) =
      let kinds = is.typing c v typed in
      let f = stands.has_float v (has, kinds.1) in
      let same : f.0 ≡ c = same_Some f.0 c (sym f.1 ∙ typed) in
      let e : substituted given f.2.0.expression ≡ substituted renamed (c ∷ v ∷ []) =
      ap (substituted given) (f.2.2 ∙ ap (λ (d : Symbol). d ∷ v ∷ []) same) ∙ substituted-typing given c v kinds.0 kinds.1
      ∙ ap (λ (l : List Symbol). c ∷ l) (sym (renamed_in v has)) ∙ sym (substituted-typing renamed c v kinds.0 kinds.1) in
      subst InFrame e (entries f.2.0 f.2.1)
  typed_in c v typed (inr out) =
      let kinds = is.typing c v typed in
      let e : c ∷ to v ∷ [] ≡ substituted renamed (c ∷ v ∷ []) =
      ap (λ (l : List Symbol). c ∷ l) (sym (renamed_out v out)) ∙ sym (substituted-typing renamed c v kinds.0 kinds.1) in
      subst InFrame e (by_type ((fresh).1.keeps_types c v typed))

  in_hypothesis : (h : Mandatory) → Contains cited.hypotheses h → (v : Symbol) → HasVariable h.expression v → Contains (symbols_of cited) v
  in_hypothesis h has v in_h = Contains-append_right cited.expression (flat_map (λ (g : Mandatory). g.expression) cited.hypotheses) v
      (in_flat (λ (g : Mandatory). g.expression) cited.hypotheses h v has in_h.0)

  held : (h : Mandatory) → Contains cited.hypotheses h → InFrame (substituted renamed h.expression)
  held h has = subst InFrame (sym (same_substituted renamed given h.expression (λ v in_h. renamed_in v (in_hypothesis h has v in_h)))) (entries h has)

  -- a variable of a renamed dummy is that dummy, renamed
  of_dummy : (v : Symbol) → (Contains (symbols_of cited) v → ⊥) → (x : Symbol) → HasVariable (renamed v) x → to v ≡ x
  of_dummy v out x h = only_one (to v) x (subst (λ (l : List Symbol). Contains l x) (renamed_out v out) h.0)

  of_given : (v : Symbol) → Contains (symbols_of cited) v → (x : Symbol) → HasVariable (renamed v) x → HasVariable (given v) x
  of_given v has x h = (subst (λ (l : List Symbol). Contains l x) (renamed_in v has) h.0, h.1)

  apart_by : (v w : Symbol) → v.variable ≡ true → w.variable ≡ true → v ≢ w → MayBePaired cited v w → IsAmongOrNot (symbols_of cited) v → IsAmongOrNot (symbols_of cited) w → AreApartBy (MayBePaired frame) (renamed v) (renamed w)
  apart_by v w var war other may (inl a) (inl b) x y in_x in_y = apart v w (may a b) x y (of_given v a x in_x) (of_given w b y in_y)
  apart_by v w var war other may (inl a) (inr b) x y in_x in_y =
      let is_y = of_dummy w b y in_y in (
        (λ e. not_given v w a (subst (Contains (given v)) (e ∙ sym is_y) (of_given v a x in_x).0)),
        (λ p q. absurd (not_there w (subst (Contains (symbols_of frame)) (sym is_y) q))),
      )
  apart_by v w var war other may (inr a) (inl b) x y in_x in_y =
      let is_x = of_dummy v a x in_x in (
        (λ e. not_given w v b (subst (Contains (given w)) (sym e ∙ sym is_x) (of_given w b y in_y).0)),
        (λ p q. absurd (not_there v (subst (Contains (symbols_of frame)) (sym is_x) p))),
      )
  apart_by v w var war other may (inr a) (inr b) x y in_x in_y =
      let is_x = of_dummy v a x in_x in
      let is_y = of_dummy w b y in_y in (
        (λ e. other ((fresh).1.one_to_one v w var war (is_x ∙ e ∙ sym is_y))),
        (λ p q. absurd (not_there v (subst (Contains (symbols_of frame)) (sym is_x) p))),
      )

  in_conclusion : (v : Symbol) → HasVariable cited.expression v → Contains (symbols_of cited) v
  in_conclusion v h = Contains-append_left cited.expression (flat_map (λ (g : Mandatory). g.expression) cited.hypotheses) v h.0

  pub acts : InFrame (substituted given cited.expression)
  acts = subst InFrame (same_substituted renamed given cited.expression (λ v h. renamed_in v (in_conclusion v h)))
      (substituted_in system system (MayBePaired cited) (MayBePaired frame) cited.hypotheses frame.hypotheses renamed (λ f c. c)
      (λ c v typed. typed_in c v typed (among (symbols_of cited) v)) held
      (λ v w var war other may. apart_by v w var war other may (among (symbols_of cited) v) (among (symbols_of cited) w)) proved)

-- ---- provable statements as axioms

module _ (system more : System) (is : IsSystem system)
    (typecodes : (v : Symbol) → more.typecode v ≡ system.typecode v)
    (axioms : (cited : Frame) → Contains more.axioms cited → Contains system.axioms cited ⊎ (IsStatement system cited × IsProvable system cited))
    (frame : Frame) where
  step_by : (cited : Frame) (given : Symbol → List Symbol) → Contains system.axioms cited ⊎ (IsStatement system cited × IsProvable system cited) →
      ((h : Mandatory) → Contains cited.hypotheses h → IsInClosure system (MayBePaired frame) frame.hypotheses (substituted given h.expression)) →
      ((v w : Symbol) → ArePair cited.pairs v w → AreApartBy (MayBePaired frame) (given v) (given w)) → IsInClosure system (MayBePaired frame) frame.hypotheses (substituted given cited.expression)
  step_by cited given (inl a) entries apart = by_axiom {frame = cited} {given = given} a entries apart
  step_by cited given (inr p) entries apart = acts system is cited frame given p.0 p.1 entries apart

  pub unfolded : {e : List Symbol} → IsInClosure more (MayBePaired frame) frame.hypotheses e → IsInClosure system (MayBePaired frame) frame.hypotheses e
  unfolded (by_type {v = v} typed) = by_type (sym (typecodes v) ∙ typed)
  unfolded (by_hypothesis has) = by_hypothesis has
  unfolded (by_axiom {frame = cited} {given = given} a entries apart) = step_by cited given (axioms cited a) (λ h has. unfolded (entries h has)) apart
