-- The slots of an expression, from symbol to symbol.
use Rattle.std.proofs.lemmas.{Grind.{common_steps}, List.{length-drop, length-take-le, take_all, drop-drop, append_assoc, append-nil, get_or-drop}}
use Rattle.std.proofs.lemmas.{Option.{same_Some, slice_get_within, get_or_from_slice_get, slice_get-get_or}, Bool.{false≢true}}
use Rattle.std.proofs.Common.{◌≡◌, ℕ, ◌+◌, ◌-◌, ◌≤◌, true, false, Some, List, [], ◌∷◌, ◌++◌, length, take, drop, get_or, refl, sym, ◌∙◌, ap, subst, arith, inl, inr, slice_get, Contains}
use Rattle.mm_machine.specs.Language.{Frame.{Symbol, HasVariable}, Typing.{IsTyping}, CodeLists.{range_of}, Lasting.{AreSlotsOf, IsPattern, pattern_symbols}}
use Rattle.mm_machine.specs.{Code.Filling.{AreSlotsWithin, IsFillable, IsGivenWithin}, declared.{slots.Slot.{Slot}, lasting.Pattern.{Pattern}, pattern.Given.{Given}}}
use Rattle.mm_machine.proofs.lemmas.{machine.{ApartLemmas.{front_at}, FlatLemmas.{range_at}}, lists.Members.{pushed, take_next, contains_at, contains_behind}}

-- one more is pushed behind what is added
pub pushed_behind : {X : Type 0} (old more was now : List X) (x : X) → now ≡ was ++ x ∷ [] → was ≡ old ++ more → now ≡ old ++ (more ++ x ∷ [])
pushed_behind old more was now x e f = e ∙ ap (λ w. w ++ x ∷ []) f ∙ append_assoc old more (x ∷ [])

-- the slots of an expression stay so if there are more variables
pub slots_stay : (variables more all expression : List Symbol) (slots : List Slot) → all ≡ variables ++ more → AreSlotsOf variables expression slots →
    AreSlotsOf all expression slots
slots_stay variables more all expression [] e are = are
slots_stay variables more all expression (slot ∷ slots) e are =
    let n = slot.variable in
    let there = ap (λ w. slice_get w n) e ∙ front_at variables more n (slice_get_within variables n are.1 are.4) ∙ are.4 in
    (are.0, are.1, are.2, are.3, there, slots_stay variables more all (drop (slot.constants + 1) expression) slots e are.5)

-- the slots of the variables before this place, and a run of constants behind the last of them
pub record SlotsUpTo (variables expression : List Symbol) (place constants : ℕ) (more : List Slot) : Type 0 where
  pub run : constants ≤ place
  pub constant : (s : Symbol) → Contains (take constants (drop (place - constants) expression)) s → s.variable ≡ false
  pub rest : (wider behind : List Symbol) → wider ≡ variables ++ behind → (slots : List Slot) → AreSlotsOf wider (drop (place - constants) expression) slots →
      AreSlotsOf wider expression (more ++ slots)

-- what is at the place is behind the run
behind_run : (expression : List Symbol) (place constants : ℕ) (s : Symbol) → constants ≤ place → slice_get expression place ≡ Some s →
    slice_get (drop (place - constants) expression) constants ≡ Some s
behind_run expression place constants s l at =
    let n = place - constants in
    let long = slice_get_within expression place s at in
    let sum : n + constants ≡ place = omega arith in
    slice_get-get_or (drop n expression) constants s (omega (arith, length-drop n expression))
    ∙ ap Some (get_or-drop n expression constants s ∙ ap (λ k. get_or expression k s) sum ∙ get_or_from_slice_get expression place s s at)

-- one more constant
pub constant_more : (variables expression : List Symbol) (place constants : ℕ) (more : List Slot) (s : Symbol) → slice_get expression place ≡ Some s →
    s.variable ≡ false → SlotsUpTo variables expression place constants more → SlotsUpTo variables expression (place + 1) (constants + 1) more
constant_more variables expression place constants more s at constant upto =
    let l = upto.run in
    let same : place + 1 - (constants + 1) ≡ place - constants = omega arith in
    let run = drop (place - constants) expression in
    let grown = ap (λ n. take (constants + 1) (drop n expression)) same ∙ take_next run constants s (behind_run expression place constants s l at) in
    record {
      run = omega arith;
      constant = λ t c. elim ((pushed (take constants run) s t).0 (subst (λ w. Contains w t) grown c)) [
        | inl d ↦ upto.constant t d
        | inr e ↦ subst (λ (w : Symbol). w.variable ≡ false) e constant
      ];
      rest = λ wider behind e slots are. upto.rest wider behind e slots (subst (λ n. AreSlotsOf wider (drop n expression) slots) same are);
    }

-- one more variable, which may have got its number now
pub slot_more : (variables news all expression : List Symbol) (place constants : ℕ) (more : List Slot) (v : Symbol) (slot : Slot) → all ≡ variables ++ news →
    slice_get expression place ≡ Some v → v.variable ≡ true → slot.constants ≡ constants → slice_get all slot.variable ≡ Some v →
    SlotsUpTo variables expression place constants more → SlotsUpTo all expression (place + 1) 0 (more ++ slot ∷ [])
slot_more variables news all expression place constants more v slot grown at variable same is upto =
    let l = upto.run in
    let run = drop (place - constants) expression in
    let behind : place + 1 - 0 ≡ place - constants + (slot.constants + 1) = omega arith in
    let moved = ap (λ n. drop n expression) behind ∙ sym (drop-drop (slot.constants + 1) (place - constants) expression) in
    record {
      run = omega arith;
      constant = λ s c. absurd (omega (arith, c.1));
      rest = λ wider last e slots are. subst (AreSlotsOf wider expression) (sym (append_assoc more (slot ∷ []) slots))
          (upto.rest wider (news ++ last) (e ∙ ap (λ w. w ++ last) grown ∙ append_assoc variables news last) (slot ∷ slots) (
            λ s c. upto.constant s (subst (λ n. Contains (take n run) s) same c),
            v,
            subst (λ n. slice_get run n ≡ Some v) (sym same) (behind_run expression place constants v l at),
            variable,
            ap (λ w. slice_get w slot.variable) e ∙ front_at all last slot.variable (slice_get_within all slot.variable v is) ∙ is,
            subst (λ w. AreSlotsOf wider w slots) moved are,
          ));
    }

-- all of them
pub all_slots : (variables expression : List Symbol) (place constants : ℕ) (more : List Slot) → length expression ≤ place → SlotsUpTo variables expression place constants more →
    AreSlotsOf variables expression more
all_slots variables expression place constants more l upto =
    let run = drop (place - constants) expression in
    let whole = take_all constants run (omega (arith, length-drop (place - constants) expression)) in
    subst (AreSlotsOf variables expression) (append-nil more)
    (upto.rest variables [] (sym (append-nil variables)) [] (λ s c. upto.constant s (subst (λ w. Contains w s) (sym whole) c)))

-- what is given to each variable of an expression is within the first so many symbols
abbrev pub AreAllGiven : List Given → ℕ → List Symbol → List Symbol → Type 0
AreAllGiven given top variables expression = (v : Symbol) (n : ℕ) → HasVariable expression v → slice_get variables n ≡ Some v →
    (g : Given) × (slice_get given n ≡ Some g) × IsGivenWithin top g

-- the slots of the expression are within what is given and their expression
slots_within : (given : List Given) (top : ℕ) (variables expression : List Symbol) (slots : List Slot) → AreAllGiven given top variables expression →
    AreSlotsOf variables expression slots → AreSlotsWithin given top (length expression) slots
slots_within given top variables expression [] gives are = tt
slots_within given top variables expression (slot ∷ slots) gives are =
    let k = slot.constants in
    let rest = slots_within given top variables (drop (k + 1) expression) slots (λ v n h. gives v n (contains_behind expression (k + 1) v h.0, h.1)) are.5 in (
      gives are.1 slot.variable (contains_at expression k are.1 are.2, are.3) are.4,
      slice_get_within expression k are.1 are.2,
      subst (λ n. AreSlotsWithin given top n slots) (length-drop (k + 1) expression) rest,
    )

-- a pattern whose variables are given ranges can be filled by them
pub pattern_fillable : (ground top : ℕ) (symbols variables : List Symbol) (slots : List Slot) (given : List Given) (p : Pattern) → IsPattern ground symbols variables slots p
    → ground ≤ top → ground ≤ length symbols → AreAllGiven given top variables (pattern_symbols symbols p) → IsFillable given top slots p
pattern_fillable ground top symbols variables slots given p is in_top in_symbols gives =
    grind (arith, common_steps, length-drop, length-take-le, slots_within) steps 200000

-- the slot of a constant and a variable
slot_behind : (variables : List Symbol) (c v : Symbol) (slots : List Slot) → c.variable ≡ false → v.variable ≡ true → AreSlotsOf variables (c ∷ v ∷ []) slots →
    (slot : Slot) × (slice_get slots 0 ≡ Some slot) × (slice_get variables slot.variable ≡ Some v)
slot_behind variables c v [] constant variable are = absurd (false≢true (sym (are v (contains_at (c ∷ v ∷ []) 1 v refl)) ∙ variable))
slot_behind variables c v (slot ∷ slots) constant variable are = grind (arith, common_steps, constant, false≢true, same_Some, slice_get_within) steps 200000

-- the first slot of a `$f` is there, and of its variable
pub typing_slot : (variables expression : List Symbol) (slots : List Slot) (first last : ℕ) → IsTyping expression →
    AreSlotsOf variables expression (range_of first last slots) →
    (slot : Slot) × (slice_get slots first ≡ Some slot) × ((v : Symbol) → slice_get expression 1 ≡ Some v → slice_get variables slot.variable ≡ Some v)
typing_slot variables expression slots first last typing are = grind (arith, common_steps, range_at, slot_behind) steps 200000
