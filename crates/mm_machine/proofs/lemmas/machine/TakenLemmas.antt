-- What the variables of an assertion are given by the entries that it takes.
use Rattle.std.proofs.lemmas.{Grind.{common_steps}, Bool.{false≢true}, List.{length-map, length-take, drop-drop, take-append-drop, Elements.{All-contains, Contains-append_cases}}}
use Rattle.std.proofs.lemmas.Option.{slice_get-map, slice_get-get_or, slice_get_within, same_Some}
use Rattle.std.proofs.Common.{◌≡◌, ℕ, ◌+◌, ◌-◌, ◌<◌, ◌≤◌, true, false, Some, List, [], ◌∷◌, option_map, length, map, take, drop, get_or, refl, sym, ◌∙◌, ap, subst, arith, inl, inr, slice_get, All}
use Rattle.std.proofs.Common.{Contains}
use Rattle.mm_machine.specs.Language.{Frame.{Symbol, Mandatory, HasVariable}, Substitution.{substituted}, Typing.{IsTyped, IsTyping}, CodeLists.{range_of}}
use Rattle.mm_machine.specs.{Language.Lasting.{AreSlotsOf, IsPattern, lasting_at, lasting_or, pattern_slots, pattern_symbols}, declared.{lasting.Pattern.{Pattern}, slots.Slot.{Slot}}}
use Rattle.mm_machine.specs.{declared.{pattern.{Entry.{Entry}, Given.{Given}}, taken.Taken.{Taken}}, Code.{Flat.{IsEntryWithin, read}, Citation.{GivesEntries, IsTypingOf}, PairClause.{IsSlot}}}
use Rattle.mm_machine.specs.Code.Filling.{AllGive, AreTaken, IsFillable, entries_of, frame_taking, given_symbols, lasting_taken, pattern_filled, variables_of}
use Rattle.mm_machine.proofs.lemmas.machine.{EntryFaults.{hypotheses_known, slot_gives}, FillLemmas.{filled_gives}, FlatLemmas.{drop_one_take, unmapped}, SlotLemmas.{pattern_fillable}}
use Rattle.mm_machine.proofs.lemmas.lists.Members.{Contains-here, contains_at, contains_get, contains_there, pushed, take_next}

-- after the first symbol of a range
range_behind : (start end : ℕ) (xs : List Symbol) → range_of (start + 1) end xs ≡ drop 1 (range_of start end xs)
range_behind start end xs = grind (arith, common_steps, drop-drop 1 start xs, drop_one_take (end - start) (drop start xs)) steps 200000

-- a variable of an expression has a number, if it has slots
variable_number : (variables expression : List Symbol) (slots : List Slot) (v : Symbol) → AreSlotsOf variables expression slots → HasVariable expression v →
    (n : ℕ) × (slice_get variables n ≡ Some v)
variable_number variables expression [] v are has = absurd (false≢true (sym (are v has.0) ∙ has.1))
variable_number variables expression (slot ∷ slots) v are has =
    let n = slot.constants in
    let front = take (n + 1) expression in
    elim (Contains-append_cases front (drop (n + 1) expression) v (subst (λ w. Contains w v) (sym (take-append-drop (n + 1) expression)) has.0)) [
      | inl c ↦ elim ((pushed (take n expression) are.1 v).0 (subst (λ w. Contains w v) (take_next expression n are.1 are.2) c)) [
        | inl d ↦ absurd (false≢true (sym (are.0 v d) ∙ has.1))
        | inr e ↦ (slot.variable, are.4 ∙ ap Some e)
      ]
      | inr c ↦ variable_number variables (drop (n + 1) expression) slots v are.5 (c, has.1)
    ]

module _ {S L : Type 0} (means : S → Symbol) (listed : L → Symbol) (key : Symbol → ℕ) (taken : Taken S L) (is : AreTaken means listed key taken) where
  -- there are as many entries as hypotheses
  pub taken_count : length (frame_taking means listed taken).hypotheses ≡ length taken.entries.now
  taken_count = length-map taken.cited.now.hypotheses.now (lasting_or (lasting_taken means taken)) ∙ sym is.count

  -- a `$f` is a constant and a variable
  pub taken_typing : (k : ℕ) (h : Mandatory) → slice_get (frame_taking means listed taken).hypotheses k ≡ Some h → h.floating ≡ true → IsTyping h.expression
  taken_typing k h at =
      let hs = (frame_taking means listed taken).hypotheses in
      All-contains (λ (h : Mandatory). h.floating ≡ true → IsTyping h.expression) hs h is.cited.frame.typings (contains_at hs k h at)

  -- the variables of a hypothesis have a `$f` each
  pub taken_typed : (k : ℕ) (h : Mandatory) → slice_get (frame_taking means listed taken).hypotheses k ≡ Some h → (v : Symbol) → HasVariable h.expression v
      → IsTyped (frame_taking means listed taken).hypotheses v
  taken_typed k h at = is.cited.frame.hypotheses_typed h (contains_at (frame_taking means listed taken).hypotheses k h at)

  -- the variable of a `$f`, by its number
  pub taken_variable : (k : ℕ) (h : Mandatory) (number : ℕ) → slice_get (frame_taking means listed taken).hypotheses k ≡ Some h → h.floating ≡ true
      → ((v : Symbol) → slice_get h.expression 1 ≡ Some v → slice_get (variables_of means taken) number ≡ Some v)
      → (v : Symbol) × IsTypingOf h v × (slice_get (variables_of means taken) number ≡ Some v)
  taken_variable k h number at floating named = grind (arith, common_steps, taken_typing k h at floating) steps 200000

  -- an entry that has the typecode of a `$f` is not empty
  pub taken_some : (k : ℕ) (h : Mandatory) (symbols : List Symbol) (e : Entry) → slice_get (frame_taking means listed taken).hypotheses k ≡ Some h → h.floating ≡ true
      → slice_get h.expression 0 ≡ slice_get (read symbols e) 0 → e.start < e.end
  taken_some k h symbols e at floating same = grind (arith, common_steps, length-take, slice_get_within, taken_typing) steps 200000

  -- a mandatory hypothesis is that of a pattern
  taken_pattern : (k : ℕ) (h : Mandatory) → slice_get (frame_taking means listed taken).hypotheses k ≡ Some h → (p : Pattern) × (lasting_at (map means taken.symbols.now) p ≡ h)
      × IsPattern taken.lasting.now.ground (map means taken.symbols.now) (variables_of means taken) taken.lasting.now.slots.items p
  taken_pattern k h at =
      let lasting = lasting_taken means taken in
      let patterns = taken.lasting.now.patterns.items in
      let numbers = taken.cited.now.hypotheses.now in
      let n = unmapped (lasting_or lasting) numbers k h at in
      let none : Mandatory = record { floating = false; expression = [] } in
      let within = All-contains (λ j. j < length lasting) numbers n.0 is.cited.hypotheses (contains_at numbers k n.0 n.1) in
      let p = unmapped (lasting_at (map means taken.symbols.now)) patterns n.0 (get_or lasting n.0 none) (slice_get-get_or lasting n.0 none within) in (
        p.0,
        p.2 ∙ n.2,
        All-contains (IsPattern taken.lasting.now.ground (map means taken.symbols.now) (variables_of means taken) taken.lasting.now.slots.items) patterns p.0
            is.patterns (contains_at patterns n.0 p.0 p.1),
      )

  -- a variable that has a `$f` has a number
  typed_number : (v : Symbol) → v.variable ≡ true → IsTyped (frame_taking means listed taken).hypotheses v → (n : ℕ) × (slice_get (variables_of means taken) n ≡ Some v)
  typed_number v variable (c, constant, there) =
      let h : Mandatory = record { floating = true; expression = c ∷ v ∷ [] } in
      let p = taken_pattern there.0 h (contains_get (frame_taking means listed taken).hypotheses h there) in
      let e = ap (λ (w : Mandatory). w.expression) p.1 in
      variable_number (variables_of means taken) (pattern_symbols (map means taken.symbols.now) p.0) (pattern_slots taken.lasting.now.slots.items p.0) v p.2.slots_are
      (subst (λ w. HasVariable w v) (sym e) (contains_there c (v ∷ []) v (Contains-here v []), variable))

  module _ (given : List Given) (give : AllGive means listed taken given) where
    -- what a variable that has a `$f` is given: the rest of the entry of this
    typed_given : (v : Symbol) (n : ℕ) → IsTyped (frame_taking means listed taken).hypotheses v → slice_get (variables_of means taken) n ≡ Some v → (k : ℕ) × (e : Entry)
        × IsSlot (frame_taking means listed taken).hypotheses k v × (slice_get taken.entries.now k ≡ Some e) × (e.start < e.end)
        × (slice_get given n ≡ Some (record { start = e.start + 1; end = e.end; place = k }))
    typed_given v n (c, constant, there) at =
        let h : Mandatory = record { floating = true; expression = c ∷ v ∷ [] } in
        let here = contains_get (frame_taking means listed taken).hypotheses h there in
        let g = give there.0 h v n (omega (arith, taken_count, there.1)) here (refl, refl) at in
        (there.0, g.0, (h, here, refl, refl), g.1, g.2, g.3)

    -- the slot that is found by what a variable is given is that of its `$f`
    pub slot_found : (v : Symbol) (slot : ℕ) → v.variable ≡ true → IsTyped (frame_taking means listed taken).hypotheses v
        → ((n : ℕ) (g : Given) → slice_get (variables_of means taken) n ≡ Some v → slice_get given n ≡ Some g → slot ≡ g.place)
        → IsSlot (frame_taking means listed taken).hypotheses slot v
    slot_found v slot variable typed found =
        let n = typed_number v variable typed in
        let g = typed_given v n.0 typed n.1 in
        subst (λ j. IsSlot (frame_taking means listed taken).hypotheses j v) (sym (found n.0 (record { start = g.1.start + 1; end = g.1.end; place = g.0 }) n.1 g.5)) g.2

    module _ (p : Pattern)
        (pattern : IsPattern taken.lasting.now.ground (map means taken.symbols.now) (variables_of means taken) taken.lasting.now.slots.items p)
        (typed : (v : Symbol) → HasVariable (pattern_symbols (map means taken.symbols.now) p) v → IsTyped (frame_taking means listed taken).hypotheses v) where
      -- a pattern whose variables have a `$f` each can be filled
      pub typed_fillable : (top : ℕ) → All (IsEntryWithin top) taken.entries.now → taken.lasting.now.ground ≤ top → IsFillable given top taken.lasting.now.slots.items p
      typed_fillable top within low =
          pattern_fillable taken.lasting.now.ground top (map means taken.symbols.now) (variables_of means taken) taken.lasting.now.slots.items given p pattern low
          (omega (arith, is.below, length-map taken.symbols.now means)) (λ v n has at.
          let g = typed_given v n (typed v has) at in
          let e = g.1 in
          let in_all = All-contains (IsEntryWithin top) taken.entries.now e within (contains_at taken.entries.now g.0 e g.3) in
          (record { start = e.start + 1; end = e.end; place = g.0 }, g.5, (omega (arith, g.4), in_all.1)))

      -- and filled by entries it is what they give
      pub typed_filled : (gives : Symbol → List Symbol) → GivesEntries gives (frame_taking means listed taken).hypotheses (entries_of means taken) →
          pattern_filled (map means taken.symbols.now) given taken.lasting.now.slots.items p ≡ substituted gives (pattern_symbols (map means taken.symbols.now) p)
      typed_filled gives all =
          let symbols = map means taken.symbols.now in
          let frame = frame_taking means listed taken in
          filled_gives (variables_of means taken) gives (map (given_symbols symbols) given) (pattern_symbols symbols p) (pattern_slots taken.lasting.now.slots.items p)
          (λ v n has at.
          let g = typed_given v n (typed v has) at in
          let e = g.1 in
          let x = slot_gives frame.hypotheses gives (entries_of means taken) (hypotheses_known frame is.cited.frame) all g.0 v g.2 in
          let read_is = same_Some x.0 (read symbols e) (sym x.1 ∙ slice_get-map (read symbols) taken.entries.now g.0 ∙ ap (option_map (read symbols)) g.3) in
          slice_get-map (given_symbols symbols) given n ∙ ap (option_map (given_symbols symbols)) g.5
          ∙ ap Some (range_behind e.start e.end symbols ∙ ap (drop 1) (sym read_is) ∙ sym x.2)) pattern.slots_are
