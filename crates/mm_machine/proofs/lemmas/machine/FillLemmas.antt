-- Lasting expressions that are filled by what their variables are given.
use Rattle.std.proofs.lemmas.{Grind.{common_steps}, Option.{slice_get_within, get_or_from_slice_get}}
use Rattle.std.proofs.lemmas.List.{take-take, drop-take, drop-drop, length-take, length-take-le, length-drop, get_or-map, append_cancel_left, take_at, drop_at, take-append-drop, drop_more, drop_all}
use Rattle.std.proofs.Common.{◌≡◌, ◌↔◌, ℕ, ◌+◌, ◌-◌, ◌<◌, ◌≤◌, false, Some, List, [], ◌∷◌, ◌++◌, length, map, take, drop, get_or, refl, sym, ◌∙◌, ap, ap₂, subst, arith, append_assoc, length-append}
use Rattle.std.proofs.Common.{slice_get, Contains}
use Rattle.mm_machine.specs.Language.{Frame.{Symbol, HasVariable}, Substitution.{substituted, replacement}, CodeLists.{range_of}, Lasting.{AreSlotsOf, pattern_slots, pattern_symbols}}
use Rattle.mm_machine.specs.{declared.{slots.Slot.{Slot}, lasting.Pattern.{Pattern}, pattern.{Entry.{Entry}, Given.{Given}}}, Code.Flat.{read}}
use Rattle.mm_machine.{specs.Code.Filling.{AreSlotsWithin, IsFillable, IsGivenWithin, filled, given_symbols, pattern_filled}, proofs.lemmas.machine.{CopyLemmas.{range_below}, FlatLemmas.{put_rest}}}
use Rattle.mm_machine.proofs.lemmas.{verdicts.Unique.{replacement-variable, replacement-constant}, lists.Members.{Contains-here, contains_there, contains_at, contains_behind}}

-- what comes after a front of a range
pub range_rest : {X : Type 0} (c from end : ℕ) (xs : List X) → from + c ≤ end → drop c (range_of from end xs) ≡ range_of (from + c) end xs
range_rest c from end xs l = grind (arith, common_steps, drop-drop c from xs, drop-take c (end - (from + c)) (drop from xs)) steps 200000

-- constants stay
pub constants_stay : (given : Symbol → List Symbol) (expression : List Symbol) → ((s : Symbol) → Contains expression s → s.variable ≡ false) → substituted given expression ≡ expression
constants_stay given [] all = refl
constants_stay given (s ∷ rest) all =
    let first = replacement-constant given s (all s (Contains-here s rest)) in
    let more = constants_stay given rest (λ t c. all t (contains_there s rest t c)) in
    ap (λ w. w ++ substituted given rest) first ∙ ap (λ w. s ∷ w) more

-- what fills an expression is what a substitution gives that gives each of its variables its list
pub filled_gives : (variables : List Symbol) (given : Symbol → List Symbol) (lists : List (List Symbol)) (expression : List Symbol) (slots : List Slot)
    → ((v : Symbol) (n : ℕ) → HasVariable expression v → slice_get variables n ≡ Some v → slice_get lists n ≡ Some (given v))
    → AreSlotsOf variables expression slots → filled lists expression slots ≡ substituted given expression
filled_gives variables given lists expression [] gives are = sym (constants_stay given expression are)
filled_gives variables given lists expression (slot ∷ slots) gives are =
    let k = slot.constants in
    let v = are.1 in
    let behind = filled lists (drop (k + 1) expression) slots in
    let there = get_or_from_slice_get lists slot.variable (given v) [] (gives v slot.variable (contains_at expression k v are.2, are.3) are.4) in
    let rest = filled_gives variables given lists (drop (k + 1) expression) slots (λ w n h. gives w n (contains_behind expression (k + 1) w h.0, h.1)) are.5 in
    ap (λ w. w ++ (get_or lists slot.variable [] ++ behind)) (sym (constants_stay given (take k expression) are.0))
    ∙ ap (λ w. substituted given (take k expression) ++ (w ++ behind)) (there ∙ sym (replacement-variable given v are.3))
    ∙ ap (λ w. substituted given (take k expression) ++ (replacement given v ++ w)) rest
    ∙ sym (put_rest given expression k v are.2)

-- what is given to the variable of a slot
given_is : (symbols : List Symbol) (given : List Given) (j : ℕ) (g : Given) → slice_get given j ≡ Some g → get_or (map (given_symbols symbols) given) j [] ≡ given_symbols symbols g
given_is symbols given j g at = get_or-map (given_symbols symbols) given j g [] (slice_get_within given j g at) ∙ ap (given_symbols symbols) (get_or_from_slice_get given j g g at)

-- the slot with a number, and what its variable is given
abbrev pub slot_at : List Slot → ℕ → Slot
slot_at slots n = get_or slots n (record { constants = 0; variable = 0 })

abbrev pub given_at : List Given → List Slot → ℕ → Given
given_at given slots n = get_or given (slot_at slots n).variable (record { start = 0; end = 0; place = 0 })

-- what is known of it
pub slot_known : (given : List Given) (top size : ℕ) (slots : List Slot) (n : ℕ) → n < length slots → AreSlotsWithin given top size (drop n slots)
    → ((slice_get given (slot_at slots n).variable ≡ Some (given_at given slots n)) × IsGivenWithin top (given_at given slots n))
    × ((slot_at slots n).constants < size) × AreSlotsWithin given top (size - ((slot_at slots n).constants + 1)) (drop (n + 1) slots)
slot_known given top size slots n l are =
    let here = subst (AreSlotsWithin given top size) (drop_more slots n (record { constants = 0; variable = 0 }) l) are in
    let is = sym (get_or_from_slice_get given (slot_at slots n).variable here.0.0 (record { start = 0; end = 0; place = 0 }) here.0.1) in
    ((here.0.1 ∙ ap Some is, subst (IsGivenWithin top) is here.0.2), here.1, here.2)

-- what fills a pattern is the same if what is below a place is the same
filled_same : (symbols all : List Symbol) (given : List Given) (top size : ℕ) (expression : List Symbol) (slots : List Slot) → take top all ≡ take top symbols
    → AreSlotsWithin given top size slots → filled (map (given_symbols all) given) expression slots ≡ filled (map (given_symbols symbols) given) expression slots
filled_same symbols all given top size expression [] e are = refl
filled_same symbols all given top size expression (slot ∷ slots) e are =
    let k = slot.constants in
    let g = are.0.0 in
    let put = given_is all given slot.variable g are.0.1 ∙ range_below all symbols top g.start (g.end - g.start) (omega (arith, are.0.2)) e ∙ sym (given_is symbols given slot.variable g are.0.1) in
    ap₂ (λ w v. take k expression ++ (w ++ v)) put (filled_same symbols all given top (size - (k + 1)) (drop (k + 1) expression) slots e are.2)

pub filled_kept : (symbols all : List Symbol) (given : List Given) (top : ℕ) (slots : List Slot) (p : Pattern) → IsFillable given top slots p → take top all ≡ take top symbols
    → pattern_filled all given slots p ≡ pattern_filled symbols given slots p
filled_kept symbols all given top slots p is e =
    ap (λ w. filled (map (given_symbols all) given) w (pattern_slots slots p)) (range_below all symbols top p.start (p.end - p.start) (omega (arith, is.in_order, is.within)) e)
    ∙ filled_same symbols all given top (p.end - p.start) (pattern_symbols symbols p) (pattern_slots slots p) e is.slots

-- an expression is filled so far: its front is behind the old symbols, and the rest completes it
abbrev pub Built : List Symbol → List Given → List Symbol → ℕ → ℕ → ℕ → ℕ → List Symbol → List Slot → Type 0
Built old given whole top at from end all slots =
    (front : List Symbol) × (take at all ≡ take top old ++ front) × (front ++ filled (map (given_symbols old) given) (range_of from end old) slots ≡ whole)

module _ (old : List Symbol) (given : List Given) (whole : List Symbol) (top at from end : ℕ) (low : top ≤ at) (room : top ≤ length old) where
  -- nothing is changed below
  pub built_below : (all : List Symbol) (slots : List Slot) → Built old given whole top at from end all slots → take top all ≡ take top old
  built_below all slots b = sym (take-take top at all low) ∙ ap (take top) b.1 ∙ take_at (take top old) b.0 top (length-take-le top old room)

  -- the front is as long as the part that is filled
  built_size : (all : List Symbol) (slots : List Slot) → at ≤ length all → (b : Built old given whole top at from end all slots) → top + length b.0 ≡ at
  built_size all slots in_all b = omega (arith, ap length b.1, length-append (take top old) b.0, length-take-le at all in_all, length-take-le top old room)

  module _ (all : List Symbol) (slots : List Slot) (k : ℕ) (some : k < length slots) (are : AreSlotsWithin given top (end - from) (drop k slots)) (in_top : end ≤ top)
      (so_far : Built old given whole top at from end all (drop k slots)) where
    abbrev c : ℕ
    c = (slot_at slots k).constants

    abbrev g : Given
    g = given_at given slots k

    abbrev n : ℕ
    n = g.end - g.start

    abbrev lists : List (List Symbol)
    lists = map (given_symbols old) given

    abbrev v : ℕ
    v = (slot_at slots k).variable

    known : ((slice_get given v ≡ Some g) × IsGivenWithin top g) × (c < end - from) × AreSlotsWithin given top (end - from - (c + 1)) (drop (k + 1) slots)
    known = slot_known given top (end - from) slots k some are

    b : Built old given whole top at from end all (slot_at slots k ∷ drop (k + 1) slots)
    b = subst (Built old given whole top at from end all) (drop_more slots k (record { constants = 0; variable = 0 }) some) so_far

    -- one slot more
    pub built_more : (one two : List Symbol) → take (at + c) one ≡ take at all ++ take c (drop from all) → take (at + c + n) two ≡ take (at + c) one ++ take n (drop g.start one)
        → Built old given whole top (at + c + n) (from + (c + 1)) end two (drop (k + 1) slots)
    built_more one two e_one e_two =
        let R = range_of from end old in
        let part = take c (drop from old) in
        let part_is : take c R ≡ part = take-take c (end - from) (drop from old) (omega (arith, known.1)) in
        let more = given_symbols old g in
        let rest = filled lists (range_of (from + (c + 1)) end old) (drop (k + 1) slots) in
        let copied = range_below all old top from c (omega (arith, known.1, in_top)) (built_below all (drop k slots) so_far) in
        let one_is : take (at + c) one ≡ take top old ++ (b.0 ++ part) =
        e_one ∙ ap (λ w. take at all ++ w) copied ∙ ap (λ w. w ++ part) b.1 ∙ append_assoc (take top old) b.0 part in
        let top_is : take top one ≡ take top old =
        sym (take-take top (at + c) one (omega (arith, low))) ∙ ap (take top) one_is ∙ take_at (take top old) (b.0 ++ part) top (length-take-le top old room) in
        let more_is : take n (drop g.start one) ≡ more = range_below one old top g.start n (omega (arith, known.0.1.0, known.0.1.1)) top_is in (
          (b.0 ++ part) ++ more,
          e_two ∙ ap (λ w. w ++ take n (drop g.start one)) one_is ∙ ap (λ w. (take top old ++ (b.0 ++ part)) ++ w) more_is ∙ append_assoc (take top old) (b.0 ++ part) more,
          append_assoc (b.0 ++ part) more rest ∙ append_assoc b.0 part (more ++ rest)
              ∙ ap (λ w. b.0 ++ (w ++ (more ++ rest))) (sym part_is)
              ∙ ap (λ w. b.0 ++ (take c R ++ (w ++ rest))) (sym (given_is old given v g known.0.0))
              ∙ ap (λ w. b.0 ++ (take c R ++ (get_or lists v [] ++ filled lists w (drop (k + 1) slots)))) (sym (range_rest (c + 1) from end old (omega (arith, known.1))))
              ∙ b.2,
        )

    -- the whole has so many symbols at least
    pub built_slot : at ≤ length all → at + (c + n) ≤ top + length whole
    built_slot in_all =
        let R = range_of from end old in
        let F = filled lists (drop (c + 1) R) (drop (k + 1) slots) in
        let G = get_or lists v [] in
        let part = length-take-le c R (omega (arith, known.1, in_top, room, length-take (end - from) (drop from old), length-drop from old)) in
        let more_size = length-take-le n (drop g.start old) (omega (arith, room, length-drop g.start old, known.0.1.1)) in
        omega (
          arith,
          built_size all (slot_at slots k ∷ drop (k + 1) slots) in_all b,
          ap length b.2,
          length-append b.0 (take c R ++ (G ++ F)),
          length-append (take c R) (G ++ F),
          length-append G F,
          part,
          ap length (given_is old given v g known.0.0),
          more_size,
        )

  module _ (all : List Symbol) (slots : List Slot) (k : ℕ) (none : length slots ≤ k) (in_all : at ≤ length all) (l : from ≤ end) (in_top : end ≤ top)
      (so_far : Built old given whole top at from end all (drop k slots)) where
    done : Built old given whole top at from end all []
    done = subst (Built old given whole top at from end all) (drop_all k slots none) so_far

    -- the whole, if no slot is left
    pub built_rest : at + (end - from) ≡ top + length whole
    built_rest =
        let rest = length-take-le (end - from) (drop from old) (omega (arith, in_top, room, length-drop from old)) in
        omega (arith, built_size all [] in_all done, ap length done.2, length-append done.0 (range_of from end old), rest)

    pub built_whole : (two : List Symbol) → take (at + (end - from)) two ≡ take at all ++ take (end - from) (drop from all)
        → (take top two ≡ take top old) × (take (at + (end - from) - top) (drop top two) ≡ whole)
    built_whole two e =
        let R = range_of from end old in
        let copied = range_below all old top from (end - from) (omega (arith, l, in_top)) (built_below all [] done) in
        let two_is : take (at + (end - from)) two ≡ take top old ++ whole =
        e ∙ ap (λ w. take at all ++ w) copied ∙ ap (λ w. w ++ R) done.1 ∙ append_assoc (take top old) done.0 R ∙ ap (λ w. take top old ++ w) done.2 in
        let long = length-take-le top old room in (
          sym (take-take top (at + (end - from)) two (omega (arith, low))) ∙ ap (take top) two_is ∙ take_at (take top old) whole top long,
          sym (drop-take top (at + (end - from) - top) two) ∙ ap (λ n. drop top (take n two)) (omega (arith, low)) ∙ ap (drop top) two_is ∙ drop_at (take top old) whole top long,
        )

-- a range in two parts
range_split : {X : Type 0} (c from end : ℕ) (xs : List X) → from + c ≤ end → range_of from end xs ≡ take c (drop from xs) ++ range_of (from + c) end xs
range_split c from end xs l =
    grind (arith, common_steps, range_rest c from end xs l, take-append-drop c (range_of from end xs), take-take c (end - from) (drop from xs) (omega arith)) steps 200000

-- an entry fits so far: it goes on where the expression that is filled does
abbrev pub Fitting : List Symbol → List Given → Entry → List Symbol → ℕ → ℕ → ℕ → List Slot → Type 0
Fitting all given entry whole at from end slots =
    (front : List Symbol) × (read all entry ≡ front ++ range_of at entry.end all) × (front ++ filled (map (given_symbols all) given) (range_of from end all) slots ≡ whole)

-- what is left of the expression is what is left of the entry, if all of it is
left_same : (all : List Symbol) (given : List Given) (entry : Entry) (whole : List Symbol) (at from end : ℕ) (slots : List Slot)
    → Fitting all given entry whole at from end slots → whole ≡ read all entry
    → filled (map (given_symbols all) given) (range_of from end all) slots ≡ range_of at entry.end all
left_same all given entry whole at from end slots f e =
    append_cancel_left f.0 (filled (map (given_symbols all) given) (range_of from end all) slots) (range_of at entry.end all) (f.2 ∙ e ∙ f.1)

module _ (all : List Symbol) (given : List Given) (entry : Entry) (whole : List Symbol) (top at from end : ℕ) (in_all : top ≤ length all) (in_top : end ≤ top)
    (in_entry : at ≤ entry.end) (slots : List Slot) (k : ℕ) (some : k < length slots) (are : AreSlotsWithin given top (end - from) (drop k slots))
    (so_far : Fitting all given entry whole at from end (drop k slots)) where
  abbrev run : ℕ
  run = (slot_at slots k).constants

  abbrev put : Given
  put = given_at given slots k

  abbrev count : ℕ
  count = put.end - put.start

  abbrev number : ℕ
  number = (slot_at slots k).variable

  abbrev left : List Slot
  left = drop (k + 1) slots

  is : ((slice_get given number ≡ Some put) × IsGivenWithin top put) × (run < end - from) × AreSlotsWithin given top (end - from - (run + 1)) left
  is = slot_known given top (end - from) slots k some are

  f : Fitting all given entry whole at from end (slot_at slots k ∷ left)
  f = subst (Fitting all given entry whole at from end) (drop_more slots k (record { constants = 0; variable = 0 }) some) so_far

  abbrev rest : List Symbol
  rest = filled (map (given_symbols all) given) (drop (run + 1) (range_of from end all)) left

  abbrev part : List Symbol
  part = take run (drop from all)

  abbrev more : List Symbol
  more = given_symbols all put

  filled_is : filled (map (given_symbols all) given) (range_of from end all) (slot_at slots k ∷ left) ≡ part ++ (more ++ rest)
  filled_is =
      ap (λ w. w ++ (get_or (map (given_symbols all) given) number [] ++ rest)) (take-take run (end - from) (drop from all) (omega (arith, is.1)))
      ∙ ap (λ w. part ++ (w ++ rest)) (given_is all given number put is.0.0)

  pub fitting_more : run + count ≤ entry.end - at → take run (drop at all) ≡ part → take count (drop (at + run) all) ≡ more
      → Fitting all given entry whole (at + run + count) (from + (run + 1)) end left
  fitting_more room a b =
      let behind = range_of (at + run + count) entry.end all in
      let next = filled (map (given_symbols all) given) (range_of (from + (run + 1)) end all) left in
      let entry_is : range_of at entry.end all ≡ part ++ (more ++ behind) =
      range_split run at entry.end all (omega (arith, room, in_entry)) ∙ ap (λ w. w ++ range_of (at + run) entry.end all) a
      ∙ ap (λ w. part ++ w) (range_split count (at + run) entry.end all (omega (arith, room, in_entry)) ∙ ap (λ w. w ++ behind) b) in (
        (f.0 ++ part) ++ more,
        f.1 ∙ ap (λ w. f.0 ++ w) entry_is ∙ sym (append_assoc f.0 part (more ++ behind)) ∙ sym (append_assoc (f.0 ++ part) more behind),
        append_assoc (f.0 ++ part) more next ∙ append_assoc f.0 part (more ++ next)
            ∙ ap (λ w. f.0 ++ (part ++ (more ++ filled (map (given_symbols all) given) w left))) (sym (range_rest (run + 1) from end all (omega (arith, is.1))))
            ∙ ap (λ w. f.0 ++ w) (sym filled_is) ∙ f.2,
      )

  module _ (e : whole ≡ read all entry) where
    same : part ++ (more ++ rest) ≡ range_of at entry.end all
    same = sym filled_is ∙ left_same all given entry whole at from end (slot_at slots k ∷ left) f e

    part_size : length part ≡ run
    part_size = length-take-le run (drop from all) (omega (arith, is.1, in_all, in_top, length-drop from all))

    more_size : length more ≡ count
    more_size = length-take-le count (drop put.start all) (omega (arith, is.0.1.1, in_all, length-drop put.start all))

    pub fits_room : run + count ≤ entry.end - at
    fits_room = omega (arith, ap length same, length-append part (more ++ rest), length-append more rest, part_size, more_size, length-take (entry.end - at) (drop at all))

    pub fits_constants : take run (drop at all) ≡ part
    fits_constants =
        let room = fits_room in
        sym (take-take run (entry.end - at) (drop at all) (omega arith)) ∙ ap (take run) (sym same) ∙ take_at part (more ++ rest) run part_size

    pub fits_given : take count (drop (at + run) all) ≡ more
    fits_given =
        let room = fits_room in
        sym (take-take count (entry.end - (at + run)) (drop (at + run) all) (omega arith))
        ∙ ap (take count) (sym (range_rest run at entry.end all (omega (arith, in_entry))) ∙ ap (drop run) (sym same) ∙ drop_at part (more ++ rest) run part_size)
        ∙ take_at more rest count more_size

-- if no slot is left, the entry fits if what is left of both is the same
pub fits_rest : (all : List Symbol) (given : List Given) (entry : Entry) (whole : List Symbol) (at from end : ℕ) (slots : List Slot) (k : ℕ) → length slots ≤ k
    → Fitting all given entry whole at from end (drop k slots) → (range_of at entry.end all ≡ range_of from end all) ↔ (whole ≡ read all entry)
fits_rest all given entry whole at from end slots k none so_far =
    let f = subst (Fitting all given entry whole at from end) (drop_all k slots none) so_far in (
      λ e. sym f.2 ∙ ap (λ w. f.0 ++ w) (sym e) ∙ sym f.1,
      λ e. sym (left_same all given entry whole at from end [] f e),
    )
