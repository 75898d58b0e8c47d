use Rattle.std.proofs.lemmas.{Grind.{common_steps}, List.{length-map, length-drop, get_or-map, take-take, take_rest}}
use Rattle.std.proofs.Common.{◌≡◌, ◌+◌, ◌-◌, ◌++◌, ◌∷◌, [], ◌≤◌, ◌<◌, ℕ, false, List, All, IfNone, None, length, map, take, drop, get_or, refl, sym, Vec, Global, ◌∙◌, ap, subst, arith, MatchOption}
use Rattle.mm_machine.specs.Language.{Frame.{Symbol, Mandatory, Frame, HasVariable}, Typing.{IsTyped}, Substitution.{substituted}, Steps.{Cites}, CodeLists.{meant_pairs}, Faults.{last_entries}}
use Rattle.mm_machine.specs.{Language.Lasting.{HoldsLasting, IsCited, IsPattern, cited_frame, lasting_at, lasting_of, pattern_symbols}, declared.machine.Machine.{Machine}}
use Rattle.mm_machine.specs.declared.{gather.PairRoom.{PairRoom}, lasting.Pattern.{Pattern}, slots.Slot.{Slot}, pattern.{Entry.{Entry}, Given.{Given}}, taken.Taken.{Taken}}
use Rattle.mm_machine.specs.Code.{Flat.{read, read_all, IsEntryWithin}, Filling.{AllGive, AreTaken, IsFillable, pattern_filled}, Citation.{AreGiven, CitingSays, GivesEntries}}
use Rattle.mm_machine.proofs.lemmas.machine.{CitingFaults.{cited_by, says_long}, RoomLemmas.{part_long, written_back}, TakenLemmas.{typed_fillable, typed_filled}}
use Rattle.mm_machine.proofs.lemmas.machine.{LastingLemmas.{expressions_stay, patterns_kept}, StackLemmas.{all_taken, ends_of, entries_taken, front_kept}}
use Rattle.mm_machine.proofs.machine.Machine.cite.Goals.{In_ok-built, In_ok-number, After-len-2}
use Rattle.mm_machine.proofs.machine.Machine.cite.Goals as goal

-- the frame that is cited
abbrev frame : (g : _) (c : After-len-2 g) → Frame
frame g c = cited_frame g.S.Listed.Symbol.means (lasting_of g.S.Symbol.means c.args.self.now) c.args.cited.now

-- the stack of a machine
abbrev stack_of : {S : Type 0} → (S → Symbol) → Machine S → List (List Symbol)
stack_of means machine = read_all (map means machine.symbols.items) machine.stack.items

-- its entries from a place on
abbrev entries_from : {S : Type 0} → (S → Symbol) → Machine S → ℕ → List (List Symbol)
entries_from means machine place = read_all (map means machine.symbols.items) (drop place machine.stack.items)

-- where the entries begin that are taken
abbrev place : (g : _) (c : After-len-2 g) → ℕ
place g c = c.len-2.result - length c.args.cited.now.hypotheses.now

-- how many are taken
some : (g : _) (c : After-len-2 g) → place g c + length c.args.cited.now.hypotheses.now ≡ length c.args.self.now.stack.items
some g c = omega (arith, c.if-len-count.false, c.len.ensures, c.len-2.ensures, c.args.self.now.stack.ok)

long : (g : _) (c : After-len-2 g) → length (frame g c).hypotheses ≡ length c.args.cited.now.hypotheses.now
long g c = length-map c.args.cited.now.hypotheses.now _

-- there are enough, and they are the last of the stack
enough : (g : _) (c : After-len-2 g) → length (frame g c).hypotheses ≤ length (stack_of g.S.Symbol.means c.args.self.now)
enough g c = omega (arith, some g c, long g c, length-map c.args.self.now.stack.items (read (map g.S.Symbol.means c.args.self.now.symbols.items)))

last : (g : _) (c : After-len-2 g) → last_entries (frame g c) (stack_of g.S.Symbol.means c.args.self.now) ≡ entries_from g.S.Symbol.means c.args.self.now (place g c)
last g c = entries_taken (frame g c) (map g.S.Symbol.means c.args.self.now.symbols.items) c.args.self.now.stack.items (place g c) (omega (arith, some g c, long g c))

-- what is taken
abbrev taken : (g : _) (c : In_ok-number g) → Taken g.row.S.Denot g.row.S-Listed.Denot
taken g c = record {
  symbols = record { ref_ptr = c.deref.result.ref_ptr; now = c.args.self.now.symbols.items };
  lasting = record { ref_ptr = c.args.cited.ref_ptr; now = c.args.self.now.lasting };
  entries = record { ref_ptr = c.deref-2.result.ref_ptr; now = drop (c.len-2.result - length c.args.cited.now.hypotheses.now) c.args.self.now.stack.items };
  cited = c.args.cited;
}

abbrev place_is : (g : _) (c : In_ok-number g) → Type 0
place_is g c = c.len-2.result - length c.args.cited.now.hypotheses.now + length c.args.cited.now.hypotheses.now ≡ length c.args.self.now.stack.items

-- the entries that are read are those
rest : {X : Type 0} (read_es es : List X) (n : ℕ) → read_es ≡ es → take (length read_es - n) (drop n read_es) ≡ drop n es
rest read_es es n e = take_rest read_es n ∙ ap (drop n) e

taken_within : (n : ℕ) (es : List Entry) (k : ℕ) → All (IsEntryWithin n) es → All (IsEntryWithin n) (drop k es)
taken_within n es k all = subst (All (IsEntryWithin n)) (take_rest es k) (all_taken n es es k refl all)

pub citing_fault-requires-clause-taken : goal.citing_fault-requires-clause-taken
citing_fault-requires-clause-taken g c =
    let d = (goal.at.citing_fault-requires-clause-taken g c).After-len-2 in
    let self = c.args.self.now in
    let holds = c.requires.whole.2 in
    let m = g.S.Symbol.means in
    let l = self.lasting in
    let p = place g d in
    let es = rest c.deref-2.result.now self.stack.items p c.deref-2.ensures.value in
    record {
      within = subst (λ xs. All (IsEntryWithin (length xs - 4)) (take (length c.deref-2.result.now - p) (drop p c.deref-2.result.now))) (sym c.deref.ensures.value)
          (subst (All (IsEntryWithin (length self.symbols.items - 4))) (sym es) (λ k e o. let w = taken_within self.top self.stack.items p c.requires.whole.0.within k e o in (w.0, omega (arith, w.1, c.requires.whole.1))));
      count = omega (arith, ap length es, length-drop p self.stack.items, some g d);
      below = omega (arith, ap length c.deref.ensures.value, c.requires.whole);
      patterns = subst (λ xs. All (IsPattern l.ground (map m xs) (map m l.variables.all.items) l.slots.items) l.patterns.items) (sym c.deref.ensures.value) holds.patterns;
      numbered = holds.numbered;
      cited = subst (λ xs. IsCited g.S.Listed.Symbol.means (map (lasting_at (map m xs)) l.patterns.items) c.args.cited.now) (sym c.deref.ensures.value) c.requires.cited;
    }

-- what is found, said of these entries
says : (g : _) (c : In_ok-number g) → CitingSays (meant_pairs g.S.Listed.Symbol.means c.args.active.now.pairs.now)
    (cited_frame g.S.Listed.Symbol.means (lasting_of g.S.Symbol.means c.args.self.now) c.args.cited.now)
    (entries_from g.S.Symbol.means c.args.self.now (c.len-2.result - length c.args.cited.now.hypotheses.now)) c.in_ok-number.field-0
says g c =
    let m = g.S.Symbol.means in
    let l = g.S.Listed.Symbol.means in
    let p = c.len-2.result - length c.args.cited.now.hypotheses.now in
    let active = meant_pairs l c.args.active.now.pairs.now in
    let patterns = c.args.self.now.lasting.patterns.items in
    subst (λ es. CitingSays active (cited_frame l (lasting_of m c.args.self.now) c.args.cited.now) (read_all (map m c.args.self.now.symbols.items) es) c.in_ok-number.field-0)
    (rest c.deref-2.result.now c.args.self.now.stack.items p c.deref-2.ensures.value)
    (subst (λ xs. CitingSays active (cited_frame l (map (lasting_at (map m xs)) patterns) c.args.cited.now)
    (read_all (map m xs) (take (length c.deref-2.result.now - p) (drop p c.deref-2.result.now))) c.in_ok-number.field-0) c.deref.ensures.value c.in_ok-number.ensures.says)

-- and what is given
gives : (g : _) (c : In_ok-number g) → IfNone c.in_ok-number.field-0 (AllGive g.S.Symbol.means g.S.Listed.Symbol.means (taken g c) c.citing_fault.new.given)
gives g c =
    let m = g.S.Symbol.means in
    let l = g.S.Listed.Symbol.means in
    let p = c.len-2.result - length c.args.cited.now.hypotheses.now in
    let patterns = c.args.self.now.lasting.patterns.items in
    let variables = map m c.args.self.now.lasting.variables.all.items in
    let found = c.in_ok-number.field-0 in
    let given = c.citing_fault.new.given in
    subst (λ es. IfNone found (AreGiven variables (cited_frame l (lasting_of m c.args.self.now) c.args.cited.now).hypotheses es given (length es)))
    (rest c.deref-2.result.now c.args.self.now.stack.items p c.deref-2.ensures.value)
    (subst (λ xs. IfNone found (AreGiven variables (cited_frame l (map (lasting_at (map m xs)) patterns) c.args.cited.now).hypotheses
    (take (length c.deref-2.result.now - p) (drop p c.deref-2.result.now)) given (length (take (length c.deref-2.result.now - p) (drop p c.deref-2.result.now))))) c.deref.ensures.value c.in_ok-number.ensures.gives)

-- what is written back
written : (g : _) (c : In_ok-number g) → take c.args.self.now.given.len (c.citing_fault.new.given ++ drop (length c.citing_fault.new.given) c.args.self.now.given.items) ≡ c.citing_fault.new.given
written g c = grind (arith, common_steps, written_back) steps 200000

-- the entries and the lasting expressions are as wanted
are_taken : (g : _) (c : In_ok-number g) → place_is g c → AreTaken g.S.Symbol.means g.S.Listed.Symbol.means g.S.Kept.key_of (taken g c)
are_taken g c some =
    let self = c.args.self.now in
    let holds = c.requires.whole.2 in
    let p = c.len-2.result - length c.args.cited.now.hypotheses.now in
    record {
      within = λ k e o. let w = taken_within self.top self.stack.items p c.requires.whole.0.within k e o in (w.0, omega (arith, w.1, c.requires.whole.1));
      count = omega (arith, length-drop p self.stack.items, some);
      below = omega (arith, c.requires.whole);
      patterns = holds.patterns;
      numbered = holds.numbered;
      cited = c.requires.cited;
    }

-- the pattern of the result
module _ (g : _) (c : In_ok-number g) (some : place_is g c) (p : Pattern) (is : p ≡ get_or c.args.self.now.lasting.patterns.items c.args.cited.now.expression p) where
  within : c.args.cited.now.expression < length c.args.self.now.lasting.patterns.items
  within = omega (arith, c.requires.cited.expression, length-map c.args.self.now.lasting.patterns.items (lasting_at (map g.S.Symbol.means c.args.self.now.symbols.items)))

  pattern : IsPattern c.args.self.now.lasting.ground (map g.S.Symbol.means c.args.self.now.symbols.items) (map g.S.Symbol.means c.args.self.now.lasting.variables.all.items) c.args.self.now.lasting.slots.items p
  pattern =
      let self = c.args.self.now in
      let l = self.lasting in
      subst (IsPattern l.ground (map g.S.Symbol.means self.symbols.items) (map g.S.Symbol.means l.variables.all.items) l.slots.items) (sym is)
      (c.requires.whole.2.patterns c.args.cited.now.expression p within)

  -- it is that of the frame's expression
  expression_is : (cited_frame g.S.Listed.Symbol.means (lasting_of g.S.Symbol.means c.args.self.now) c.args.cited.now).expression ≡ pattern_symbols (map g.S.Symbol.means c.args.self.now.symbols.items) p
  expression_is =
      let at = lasting_at (map g.S.Symbol.means c.args.self.now.symbols.items) in
      let none : Mandatory = record { floating = false; expression = [] } in
      ap (λ (h : Mandatory). h.expression) (get_or-map at c.args.self.now.lasting.patterns.items c.args.cited.now.expression p none within ∙ ap at (sym is))

  typed : (v : Symbol) → HasVariable (pattern_symbols (map g.S.Symbol.means c.args.self.now.symbols.items) p) v
      → IsTyped (cited_frame g.S.Listed.Symbol.means (lasting_of g.S.Symbol.means c.args.self.now) c.args.cited.now).hypotheses v
  typed v has = c.requires.cited.frame.expression_typed v (subst (λ w. HasVariable w v) (sym expression_is) has)

  module _ (none : c.in_ok-number.field-0 ≡ None) where
    give : AllGive g.S.Symbol.means g.S.Listed.Symbol.means (taken g c) c.citing_fault.new.given
    give = rw none at (gives g c)

    fillable : IsFillable c.citing_fault.new.given c.args.self.now.top c.args.self.now.lasting.slots.items p
    fillable =
        let self = c.args.self.now in
        typed_fillable g.S.Symbol.means g.S.Listed.Symbol.means g.S.Kept.key_of (taken g c) (are_taken g c some) c.citing_fault.new.given give p pattern typed self.top
        (taken_within self.top self.stack.items (c.len-2.result - length c.args.cited.now.hypotheses.now) c.requires.whole.0.within) (omega (arith, c.requires.whole.0.kept_within, c.requires.whole.3))

    fills : (given : Symbol → List Symbol) → GivesEntries given (cited_frame g.S.Listed.Symbol.means (lasting_of g.S.Symbol.means c.args.self.now) c.args.cited.now).hypotheses
        (entries_from g.S.Symbol.means c.args.self.now (c.len-2.result - length c.args.cited.now.hypotheses.now))
        → pattern_filled (map g.S.Symbol.means c.args.self.now.symbols.items) c.citing_fault.new.given c.args.self.now.lasting.slots.items p
        ≡ substituted given (cited_frame g.S.Listed.Symbol.means (lasting_of g.S.Symbol.means c.args.self.now) c.args.cited.now).expression
    fills given all =
        typed_filled g.S.Symbol.means g.S.Listed.Symbol.means g.S.Kept.key_of (taken g c) (are_taken g c some) c.citing_fault.new.given give p pattern typed given all
        ∙ ap (substituted given) (sym expression_is)

pub build_in_room-requires-clause-fillable : goal.build_in_room-requires-clause-fillable
build_in_room-requires-clause-fillable g c =
    let at = goal.at.build_in_room-requires-clause-fillable g c in
    let d = at.In_ok-number in
    subst (λ xs. IsFillable xs c.args.self.now.top c.deref-4.result.now c.index.result.now) (sym (c.deref-3.ensures.value ∙ written g d))
    (subst (λ ss. IsFillable c.citing_fault.new.given c.args.self.now.top ss c.index.result.now) (sym c.deref-4.ensures.value)
    (fillable g d (some g at.After-len-2) c.index.result.now c.index.ensures c.in_default.is))

-- what is built, said of these entries
built : (g : _) (c : In_ok-built g) →
    MatchOption c.in_ok-built.built (1000000 < length (pattern_filled (map g.S.Symbol.means c.args.self.now.symbols.items) c.citing_fault.new.given c.args.self.now.lasting.slots.items c.index.result.now))
    (λ n. (n ≤ 1000000) × (c.args.self.now.top + n + 4 ≤ length c.build_in_room.new.symbols.items)
    × (take n (drop c.args.self.now.top (map g.S.Symbol.means c.build_in_room.new.symbols.items))
    ≡ pattern_filled (map g.S.Symbol.means c.args.self.now.symbols.items) c.citing_fault.new.given c.args.self.now.lasting.slots.items c.index.result.now))
built g c =
    let m = g.S.Symbol.means in
    let self = c.args.self.now in
    let old = self.given in
    let new = c.citing_fault.new.given in
    let back = written_back old.len new old.items (omega (arith, old.ok)) (c.in_ok-number.ensures.count ∙ ap length c.deref_mut.ensures.value) in
    let Says : List Given → List Slot → Type 0 = λ xs ss. MatchOption c.in_ok-built.built (1000000 < length (pattern_filled (map m self.symbols.items) xs ss c.index.result.now))
    (λ n. (n ≤ 1000000) × (self.top + n + 4 ≤ length c.build_in_room.new.symbols.items)
    × (take n (drop self.top (map m c.build_in_room.new.symbols.items)) ≡ pattern_filled (map m self.symbols.items) xs ss c.index.result.now)) in
    subst (λ ss. Says new ss) c.deref-4.ensures.value (subst (λ xs. Says xs c.deref-4.result.now) (c.deref-3.ensures.value ∙ back) c.in_ok-built.ensures.built)

-- what was on the stack and what was saved reads the same then
stack_kept : (g : _) (c : In_ok-built g) → read_all (map g.S.Symbol.means c.build_in_room.new.symbols.items) c.args.self.now.stack.items ≡ stack_of g.S.Symbol.means c.args.self.now
stack_kept g c =
    let m = g.S.Symbol.means in
    let self = c.args.self.now in
    front_kept self.top (map m self.symbols.items) (map m c.build_in_room.new.symbols.items) self.stack.items (omega (arith, c.requires.whole.1, length-map self.symbols.items m)) c.in_ok-built.ensures.below
    (ends_of self.top self.top self.stack.items (omega arith) c.requires.whole.0.within)

saved_kept : (g : _) (c : In_ok-built g) → read_all (map g.S.Symbol.means c.build_in_room.new.symbols.items) c.args.self.now.saved.items ≡ read_all (map g.S.Symbol.means c.args.self.now.symbols.items) c.args.self.now.saved.items
saved_kept g c =
    let m = g.S.Symbol.means in
    let self = c.args.self.now in
    front_kept self.top (map m self.symbols.items) (map m c.build_in_room.new.symbols.items) self.saved.items (omega (arith, c.requires.whole.1, length-map self.symbols.items m)) c.in_ok-built.ensures.below
    (ends_of self.kept self.top self.saved.items c.requires.whole.0.kept_within c.requires.whole.0.saved_within)

-- and so do the lasting expressions
front : (g : _) (c : In_ok-built g) → take c.args.self.now.lasting.ground (map g.S.Symbol.means c.build_in_room.new.symbols.items)
    ≡ take c.args.self.now.lasting.ground (map g.S.Symbol.means c.args.self.now.symbols.items)
front g c =
    let m = g.S.Symbol.means in
    let self = c.args.self.now in
    let low : self.lasting.ground ≤ self.top = omega (arith, c.requires.whole.3, c.requires.whole.0.kept_within) in
    sym (take-take self.lasting.ground self.top (map m c.build_in_room.new.symbols.items) low) ∙ ap (take self.lasting.ground) c.in_ok-built.ensures.below
    ∙ take-take self.lasting.ground self.top (map m self.symbols.items) low

held : (g : _) (c : In_ok-built g) (given : Vec Given Global) (pairs : PairRoom g.row.S.Denot)
    → given.items ≡ take c.args.self.now.given.len (c.citing_fault.new.given ++ drop (length c.citing_fault.new.given) c.args.self.now.given.items)
    → HoldsLasting g.S.Symbol.means g.S.Kept.key_of (record c.args.self.now { symbols = c.build_in_room.new.symbols; given = given; pairs = pairs })
held g c given pairs e =
    let m = g.S.Symbol.means in
    let self = c.args.self.now in
    let l = self.lasting in
    let old = self.given in
    let count = c.in_ok-number.ensures.count ∙ ap length c.deref_mut.ensures.value in
    let back = written_back old.len c.citing_fault.new.given old.items (omega (arith, old.ok)) count in
    let holds = c.requires.whole.2 in
    record {
      below = omega (arith, c.requires.whole.3, c.requires.whole.0.kept_within, c.in_ok-built.ensures.room);
      numbered = holds.numbered;
      patterns = patterns_kept l.ground (map m self.symbols.items) (map m c.build_in_room.new.symbols.items) (map m l.variables.all.items) l.slots.items l.patterns.items (front g c) holds.patterns;
      given = ap length (e ∙ back) ∙ count ∙ holds.given;
    }

expressions : (g : _) (c : In_ok-built g) → map (lasting_at (map g.S.Symbol.means c.build_in_room.new.symbols.items)) c.args.self.now.lasting.patterns.items ≡ lasting_of g.S.Symbol.means c.args.self.now
expressions g c =
    let m = g.S.Symbol.means in
    let l = c.args.self.now.lasting in
    expressions_stay l.ground (map m c.args.self.now.symbols.items) (map m c.build_in_room.new.symbols.items) (map m l.variables.all.items) l.slots.items l.patterns.items (front g c) c.requires.whole.2.patterns

pub returns-in_default-built-clause-whole : goal.returns-in_default-built-clause-whole
returns-in_default-built-clause-whole g c =
    let d = (goal.at.returns-in_default-built-clause-whole g c).In_ok-built in
    (c.requires.whole.0, c.in_ok-built.ensures.room, held g d _ _ refl, c.requires.whole.3)

pub returns-in_default-built-clause-lasting : goal.returns-in_default-built-clause-lasting
returns-in_default-built-clause-lasting g c = expressions g (goal.at.returns-in_default-built-clause-lasting g c).In_ok-built

pub returns-in_default-built-clause-cites : goal.returns-in_default-built-clause-cites
returns-in_default-built-clause-cites g c =
    let m = g.S.Symbol.means in
    let at = goal.at.returns-in_default-built-clause-cites g c in
    let d = at.After-len-2 in
    let es = entries_from m c.args.self.now (place g d) in
    let p = c.index.result.now in
    says_long (meant_pairs g.S.Listed.Symbol.means c.args.active.now.pairs.now) (frame g d) c.requires.cited.frame es (stack_of m c.args.self.now) (enough g d) (last g d)
    (rw c.in_default.is at (says g at.In_ok-number)) (pattern_filled (map m c.args.self.now.symbols.items) c.citing_fault.new.given c.args.self.now.lasting.slots.items p)
    (rw c.in_default-built.is at (built g at.In_ok-built)) (fills g at.In_ok-number (some g d) p c.index.ensures c.in_default.is)

pub returns-in_default-built-clause-saved : goal.returns-in_default-built-clause-saved
returns-in_default-built-clause-saved g c = saved_kept g (goal.at.returns-in_default-built-clause-saved g c).In_ok-built

pub replace-requires-clause-whole : goal.replace-requires-clause-whole
replace-requires-clause-whole g c =
    let d = (goal.at.replace-requires-clause-whole g c).In_ok-built in
    (c.requires.whole.0, c.in_ok-built.ensures.room, held g d _ _ refl, c.requires.whole.3)

pub returns-clause-lasting : goal.returns-clause-lasting
returns-clause-lasting g c = c.in_ok-replace.ensures.lasting ∙ expressions g (goal.at.returns-clause-lasting g c).In_ok-built

pub returns-clause-cites : goal.returns-clause-cites
returns-clause-cites g c =
    let m = g.S.Symbol.means in
    let at = goal.at.returns-clause-cites g c in
    let d = at.After-len-2 in
    let self = c.args.self.now in
    let active = meant_pairs g.S.Listed.Symbol.means c.args.active.now.pairs.now in
    let stack = stack_of m self in
    let es = entries_from m self (place g d) in
    let p = c.index.result.now in
    let is = pattern_filled (map m self.symbols.items) c.citing_fault.new.given self.lasting.slots.items p in
    let put = rw c.in-Some-built.is at (built g at.In_ok-built) in
    let new = map m c.build_in_room.new.symbols.items in
    let size = part_long new self.top c.in-Some-built.count is (omega (arith, put.1, length-map c.build_in_room.new.symbols.items m)) put.2 in
    let cites = cited_by active (frame g d) c.requires.cited.frame es stack (enough g d) (last g d) (rw c.in_default.is at (says g at.In_ok-number)) is (omega (arith, size, put.0))
    (fills g at.In_ok-number (some g d) p c.index.ensures c.in_default.is) in
    let here : length stack - length (frame g d).hypotheses ≡ place g d = omega (arith, some g d, long g d, length-map self.stack.items (read (map m self.symbols.items))) in
    let next = c.in_ok-replace.ensures.stack ∙ ap (λ w. take (place g d) w ++ take c.in-Some-built.count (drop self.top new) ∷ []) (stack_kept g at.In_ok-built) ∙ ap (λ w. take (place g d) stack ++ w ∷ []) put.2 in
    subst (λ w. Cites active (frame g d) stack w) (ap (λ k. take k stack ++ is ∷ []) here ∙ sym next) cites

pub returns-clause-saved : goal.returns-clause-saved
returns-clause-saved g c = c.in_ok-replace.ensures.saved ∙ saved_kept g (goal.at.returns-clause-saved g c).In_ok-built

pub returns-in-Some-clause-cites : goal.returns-in-Some-clause-cites
returns-in-Some-clause-cites g c =
    let at = goal.at.returns-in-Some-clause-cites g c in
    let d = at.After-len-2 in
    (rw c.in-Some.is at (says g at.In_ok-number)) (stack_of g.S.Symbol.means c.args.self.now) (enough g d) (last g d)
