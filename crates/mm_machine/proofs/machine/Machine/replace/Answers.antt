use Rattle.std.proofs.Common.{rules, ◌≡◌, ◌+◌, ◌-◌, ◌++◌, ◌∷◌, [], ◌≤◌, ℕ, length, map, take, drop, refl, sym, ◌∙◌, ap, subst, arith, slice_get, Vec, Global}
use Rattle.std.proofs.lemmas.List.{length-map, length-take, length-drop, take-take}
use Rattle.mm_machine.{specs.{Language.Frame.{Symbol}, declared.{machine.Machine.{Machine}, pattern.{Entry.{Entry}, Given.{Given}}}}, proofs.lemmas.machine.RoomLemmas.{put_behind, written_back}}
use Rattle.mm_machine.proofs.lemmas.machine.{LastingLemmas.{expressions_stay, patterns_kept}, StackLemmas.{ends_of, front_kept, replaced_by, whole_replaced}}
use Rattle.mm_machine.proofs.machine.Machine.replace.Goals.{Joined-start-self, In_ok-put_entry, then-start-self+then-count-start+in_ok-move_down, else-start-self}
use Rattle.mm_machine.proofs.machine.Machine.replace.Goals as goal

-- the result is at its place, and nothing else that counts is changed
record Placed {S : Type 0} (means : S → Symbol) (old new : Machine S) (floor count start : ℕ) : Type 0 where
  stack : new.stack ≡ old.stack
  saved : new.saved ≡ old.saved
  kept : new.kept ≡ old.kept
  lasting : new.lasting ≡ old.lasting
  given : new.given ≡ old.given
  first : floor ≤ start
  last : start ≤ old.top
  long : length new.symbols.items ≡ length old.symbols.items
  front : take floor (map means new.symbols.items) ≡ take floor (map means old.symbols.items)
  moved : take count (drop start (map means new.symbols.items)) ≡ take count (drop old.top (map means old.symbols.items))

placed : (g : _) (c : Joined-start-self g) → Placed g.S.Symbol.means c.args.self.now c.if-start-self.self c.floor_of-floor.result c.args.count c.if-start-self.start
placed g c =
    let m = g.S.Symbol.means in
    let old = c.args.self.now.symbols in
    let top = c.args.self.now.top in
    let count = c.args.count in
    let f = c.floor_of-floor.result in
    elim c.if-start-self.branch [
      | then-start-self+then-count-start+in_ok-move_down w ↦
          let k = w.in_ok-move_down.ensures in
          let new = w.move_down.new.all in
          let now = w.deref_mut.ensures.value in
          let is = ap (λ (x : Machine g.row.S.Denot). x.symbols.items) w.self-is ∙ written_back old.len new old.items (omega (arith, old.ok)) (k.count ∙ ap length now) in
          let more = take count (drop top (map m old.items)) in
          let long : length more ≡ count = omega (arith, c.requires.room, length-take count (drop top (map m old.items)), length-drop top (map m old.items), length-map old.items m) in
          let put = put_behind (map m old.items) (map m new) more f count (omega (arith, c.requires.room, c.floor_of-floor.ensures.within, length-map old.items m)) long
          (subst (λ xs. take (f + count) (map m new) ≡ take f (map m xs) ++ take count (drop top (map m xs))) now k.moved) in
          record {
            stack = ap (λ (x : Machine g.row.S.Denot). x.stack) w.self-is;
            saved = ap (λ (x : Machine g.row.S.Denot). x.saved) w.self-is;
            kept = ap (λ (x : Machine g.row.S.Denot). x.kept) w.self-is;
            lasting = ap (λ (x : Machine g.row.S.Denot). x.lasting) w.self-is;
            given = ap (λ (x : Machine g.row.S.Denot). x.given) w.self-is;
            first = omega (arith, w.start-is);
            last = omega (arith, w.start-is, c.floor_of-floor.ensures.within);
            long = ap length is ∙ k.count ∙ ap length now;
            front = ap (λ xs. take f (map m xs)) is ∙ put.0;
            moved = ap (λ xs. take count (drop c.if-start-self.start (map m xs))) is ∙ ap (λ n. take count (drop n (map m new))) w.start-is ∙ put.1;
          }
      | else-start-self w ↦ record {
        stack = ap (λ (x : Machine g.row.S.Denot). x.stack) w.self-is;
        saved = ap (λ (x : Machine g.row.S.Denot). x.saved) w.self-is;
        kept = ap (λ (x : Machine g.row.S.Denot). x.kept) w.self-is;
        lasting = ap (λ (x : Machine g.row.S.Denot). x.lasting) w.self-is;
        given = ap (λ (x : Machine g.row.S.Denot). x.given) w.self-is;
        first = omega (arith, w.start-is, c.floor_of-floor.ensures.within);
        last = omega (arith, w.start-is);
        long = ap (λ (x : Machine g.row.S.Denot). length x.symbols.items) w.self-is;
        front = ap (λ (x : Machine g.row.S.Denot). take f (map m x.symbols.items)) w.self-is;
        moved = ap (λ (x : Machine g.row.S.Denot). take count (drop c.if-start-self.start (map m x.symbols.items))) w.self-is ∙ ap (λ n. take count (drop n (map m old.items))) w.start-is;
      }
    ]

-- the symbols of the lasting expressions stay
below : (g : _) (c : Joined-start-self g) → take c.args.self.now.lasting.ground (map g.S.Symbol.means c.if-start-self.self.symbols.items)
    ≡ take c.args.self.now.lasting.ground (map g.S.Symbol.means c.args.self.now.symbols.items)
below g c =
    let m = g.S.Symbol.means in
    let ground = c.args.self.now.lasting.ground in
    let f = c.floor_of-floor.result in
    let low : ground ≤ f = omega (arith, c.requires.whole.3, c.floor_of-floor.ensures.saved) in
    sym (take-take ground f (map m c.if-start-self.self.symbols.items) low) ∙ ap (take ground) (placed g c).front ∙ take-take ground f (map m c.args.self.now.symbols.items) low

-- the entry that is put
abbrev entry : ℕ → ℕ → ℕ → Entry
entry start count floor = record { start = start; end = start + count; floor = floor }

-- the entries then
next : (g : _) (c : In_ok-put_entry g) → c.if-start-self.self.stack ≡ c.args.self.now.stack → c.put_entry.new.stack.items ≡ take c.args.below c.args.self.now.stack.items ++ entry c.if-start-self.start c.args.count c.floor_of-floor.result ∷ []
next g c stack = c.in_ok-put_entry.ensures ∙ ap (λ (x : Vec Entry Global). take c.args.below x.items ++ entry c.if-start-self.start c.args.count c.floor_of-floor.result ∷ []) stack

pub returns-clause-whole : goal.returns-clause-whole
returns-clause-whole g c =
    let d = goal.at.returns-clause-whole g c in
    let p = placed g d.Joined-start-self in
    let self = c.args.self.now in
    let start = c.if-start-self.start in
    let f = c.floor_of-floor.result in
    let m = start + c.args.count in
    let first : f ≤ start = p.first in
    let last : start ≤ self.top = p.last in
    let whole = whole_replaced self.top m self.kept f c.args.below self.stack.items self.saved.items c.put_entry.new.stack.items (entry start c.args.count f) c.requires.whole.0 c.requires.in_range c.floor_of-floor.ensures.saved
    (omega arith) (λ i e o at. c.floor_of-floor.ensures.stays i e o (ap (λ w. slice_get w i) c.deref.ensures.value ∙ at)) (next g d.In_ok-put_entry p.stack) (omega arith, omega arith) refl in
    let holds = c.requires.whole.2 in
    let l = self.lasting in
    let symbols = map g.S.Symbol.means c.if-start-self.self.symbols.items in
    let variables = map g.S.Symbol.means l.variables.all.items in (
      rw (p.kept, p.saved) whole,
      omega (arith, p.long, c.requires.room),
      rw p.lasting (record {
        below = omega (arith, p.long, holds.below);
        numbered = holds.numbered;
        patterns = patterns_kept l.ground (map g.S.Symbol.means self.symbols.items) symbols variables l.slots.items l.patterns.items (below g d.Joined-start-self) holds.patterns;
        given = ap (λ (x : Vec Given Global). length x.items) p.given ∙ holds.given;
      }),
      rw (p.kept, p.lasting) c.requires.whole.3,
    )

pub returns-clause-stack : goal.returns-clause-stack
returns-clause-stack g c =
    let d = goal.at.returns-clause-stack g c in
    let p = placed g d.Joined-start-self in
    let m = g.S.Symbol.means in
    let self = c.args.self.now in
    let start = c.if-start-self.start in
    let f = c.floor_of-floor.result in
    let before = map m self.symbols.items in
    let long : start + c.args.count - start ≡ c.args.count = omega arith in
    replaced_by before (map m c.if-start-self.self.symbols.items) (take c.args.count (drop self.top before)) f c.args.below self.stack.items c.put_entry.new.stack.items (entry start c.args.count f)
    (omega (arith, c.requires.room, c.floor_of-floor.ensures.within, length-map self.symbols.items m)) p.front
    (λ i e o at. c.floor_of-floor.ensures.stays i e o (ap (λ w. slice_get w i) c.deref.ensures.value ∙ at)) (next g d.In_ok-put_entry p.stack)
    (ap (λ k. take k (drop start (map m c.if-start-self.self.symbols.items))) long ∙ p.moved)

pub returns-clause-saved : goal.returns-clause-saved
returns-clause-saved g c = search (rules, ends_of, front_kept, length-map, placed)

pub floor_of-floor-requires-clause-whole : goal.floor_of-floor-requires-clause-whole
floor_of-floor-requires-clause-whole g c = search rules

pub returns-clause-lasting : goal.returns-clause-lasting
returns-clause-lasting g c =
    let m = g.S.Symbol.means in
    let d = (goal.at.returns-clause-lasting g c).Joined-start-self in
    let l = c.args.self.now.lasting in
    rw (placed g d).lasting (expressions_stay l.ground (map m c.args.self.now.symbols.items) (map m c.if-start-self.self.symbols.items) (map m l.variables.all.items) l.slots.items l.patterns.items
    (below g d) c.requires.whole.2.patterns)
