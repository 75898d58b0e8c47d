use Rattle.std.proofs.{lemmas.{Grind.{common_steps}, List.{length-map}}, Common.{◌≡◌, length, map, take, ap, arith, ◌∙◌}}
use Rattle.mm_machine.{specs.Code.Filling.{pattern_filled}, proofs.{lemmas.machine.{FillLemmas.{filled_kept}, RoomLemmas.{part_long, written_back}}, machine.build_in_room.Goals.{In_ok-count}}}
use Rattle.mm_machine.proofs.machine.build_in_room.Goals as goal

-- what is filled is the same as at first
same : (g : _) (c : In_ok-count g) → pattern_filled (map g.S.Symbol.means c.deref_mut.result.now) c.args.given.now c.args.slots.now c.args.pattern
    ≡ pattern_filled (map g.S.Symbol.means c.args.symbols.now.items) c.args.given.now c.args.slots.now c.args.pattern
same g c =
    let m = g.S.Symbol.means in
    filled_kept (map m c.args.symbols.now.items) (map m c.deref_mut.result.now) c.args.given.now c.args.top c.args.slots.now c.args.pattern c.requires.fillable
    (ap (λ xs. take c.args.top (map m xs)) c.deref_mut.ensures.value ∙ c.loop-count.invariant.below)

pub returns-then-count-gt-LONGEST_RESULT-clause-built : goal.returns-then-count-gt-LONGEST_RESULT-clause-built
returns-then-count-gt-LONGEST_RESULT-clause-built g c =
    let m = g.S.Symbol.means in
    let built = rw c.in-Some.is at c.in_ok-count.ensures.built in
    let filled = built.1 ∙ same g (goal.at.returns-then-count-gt-LONGEST_RESULT-clause-built g c).In_ok-count in
    let long = part_long (map m c.build.new.all) c.args.top c.in-Some.count _ (omega (arith, built.0, c.in_ok-count.ensures.count, length-map c.build.new.all m)) filled in
    omega (arith, long)

pub returns-in-Some-clause-built : goal.returns-in-Some-clause-built
returns-in-Some-clause-built g c =
    let built = rw c.in-Some.is at c.in_ok-count.ensures.built in
    let filled = built.1 ∙ same g (goal.at.returns-in-Some-clause-built g c).In_ok-count in
    let old = c.loop-count.symbols in
    let is = written_back old.len c.build.new.all old.items (omega (arith, old.ok)) (c.in_ok-count.ensures.count ∙ ap length c.deref_mut.ensures.value) in
    rw is (c.if-count-gt-LONGEST_RESULT.false, omega (arith, built.0, c.in_ok-count.ensures.count), filled)

pub returns-then-room-clause-built : goal.returns-then-room-clause-built
returns-then-room-clause-built g c = grind (arith, common_steps, same g (goal.at.returns-then-room-clause-built g c).In_ok-count) steps 200000
