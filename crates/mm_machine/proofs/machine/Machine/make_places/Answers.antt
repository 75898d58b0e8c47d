use Rattle.std.proofs.{Common.{rules, ◌≡◌, ◌++◌, ◌∷◌, [], length, map, false, inr, refl, ◌∙◌, ap, arith, append_assoc}, lemmas.List.{length-map, length_push, map_push, Elements.{All-push}}}
use Rattle.mm_machine.specs.{Language.{Frame.{Mandatory}, Lasting.{IsPattern, lasting_at}}, declared.lasting.Pattern.{Pattern}}
use Rattle.mm_machine.proofs.machine.Machine.make_places.Goals as goal

-- a pattern with no symbol
abbrev nothing : Pattern
nothing = record { start = 0; end = 0; first = 0; last = 0; floating = false }

pub loop-self-preserved : goal.loop-self-preserved
loop-self-preserved g c =
    let m = g.S.Symbol.means in
    let self = c.loop-self.self in
    let l = self.lasting in
    let symbols = map m self.symbols.items in
    let holds = c.loop-self.invariant.holds in
    let more = c.loop-self.invariant.more in
    let P : Pattern → Type 0 = IsPattern l.ground symbols (map m l.variables.all.items) l.slots.items in
    let is : P nothing = record { in_order = omega arith; within = omega arith; slots_in_order = omega arith; slots_within = omega arith; slots_are = λ s d. absurd (omega (arith, d.1)) } in
    let none : Mandatory = lasting_at symbols nothing in
    let longer = ap length c.in_ok-push.ensures.items ∙ length_push l.patterns.items nothing in
    record {
      count = inr (omega (arith, c.loop-self-test.true, c.len.ensures, l.patterns.ok, longer, length-map c.push.new.self.items (lasting_at symbols)));
      holds = search (rules);
      more = (
        more.0 ++ none ∷ [],
        ap (map (lasting_at symbols)) c.in_ok-push.ensures.items ∙ map_push (lasting_at symbols) l.patterns.items nothing ∙ ap (λ w. w ++ none ∷ []) more.1 ∙ append_assoc _ more.0 (none ∷ []),
        All-push (λ (h : Mandatory). h.expression ≡ []) more.0 none more.2 refl,
      );
    }
