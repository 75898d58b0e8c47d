use Rattle.std.{proofs.{lemmas.{Grind.{common_steps}, Option.{none-some}}, Common.{◌≡◌, Some, is_some, refl, sym, ap, ◌∙◌, arith}}, specs.Option.{option_map}}
use Rattle.mm_store.proofs.lemmas.files.{StoreLemmas.{one_less, parked_is, weigh_slots, kept_put, parked_changed, parked_dropped, slot_there, parked_there}, SlabLemmas.{get_is, state_is, text_is}}
use Rattle.mm_store.specs.{declared.pieces.Piece.{Piece}, Language.Pieces.{with_state, parked_pieces}, Code.{States.{piece_state}, Slots.{pieces_of, held}}}
use Rattle.slab.{specs.Slab.{get, with_value}, proofs.SlabLemmas.{Updates-with_value}}
use Rattle.mm_store.proofs.pieces.PieceStore.set_state.Goals as goal

pub overflow_sub-others : goal.overflow_sub-others
overflow_sub-others c =
    let slab = c.self.inside.slab in
    let has = slot_there slab c.args.key c.args.self.now c.self.view_is c.requires in
    let is = get_is slab c.args.key ∙ ap (option_map held) has.1 in
    omega (arith, c.parked_under.ensures, parked_there slab c.args.key c.args.self.now has.0 c.self.view_is has.1, parked_dropped (pieces_of slab) c.args.key (held has.0) is, c.self.invariant.counted)

pub prove-unreachable-requires : goal.prove-unreachable-requires
prove-unreachable-requires c = grind (arith, common_steps, get_is, parked_dropped, parked_there, slot_there, one_less, parked_is, weigh_slots) steps 200000

pub invariant_of-self-in-Some : goal.invariant_of-self-in-Some
invariant_of-self-in-Some c =
    let slab = c.self.inside.slab in
    let piece = c.in-Some.piece.now in
    let there : get slab c.args.key ≡ Some piece = sym c.in-Some.ensures.value in
    let after : Piece = record { kept = piece.kept; state = c.args.state } in
    let new = with_value slab c.args.key after in
    let is = get_is slab c.args.key ∙ ap (option_map held) there in
    let changed = parked_changed (pieces_of slab) c.args.key (held piece) (piece_state c.args.state) is in
    let dropped = parked_dropped (pieces_of slab) c.args.key (held piece) is in
    let now : parked_pieces (pieces_of new) ≡ parked_pieces (with_state (pieces_of slab) c.args.key (piece_state c.args.state)) = ap parked_pieces (state_is slab c.args.key piece c.args.state there) in
    let under = parked_there slab c.args.key (pieces_of slab) piece refl there in
    record {
      kept = kept_put slab new c.args.key after (Updates-with_value slab c.args.key after (ap is_some there)) (c.self.invariant.kept c.args.key piece there) c.self.invariant.kept;
      counted = omega (arith, c.self.invariant.counted, c.parked_under.ensures, parked_there slab c.args.key c.args.self.now piece c.self.view_is there, under, changed, dropped, now, c.count_parked.ensures.is);
    }

pub returns-in-None : goal.returns-in-None
returns-in-None c = grind (arith, common_steps, none-some, slot_there) steps 200000

pub returns-in-Some : goal.returns-in-Some
returns-in-Some c =
    let text = text_is c.self.inside.slab c.args.key c.args.self.now c.in-Some.piece.now c.self.view_is (sym c.in-Some.ensures.value) in
    grind (arith, common_steps, state_is c.self.inside.slab c.args.key c.in-Some.piece.now c.args.state (sym c.in-Some.ensures.value)) steps 200000
