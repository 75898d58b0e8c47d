use Rattle.std.{proofs.{lemmas.Grind.{common_steps}, Common.{length, sym, ap, ◌∙◌, arith}}, specs.Option.{option_map}}
use Rattle.mm_store.{specs.{Language.Pieces.{parked_pieces}, Code.Slots.{pieces_of, held}}, proofs.lemmas.files.SlabLemmas.{get_is, drop_is, text_is}}
use Rattle.mm_store.proofs.lemmas.files.StoreLemmas.{kept_drop, parked_dropped, none_text}
use Rattle.std.specs.FinMap as finite
use Rattle.mm_store.proofs.pieces.PieceStore.drop_piece.Goals as goal

pub overflow_sub-self : goal.overflow_sub-self
overflow_sub-self c =
    let is = get_is c.self.inside.slab c.args.key ∙ ap (option_map held) (sym c.in-Some.ensures.value) in
    omega (arith, c.count_parked.ensures.is, parked_dropped (pieces_of c.self.inside.slab) c.args.key (held c.in-Some.piece) is, c.self.invariant.counted)

pub invariant_of-self-in-Some : goal.invariant_of-self-in-Some
invariant_of-self-in-Some c =
    let slab = c.self.inside.slab in
    let is = get_is slab c.args.key ∙ ap (option_map held) (sym c.in-Some.ensures.value) in
    let updates = c.in-Some.ensures.updates in
    record {
      kept = kept_drop slab c.try_remove.new.self c.args.key updates c.self.invariant.kept;
      counted = omega (arith, c.count_parked.ensures.is, parked_dropped (pieces_of slab) c.args.key (held c.in-Some.piece) is, c.self.invariant.counted, ap parked_pieces (drop_is slab c.try_remove.new.self c.args.key updates));
    }

pub returns-in-None-clause-pieces : goal.returns-in-None-clause-pieces
returns-in-None-clause-pieces c = drop_is c.self.inside.slab c.try_remove.new.self c.args.key c.in-None.ensures.updates ∙ ap (λ m. finite.remove m c.args.key) c.self.view_is

pub returns-in-None-clause-len : goal.returns-in-None-clause-len
returns-in-None-clause-len c = sym (ap length (none_text c.self.inside.slab c.args.key c.args.self.now c.self.view_is c.in-None.ensures.value))

pub returns-in-Some-clause-pieces : goal.returns-in-Some-clause-pieces
returns-in-Some-clause-pieces c = drop_is c.self.inside.slab c.try_remove.new.self c.args.key c.in-Some.ensures.updates ∙ ap (λ m. finite.remove m c.args.key) c.self.view_is

pub returns-in-Some-clause-len : goal.returns-in-Some-clause-len
returns-in-Some-clause-len c = grind (arith, common_steps, text_is c.self.inside.slab c.args.key c.args.self.now c.in-Some.piece c.self.view_is (sym c.in-Some.ensures.value)) steps 200000
