use Rattle.std.{proofs.Common.{arith, ◌≡◌, None, sym, ap, ◌∙◌, subst}, specs.Option.{option_map}}
use Rattle.mm_store.specs.{declared.pieces.Piece.{Piece}, Code.Slots.{pieces_of, AreKeptIn, held}, Language.Pieces.{parked_pieces}}
use Rattle.mm_store.proofs.lemmas.files.{StoreLemmas.{kept_put, no_more, parked_is, parked_put, weigh_slots}, SlabLemmas.{get_is, put_is}}
use Rattle.std.specs.FinMap as finite
use Rattle.mm_store.proofs.pieces.PieceStore.put.Goals as goal

pub returns-clause-fresh : goal.returns-clause-fresh
returns-clause-fresh c = ap (λ m. finite.get m c.in_ok-key.key) (sym c.self.view_is) ∙ get_is c.self.inside.slab c.in_ok-key.key ∙ ap (option_map held) c.in_ok-key.ensures.was_vacant

pub returns-clause-ok : goal.returns-clause-ok
returns-clause-ok c = grind (arith, put_is c.self.inside.slab c.insert.new.self c.in_ok-key.key (record { kept = c.args.kept; state = c.args.state }) c.in_ok-key.ensures.updates) steps 200000

pub prove-unreachable-requires : goal.prove-unreachable-requires
prove-unreachable-requires c =
    let slots = c.self.inside.slab.slots in
    omega (arith, c.self.invariant.counted, parked_is (pieces_of c.self.inside.slab), weigh_slots 0 slots, no_more 0 slots, c.in_ok-key.ensures.len)

pub invariant_of-self : goal.invariant_of-self
invariant_of-self c = record {
  kept = subst AreKeptIn (sym c.in_err-key.ensures.err) c.self.invariant.kept;
  counted = c.self.invariant.counted ∙ ap (λ s. parked_pieces (pieces_of s)) (sym c.in_err-key.ensures.err);
}

pub invariant_of-self-2 : goal.invariant_of-self-2
invariant_of-self-2 c =
    let piece : Piece = record { kept = c.args.kept; state = c.args.state } in
    let slab = c.self.inside.slab in
    let key = c.in_ok-key.key in
    let fresh : finite.get (pieces_of slab) key ≡ None = get_is slab key ∙ ap (option_map held) c.in_ok-key.ensures.was_vacant in
    record {
      kept = kept_put slab c.insert.new.self key piece c.in_ok-key.ensures.updates c.requires c.self.invariant.kept;
      counted = omega (arith, c.self.invariant.counted, c.count_parked.ensures.is, parked_put (pieces_of slab) key (held piece) fresh, ap parked_pieces (put_is slab c.insert.new.self key piece c.in_ok-key.ensures.updates));
    }
