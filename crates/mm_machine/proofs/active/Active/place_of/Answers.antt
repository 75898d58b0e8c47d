use Rattle.std.proofs.{Common.{◌+◌, ◌-◌, ◌/◌, [], false, get_or, sym, ◌∙◌, ap, arith}, lemmas.{List.{length-map}, Option.{slice_get-get_or}}}
use Rattle.mm_machine.{specs.Language.{Frame.{Symbol}, NumberedSymbols.{comes_before}, CodeLists.{meant_pairs, meant_pair}, Keys.{pair_keys}}, proofs.lemmas.machine.KeyOrderLemmas.{before_on}}
use Rattle.mm_machine.proofs.active.Active.place_of.Goals as goal

pub loop-low-preserved-then-is_before : goal.loop-low-preserved-then-is_before
loop-low-preserved-then-is_before g c = record {
  high = c.loop-low.invariant.high;
  before = λ k p l e.
      let pairs = meant_pairs g.S.Listed.Symbol.means c.args.self.now.pairs.now in
      let d : Symbol = record { name = []; variable = false } in
      let n = c.loop-low.low + (c.loop-low.high - c.loop-low.low) / 2 in
      let there = slice_get-get_or pairs n (d, d) (omega (arith, length-map c.args.self.now.pairs.now (meant_pair g.S.Listed.Symbol.means))) in
      let keys = c.keys_at.ensures (get_or pairs n (d, d)) there in
      before_on (pair_keys g.S.Kept.key_of p) (pair_keys g.S.Kept.key_of (get_or pairs n (d, d))) c.args.wanted
      (c.args.self.now.order k n p (get_or pairs n (d, d)) (omega arith) e there)
      (ap (λ w. comes_before w c.args.wanted) (sym keys) ∙ sym c.is_before.ensures ∙ c.if-is_before.true);
}
