use Rattle.std.proofs.{Common.{rules, ℕ, ◌≡◌, arith, refl, sym, ◌∙◌, ap}, lemmas.{Bool.{false≢true}, List.{length-map}}}
use Rattle.mm_machine.specs.{Language.{NumberedSymbols.{comes_before}, CodeLists.{meant_pairs, meant_pair}, Keys.{lower_first, pair_keys}}, Code.PairClause.{IsPair}}
use Rattle.mm_machine.proofs.lemmas.machine.{ApartLemmas.{pair_found, pair_nowhere, each_more}, KeyOrderLemmas.{none_before, none_behind}, FlatLemmas.{there_at}}
use Rattle.mm_machine.proofs.active.Active.has.Goals as goal

wanted_is : {r : ℕ × ℕ} {a b k l : ℕ} → r ≡ lower_first a b → a ≡ k → b ≡ l → r ≡ lower_first k l
wanted_is e p q = e ∙ (λ i. lower_first (p i) (q i))

pub loop-place-init : goal.loop-place-init
loop-place-init g c =
    let m = g.S.Symbol.means in
    let listed = g.S.Listed.Symbol.means in
    none_before g.S.Kept.key_of (meant_pairs listed c.args.self.now.pairs.now) c.place_of-place.result (m c.args.x.now) (m c.args.y.now)
    (λ k p l e. ap (comes_before (pair_keys g.S.Kept.key_of p)) (sym (wanted_is c.lower_first-wanted.ensures c.key.ensures c.key-2.ensures)) ∙ c.place_of-place.ensures k p l e)

pub returns-then-is_before : goal.returns-then-is_before
returns-then-is_before g c =
    let listed = g.S.Listed.Symbol.means in
    let pairs = meant_pairs listed c.args.self.now.pairs.now in
    let there = there_at (meant_pair listed) c.args.self.now.pairs.now c.loop-place.place (omega (arith, c.loop-place-test.true)) in
    let before =
    (λ i. comes_before (sym (wanted_is c.lower_first-wanted.ensures c.key.ensures c.key-2.ensures) i) (sym (c.keys_at.ensures there.0 there.1) i)) ∙ sym c.is_before.ensures ∙ c.if-is_before.true in
    search (rules, false≢true, none_behind) steps 500000

pub returns-then-is_at : goal.returns-then-is_at
returns-then-is_at g c =
    let m = g.S.Symbol.means in
    let listed = g.S.Listed.Symbol.means in
    let pairs = meant_pairs listed c.args.self.now.pairs.now in
    let n = c.loop-place.place in
    let there = there_at (meant_pair listed) c.args.self.now.pairs.now n (omega (arith, c.loop-place-test.true)) in
    (λ _. pair_found pairs n there.0 (m c.args.x.now) (m c.args.y.now) there.1 ((c.is_at.ensures there.0 there.1).0 c.if-is_at.true), λ _. refl)

pub loop-place-preserved : goal.loop-place-preserved
loop-place-preserved g c =
    let m = g.S.Symbol.means in
    let listed = g.S.Listed.Symbol.means in
    let pairs = meant_pairs listed c.args.self.now.pairs.now in
    let n = c.loop-place.place in
    let there = there_at (meant_pair listed) c.args.self.now.pairs.now n (omega (arith, c.loop-place-test.true)) in
    each_more (λ p. IsPair p (m c.args.x.now) (m c.args.y.now) → ⊥) pairs n there.0 there.1
    (λ is. false≢true (sym c.if-is_at.false ∙ (c.is_at.ensures there.0 there.1).1 is)) c.loop-place.invariant

pub returns : goal.returns
returns g c =
    let m = g.S.Symbol.means in
    let listed = g.S.Listed.Symbol.means in
    let pairs = meant_pairs listed c.args.self.now.pairs.now in (
      λ t. absurd (false≢true t),
      λ s. absurd (pair_nowhere pairs c.loop-place.place (m c.args.x.now) (m c.args.y.now) (omega (arith, length-map c.args.self.now.pairs.now (meant_pair listed), c.loop-place-test.false)) c.loop-place.invariant s),
    )
