use Rattle.std.proofs.{lemmas.{Grind.{common_steps}, Bool.{false≢true}, List.{length-map}}, Common.{◌≡◌, ◌<◌, length, map, sym, refl, ◌∙◌, arith}}
use Rattle.mm_machine.proofs.lemmas.machine.{FlatLemmas.{mapped_get}, ApartLemmas.{each_more, each_all}}
use Rattle.mm_machine.proofs.variables.Variables.position.Goals as goal

pub loop-n-init : goal.loop-n-init
loop-n-init g c k v l at e = absurd (omega (arith, l))

pub returns-then-same : goal.returns-then-same
returns-then-same g c = grind (arith, common_steps, mapped_get) steps 200000

pub loop-n-preserved : goal.loop-n-preserved
loop-n-preserved g c =
    let m = g.S.Symbol.means in
    let all = c.args.self.now.all in
    let x = c.index.result.now in
    let within : c.loop-n.n < length all.items = omega (arith, c.loop-n-test.true, c.len-n-end.ensures, all.ok) in
    each_more (λ v. v ≡ m c.args.symbol.now → ⊥) (map m all.items) c.loop-n.n (m x)
    (mapped_get m all.items c.loop-n.n x within c.index.ensures) (λ e. false≢true (sym c.if-same.false ∙ c.same.ensures.1 e)) c.loop-n.invariant

pub returns : goal.returns
returns g c h =
    let m = g.S.Symbol.means in
    let all = c.args.self.now.all in
    each_all (λ v. v ≡ m c.args.symbol.now → ⊥) (map m all.items) c.loop-n.n (omega (arith, length-map all.items m, c.loop-n-test.false, c.len-n-end.ensures, all.ok)) c.loop-n.invariant (m c.args.symbol.now) h refl
