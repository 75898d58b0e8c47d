use Rattle.std.proofs.Common.{None, List, is_some, get_or, sym, ◌∙◌, ap, arith}
use Rattle.mm_keep.{specs.Code.KeptCheck.{Kept}, proofs.CheckLemmas.{exchanged_by, found, has_place, within}}
use Rattle.mm_keep.proofs.checks.Checks.exchange.Goals as goal

pub unwrap-own-requires : goal.unwrap-own-requires
unwrap-own-requires c =
    let i = c.self.inside in
    ap is_some c.at.ensures ∙ has_place i.checks.items i.places c.args.self.now c.args.i c.self.view_is c.requires.own

pub unwrap-other-requires : goal.unwrap-other-requires
unwrap-other-requires c =
    let i = c.others.inside in
    ap is_some c.at-2.ensures ∙ has_place i.checks.items i.places c.args.others.now c.args.j c.others.view_is c.requires.other

pub index_mut-requires : goal.index_mut-requires
index_mut-requires c =
    let i = c.self.inside in
    omega (arith, i.checks.ok.0, within i.checks.items i.places c.args.i c.unwrap-own.result c.self.invariant (sym c.unwrap-own.ensures ∙ c.at.ensures))

pub index_mut-requires-2 : goal.index_mut-requires-2
index_mut-requires-2 c =
    let i = c.others.inside in
    omega (arith, i.checks.ok.0, within i.checks.items i.places c.args.j c.unwrap-other.result c.others.invariant (sym c.unwrap-other.ensures ∙ c.at-2.ensures))

pub returns-clause-own : goal.returns-clause-own
returns-clause-own c =
    let i = c.self.inside in
    let j = c.others.inside in
    let one = c.index_mut-2.result.now in
    let is = ap (λ (xs : List Kept). get_or xs c.args.j None) (sym c.others.view_is) ∙ found j.checks.items j.places c.args.j c.unwrap-other.result one c.others.invariant (sym c.unwrap-other.ensures ∙ c.at-2.ensures) c.index_mut-2.ensures.value in
    exchanged_by i.checks.items i.places c.args.i c.unwrap-own.result c.args.self.now c.args.others.now c.args.j c.swap.new.x one c.self.invariant (sym c.unwrap-own.ensures ∙ c.at.ensures) c.self.view_is c.swap.ensures.x_after is

pub returns-clause-other : goal.returns-clause-other
returns-clause-other c =
    let i = c.self.inside in
    let j = c.others.inside in
    let one = c.index_mut.result.now in
    let is = ap (λ (xs : List Kept). get_or xs c.args.i None) (sym c.self.view_is) ∙ found i.checks.items i.places c.args.i c.unwrap-own.result one c.self.invariant (sym c.unwrap-own.ensures ∙ c.at.ensures) c.index_mut.ensures.value in
    exchanged_by j.checks.items j.places c.args.j c.unwrap-other.result c.args.others.now c.args.self.now c.args.i c.swap.new.y one c.others.invariant (sym c.unwrap-other.ensures ∙ c.at-2.ensures) c.others.view_is c.swap.ensures.y_after is
