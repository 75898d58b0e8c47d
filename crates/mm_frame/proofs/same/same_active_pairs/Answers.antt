use Rattle.std.proofs.{Common.{sym, ◌∙◌}, lemmas.Bool.{false≢true}}
use Rattle.mm_frame.{specs.Language.{Base.{before}, Framing.{active_pairs}}, proofs.lemmas.pairs.SharedPairs.{all_either_way, same_told}}
use Rattle.mm_frame.proofs.same.same_active_pairs.Goals as goal

pub returns-then-same_pairs : goal.returns-then-same_pairs
returns-then-same_pairs c names base copy is are s t =
    let mine = c.in-Some-Some.mine.now in
    let yours = c.in-Some-Some.yours.now in
    let told = same_told names is.distinct mine yours (active_pairs (before base c.args.i)) (active_pairs (before copy c.args.j)) (c.in-Some-Some.ensures.numbered names base is) (c.in-Some-Some.ensures'.numbered names copy are)
    (c.in-Some-Some.ensures.pairs names base is) (c.in-Some-Some.ensures'.pairs names copy are) in
    (λ q. told.0 (all_either_way mine yours (c.same_pairs.ensures.0 c.if-same_pairs.true)), λ e. c.if-same_pairs.true)

pub returns-then-has_each : goal.returns-then-has_each
returns-then-has_each c names base copy is are s t =
    let told = same_told names is.distinct c.in-Some-Some.mine.now c.in-Some-Some.yours.now (active_pairs (before base c.args.i))
    (active_pairs (before copy c.args.j)) (c.in-Some-Some.ensures.numbered names base is) (c.in-Some-Some.ensures'.numbered names copy are)
    (c.in-Some-Some.ensures.pairs names base is) (c.in-Some-Some.ensures'.pairs names copy are) in
    (λ q. told.0 ((c.has_each.ensures.0 c.if-has_each.true), c.has_each-then-has_each.ensures.0 q), λ e. c.has_each-then-has_each.ensures.1 (told.1 e).1)

pub returns-else-has_each : goal.returns-else-has_each
returns-else-has_each c names base copy is are s t =
    let told = same_told names is.distinct c.in-Some-Some.mine.now c.in-Some-Some.yours.now (active_pairs (before base c.args.i))
    (active_pairs (before copy c.args.j)) (c.in-Some-Some.ensures.numbered names base is) (c.in-Some-Some.ensures'.numbered names copy are)
    (c.in-Some-Some.ensures.pairs names base is) (c.in-Some-Some.ensures'.pairs names copy are) in
    (λ q. absurd (false≢true (sym c.if-has_each.false ∙ q)), λ e. c.has_each.ensures.1 (told.1 e).0)
