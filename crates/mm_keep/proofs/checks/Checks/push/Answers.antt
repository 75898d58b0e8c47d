use Rattle.std.proofs.{Common.{◌≡◌, ◌∷◌, [], ◌++◌, Some, length, map, ap, sym, ◌∙◌, arith}, lemmas.Grind.{elements}}
use Rattle.mm_keep.{specs.Code.KeptCheck.{kept_at}, proofs.CheckLemmas.{added, pushed}}
use Rattle.mm_keep.proofs.checks.Checks.push.Goals as goal

pub returns : goal.returns
returns c =
    let i = c.self.inside in
    let one = c.in-Some.check in
    let all = pushed c.push.result c.unwrap.result c.push.new.self.items (c.reserve.new.self.items ++ one ∷ []) c.reserve.new.self.items c.unwrap.ensures c.push.ensures.items ∙ ap (λ w. w ++ one ∷ []) c.reserve.ensures.items in
    let place : c.len.result ≡ length i.checks.items = omega (arith, c.len.ensures, c.reserve.new.self.ok.0, ap length c.reserve.ensures.items) in
    ap (λ xs. map (kept_at xs) c.add-2.new.self) all ∙ ap (map (kept_at (i.checks.items ++ one ∷ []))) (c.in_ok-add.ensures.ok ∙ ap (λ n. i.places ++ Some n ∷ []) place)
    ∙ added i.checks.items i.places one c.self.invariant ∙ ap (λ w. w ++ Some one ∷ []) c.self.view_is ∙ ap (λ kept. c.args.self.now ++ kept ∷ []) (sym c.in-Some.is)

pub invariant_of-self-2 : goal.invariant_of-self-2
invariant_of-self-2 c = grind (arith, elements)
