use Rattle.std.proofs.{Common.{rules, ◌≡◌, ◌+◌, ◌-◌, ◌*◌, [], ◌∷◌, ◌++◌, length, take, drop, sym, ap, ◌∙◌, subst, arith, length-append}, Math.Seq.{take-add}}
use Rattle.mm_store.{specs.Code.Lines.{AreLines}, proofs.lemmas.places.PlaceLemmas.{each_more}}
use Rattle.mm_store.proofs.line_feeds.marks.Goals as goal

pub loop-number-preserved : goal.loop-number-preserved
loop-number-preserved c =
    let n = c.loop-number.number in
    let text = c.args.text.now in
    let start = n * 1024 in
    let size : start + 1024 - start ≡ 1024 = omega arith in
    let next : (n + 1) * 1024 ≡ start + 1024 = omega arith in
    let joined : take ((n + 1) * 1024) text ≡ take start text ++ take (start + 1024 - start) (drop start text) = ap (λ k. take k text) next ∙ take-add start 1024 text ∙ ap (λ k. take start text ++ take k (drop start text)) (sym size) in
    let lines = subst (λ bytes. AreLines bytes c.then-lines.result) (sym joined) (c.then-lines.ensures (take start text) (take (start + 1024 - start) (drop start text)) c.loop-number.invariant.lines c.of.ensures) in
    let marks = c.loop-number.marks.items in
    record {
      lines = lines;
      many = omega (arith, ap length c.in_ok-push.ensures.items, length-append marks (c.then-lines.result ∷ []), c.loop-number.invariant.many);
      each = search (rules, each_more);
    }
