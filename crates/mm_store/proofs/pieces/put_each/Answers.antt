use Rattle.std.{proofs.{lemmas.Grind.{common_steps}, Common.{◌≡◌, ◌+◌, [], ◌∷◌, ◌++◌, length, ap, ◌∙◌, arith, length-append, true, if◌then◌else◌, vec_len}}, specs.Result.{is_ok}}
use Rattle.mm_store.proofs.lemmas.files.StoreLemmas.{put_more}
use Rattle.mm_store.proofs.pieces.put_each.Goals as goal

pub loop-kept-preserved : goal.loop-kept-preserved
loop-kept-preserved c =
    let at = c.loop-kept in
    let kept = c.in-Some.kept in
    let key = c.insert_reserved-key.result in
    let put = at.invariant.put in
    let short = ap length c.in-Some.ensures.steps.0 in
    let ok : is_ok c.push.result ≡ true = c.push.ensures.succeeds (omega (arith, at.invariant.key_room, short)) in
    let pushed : c.push.new.self.items ≡ at.keys.items ++ key ∷ [] = c.push.ensures.items ∙ ap (λ b. if b then at.keys.items ++ key ∷ [] else at.keys.items) ok in
    let longer : vec_len c.push.new.self ≡ vec_len at.keys + 1 = omega (arith, ap length pushed, length-append at.keys.items (key ∷ []), at.keys.ok.0, c.push.new.self.ok.0) in
    grind (arith, common_steps, put_more c.args.slab.now at.slab c.insert_reserved-key.new.self at.yielded put.0 kept key put.2 c.insert_reserved-key.ensures.was_vacant c.insert_reserved-key.ensures.updates) steps 500000
