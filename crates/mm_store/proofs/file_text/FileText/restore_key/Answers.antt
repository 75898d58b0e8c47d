use Rattle.std.{proofs.{Common.{rules, ◌≡◌, ◌≤◌, length, take, ap, ◌∙◌, arith}, lemmas.List.Edits.{length-insert}}, specs.List.{insert}}
use Rattle.mm_store.proofs.lemmas.places.StartLemmas.{known_same, take_insert}
use Rattle.mm_store.proofs.file_text.FileText.restore_key.Goals as goal

pub returns-clause-keys : goal.returns-clause-keys
returns-clause-keys c pieces =
    let old = c.args.self.now.keys.items in
    let at = c.args.at in
    let w = c.forget_behind.new.self in
    let there : at ≤ length old = omega (arith, c.requires.there, c.args.self.now.keys.ok.0) in
    let items : w.keys.items ≡ insert old at c.args.key = ap (λ k. k.items) c.forget_behind.ensures.keys ∙ rw c.unwrap.ensures at c.insert.ensures.items in
    record {
      items = items;
      starts = known_same pieces c.args.self.now w c.forget_behind.ensures.no_more (omega (arith, c.forget_behind.ensures.at_most, ap length items, length-insert old at c.args.key there))
          (λ n le. ap (take n) items ∙ take_insert old at c.args.key n (omega (arith, le, c.forget_behind.ensures.at_most)) there) c.forget_behind.ensures.starts;
      room = search rules;
      tail = search rules;
    }
