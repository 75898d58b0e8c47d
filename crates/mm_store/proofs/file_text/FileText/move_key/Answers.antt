use Rattle.std.{proofs.{Common.{rules, ◌≡◌, ◌+◌, ◌<◌, ◌≤◌, length, take, ap, ◌∙◌, arith}, lemmas.List.Edits.{length-insert, length-remove}}, specs.List.{insert, remove}}
use Rattle.mm_store.proofs.lemmas.places.StartLemmas.{known_same, take_insert, take_remove}
use Rattle.mm_store.proofs.file_text.FileText.move_key.Goals as goal

pub returns-clause-keys : goal.returns-clause-keys
returns-clause-keys c pieces =
    let old = c.args.self.now.keys.items in
    let at = c.args.at in
    let to = c.args.to in
    let key = c.unwrap-key.result in
    let short = c.remove.new.self.items in
    let removed : short ≡ remove old at = rw c.unwrap-key.ensures at c.remove.ensures.items in
    let w = c.forget_behind.new.self in
    let there : at < length old = omega (arith, c.requires.there, c.args.self.now.keys.ok.0) in
    let items : w.keys.items ≡ insert short to key = ap (λ k. k.items) c.forget_behind.ensures.keys ∙ rw c.unwrap.ensures at c.insert.ensures.items in
    let less : length short + 1 ≡ length old = omega (arith, ap length removed, length-remove old at there) in
    let long : to ≤ length short = omega (arith, less, c.requires.there_too, c.args.self.now.keys.ok.0) in
    let least : (w.known ≤ at) × (w.known ≤ to) = (omega (arith, c.min.ensures, c.forget_behind.ensures.at_most), omega (arith, c.min.ensures, c.forget_behind.ensures.at_most)) in
    record {
      items = search rules;
      starts = known_same pieces c.args.self.now w c.forget_behind.ensures.no_more (omega (arith, least.0, ap length items, length-insert short to key long, less, there))
          (λ n le. ap (take n) items ∙ take_insert short to key n (omega (arith, le, least.1)) long ∙ ap (take n) removed ∙ take_remove old at n (omega (arith, le, least.0)))
          c.forget_behind.ensures.starts;
      room = search rules;
      tail = search rules;
    }
