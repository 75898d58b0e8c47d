use Rattle.std.proofs.{Common.{◌≡◌, true, ℕ, List, ◌∙◌, ap, sym, subst}, lemmas.Result.{on_ok_weaker}}
use Rattle.mm_statement.specs.Language.Item.{Said, is_read}
use Rattle.mm_frame.{specs.{Language.{Sound.{sound_items}, Framing.{expression}}, Code.{KeptScope.{uses_numbers}, Numbers.{AreNameNumbers}}}, proofs.lemmas.reading.KnownItems.{same_says_same}}
use Rattle.mm_frame.proofs.older.read_from_older.Goals as goal

pub returns : goal.returns
returns c =
    let statement = c.known-statement.result in
    let says = c.known-statement.ensures.says in
    record {
      read = on_ok_weaker c.add_from_older.result
          (λ takes. (
            statement,
            says,
            λ all base said by each front known again d.
                let here = same_says_same c.args.files.now c.args.base.now.items base _ c.args.item.now c.one_range_says_one.ensures each again.same_item statement says in
                let read = sym (ap (λ (x : Said). is_read x.kind) here) ∙ again.read in
                let numbers = λ (u : uses_numbers statement.kind ≡ true). subst (λ (n : List ℕ). AreNameNumbers all n statement.symbols) (sym (c.in_ok-put_needed.ensures (ap (λ (x : Said). uses_numbers x.kind) (sym says.is) ∙ u)))
                (known.symbols statement says) in
                takes all base said (record { by = by; front = front; here = here }) again.sound read (again.symbols ∙ (λ i. expression (sound_items (front i)) (here i))) again.numbered numbers d,
          ))
          c.add_from_older.ensures;
    }
