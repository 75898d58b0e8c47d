use Rattle.std.proofs.Common.{◌≡◌, [], sym, subst, IfNone}
use Rattle.mm_text.{specs.Code.{Cursor.{AreLast}, Reader.{runs_at}}, proofs.{CursorLemmas.{went, no_fault}, ReaderLemmas.{fails_read}}}
use Rattle.mm_text.proofs.cursor.WordCursor.next_word.Goals as goal

pub unreachable-requires : goal.unreachable-requires
unreachable-requires c = no_fault c.self.inside.reader.text.now c.self.inside.reader.from c.in-Err.field-0 c.self.invariant (fails_read _ [] _ _ c.in-Err.ensures.word)

pub invariant_of-self : goal.invariant_of-self
invariant_of-self c =
    let end = subst (λ text. IfNone c.in-Ok.word (runs_at text c.next_word.new.self.from ≡ [])) c.in-Ok.ensures.text c.in-Ok.ensures.end in
    subst (λ text. AreLast text c.next_word.new.self.from) (sym c.in-Ok.ensures.text) (went c.self.inside.reader.text.now c.self.inside.reader.from c.in-Ok.word c.next_word.new.self.from c.self.invariant c.in-Ok.ensures.word end).last

pub returns-clause-word : goal.returns-clause-word
returns-clause-word c =
    let end = subst (λ text. IfNone c.in-Ok.word (runs_at text c.next_word.new.self.from ≡ [])) c.in-Ok.ensures.text c.in-Ok.ensures.end in
    rw (← c.self.view_is, c.in-Ok.ensures.text) (went c.self.inside.reader.text.now c.self.inside.reader.from c.in-Ok.word c.next_word.new.self.from c.self.invariant c.in-Ok.ensures.word end).words
