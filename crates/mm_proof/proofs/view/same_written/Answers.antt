use Rattle.std.proofs.{Common.{sym, ◌∙◌}, lemmas.Bool.{false≢true}}
use Rattle.mm_frame.specs.Language.Base.{said_at}
use Rattle.mm_proof.proofs.TheoremLemmas.{read_at, says_at}
use Rattle.mm_proof.proofs.view.same_written.Goals as goal

pub same_proof-requires-clause-one : goal.same_proof-requires-clause-one
same_proof-requires-clause-one c = let two = c.args.two in read_at two.names.now c.args.files.now two.old.now two.i c.item-mine.result.now c.requires.was c.item-mine.ensures.found

pub same_proof-requires-clause-other : goal.same_proof-requires-clause-other
same_proof-requires-clause-other c = let two = c.args.two in read_at two.names.now c.args.files.now two.new.now two.j c.item-yours.result.now c.requires.is c.item-yours.ensures.found

pub same_labels-requires-clause-read : goal.same_labels-requires-clause-read
same_labels-requires-clause-read c = let two = c.args.two in read_at two.names.now c.args.files.now two.new.now two.j c.item-yours.result.now c.requires.is c.item-yours.ensures.found

pub returns-then-same_proof : goal.returns-then-same_proof
returns-then-same_proof c base copy f g =
    let two = c.args.two in
    let names = two.names.now in
    let mine = says_at names c.args.files.now two.old.now base two.i c.item-mine.result.now f c.item-mine.ensures.found in
    let yours = says_at names c.args.files.now two.new.now copy two.j c.item-yours.result.now g c.item-yours.ensures.found in
    let words = (c.same_proof.ensures (said_at base two.i) (said_at copy two.j) mine yours).0 c.if-same_proof.true in
    let labels = c.same_labels.ensures (said_at copy two.j) yours base copy f.base g.base in
    (λ e. record { words = words; labels = labels.0 e }, λ s. labels.1 s.labels)

pub returns-else-same_proof : goal.returns-else-same_proof
returns-else-same_proof c base copy f g =
    let two = c.args.two in
    let names = two.names.now in
    let mine = says_at names c.args.files.now two.old.now base two.i c.item-mine.result.now f c.item-mine.ensures.found in
    let yours = says_at names c.args.files.now two.new.now copy two.j c.item-yours.result.now g c.item-yours.ensures.found in
    let same = c.same_proof.ensures (said_at base two.i) (said_at copy two.j) mine yours in
    (λ e. absurd (false≢true (sym c.if-same_proof.false ∙ e)), λ s. same.1 s.words)
