use Rattle.std.{proofs.{lemmas.{Grind.{common_steps}, Bool.{false≢true}}, Common.{◌≡◌, ◌≢◌, sym, ◌∙◌, subst, arith, slice_range}}, specs.List.{AllByRecursion}}
use Rattle.mm_store.specs.Language.FileFacts.{CanBeRead}
use Rattle.mm_statement.{specs.Language.{Item.{Said}, Statement.{kind_of}}, proofs.{ByteLemmas.{no_proof_word}, PieceLemmas.{ends_within, same_bytes}}}
use Rattle.mm_statement.proofs.statement.has_bytes.Goals as goal

pub slice_bounds-occurs-end : goal.slice_bounds-occurs-end
slice_bounds-occurs-end c = grind (arith, common_steps, ends_within c.args.files.now c.args.item.now c.piece-piece.result.now c.requires c.piece-piece.ensures.text) steps 200000

pub returns-clause-found : goal.returns-clause-found
returns-clause-found c =
    let item = c.args.item.now in
    let piece = c.piece-piece.result.now in
    let bytes = c.args.bytes.now in
    let same = λ (r : CanBeRead c.args.files.now item). same_bytes c.args.files.now item piece r c.piece-piece.ensures.text in
    grind (arith, c.occurs.ensures.0, c.occurs.ensures.1) steps 200000

pub returns-clause-absent : goal.returns-clause-absent
returns-clause-absent c none said says =
    let item = c.args.item.now in
    let piece = c.piece-piece.result.now in
    let bytes = c.args.bytes.now in
    let read = says.read in
    let same = same_bytes c.args.files.now item piece read c.piece-piece.ensures.text in
    subst (λ (s : Said). AllByRecursion (λ word. word ≢ bytes) s.proof) (sym says.is)
    (no_proof_word (slice_range read.text item.start item.end) bytes (kind_of item.kind) read.words (
    λ s. false≢true (sym none ∙ c.occurs.ensures.1 (s.0, s.1, subst (λ text. slice_range text s.0 s.1 ≡ bytes) (sym same) s.2))))
