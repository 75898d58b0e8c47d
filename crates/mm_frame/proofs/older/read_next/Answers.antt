use Rattle.std.proofs.{Common.{◌∙◌, sym, subst}, lemmas.Bool.{false≢true}}
use Rattle.mm_frame.{specs.Code.KnownItem.{IsSoundOlder}, proofs.lemmas.base.FromOlderLemmas.{first_after}}
use Rattle.mm_frame.proofs.older.read_next.Goals as goal

pub read_from_older-requires-clause-known : goal.read_from_older-requires-clause-known
read_from_older-requires-clause-known c =
    let names = c.args.names.now in
    let older = c.requires.older in
    (names, c.in-Some.ensures.known names c.args.files.now older.0 (older.1.later names c.distinct.ensures (λ n name there. there)) older.1.each)

pub read_known-requires-clause-known : goal.read_known-requires-clause-known
read_known-requires-clause-known c =
    let names = c.args.names.now in
    let older = c.requires.older in
    c.in-Some.ensures.known names c.args.files.now older.0 (older.1.later names c.distinct.ensures (λ n name there. there)) older.1.each

pub returns-then-not-is_same_item-clause-read : goal.returns-then-not-is_same_item-clause-read
returns-then-not-is_same_item-clause-read c =
    let read = c.in_ok-label.ensures.read in
    (read.0, read.1, λ said stands first. (read.2 said stands, λ t. absurd (false≢true t)))

pub returns-in_default-clause-read : goal.returns-in_default-clause-read
returns-in_default-clause-read c =
    let cursor = c.args.cursor in
    let again = c.is_same_item.ensures c.if-not-is_same_item.false in
    let read = c.in_ok-read_new.ensures.read in (
      read.0,
      read.1,
      λ said stands first.
          let count = c.count.ensures ∙ (stands c.args.names.now c.distinct.ensures (λ n name there. there)).0.rows.count in (
            read.2 said stands,
            first_after cursor.same c.args.files.now cursor.base.now said c.args.item.now c.place_next-i.result read.0 c.one_range_says_one.ensures (λ t. c.place_next-i.ensures t ∙ count) again read.1 first,
          ),
    )

pub returns-then-same-clause-read : goal.returns-then-same-clause-read
returns-then-same-clause-read c =
    let names = c.args.names.now in
    let files = c.args.files.now in
    let cursor = c.args.cursor in
    let old = cursor.base.now in
    let base = c.requires.older.0 in
    let older = c.requires.older.1 in
    let again = c.is_same_item.ensures c.if-not-is_same_item.false in
    let read = c.in_ok-read_from_older.ensures.read in (
      read.0,
      read.1,
      λ said stands first.
          let number = c.place_next-i.ensures c.if-same.true ∙ c.count.ensures ∙ (stands names c.distinct.ensures (λ n name there. there)).0.rows.count in (
            λ all distinct more.
                let now = older.later all distinct more in
                let sound = subst (λ i. IsSoundOlder all old.items base i c.args.item.now c.in-Some.known) number (c.in-Some.ensures.sound all base now) in
                read.2 all base said now older.each (first c.if-same.true base older.each) (c.in-Some.ensures.known all files base now older.each) sound (stands all distinct more),
            first_after cursor.same files old said c.args.item.now c.place_next-i.result read.0 c.one_range_says_one.ensures (λ t. number) again read.1 first,
          ),
    )

pub returns-clause-read : goal.returns-clause-read
returns-clause-read c =
    let read = c.in_ok-read_known.ensures in
    (read.0, read.1, λ said stands first. (read.2 said stands, λ t. absurd (false≢true (sym c.if-same.false ∙ t))))
