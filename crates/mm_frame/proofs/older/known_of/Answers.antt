use Rattle.std.proofs.Common.{ap, sym, ◌∙◌, subst}
use Rattle.mm_statement.specs.Language.{Item.{Said, is_read}, Statement.{kind_of}}
use Rattle.mm_frame.{specs.{Language.Base.{before, said_at}, Code.{KnownItem.{numbers_of}, Numbers.{AreNameNumbers}}}, proofs.lemmas.frames.FrameNumbers.{kind_at}}
use Rattle.mm_frame.proofs.lemmas.reading.KnownItems.{same_says_same, numbers_known}
use Rattle.mm_frame.proofs.older.known_of.Goals as goal

pub returns-in-Some-clause-known : goal.returns-in-Some-clause-known
returns-in-Some-clause-known c names files base by each =
    let i = c.args.i in
    let same = same_says_same files c.args.old.now.items base i c.args.item.now c.one_range_says_one.ensures each c.requires.same_item in
    record {
      label = λ said says. c.label.ensures base (names, by) ∙ ap (λ (x : Said). x.label) (same said says);
      symbols = λ said says.
          let kind = ap (λ (x : Said). is_read x.kind) (same said says ∙ says.is) in
          let told = c.in-Some.ensures.symbols names base by (kind ∙ sym c.keeps_symbols.ensures ∙ c.if-not-keeps_symbols.false) in
          let numbers = numbers_known names (before base i) (said_at base i).symbols c.in-Some.symbols.now told (c.in-Some.ensures.numbered names base by) in
          subst (λ (x : Said). AreNameNumbers names (numbers_of c.in-Some.symbols.now) x.symbols) (same said says) numbers;
    }

pub returns-in-Some-clause-sound : goal.returns-in-Some-clause-sound
returns-in-Some-clause-sound c names base by =
    let again = c.requires.same_item in
    let kind = sym (kind_at c.args.old.now.items base c.args.i again.was by.kinds again.there) ∙ ap kind_of again.same.kind in
    let read = ap is_read kind ∙ sym c.keeps_symbols.ensures ∙ c.if-not-keeps_symbols.false in
    record {
      same_item = again;
      sound = sym (c.in-Some.ensures.sound base (names, by));
      read = read;
      symbols = c.in-Some.ensures.symbols names base by read;
      numbered = c.in-Some.ensures.numbered names base by;
    }
