use Rattle.std.proofs.Common.{◌≡◌, ◌<◌, [], count_by, arith}
use Rattle.mm_text.specs.Language.Place.{is_line_feed}
use Rattle.mm_store.proofs.{lemmas.places.PlaceLemmas.{column_goes_on, column_begins, lines_joined}, line_feeds.Lines.then.Goals.{then-later-eq0, else-later-eq0}}
use Rattle.mm_store.proofs.line_feeds.Lines.then.Goals as goal

pub returns : goal.returns
returns c first second a b = record {
  feeds = omega (arith, a.feeds, b.feeds, lines_joined first second);
  behind = elim c.if-later-eq0.branch [
    | then-later-eq0 w ↦
        (let none : count_by is_line_feed second ≡ 0 = omega (arith, b.feeds, w.if-later-eq0.true) in
        omega (arith, w.behind-is, column_goes_on first second none, column_goes_on [] second none, a.behind, b.behind))
    | else-later-eq0 w ↦
        (let some : 0 < count_by is_line_feed second = omega (arith, b.feeds, w.if-later-eq0.false) in
        omega (arith, w.behind-is, column_begins first second some, b.behind))
  ];
}
