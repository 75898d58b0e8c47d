use Rattle.std.proofs.Common.{[], append-nil, sym, ◌∙◌}
use Rattle.mm_frame.{specs.Language.Sound.{sound_items}, proofs.lemmas.pairs.PairListLemmas.{pairs_stay}}
use Rattle.mm_frame.proofs.draft.Draft.parts.Goals as goal

pub returns : goal.returns
returns c = λ all said d.
    let kept = c.tables_and_blocks-tables.ensures all (sound_items said) d.0.scope in
    record {
      kept = d.0.kept;
      rows = d.0.rows;
      symbols = d.0.symbols;
      frames = d.1.frames.kept;
      labels = kept.0.labels;
      marks = kept.1;
      pair_numbers = pairs_stay all said _ _ _
          (record { more = []; whole = c.finished.ensures ∙ sym (append-nil _) }) d.1.pair_numbers;
    }
