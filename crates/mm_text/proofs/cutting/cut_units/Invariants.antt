use Rattle.std.proofs.Common.{◌≡◌, ◌-◌, All, map, length}
use Rattle.mm_text.{specs.Language.Part.{HasOwnParts}, proofs.{CutLemmas.{Progress}, CutPartLemmas.{Keeps}}}
use Rattle.mm_text.proofs.cutting.cut_units.Given as goal

abbrev pub invariant-loop-parts : goal.invariant-loop-parts
invariant-loop-parts l = record {
  text : l.reader.text.now ≡ l.text;
  progress : Progress l.text (map (λ piece. piece.text) l.pieces.items) l.from l.reader.from l.grammar.phase l.grammar.first l.grammar.blocks.items;
  read : Keeps l.text l.from l.reader.from l.parts;
  divided : All HasOwnParts l.pieces.items;
}

abbrev pub decreases-loop-parts : goal.decreases-loop-parts
decreases-loop-parts l = length l.reader.text.now - l.reader.from
