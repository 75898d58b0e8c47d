use Rattle.std.proofs.Common.{◌+◌, get_or, map, sym, ◌∙◌, subst}
use Rattle.mm_machine.specs.{Language.Lasting.{lasting_at}, declared.pattern.Entry.{Entry}, Code.{Filling.{entries_of, frame_taking}, Flat.{read}, PairClause.{Gathers, GathersEntry}}}
use Rattle.mm_machine.proofs.lemmas.machine.{FlatLemmas.{mapped_or_get}, GatherLemmas.{gathers_step, grown_twice}}
use Rattle.mm_machine.proofs.gather.PairRoom.gather_all.Goals as goal

pub loop-place-preserved : goal.loop-place-preserved
loop-place-preserved g c =
    let m = g.S.Symbol.means in
    let taken = c.args.taken.now in
    let n = c.loop-place.place in
    let no_entry : Entry = record { start = 0; end = 0; floor = 0 } in
    let symbols = map m taken.symbols.now in
    let entries = taken.entries.now in
    let hs = (frame_taking m g.S.Listed.Symbol.means taken).hypotheses in
    let h = lasting_at symbols c.hypothesis_at-floating.result in
    let e = read symbols (get_or entries n no_entry) in
    let old = map m c.loop-place.self.variables.all.items in
    let new = map m c.gather_entry.new.self.variables.all.items in
    let before = c.loop-place.self.sets.chunks.items in
    let after = c.gather_entry.new.self.sets.chunks.items in
    let spans = c.loop-place.self.spans.items in
    let later = c.gather_entry.new.self.spans.items in
    let grow = c.in_ok-gather_entry.ensures.grows in
    let was = c.loop-place.invariant in
    record {
      numbered = c.in_ok-gather_entry.ensures.numbered;
      grows = grown_twice (map m c.args.self.now.variables.all.items) old new was.grows.0 grow.0 was.grows.1 grow.1;
      known = c.in_ok-gather_entry.ensures.known ∙ was.known;
      so_far = subst (λ w. Gathers hs (entries_of m taken) w after later (n + 1)) (sym grow.1)
          (gathers_step hs (entries_of m taken) old grow.0 before after spans later n h e c.hypothesis_at-floating.ensures.is (mapped_or_get (read symbols) entries n no_entry c.loop-place-test.true)
          (subst (λ w. GathersEntry h.floating e w before after spans later) grow.1 c.in_ok-gather_entry.ensures.gathers) was.so_far);
    }
