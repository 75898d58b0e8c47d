use Rattle.std.proofs.{Common.{◌≡◌, ◌∙◌, length, map, arith}, lemmas.List.{length-map}}
use Rattle.mm_machine.specs.Language.{Lasting.{lasting_at, lasting_of}, NumberedSymbols.{by_code, named_symbol}}
use Rattle.mmtests.proofs.machines.run_loaded.Goals as goal

pub run_spelled-outcome-requires : goal.run_spelled-outcome-requires
run_spelled-outcome-requires c =
    let known = c.args.program.now.known in
    let lasting = lasting_of named_symbol c.load_spelled.new.machine in
    let items = c.in_ok-load_spelled.ensures.items in
    let count : length lasting ≡ length (lasting_of by_code known.machine) = c.in_ok-load_spelled.ensures.count ∙ c.count.ensures in
    record {
      holds = c.in_ok-load_spelled.ensures.holds;
      cited = c.in_ok-parts.ensures.cited lasting (rw c.deref.ensures.value (λ k d l. let is = c.requires.cited k d l in
          c.requires.citable k d l lasting (record {
            expression = items _ (omega (arith, count, is.expression, c.in_ok-load_spelled.ensures.count));
            hypotheses = λ m e w. items _ (let within = is.hypotheses m e w in omega (arith, count, within, c.in_ok-load_spelled.ensures.count));
          })));
      within = rw (c.deref-2.ensures.value, c.in_ok-parts.ensures.count, c.deref.ensures.value, count, length-map known.machine.lasting.patterns.items (lasting_at (map by_code known.machine.symbols.items)))
          c.requires.within;
      saved = rw c.deref-3.ensures.value c.requires.saved;
      order = c.in_ok-parts.ensures.order;
    }
