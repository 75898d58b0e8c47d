use Rattle.std.proofs.{Common.{length, map, subst, All}, lemmas.List.{length-map}}
use Rattle.mm_machine.specs.Language.{Lasting.{lasting_at, lasting_of}, NamedSteps.{IsUseWithin}, NumberedSymbols.{named_symbol}}
use Rattle.mmtests.proofs.machines.run_spelled.Goals as goal

pub run-outcome-requires : goal.run-outcome-requires
run-outcome-requires c =
    let machine = c.args.machine.now in
    record {
      holds = c.requires.holds;
      cited = rw c.deref-3.ensures.value (c.in_ok-cited.ensures.cited (lasting_of named_symbol machine) (rw c.deref.ensures.value c.requires.cited));
      within = rw (c.deref-3.ensures.value, c.in_ok-cited.ensures.count, c.deref.ensures.value)
          (subst (λ n. All (IsUseWithin n (length c.args.parts.now.cited.items)) c.args.uses.now) (length-map machine.lasting.patterns.items (lasting_at (map named_symbol machine.symbols.items))) c.requires.within);
      saved = c.requires.saved;
    }
