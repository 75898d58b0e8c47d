use Rattle.std.proofs.{Common.{rules, sym, arith, refl, subst}, lemmas.{Grind.{common_steps}, List.{map-append}}}
use Rattle.mm_machine.{specs.{declared.pattern.Entry.{Entry}, Code.Flat.{IsEntryWithin}}, proofs.lemmas.machine.{FlatLemmas.{mapped_at}, StackLemmas.{whole_pushed}}}
use Rattle.mm_machine.proofs.machine.Machine.push_saved.Goals as goal

pub returns : goal.returns
returns g c =
    let machine = c.args.self.now in
    let x = c.index.result.now in
    let n = machine.top in
    let new : Entry = record { start = x.start; end = x.end; floor = n } in
    let whole = c.requires.whole.0 in
    let within = subst (IsEntryWithin machine.kept) (sym c.index.ensures) (whole.saved_within c.args.number x c.requires.in_range) in
    record {
      stack = search (rules, map-append, mapped_at);
      saved = refl;
      whole =
          grind (arith, common_steps, whole_pushed n machine.kept machine.stack.items machine.saved.items c.push.new.self.items new whole (within.0, omega (arith, whole.kept_within, within.1)) refl c.in_ok-push.ensures.items) steps 200000;
      lasting = refl;
      pairs = refl;
    }

pub index-requires : goal.index-requires
index-requires g c = omega (arith, c.requires.in_range, c.args.self.now.saved.ok)
