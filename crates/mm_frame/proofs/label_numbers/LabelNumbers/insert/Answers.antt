use Rattle.std.proofs.{Common.{arith, ◌≡◌, false, refl}, lemmas.Grind.{common_steps}}
use Rattle.mm_frame.{specs.Code.Codes.{is_coded}, proofs.lemmas.names.LabelCodes.{inserted, short_put, long_put}}
use Rattle.mm_frame.proofs.label_numbers.LabelNumbers.insert.Goals as goal

pub returns-in_ok-insert-in-Some : goal.returns-in_ok-insert-in-Some
returns-in_ok-insert-in-Some c other = grind (arith, common_steps, short_put) steps 200000

pub returns-in_ok-insert-in-None : goal.returns-in_ok-insert-in-None
returns-in_ok-insert-in-None c other =
    let label = c.args.label.now in
    let number = c.args.number in
    let old = c.args.self.now in
    let long : is_coded label ≡ false = c.in-None.ensures in
    long_put old (record { short = old.short; long = c.insert-in-None.new.self }) label other number long refl
    (inserted c.in_ok-key-in-None.key.items label old.long c.insert-in-None.new.self number c.in_ok-key-in-None.ensures.items c.in_ok-insert-in-None.ensures.updates)
