use Rattle.std.proofs.Common.{◌-◌, length, sym, arith}
use Rattle.mm_frame.proofs.lemmas.lists.Members.{in_contains, get_in}
use Rattle.mm_frame.proofs.disjoint_rows.end_of.Goals as goal

pub returns-in-Some : goal.returns-in-Some
returns-in-Some c count h =
    let row = c.args.row.now in
    let n = c.in-Some.number.now in
    let l = h n (in_contains n row (get_in n row (length row - 1) (sym c.in-Some.ensures.value))) in
    omega (arith, c.saturating_add.ensures)
