use Rattle.std.proofs.{lemmas.{Bool.{false_from_ne_true}, Option.{same_Some}, Grind.{common_steps}, Result.{on_ok_weaker}}, Common.{arith}}
use Rattle.mm_frame.proofs.lemmas.pairs.DisjointRowLemmas.{paired_from, pair_told, pair_turned_told}
use Rattle.mm_frame.proofs.disjoint_rows.DisjointRows.is_active_pair.Goals as goal

pub returns-then-first-second-clause-value : goal.returns-then-first-second-clause-value
returns-then-first-second-clause-value c all before x y reads m a b = grind (arith, common_steps, false_from_ne_true, paired_from, same_Some) steps 200000

pub returns-then-row-le-SHORT_ROW-clause-value : goal.returns-then-row-le-SHORT_ROW-clause-value
returns-then-row-le-SHORT_ROW-clause-value c all before x y reads m a b =
    pair_told all before c.args.self.now c.args.blocks.now c.args.first c.args.second c.row-row.result.now c.row-other.result.now x y c.have_common.result c.row-row.ensures c.row-other.ensures reads a b c.if-first-second.false c.have_common.ensures

pub returns-then-other-le-SHORT_ROW-clause-value : goal.returns-then-other-le-SHORT_ROW-clause-value
returns-then-other-le-SHORT_ROW-clause-value c all before x y reads m a b = grind (arith, common_steps, pair_turned_told) steps 500000

pub returns-clause-answers : goal.returns-clause-answers
returns-clause-answers c = on_ok_weaker c.look_up.result (λ asks. asks c.args.self.now c.row-row.ensures c.row-other.ensures) c.look_up.ensures.answers
