use Rattle.std.proofs.{Common.{get_or, sym, arith, codes}, lemmas.Slice.Eq.{bytes_eq-Decides}}
use Rattle.mmkeep.proofs.AskingLemmas.{differs, said_two, said_three, no_two, no_three, no_other}
use Rattle.mmkeep.proofs.asking.command.Goals.{in_default-via-then-words-lt2, in_default-via-in-len2-2+else-eq-2, in_default-via-in-len3+else-eq-3}
use Rattle.mmkeep.proofs.asking.command.Goals.{in_default-via-else-words-lt2+else-words-lt3+else-words-lt4}
use Rattle.mmkeep.proofs.asking.command.Goals as goal

pub returns-in-len2-clause-some : goal.returns-in-len2-clause-some
returns-in-len2-clause-some c = said_two c.args.words.now _ (codes "verify") (omega arith) ((bytes_eq-Decides (get_or c.args.words.now 0 _).now (codes "verify")).0 (sym c.if-eq.ensures))

pub returns-in-len2-2-clause-some : goal.returns-in-len2-2-clause-some
returns-in-len2-2-clause-some c = said_two c.args.words.now _ (codes "session") (omega arith) ((bytes_eq-Decides (get_or c.args.words.now 0 _).now (codes "session")).0 (sym c.if-eq-2.ensures))

pub returns-in-len3-clause-some : goal.returns-in-len3-clause-some
returns-in-len3-clause-some c = said_three c.args.words.now _ (codes "axioms") (omega arith) ((bytes_eq-Decides (get_or c.args.words.now 0 _).now (codes "axioms")).0 (sym c.if-eq-3.ensures))

pub returns-in_default-clause-none : goal.returns-in_default-clause-none
returns-in_default-clause-none c n = elim c.in_default.branch [
  | in_default-via-then-words-lt2 w ↦ no_other c.args.words.now (λ e. grind (arith, e)) (λ e. grind (arith, e))
  | in_default-via-in-len2-2+else-eq-2 w ↦ no_two c.args.words.now _ (omega arith) (differs (get_or c.args.words.now 0 _).now (codes "verify") w.if-eq.ensures) (differs (get_or c.args.words.now 0 _).now (codes "session") w.if-eq-2.ensures)
  | in_default-via-in-len3+else-eq-3 w ↦ no_three c.args.words.now _ (omega arith) (differs (get_or c.args.words.now 0 _).now (codes "axioms") w.if-eq-3.ensures)
  | in_default-via-else-words-lt2+else-words-lt3+else-words-lt4 w ↦ no_other c.args.words.now (λ e. grind (arith, e)) (λ e. grind (arith, e))
]
