use Rattle.std.proofs.lemmas.Result.{IfOk-weaker}
use Rattle.mm_keep.proofs.citing.numbers_of.Goals as goal

pub returns-in-Cites : goal.returns-in-Cites
returns-in-Cites c = rw c.in-Cites.is (IfOk-weaker c.cites_of.result _ _ (λ numbers told names view is checked found. told names view is checked) c.cites_of.ensures)

pub returns-in-Users : goal.returns-in-Users
returns-in-Users c = rw c.in-Users.is c.users_of.ensures

pub returns-in-Axioms : goal.returns-in-Axioms
returns-in-Axioms c = rw c.in-Axioms.is (IfOk-weaker c.axioms_of.result _ _ (λ numbers told names view is checked found. told names view is checked) c.axioms_of.ensures)
