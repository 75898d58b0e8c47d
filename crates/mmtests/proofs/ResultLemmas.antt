-- What holds of the value of a result that is known.
use Rattle.std.{proofs.Common.{Ok, Result, subst, ◌≡◌}, specs.Prelude.{IfOk}}

pub from_ok : {A E : Type 0} (P : A → Type 0) (r : Result A E) (x : A) → r ≡ Ok x → IfOk r P → P x
from_ok {A} {E} P r x same holds = subst (λ (o : Result A E). IfOk o P) same holds
