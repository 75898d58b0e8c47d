use Rattle.std.proofs.{Common.{rules, All, Bool, true, false, if◌then◌else◌, ◌++◌, ℕ, List, take, replicate}, lemmas.List.Elements.{All-append, All-take, All-replicate}}
use Rattle.mm_frame.proofs.lemmas.names.Codes.{code_positive}
use Rattle.mm_frame.proofs.names.Names.make_places.Goals as goal

grown : {X : Type 0} (P : X → Type 0) (made : Bool) (xs : List X) (n m : ℕ) (x : X) → All P xs → P x → All P (if made then take n xs ++ replicate m x else xs)
grown P true xs n m x all one = All-append P (take n xs) (replicate m x) (All-take P n xs all) (All-replicate P m x one)
grown P false xs n m x all one = all

pub invariant_of-self : goal.invariant_of-self
invariant_of-self c = search (rules, code_positive, grown)
