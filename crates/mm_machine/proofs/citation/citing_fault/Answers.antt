use Rattle.std.proofs.{lemmas.{Grind.{common_steps}, Bool.{eqb-true}, List.{length-map}}, Common.{arith, sym, ◌∙◌, length, List, Option, Some, None}}
use Rattle.mm_machine.specs.{Language.{Frame.{Symbol, Frame}, Typing.{IsFrame}, CodeLists.{meant_pair, meant_pairs}, Faults.{AnyZip}}, declared.ProofNumber.{ProofNumber}}
use Rattle.mm_machine.specs.Code.{Citation.{CitingSays, GivesEntries, OtherEssential, OtherTypecode}, PairClause.{PairsSay}, Filling.{entries_of, frame_taking}}
use Rattle.mm_machine.proofs.lemmas.machine.CitingFaults.{says08, says09, says_pairs}
use Rattle.mm_machine.proofs.citation.citing_fault.Goals as goal

-- what the pairs say is what is said of the citation, if nothing is wrong before
pairs_say : (active : List (Symbol × Symbol)) (frame : Frame) (is : IsFrame frame) (es : List (List Symbol)) (found : Option ProofNumber)
    → (AnyZip OtherTypecode frame.hypotheses es → ⊥)
    → ((given : Symbol → List Symbol) → GivesEntries given frame.hypotheses es → AnyZip (OtherEssential given) frame.hypotheses es → ⊥)
    → ((given : Symbol → List Symbol) → GivesEntries given frame.hypotheses es → PairsSay active given frame.pairs found) → CitingSays active frame es found
pairs_say active frame is es None n8 n9 says = (n8, λ given gives. (n9 given gives, says given gives))
pairs_say active frame is es (Some number) n8 n9 says = λ stack l at. says_pairs active frame is es stack l at n8 n9 number says

pub returns-in_default-clause-says : goal.returns-in_default-clause-says
returns-in_default-clause-says g c stack l at = grind (arith, common_steps, says08) steps 200000

pub returns-then-not-essentials_fit-clause-says : goal.returns-then-not-essentials_fit-clause-says
returns-then-not-essentials_fit-clause-says g c stack l at =
    let taken = c.args.taken.now in
    says09 (meant_pairs g.S.Listed.Symbol.means c.args.active.now.pairs.now) (frame_taking g.S.Symbol.means g.S.Listed.Symbol.means taken) c.requires.taken.cited.frame
    (entries_of g.S.Symbol.means taken) stack l at c.in-Some.ensures.gives.0 c.if-not-essentials_fit.ensures

pub returns-then-is_empty-clause-says : goal.returns-then-is_empty-clause-says
returns-then-is_empty-clause-says g c =
    let taken = c.args.taken.now in
    let pairs = taken.cited.now.pairs.now in
    let none = eqb-true (length pairs) 0 (sym c.is_empty.ensures ∙ c.if-is_empty.true) in
    pairs_say (meant_pairs g.S.Listed.Symbol.means c.args.active.now.pairs.now) (frame_taking g.S.Symbol.means g.S.Listed.Symbol.means taken) c.requires.taken.cited.frame
    (entries_of g.S.Symbol.means taken) None c.in-Some.ensures.gives.0 c.if-not-essentials_fit.ensures
    (λ given gives k d l. absurd (omega (arith, l, none, length-map pairs (meant_pair g.S.Listed.Symbol.means))))

pub returns-clause-says : goal.returns-clause-says
returns-clause-says g c =
    let taken = c.args.taken.now in
    pairs_say (meant_pairs g.S.Listed.Symbol.means c.args.active.now.pairs.now) (frame_taking g.S.Symbol.means g.S.Listed.Symbol.means taken) c.requires.taken.cited.frame
    (entries_of g.S.Symbol.means taken) c.in_ok-found.found c.in-Some.ensures.gives.0 c.if-not-essentials_fit.ensures c.in_ok-found.ensures.says
