-- The lowest number that holds when an assertion is cited.
use Rattle.std.proofs.{lemmas.{Grind.{common_steps}, List.{length-drop}}, Common.{◌≡◌, ◌-◌, ◌<◌, ◌≤◌, Some, None, List, ◌∷◌, ◌++◌, length, take, sym, subst, arith, Any, [], ap}}
use Rattle.mm_machine.specs.Language.{Frame.{Symbol, Frame}, Typing.{IsFrame}, Substitution.{substituted}, Derivation.{AreApart, ShareVariable}, Steps.{Cites}}
use Rattle.mm_machine.specs.{Language.Faults.{AnyZip, CitingFails, last_entries, LackPair, UnderSubstitution}, declared.ProofNumber.{ProofNumber, TheVariants.{P07, P08, P09, P10, P11, P12}}}
use Rattle.mm_machine.specs.Code.{Citation.{GivesEntries, OtherTypecode, OtherEssential, CitingSays, IsLowestCiting}, PairClause.{PairsSay}}
use Rattle.mm_machine.proofs.lemmas.{machine.{Given.{given_by, floats_match, all_match}, Turning.{NoneBelow, none_more, none_first, cites_by, lowest}}, verdicts.Lines.{any_all}}

module _ (active : List (Symbol × Symbol)) (frame : Frame) (is : IsFrame frame) (es stack : List (List Symbol)) (l : length frame.hypotheses ≤ length stack)
    (at : last_entries frame stack ≡ es) where
  abbrev Fails : ProofNumber → Type 0
  Fails number = CitingFails 1000000 active frame stack number

  -- it holds of each substitution that gives the entries
  abbrev Each : ((Symbol → List Symbol) → Type 0) → Type 0
  Each P = (given : Symbol → List Symbol) → GivesEntries given frame.hypotheses es → P given

  count : length frame.hypotheses ≡ length es
  count = omega (arith, l, ap length at, length-drop (length stack - length frame.hypotheses) stack)

  below08 : NoneBelow Fails 8
  below08 = none_more Fails P07 (none_first active frame stack) (λ few. absurd (omega (arith, l)))

  pub says08 : AnyZip OtherTypecode frame.hypotheses es → IsLowestCiting active frame stack P08
  says08 q = lowest Fails P08 below08 (subst (λ w. AnyZip OtherTypecode frame.hypotheses w) (sym at) q)

  module _ (n8 : AnyZip OtherTypecode frame.hypotheses es → ⊥) where
    -- what the entries give
    abbrev own : Symbol → List Symbol
    own = given_by frame.hypotheses es

    gives : GivesEntries own frame.hypotheses es
    gives = floats_match frame.hypotheses es count is.typings is.typed_once n8

    -- a fault that this substitution shows, and one that none shows
    shown : (P : (Symbol → List Symbol) → Type 0) → P own → UnderSubstitution frame (last_entries frame stack) P
    shown P p = (own, subst (λ w. GivesEntries own frame.hypotheses w) (sym at) gives, p)

    hidden : (P : (Symbol → List Symbol) → Type 0) → Each (λ given. P given → ⊥) → UnderSubstitution frame (last_entries frame stack) P → ⊥
    hidden P n u = n u.0 (subst (λ w. GivesEntries u.0 frame.hypotheses w) at u.1) u.2

    below09 : NoneBelow Fails 9
    below09 = none_more Fails P08 below08 (λ q. n8 (subst (λ w. AnyZip OtherTypecode frame.hypotheses w) at q))

    pub says09 : Each (λ given. AnyZip (OtherEssential given) frame.hypotheses es) → IsLowestCiting active frame stack P09
    says09 q = lowest Fails P09 below09 (shown _ (subst (λ w. AnyZip (OtherEssential own) frame.hypotheses w) (sym at) (q own gives)))

    module _ (n9 : Each (λ given. AnyZip (OtherEssential given) frame.hypotheses es → ⊥)) where
      below10 : NoneBelow Fails 10
      below10 = none_more Fails P09 below09 (hidden _ (λ given g p. n9 given g (subst (λ w. AnyZip (OtherEssential given) frame.hypotheses w) at p)))

      below11 : Each (λ given. Any (λ pair. ShareVariable (given pair.0) (given pair.1)) frame.pairs → ⊥) → NoneBelow Fails 11
      below11 n10 = none_more Fails P10 below10 (hidden _ n10)

      -- a number that is said of pairs
      pub says_pairs : (number : ProofNumber) → Each (λ given. PairsSay active given frame.pairs (Some number)) → IsLowestCiting active frame stack number
      says_pairs P10 q = lowest Fails P10 below10 (shown _ (q own gives))
      says_pairs P11 q = lowest Fails P11 (below11 (λ given g. (q given g).0)) (shown _ (q own gives).1)
      says_pairs _ q = absurd (q own gives)

      pub says12 : Each (λ given. PairsSay active given frame.pairs None) → Each (λ given. 1000000 < length (substituted given frame.expression)) →
          IsLowestCiting active frame stack P12
      says12 n11 q = lowest Fails P12 (none_more Fails P11 (below11 (λ given g a. (
          let z = any_all (λ pair. ShareVariable (given pair.0) (given pair.1)) (λ pair. AreApart active (given pair.0) (given pair.1)) frame.pairs a
          (n11 given g) in
          z.2.unshared z.1))) (hidden _ (λ given g a. (
          let z = any_all (λ pair. LackPair active (given pair.0) (given pair.1)) (λ pair. AreApart active (given pair.0) (given pair.1)) frame.pairs a
          (n11 given g) in
          z.1.5 (z.2.paired z.1.0 z.1.1 z.1.2 z.1.3 z.1.4))))) (shown _ (q own gives))

  -- if nothing else is wrong, and the result that the entries give is too long
  pub says_long : CitingSays active frame es None → (result : List Symbol) → 1000000 < length result → Each (λ given. result ≡ substituted given frame.expression) →
      IsLowestCiting active frame stack P12
  says_long says result long r = says12 says.0 (λ given g. (says.1 given g).0) (λ given g. (says.1 given g).1) (λ given g. subst (λ w. 1000000 < length w) (r given g) long)

  -- if nothing is wrong, the assertion is cited, and its result is any that the entries give
  pub cited_by : CitingSays active frame es None → (result : List Symbol) → length result ≤ 1000000 → Each (λ given. result ≡ substituted given frame.expression) →
      Cites active frame stack (take (length stack - length frame.hypotheses) stack ++ result ∷ [])
  cited_by says result short r = grind (arith, common_steps, all_match, cites_by, count, given_by, gives) steps 200000
