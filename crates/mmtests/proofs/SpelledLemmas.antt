-- What is the same by numbers and by names, for the tests of the machine.
use Rattle.std.proofs.{Common.{◌≡◌, ◌<◌, ◌+◌, ◌++◌, ◌∷◌, [], ℕ, List, length, length-append, set, subst, sym, All, arith, get_or-set_other, get_or-set_same}, lemmas.List.{length-set}}
use Rattle.std.proofs.{lemmas.{List.Elements.{All-map}, Option.{get_or_from_slice_get, slice_get_within}}, Math.Decide.{ℕ_discrete}}
use Rattle.mm_frame.specs.declared.base.Base.{Base}
use Rattle.mm_machine.specs.Language.{Frame.{Mandatory, Symbol}, NumberedSymbols.{by_number, named_symbol}, CodeLists.{meant_pair, meant_pairs}, Keys.{AreInKeyOrder, key_by_number}}
use Rattle.mm_machine.specs.{Language.Lasting.{IsCited, lasting_or}, declared.{named.Cited.{Cited}, symbol.{NamedSymbol.{NamedSymbol}, NumberedSymbol.{NumberedSymbol}}}}
use Rattle.mm_verdict.specs.Language.Loaded.{HasItem, IsItemOf}
use Rattle.mmtests.specs.Code.{Spelled.{HasOneKey, key_by_name}, SpelledAssertions.{IsCitedSo}}

-- symbols whose numbers are the same both ways have the same order both ways
pub order_by_name :
    (pairs : List (NamedSymbol × NamedSymbol)) → All (λ pair. HasOneKey (named_symbol pair.0) × HasOneKey (named_symbol pair.1)) pairs →
    AreInKeyOrder key_by_number (meant_pairs named_symbol pairs) → AreInKeyOrder key_by_name (meant_pairs named_symbol pairs)
order_by_name pairs one order i j p q l at there =
    let all = All-map (λ (pair : Symbol × Symbol). HasOneKey pair.0 × HasOneKey pair.1) (meant_pair named_symbol) pairs one in
    let meant = meant_pairs named_symbol pairs in
    let here = subst (λ (x : Symbol × Symbol). HasOneKey x.0 × HasOneKey x.1) (get_or_from_slice_get meant i p p at) (all i p (slice_get_within meant i p at)) in
    let on = subst (λ (x : Symbol × Symbol). HasOneKey x.0 × HasOneKey x.1) (get_or_from_slice_get meant j q q there) (all j q (slice_get_within meant j q there)) in
    rw (here.0, here.1, on.0, on.1) (order i j p q l at there)

-- an assertion with its pairs by name is cited as the one that has them by number
pub cited_by_name : (lasting : List Mandatory) (c : Cited NumberedSymbol) (expression : ℕ) (hypotheses : List ℕ) (pairs : List (NamedSymbol × NamedSymbol)) → expression ≡ c.expression → hypotheses ≡ c.hypotheses.now →
    meant_pairs by_number c.pairs.now ≡ meant_pairs named_symbol pairs → IsCited by_number lasting c → IsCitedSo lasting expression hypotheses pairs
cited_by_name lasting c expression hypotheses pairs same alike meant is d e h p = record {
  expression = rw (e, same) is.expression;
  hypotheses = rw (h, alike) is.hypotheses;
  frame = rw (e, same, h, alike, p, ← meant) is.frame;
}

-- one more item of a base
pub items_more : (code : Base) (lasting : List Mandatory) (n : ℕ) (h : Mandatory) → n < length lasting → IsItemOf code n h → ((j : ℕ) → j < n → HasItem code lasting j) →
    (j : ℕ) → j < n + 1 → HasItem code (set lasting n h) j
items_more code lasting n h within is items j l = elim (ℕ_discrete j n) [
  | yes same ↦ (omega (arith, same, within, length-set lasting n h), subst (λ k. IsItemOf code k (lasting_or (set lasting n h) k)) (sym same) (subst (IsItemOf code n) (sym (get_or-set_same lasting n h _ within)) is))
  | no other ↦ (let has = items j (omega (arith, l, other)) in (omega (arith, has.0, length-set lasting n h), subst (IsItemOf code j) (sym (get_or-set_other lasting n j h _ other)) has.1))
]

-- one more of a list
pub longer : {X : Type 0} (xs : List X) (x : X) (n : ℕ) → length xs ≡ n → length (xs ++ x ∷ []) ≡ n + 1
longer xs x n count = omega (arith, count, length-append xs (x ∷ []))
