-- The worked proof is proved, by the definitions.
use Rattle.std.proofs.{Common.{List, [], ◌∷◌, refl, codes, arith}, lemmas.List.Elements.{All-nil}}
use Rattle.mm_frame.specs.Language.{Examples.{database, letter_symbols, typing}, Framing.{setting}}
use Rattle.mm_machine.specs.Language.{Frame.{Symbol, Frame, Setting}, Derivation.{AreApart, Takes, Derives, by_hypothesis, by_assertion, nothing, first_then}}
use Rattle.mm_verdict.specs.Language.Examples.{IsProved}

abbrev here : Setting
here = setting database

abbrev wi : Frame
wi = record { expression = letter_symbols (codes "w(p>q)"); hypotheses = typing (codes "wp") ∷ typing (codes "wq") ∷ []; pairs = [] }

-- `p` for `p` and for `q`
abbrev p_for_each : Symbol → List Symbol
p_for_each s = letter_symbols (codes "p")

-- `( p > p )` for `p` and for `q`
abbrev part_for_each : Symbol → List Symbol
part_for_each s = letter_symbols (codes "(p>p)")

takes_p : Takes 1000000 here.active wi p_for_each (letter_symbols (codes "wp") ∷ letter_symbols (codes "wp") ∷ []) (letter_symbols (codes "w(p>p)"))
takes_p = record { entries_match = refl; result_matches = refl; apart = All-nil (λ pair. AreApart here.active (p_for_each pair.0) (p_for_each pair.1)); short = omega arith }

takes_part : Takes 1000000 here.active wi part_for_each (letter_symbols (codes "w(p>p)") ∷ letter_symbols (codes "w(p>p)") ∷ []) (letter_symbols (codes "w((p>p)>(p>p))"))
takes_part = record { entries_match = refl; result_matches = refl; apart = All-nil (λ pair. AreApart here.active (part_for_each pair.0) (part_for_each pair.1)); short = omega arith }

derives_p : Derives here (codes "wp" ∷ []) (letter_symbols (codes "wp"))
derives_p = by_hypothesis refl

derives_part : Derives here (codes "wp" ∷ codes "wp" ∷ codes "wi" ∷ []) (letter_symbols (codes "w(p>p)"))
derives_part = by_assertion {labels = codes "wp" ∷ codes "wp" ∷ []} {label = codes "wi"} (first_then derives_p (first_then derives_p nothing)) refl takes_p

pub derives_whole : Derives here (codes "wp" ∷ codes "wp" ∷ codes "wi" ∷ codes "wp" ∷ codes "wp" ∷ codes "wi" ∷ codes "wi" ∷ []) (letter_symbols (codes "w((p>p)>(p>p))"))
derives_whole =
    by_assertion {labels = codes "wp" ∷ codes "wp" ∷ codes "wi" ∷ codes "wp" ∷ codes "wp" ∷ codes "wi" ∷ []} {label = codes "wi"}
    (first_then derives_part (first_then derives_part nothing)) refl takes_part

pub is_proved : IsProved
is_proved = record { expanded = _; expands = refl; in_order = first_then derives_whole nothing }
