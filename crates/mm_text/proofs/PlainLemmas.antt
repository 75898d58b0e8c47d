-- Runs without a `$`.
use Rattle.std.proofs.{Common.{◌≡◌, ℕ, ◌<◌, ◌≤◌, true, false, eqb, List, length, take, get_or, sym, arith}, lemmas.{Grind.{common_steps}, Bool.{cases_Bool, false≢true, ne_eqb}}}
use Rattle.std.{proofs.lemmas.List.Sums.{prefix_len_is}, specs.List.{prefix_len}}
use Rattle.mm_text.{specs.{Language.Run.{is_solid}, Code.LeftToRight.{is_dollarless, has_dollar}}, proofs.SkipLemmas.{none_before}}

plain_parts : (b : ℕ) → is_dollarless b ≡ true → (is_solid b ≡ true) × (¬ (eqb b 36 ≡ true))
plain_parts b e = grind (arith, common_steps, cases_Bool (is_solid b), cases_Bool (eqb b 36), false≢true) steps 200000

white_end : (b : ℕ) → is_dollarless b ≡ false → ¬ (b ≡ 36) → is_solid b ≡ false
white_end b e other = grind (arith, common_steps, cases_Bool (is_solid b), ne_eqb b 36 other, false≢true) steps 200000

-- the first bytes of a text are a run without a `$`, if the byte after them is white space, or there is none
pub plain_run : (bytes : List ℕ) (n : ℕ) → n ≤ length bytes → ((k : ℕ) → k < n → is_dollarless (get_or bytes k 0) ≡ true)
    → (n < length bytes → (is_dollarless (get_or bytes n 0) ≡ false) × (¬ (get_or bytes n 0 ≡ 36)))
    → (n ≡ prefix_len is_solid bytes) × (has_dollar (take n bytes) ≡ false)
plain_run bytes n within plain end = (
  sym (prefix_len_is is_solid bytes n 0 within (λ k lt. (plain_parts (get_or bytes k 0) (plain k lt)).0) (λ lt. let e = end lt in white_end (get_or bytes n 0) e.0 e.1)),
  none_before n bytes within (λ k lt. (plain_parts (get_or bytes k 0) (plain k lt)).1),
)
