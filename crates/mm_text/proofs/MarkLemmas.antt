-- The marks of comments in a run, from left to right.
use Rattle.std.proofs.{lemmas.Grind.{common_steps}, Common.{◌≡◌, ℕ, ◌-◌, ◌<◌, ◌≤◌, Bool, false, ◌||◌, List, ◌∷◌, length, drop, get_or, refl, arith, length-drop}}
use Rattle.mm_text.specs.Code.LeftToRight.{is_mark, holds_mark}

pub mark_here : (run : List ℕ) (i : ℕ) (b : Bool) → 1 ≤ i → i < length run → is_mark (get_or run (i - 1) 0) (get_or run i 0) ≡ b → holds_mark (drop (i - 1) run) ≡ (b || holds_mark (drop i run))
mark_here run i b some lt is = grind (arith, common_steps) steps 200000

-- one byte holds no mark
short : (bytes : List ℕ) → length bytes ≤ 1 → holds_mark bytes ≡ false
short (a ∷ b ∷ bytes) le = absurd (omega arith)
short _ le = refl

pub mark_end : (run : List ℕ) (i : ℕ) → length run ≤ i → holds_mark (drop (i - 1) run) ≡ false
mark_end run i le = short (drop (i - 1) run) (omega (arith, length-drop (i - 1) run))
