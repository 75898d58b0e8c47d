-- Readings in order: all steps, or the first fault.
use Rattle.std.{proofs.{Common.{map, arith, ◌≡◌, Result, Ok, Err, List, [], ◌∷◌, ◌++◌, refl, ap, ◌↔◌}, lemmas.Grind.{common_steps}}, specs.{List.{AllByRecursion}, Result.{result_map_both}}}
use Rattle.mm_machine.specs.{Language.{Verdict.{Decoded}, Expansion.{Step}}, declared.{Spot.{Spot}, ProofNumber.{ProofNumber}, step.ProofFault.{ProofFault}}}
use Rattle.mm_verdict.specs.Language.{Decoding.{ProofReading, Steps, read_first, in_order}, DecodingLaws.{ReadsStep, IsFirstDecodingFault}}

-- what decoding gives, by the steps of the proof and the spot at which it ends
abbrev pub decoded : Spot → Steps → Result Decoded ProofFault
decoded close steps = result_map_both
    (λ (steps : List (Step × Spot)). record { steps = map (λ step. step.0) steps; spots = map (λ step. step.1) steps; close = close }) (λ (fault : ProofFault). fault) steps

-- a step and those after it
abbrev pub ReadsOn : Spot → Result Step ProofNumber → Steps → List (Step × Spot) → Type 0
ReadsOn spot r rest steps = (step : Step) × (more : List (Step × Spot)) × (r ≡ Ok step) × (rest ≡ Ok more) × (steps ≡ (step, spot) ∷ more)

pub read_ok : (spot : Spot) (r : Result Step ProofNumber) (rest : Steps) (steps : List (Step × Spot)) → read_first spot r rest ≡ Ok steps → ReadsOn spot r rest steps
read_ok spot r rest steps e = grind (arith, common_steps) steps 200000

with_err : (step : Step) (spot : Spot) (rest : Steps) (fault : ProofFault) → read_first spot (Ok step) rest ≡ Err fault → rest ≡ Err fault
with_err step spot rest fault e = grind (arith, common_steps) steps 200000

further : (reading : ProofReading) (readings : List ProofReading) (fault : ProofFault) → ReadsStep reading → IsFirstDecodingFault readings fault → IsFirstDecodingFault (reading ∷ readings) fault
further reading readings fault is f = record { front = reading ∷ f.front; back = f.back; whole = ap (λ (w : List ProofReading). reading ∷ w) f.whole; before = (is, f.before) }

-- what is reported of a fault that is read first
told_here : (number : ProofNumber) (spot : Spot) (fault : ProofFault) → ◌≡◌ {A = Steps} (Err (record { number = number; spot = spot })) (Err fault) → record { number = number; spot = spot } ≡ fault
told_here number spot fault e = cc

found : (spot : Spot) (r : Result Step ProofNumber) (readings : List ProofReading) (fault : ProofFault) → (in_order readings ≡ Err fault → IsFirstDecodingFault readings fault) → read_first spot r (in_order readings) ≡ Err fault →
    IsFirstDecodingFault (record { spot = spot; step = r } ∷ readings) fault
found spot (Ok step) readings fault rest e = further (record { spot = spot; step = Ok step }) readings fault (step, refl) (rest (with_err step spot (in_order readings) fault e))
found spot (Err number) readings fault rest e =
    let same = told_here number spot fault e in
    record { front = []; back = readings; whole = ap (λ (w : ProofFault). record { spot = w.spot; step = Err w.number } ∷ readings) same; before = tt }

fault_found : (readings : List ProofReading) (fault : ProofFault) → in_order readings ≡ Err fault → IsFirstDecodingFault readings fault
fault_found [] fault e = cc
fault_found (reading ∷ readings) fault e = found reading.spot reading.step readings fault (fault_found readings fault) e

passed : (front back : List ProofReading) (fault : ProofFault) → AllByRecursion ReadsStep front → in_order (front ++ record { spot = fault.spot; step = Err fault.number } ∷ back) ≡ Err fault
passed [] back fault all = refl
passed (reading ∷ front) back fault all = rw (all.0.1, passed front back fault all.1) refl

pub first_fault : (readings : List ProofReading) (fault : ProofFault) → (in_order readings ≡ Err fault) ↔ IsFirstDecodingFault readings fault
first_fault readings fault = (fault_found readings fault, λ f. rw f.whole (passed f.front f.back fault f.before))
