-- The lasting expressions of a machine, whose other lists change or get more behind.
use Rattle.std.proofs.{Common.{rules, ◌≡◌, ℕ, ◌-◌, ◌≤◌, List, [], ◌∷◌, ◌++◌, length, map, take, drop, set, refl, sym, ◌∙◌, ap, ap₂, arith, All, append-nil, length-append}, lemmas.Grind.{common_steps}}
use Rattle.std.proofs.lemmas.List.{length-drop, drop-append-le, take-append-le, drop_at, take_all, map-set, Elements.{All-head, All-tail, All-set, All-weaker}}
use Rattle.mm_machine.specs.{Language.{Frame.{Symbol, Mandatory}, CodeLists.{range_of}, Lasting.{AreSlotsOf, IsPattern, lasting_at, pattern_symbols}}, declared.slots.Slot.{Slot}}
use Rattle.mm_machine.{specs.declared.lasting.Pattern.{Pattern}, proofs.lemmas.machine.{CopyLemmas.{range_below}, SlotLemmas.{slots_stay}}}

-- a range stays in a list that gets more behind
range_stays : {X : Type 0} (first last : ℕ) (xs more : List X) → first ≤ last → last ≤ length xs → range_of first last (xs ++ more) ≡ range_of first last xs
range_stays first last xs more o l = ap (take (last - first)) (drop-append-le first xs more (omega arith)) ∙ take-append-le (last - first) (drop first xs) more (omega (arith, length-drop first xs))

-- an expression reads the same if what is below its end is the same
pub symbols_stay : (ground : ℕ) (symbols all : List Symbol) (p : Pattern) → take ground all ≡ take ground symbols → p.start ≤ p.end → p.end ≤ ground → pattern_symbols all p ≡ pattern_symbols symbols p
symbols_stay ground symbols all p e o l = range_below all symbols ground p.start (p.end - p.start) (omega arith) e

module _ (ground wider : ℕ) (symbols all variables more all_variables : List Symbol) (slots more_slots all_slots : List Slot) (same : take ground all ≡ take ground symbols)
    (low : ground ≤ wider) (vs : all_variables ≡ variables ++ more) (ss : all_slots ≡ slots ++ more_slots) where
  -- a pattern stays one
  pattern_stays : (p : Pattern) → IsPattern ground symbols variables slots p → IsPattern wider all all_variables all_slots p
  pattern_stays p is = search (rules, length-append, range_stays, slots_stay, symbols_stay)

  -- and so do all
  pub patterns_stay : (ps : List Pattern) → All (IsPattern ground symbols variables slots) ps → All (IsPattern wider all all_variables all_slots) ps
  patterns_stay ps are = All-weaker (IsPattern ground symbols variables slots) (IsPattern wider all all_variables all_slots) pattern_stays ps are

-- the expressions of patterns stay
pub expressions_stay : (ground : ℕ) (symbols all variables : List Symbol) (slots : List Slot) (ps : List Pattern) → take ground all ≡ take ground symbols
    → All (IsPattern ground symbols variables slots) ps → map (lasting_at all) ps ≡ map (lasting_at symbols) ps
expressions_stay ground symbols all variables slots [] e are = refl
expressions_stay ground symbols all variables slots (p ∷ ps) e are =
    let is = All-head (IsPattern ground symbols variables slots) p ps are in
    let made : List Symbol → Mandatory = λ w. record { floating = p.floating; expression = w } in
    ap₂ ◌∷◌ (ap made (symbols_stay ground symbols all p e is.in_order is.within)) (expressions_stay ground symbols all variables slots ps e (All-tail (IsPattern ground symbols variables slots) p ps are))

-- patterns stay if what is below their end is the same
pub patterns_kept : (ground : ℕ) (symbols all variables : List Symbol) (slots : List Slot) (ps : List Pattern) → take ground all ≡ take ground symbols
    → All (IsPattern ground symbols variables slots) ps → All (IsPattern ground all variables slots) ps
patterns_kept ground symbols all variables slots ps e are =
    patterns_stay ground ground symbols all variables [] variables slots [] slots e (omega arith) (sym (append-nil variables)) (sym (append-nil slots)) ps are

-- an expression that is put in a place, whose symbols are behind those of the others
module _ (ground : ℕ) (symbols all expression variables more all_variables : List Symbol) (slots more_slots all_slots : List Slot) (p : Pattern) (same : take ground all ≡ take ground symbols)
    (start : p.start ≡ ground) (in_order : p.start ≤ p.end) (is : pattern_symbols all p ≡ expression) (vs : all_variables ≡ variables ++ more) (ss : all_slots ≡ slots ++ more_slots)
    (first : p.first ≡ length slots) (last : p.last ≡ length all_slots) (are : AreSlotsOf all_variables expression more_slots) (ps : List Pattern) (were : All (IsPattern ground symbols variables slots) ps) where
  pub pattern_set : (n : ℕ) → All (IsPattern p.end all all_variables all_slots) (set ps n p)
  pattern_set n =
      All-set (IsPattern p.end all all_variables all_slots) ps n p (record {
        in_order = in_order;
        within = omega arith;
        slots_in_order = omega (arith, first, last, ap length ss, length-append slots more_slots);
        slots_within = omega (arith, last);
        slots_are = grind (arith, common_steps, drop_at, length-append, take_all) steps 200000;
      }) (patterns_stay ground p.end symbols all variables more all_variables slots more_slots all_slots same (omega (arith, start, in_order)) vs ss ps were)

  pub expression_set : (n : ℕ) → map (lasting_at all) (set ps n p) ≡ set (map (lasting_at symbols) ps) n (record { floating = p.floating; expression = expression })
  expression_set n = grind (arith, common_steps, expressions_stay ground symbols all variables slots ps same were, map-set (lasting_at all) ps n p) steps 200000
