-- The items of a base that a machine has loaded.
use Rattle.std.proofs.Common.{rules, ◌≡◌, ◌≢◌, ◌<◌, ◌⊎◌, ◌-◌, ℕ, Bool, true, false, ◌&&◌, ◌||◌, List, [], ◌++◌, All, length, get_or, set, inl, inr, refl, sym, ◌∙◌, ap, subst, arith, get_or-set_other}
use Rattle.std.proofs.{Common.{get_or-set_same, length-append}, lemmas.{Grind.{common_steps}, Bool.{false≢true}}}
use Rattle.std.proofs.{lemmas.List.{get_or_append_left, get_or-append_right, get_or_default, get_or_past, length-set}, Math.Decide.{dec_lt, ℕ_discrete}}
use Rattle.mm_frame.specs.{declared.base.{Base.{Base}, Resolved.{Resolved}}, Language.Base.{AreHypotheses, BaseView, is_framed_at}}
use Rattle.mm_frame.specs.mm_statement.Language.Item.{Kind, Axiom, Essential, Floating, Theorem, is_assertion, is_kind}
use Rattle.mm_machine.specs.{Language.{Frame.{Mandatory}, Lasting.{lasting_of, lasting_or}, NumberedSymbols.{by_code}}, declared.{machine.Machine.{Machine}, symbol.CodedSymbol.{CodedSymbol}}}
use Rattle.mm_verdict.specs.{Language.Loaded.{HasHypotheses, HasItem, IsItemOf, IsLoaded}, Code.NamedItems.{IsThere, KeepsItems}}
use Rattle.mm_frame.specs.declared.base.Resolved.TheVariants as answers

-- ---- an item that is loaded

-- each lasting expression that has a symbol is that of an item that is loaded
abbrev pub AreLoaded : Base → List Mandatory → Type 0
AreLoaded code lasting = (j : ℕ) → (lasting_or lasting j).expression ≢ [] → IsLoaded code lasting j

abbrev nothing : Mandatory
nothing = record { floating = false; expression = [] }

module _ (code : Base) (lasting : List Mandatory) (n : ℕ) (h : Mandatory) (within : n < length lasting) (is : IsItemOf code n h) where
  -- it is there
  pub item_set : HasItem code (set lasting n h) n
  item_set = (omega (arith, within, length-set lasting n h), subst (IsItemOf code n) (sym (get_or-set_same lasting n h nothing within)) is)

  -- each other item stays
  other_set : (j : ℕ) → j ≢ n → lasting_or (set lasting n h) j ≡ lasting_or lasting j
  other_set j other = get_or-set_other lasting n j h nothing other

  pub item_stays : (j : ℕ) → HasItem code lasting j → HasItem code (set lasting n h) j
  item_stays j has = elim (ℕ_discrete j n) [
    | yes same ↦ subst (HasItem code (set lasting n h)) (sym same) item_set
    | no other ↦ (omega (arith, has.0, length-set lasting n h), subst (IsItemOf code j) (sym (other_set j other)) has.1)
  ]

  pub hypotheses_stay : (j : ℕ) → HasHypotheses code lasting j → HasHypotheses code (set lasting n h) j
  hypotheses_stay j has = λ view is framed k d l. item_stays _ (has view is framed k d l)

  -- and all that have a symbol are loaded
  pub loaded_set : HasHypotheses code lasting n → AreLoaded code lasting → AreLoaded code (set lasting n h)
  loaded_set hypotheses all j some = elim (ℕ_discrete j n) [
    | yes same ↦ subst (IsLoaded code (set lasting n h)) (sym same) (item_set, hypotheses_stay n hypotheses)
    | no other ↦ (let was = all j (subst (λ (g : Mandatory). g.expression ≢ []) (other_set j other) some) in (item_stays j was.0, hypotheses_stay j was.1))
  ]

-- ---- none is loaded

pub none_loaded : (code : Base) → AreLoaded code []
none_loaded code j some = absurd (some refl)

-- they stay, or there is none
pub loaded_kept : (code : Base) (old new : List Mandatory) → AreLoaded code old → (new ≡ old) ⊎ (new ≡ []) → AreLoaded code new
loaded_kept code old new loaded (inl same) = subst (AreLoaded code) (sym same) loaded
loaded_kept code old new loaded (inr none) = subst (AreLoaded code) (sym none) (none_loaded code)

-- places behind them have no symbol
module _ (code : Base) (lasting more : List Mandatory) (none : All (λ (h : Mandatory). h.expression ≡ []) more) (loaded : AreLoaded code lasting) where
  item_within : (j : ℕ) → HasItem code lasting j → HasItem code (lasting ++ more) j
  item_within j has = (omega (arith, has.0, length-append lasting more), subst (IsItemOf code j) (sym (get_or_append_left lasting more nothing j has.0)) has.1)

  none_behind : (k : ℕ) → (get_or more k nothing).expression ≡ []
  none_behind k = grind (arith, common_steps, dec_lt, get_or_past) steps 200000

  pub loaded_places : AreLoaded code (lasting ++ more)
  loaded_places j some = elim (dec_lt j (length lasting)) [
    | yes within ↦ (let was = loaded j (subst (λ (h : Mandatory). h.expression ≢ []) (get_or_append_left lasting more nothing j within) some) in (
      item_within j was.0,
      λ view is framed k d l. item_within _ (was.1 view is framed k d l),
    ))
    | no past ↦ absurd (some (ap (λ (h : Mandatory). h.expression) (get_or-append_right lasting more (length lasting) j nothing refl (omega (arith, past))) ∙ none_behind (j - length lasting)))
  ]

-- ---- hypotheses

-- a mandatory hypothesis is no assertion
no_assertion : (kind : Kind) (other : Bool) → (is_kind Essential kind || (is_kind Floating kind && other)) ≡ true → is_assertion kind ≡ false
no_assertion Axiom other mandatory = absurd (false≢true mandatory)
no_assertion Theorem other mandatory = absurd (false≢true mandatory)
no_assertion _ other mandatory = refl

and_false : (b : Bool) → (b && false) ≡ false
and_false true = refl
and_false false = refl

pub hypotheses_cite_nothing : (view : BaseView) (i : ℕ) (numbers : List ℕ) → AreHypotheses view i numbers → All (λ n. is_framed_at view n ≡ false) numbers
hypotheses_cite_nothing view i numbers are k d l = search (rules, and_false, get_or_default, no_assertion)

-- ---- a machine that loads

-- it keeps its items
pub keeps_same : (code : Base) (machine : Machine CodedSymbol) → KeepsItems code machine machine
keeps_same code machine = record { count = refl; stay = λ j has. has }

pub keeps_more : (code : Base) (a b c : Machine CodedSymbol) → KeepsItems code a b → KeepsItems code b c → KeepsItems code a c
keeps_more code a b c first next = record { count = next.count ∙ first.count; stay = λ j has. next.stay j (first.stay j has) }

hypotheses_kept : (code : Base) (a b : Machine CodedSymbol) → KeepsItems code a b → (numbers : List ℕ) → All (HasItem code (lasting_of by_code a)) numbers → All (HasItem code (lasting_of by_code b)) numbers
hypotheses_kept code a b keeps numbers has k d l = keeps.stay _ (has k d l)

pub loaded_kept_by : (code : Base) (a b : Machine CodedSymbol) → KeepsItems code a b → (j : ℕ) → IsLoaded code (lasting_of by_code a) j → IsLoaded code (lasting_of by_code b) j
loaded_kept_by code a b keeps j is = (keeps.stay j is.0, λ view base framed. hypotheses_kept code a b keeps _ (is.1 view base framed))

pub there_kept : (code : Base) (a b : Machine CodedSymbol) → KeepsItems code a b → (label : Resolved) → IsThere code (lasting_of by_code a) label → IsThere code (lasting_of by_code b) label
there_kept code a b keeps (answers.Hypothesis j) is = loaded_kept_by code a b keeps j is
there_kept code a b keeps (answers.Assertion j) is = loaded_kept_by code a b keeps j is
there_kept code a b keeps _ is = tt

-- what is loaded by its number is there by its label
pub there_by : (code : Base) (lasting : List Mandatory) (label : Resolved) (j : ℕ) → (label ≡ answers.Hypothesis j) ⊎ (label ≡ answers.Assertion j) → IsLoaded code lasting j → IsThere code lasting label
there_by code lasting label j (inl e) is = subst (IsThere code lasting) (sym e) is
there_by code lasting label j (inr e) is = subst (IsThere code lasting) (sym e) is
