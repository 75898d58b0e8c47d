-- The substitution that the entries of the mandatory `$f` give.
use Rattle.std.proofs.lemmas.{Grind.{common_steps}, List.Elements.{All-head, All-tail}, Bool.{cases_Bool, false≢true}, Option.{get_or_from_slice_get, same_Some, slice_get-get_or, slice_get_within}}
use Rattle.std.proofs.Common.{◌≡◌, ◌≢◌, ℕ, ◌+◌, ◌<◌, suc, true, false, Option, Some, None, List, ◌∷◌, length, map, drop, get_or-set_other, get_or-set_same, length-set, refl, sym, ◌∙◌, ap, subst}
use Rattle.std.proofs.{Common.{arith, inl, inr, slice_get, slice_set, Contains, All, AllPairs, []}, Math.Decide.{map_dec, ℕ_discrete}}
use mathlib.Core.Bool.{Bool-discrete}
use Rattle.mm_machine.specs.{Language.{Frame.{Symbol, Mandatory}, Substitution.{substituted}, Typing.{IsTyping}, Faults.{AnyZip}}, Code.Citation.{AreGiven, IsTypingOf, OtherTypecode}}
use Rattle.mm_machine.{specs.declared.pattern.{Entry.{Entry}, Given.{Given}}, proofs.lemmas.lists.Members.{Contains-here, contains_there}}
use Rattle.mm_machine.proofs.lemmas.verdicts.{Choices.{symbol_discrete, expression_discrete, both_of}, Unique.{FloatsMatch}}

dec_second : (o : Option Symbol) (v : Symbol) → Dec (o ≡ Some v)
dec_second None v = no (λ e. (cc))
dec_second (Some w) v = map_dec (λ e. ap Some e) (λ e. (cc)) (symbol_discrete w v)

pub dec_types : (h : Mandatory) (v : Symbol) → Dec (IsTypingOf h v)
dec_types h v = both_of (Bool-discrete h.floating true) (dec_second (slice_get h.expression 1) v)

-- the entry after its typecode, of the first `$f` of the variable
pub given_by : List Mandatory → List (List Symbol) → Symbol → List Symbol
given_by (h ∷ hs) (e ∷ es) v = elim (dec_types h v) [ yes t ↦ drop 1 e | no n ↦ given_by hs es v ]
given_by _ _ v = []

given_here : (h : Mandatory) (hs : List Mandatory) (e : List Symbol) (es : List (List Symbol)) (v : Symbol) → IsTypingOf h v → given_by (h ∷ hs) (e ∷ es) v ≡ drop 1 e
unfolding given_by
given_here h hs e es v t = grind (arith, common_steps, dec_types h v) steps 200000

given_there : (h : Mandatory) (hs : List Mandatory) (e : List Symbol) (es : List (List Symbol)) (v : Symbol) → (IsTypingOf h v → ⊥) → given_by (h ∷ hs) (e ∷ es) v ≡ given_by hs es v
unfolding given_by
given_there h hs e es v n = grind (arith, common_steps, dec_types h v) steps 200000

-- an entry that has the typecode of its `$f`
entry_is : (f : Symbol → List Symbol) (h : Mandatory) (e : List Symbol) → IsTyping h.expression → slice_get h.expression 0 ≡ slice_get e 0 → ((v : Symbol) → slice_get h.expression 1 ≡ Some v → f v ≡ drop 1 e) → substituted f h.expression ≡ e
entry_is f h e t s g = grind (arith, common_steps) steps 200000

pub dec_option : (a b : Option Symbol) → Dec (a ≡ b)
dec_option None None = yes refl
dec_option (Some x) (Some y) = map_dec (λ e. ap Some e) (λ e. (cc)) (symbol_discrete x y)
dec_option _ _ = no (λ e. (cc))

abbrev pub IsOnce : List Mandatory → Type 0
IsOnce hs = AllPairs (λ h g. h.floating ≡ true → g.floating ≡ true → slice_get h.expression 1 ≢ slice_get g.expression 1) hs

once_tail : (h : Mandatory) (hs : List Mandatory) → IsOnce (h ∷ hs) → IsOnce hs
once_tail h hs a = λ i j d l m. a (suc i) (suc j) d (omega arith) (omega arith)

once_head : (h : Mandatory) (hs : List Mandatory) (v : Symbol) → IsOnce (h ∷ hs) → IsTypingOf h v → (g : Mandatory) → Contains hs g → IsTypingOf g v → ⊥
once_head h hs v a t g c u =
    let n = a 0 (suc c.0) g (omega arith) (omega arith) in
    let m : slice_get h.expression 1 ≢ slice_get g.expression 1 = subst (λ (w : Mandatory). slice_get h.expression 1 ≢ slice_get w.expression 1) c.2 (n t.0 (subst (λ (w : Mandatory). w.floating ≡ true) (sym c.2) u.0)) in
    m (t.1 ∙ sym u.1)

-- a substitution that agrees with what the entries give matches each `$f`
floats_match_by :
    (f : Symbol → List Symbol) (hs : List Mandatory) (es : List (List Symbol)) → length hs ≡ length es →
    All (λ h. h.floating ≡ true → IsTyping h.expression) hs → IsOnce hs → (AnyZip OtherTypecode hs es → ⊥) →
    ((v : Symbol) (h : Mandatory) → Contains hs h → IsTypingOf h v → f v ≡ given_by hs es v) → FloatsMatch f hs es
floats_match_by f [] [] l t o n a = tt
floats_match_by f (h ∷ hs) (e ∷ es) l t o n a = (
  λ is. entry_is f h e (All-head (λ h. h.floating ≡ true → IsTyping h.expression) h hs t is)
      (elim (dec_option (slice_get h.expression 0) (slice_get e 0)) [ yes s ↦ s | no m ↦ absurd (n (inl (is, m))) ]) (λ v s. a v h (Contains-here h hs) (is, s)
      ∙ given_here h hs e es v (is, s)),
  floats_match_by f hs es (cc) (All-tail (λ h. h.floating ≡ true → IsTyping h.expression) h hs t) (once_tail h hs o) (λ z. n (inr z)) (λ v g c u. a v g (contains_there h hs g c) u ∙ given_there h hs e es v (λ w. once_head h hs v o w g c u)),
)
floats_match_by f _ _ l t o n a = cc

pub floats_match : (hs : List Mandatory) (es : List (List Symbol)) → length hs ≡ length es → All (λ h. h.floating ≡ true → IsTyping h.expression) hs → IsOnce hs → (AnyZip OtherTypecode hs es → ⊥) → FloatsMatch (given_by hs es) hs es
floats_match hs es l t o n = floats_match_by (given_by hs es) hs es l t o n (λ v h c u. refl)

-- with each `$e` too, the whole matches
pub all_match : (f : Symbol → List Symbol) (hs : List Mandatory) (es : List (List Symbol)) → length hs ≡ length es → FloatsMatch f hs es
    → (AnyZip (λ h e. (h.floating ≡ false) × (substituted f h.expression ≢ e)) hs es → ⊥) → map (λ h. substituted f h.expression) hs ≡ es
all_match f [] [] l m n = refl
all_match f [] (e ∷ es) l m n = cc
all_match f (h ∷ hs) [] l m n = cc
all_match f (h ∷ hs) (e ∷ es) l m n =
    let tail = all_match f hs es (cc) m.1 (λ z. n (inr z)) in
    let head : substituted f h.expression ≡ e = elim (cases_Bool h.floating) [
      | inl is ↦ m.0 is
      | inr is ↦ elim (expression_discrete (substituted f h.expression) e) [ yes s ↦ s | no k ↦ absurd (n (inl (is, k))) ]
    ] in
    cc

-- ---- what the variables are given, `$f` by `$f`

-- no two `$f` are of one variable
once_at : (hs : List Mandatory) (k n : ℕ) (h g : Mandatory) (v : Symbol) → IsOnce hs → k < n → slice_get hs k ≡ Some h → slice_get hs n ≡ Some g → IsTypingOf h v → IsTypingOf g v → ⊥
once_at hs k n h g v once l at_h at_g t u =
    let first = get_or_from_slice_get hs k h h at_h in
    let second = get_or_from_slice_get hs n g h at_g in
    let floating = λ (w x : Mandatory) (e : w ≡ x) (f : x.floating ≡ true). ap (λ (y : Mandatory). y.floating) e ∙ f in
    once k n h l (slice_get_within hs n g at_g) (floating _ h first t.0) (floating _ g second u.0)
    (ap (λ (w : Mandatory). slice_get w.expression 1) first ∙ t.1 ∙ sym u.1 ∙ ap (λ (w : Mandatory). slice_get w.expression 1) (sym second))

module _ (variables : List Symbol) (hs : List Mandatory) (entries : List Entry) (given : List Given) (n : ℕ) (h : Mandatory) (at_h : slice_get hs n ≡ Some h)
    (were : AreGiven variables hs entries given n) where
  -- one `$e` more gives nothing
  pub gives_still : h.floating ≡ false → AreGiven variables hs entries given (n + 1)
  gives_still is k g w m l at_g typing at_m = grind (arith, common_steps, false≢true, same_Some) steps 200000

  -- one `$f` more gives its variable the rest of its entry
  pub gives_more : (number : ℕ) (v : Symbol) (e : Entry) → IsOnce hs → ((i j : ℕ) (w : Symbol) → slice_get variables i ≡ Some w → slice_get variables j ≡ Some w → i ≡ j)
      → number < length given → IsTypingOf h v → slice_get variables number ≡ Some v → slice_get entries n ≡ Some e → e.start < e.end
      → AreGiven variables hs entries (slice_set given number (record { start = e.start + 1; end = e.end; place = n })) (n + 1)
  gives_more number v e once single within is at_v at_e some k g w m l at_g typing at_m =
      let put : Given = record { start = e.start + 1; end = e.end; place = n } in
      let all = slice_set given number put in
      elim (ℕ_discrete k n) [
        | yes s ↦
            let same_h = same_Some h g (sym at_h ∙ sym (ap (slice_get hs) s) ∙ at_g) in
            let same_v = same_Some v w (sym is.1 ∙ ap (λ (x : Mandatory). slice_get x.expression 1) same_h ∙ typing.1) in
            let there = slice_get-get_or all number put (omega (arith, within, length-set given number put)) ∙ ap Some (get_or-set_same given number put put within) in
            let make : ℕ → Given = λ j. record { start = e.start + 1; end = e.end; place = j } in
            (e, ap (slice_get entries) s ∙ at_e, some, ap (slice_get all) (single m number w at_m (at_v ∙ ap Some same_v)) ∙ there ∙ ap (λ j. Some (make j)) (sym s))
        | no o ↦
            let r = were k g w m (omega (arith, l, o)) at_g typing at_m in
            let was : Given = record { start = r.0.start + 1; end = r.0.end; place = k } in
            let other : m ≢ number = λ s. once_at hs k n g h w once (omega (arith, l, o)) at_g at_h typing (is.0, is.1 ∙ sym at_v ∙ ap (slice_get variables) (sym s) ∙ at_m) in
            let long = slice_get_within given m was r.3 in (
              r.0,
              r.1,
              r.2,
              slice_get-get_or all m was (omega (arith, long, length-set given number put))
                  ∙ ap Some (get_or-set_other given number m put was other ∙ get_or_from_slice_get given m was was r.3),
            )
      ]
