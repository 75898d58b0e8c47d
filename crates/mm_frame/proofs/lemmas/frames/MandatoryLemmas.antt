-- The numbers of the mandatory hypotheses, as the code collects them.
use Rattle.std.proofs.Common.{◌⊎◌, arith, Contains, ◌≡◌, ℕ, Bool, true, cond, Option, Some, List, [], ◌++◌, flat_map, slice_get, refl, sym, ◌∙◌, ap, subst, eqb, inl, inr, All, option_to_list}
use Rattle.std.proofs.lemmas.{Grind.{common_steps}, List.{Elements.{All-contains}, Sorted.{IsPermutation-sym, Contains-permutation}, Filters.{dedup_is}}}
use Rattle.std.{proofs.lemmas.{List.Kept.{Contains-dedup_nat, Contains-from_dedup, AllPairs-from_increasing}, Map.Keys.{IsStrictlyIncreasing-dedup}}, specs.List.{dedup}}
use Rattle.std.specs.{List.{Sorted.{IsPermutation, IsSorted}, Retain.{IsFiltered, DiffersFromLast}}, Ordering.{nat_cmp}}
use Rattle.mm_frame.proofs.lemmas.frames.{VariableLemmas.{known_to}, Frames.{assertion_expression, essential_expression, expression_labelled}}
use Rattle.mm_frame.proofs.lemmas.frames.HypothesisNumbers.{to_active_number, from_active_number, sound_typed, mandatory_numbers_built}
use Rattle.mm_frame.proofs.lemmas.lists.Members.{in_cond, In, in_contains, contains_in, in_left, in_right, in_cases, in_map, from_map, in_filter, from_filter, in_flat, from_flat, from_symbols}
use Rattle.mm_frame.proofs.lemmas.{lists.{Members.{to_symbols}, Rising.{among_in}}, names.NumberLemmas.{declared_named, name_there}, scope.KnownLemmas.{float_in}}
use Rattle.mm_frame.{proofs.lemmas.pairs.ActivePairLemmas.{expression_at_number, active_at_number, number_of_active}, specs.Code.PairOrder.{is_among}}
use Rattle.mm_frame.specs.Code.{LastItems.{last_where, types, is_active_at, is_essential_item, IsHypothesisNumber}, Numbers.{IsNameNumber}, KeptTables.{Knows, declared_at, float_of}}
use Rattle.mm_frame.specs.Code.{KeptSymbols.{AreExpressions, AreNumbered, float_number, float_numbers}, KeptVariables.{AreVariablesOf, known_float}, KeptLists.{item_list}}
use Rattle.mm_frame.specs.Language.{Scope.{active, symbols_by, active_variables, active_numbers}, Sound.{AreSound, IsSound}, Framing.{symbol, expression, mandatory_variables, mandatory_numbers}}
use Rattle.mm_frame.specs.declared.{tables.Tables.{Tables}, essential.EssentialVariable.{EssentialVariable}}
use Rattle.mm_machine.specs.{Language.{Frame.{Symbol}, Names.{name_at}, NumberedSymbols.{symbol_of, symbols_of, IsNumbered, AreSymbolsRead}}, declared.symbol.NumberedSymbol.{NumberedSymbol}}
use Rattle.mm_statement.specs.Language.Item.{Kind, Said, is_kind, Essential, Floating, is_assertion, has}

-- the number of the `$f` of a variable
under : (b : Bool) (n : ℕ) (o : Option ℕ) → In n (cond b (option_to_list o) []) → (b ≡ true) × (o ≡ Some n)
under true n (Some m) (inl e) = (refl, ap Some e)
under true n (Some m) (inr z) = absurd z
under _ n _ h = absurd h

float_last : (all : List (List ℕ)) (before : List Said) (tables : Tables) (n : ℕ) (name : List ℕ) → AreSound before → Knows all before tables → IsNameNumber all n name → float_of (declared_at tables n) ≡ last_where (types name) before
float_last all before tables n name h k there = ap float_of (declared_named all tables n name k.distinct there ∙ k.names name) ∙ float_in before h name

-- a symbol that is kept, and its name
name_of : (all : List (List ℕ)) (kept : List NumberedSymbol) (symbol : NumberedSymbol) → All (IsNumbered all) kept → In symbol kept → IsNameNumber all symbol.name (name_at all symbol.name)
name_of all kept symbol a m = name_there all symbol.name (All-contains (IsNumbered all) kept symbol a (in_contains symbol kept m))

float_from : (all : List (List ℕ)) (before : List Said) (tables : Tables) (kept : List NumberedSymbol) (n : ℕ) → AreSound before → Knows all before tables → All (IsNumbered all) kept → In n (float_numbers tables kept)
    → (s : Symbol) × In s (symbols_of all kept) × (s.variable ≡ true) × (last_where (types s.name) before ≡ Some n)
float_from all before tables kept n h k a m =
    let r = from_flat (float_number tables) n kept m in
    let u = under (r.0).variable n (float_of (declared_at tables (r.0).name)) r.2 in
    (symbol_of all r.0, in_map (symbol_of all) r.0 kept r.1, u.0, sym (float_last all before tables (r.0).name (name_at all (r.0).name) h k (name_of all kept r.0 a r.1)) ∙ u.1)

float_to : (all : List (List ℕ)) (before : List Said) (tables : Tables) (kept : List NumberedSymbol) (s : Symbol) (n : ℕ) → AreSound before
    → Knows all before tables → All (IsNumbered all) kept → In s (symbols_of all kept) → s.variable ≡ true → last_where (types s.name) before ≡ Some n
    → In n (float_numbers tables kept)
float_to all before tables kept s n h k a m t e =
    let r = from_map (symbol_of all) s kept m in
    let same = r.2 in
    let found = float_last all before tables (r.0).name (name_at all (r.0).name) h k (name_of all kept r.0 a r.1) in
    in_flat (float_number tables) r.0 n kept r.1
    (subst (λ c. In n (cond c (option_to_list (float_of (declared_at tables (r.0).name))) [])) (sym (ap (λ (x : Symbol). x.variable) same ∙ t))
    (subst (λ p. In n (option_to_list p)) (sym (found ∙ ap (λ (x : Symbol). last_where (types x.name) before) same ∙ e)) (inl refl)))

-- the variables of an assertion and of an active `$e` are mandatory
named_in : (before : List Said) (item : Said) (s : Symbol) → In s (expression before item) → In s.name item.symbols × (has (active_variables before) s.name ≡ s.variable)
named_in before item s m = grind (arith, common_steps, from_map (symbol before) s item.symbols m) steps 200000

own_mandatory : (before : List Said) (item : Said) (s : Symbol) → In s (expression before item) → s.variable ≡ true → In s.name (mandatory_variables before item)
own_mandatory before item s m t = grind (arith, common_steps, in_filter, in_left, named_in) steps 200000

essential_mandatory : (before : List Said) (item e : Said) (s : Symbol) → In e (active before) → is_kind Essential e.kind ≡ true → In s (expression before e) → s.variable ≡ true → In s.name (mandatory_variables before item)
essential_mandatory before item e s a k m t =
    let r = named_in before e s m in
    in_filter (has (active_variables before)) s.name (item.symbols ++ symbols_by (is_kind Essential) (active before))
    (in_right s.name item.symbols (symbols_by (is_kind Essential) (active before)) (to_symbols (is_kind Essential) s.name (active before) e a k r.0)) (r.1 ∙ t)

-- what is kept for an active `$e` is its expression
kept_essential : (all : List (List ℕ)) (before : List Said) (expressions : List (List NumberedSymbol)) (n : ℕ) (e : Said) → AreSound before
    → AreExpressions all before expressions → slice_get before n ≡ Some e → is_active_at before n ≡ true → is_kind Essential e.kind ≡ true
    → symbols_of all (item_list expressions n) ≡ expression before e
kept_essential all before expressions n e h a there s t =
    grind (arith, common_steps, expression_labelled e.kind (essential_expression e.kind t), expression_at_number before h n e there s (expression_labelled e.kind (essential_expression e.kind t))) steps 200000

-- the item is a sound `$a` or `$p` after sound items, of which all this is kept
pub record IsAssertionBehind (all : List (List ℕ)) (before : List Said) (item : Said) (tables : Tables) (kept : List (List NumberedSymbol)) (own : List NumberedSymbol) : Type 0 where
  pub sound : AreSound before
  pub known : Knows all before tables
  pub expressions : AreExpressions all before kept
  pub numbered : AreNumbered all kept
  pub item_sound : IsSound before item
  pub assertion : is_assertion item.kind ≡ true
  pub symbols : AreSymbolsRead all (expression before item) own

-- a number that is collected
abbrev pub IsCollected : Tables → List (List NumberedSymbol) → List NumberedSymbol → ℕ → List ℕ → Type 0
IsCollected tables expressions own n essentials =
    In n essentials ⊎ (In n (float_numbers tables own) ⊎ In n (flat_map (λ m. float_numbers tables (item_list expressions m)) essentials))

collected_from : (all : List (List ℕ)) (before : List Said) (item : Said) (tables : Tables) (expressions : List (List NumberedSymbol)) (own : List NumberedSymbol) → IsAssertionBehind all before item tables expressions own → (n : ℕ)
    → IsCollected tables expressions own n (active_numbers is_essential_item before) → IsHypothesisNumber before item n
collected_from all before item tables expressions own b n (inl e) = inl (in_contains n (active_numbers is_essential_item before) e)
collected_from all before item tables expressions own b n (inr (inl f)) =
    let r = float_from all before tables own n b.sound b.known b.symbols.numbered f in
    inr ((r.0).name, in_contains (r.0).name (mandatory_variables before item) (own_mandatory before item r.0 (subst (In r.0) b.symbols.symbols r.1) r.2), r.3)
collected_from all before item tables expressions own b n (inr (inr f)) =
    let p = from_flat (λ m. float_numbers tables (item_list expressions m)) n (active_numbers is_essential_item before) f in
    let e = from_active_number is_essential_item before p.0 p.1 in
    let r = float_from all before tables (item_list expressions p.0) n b.sound b.known (b.numbered p.0) p.2 in
    let there = subst (In r.0) (kept_essential all before expressions p.0 e.0 b.sound b.expressions e.1 e.2 e.3) r.1 in
    inr ((r.0).name, in_contains (r.0).name (mandatory_variables before item) (essential_mandatory before item e.0 r.0 (active_at_number before p.0 e.0 e.1 e.2) e.3 there r.2), r.3)

collected_to : (all : List (List ℕ)) (before : List Said) (item : Said) (tables : Tables) (expressions : List (List NumberedSymbol)) (own : List NumberedSymbol) → IsAssertionBehind all before item tables expressions own → (n : ℕ)
    → IsHypothesisNumber before item n → IsCollected tables expressions own n (active_numbers is_essential_item before)
collected_to all before item tables expressions own b n (inl c) = inl (contains_in n (active_numbers is_essential_item before) c)
collected_to all before item tables expressions own b n (inr p) =
    let name = p.0 in
    let r = from_filter (has (active_variables before)) name (item.symbols ++ symbols_by (is_kind Essential) (active before)) (contains_in name (mandatory_variables before item) p.1) in
    elim (in_cases name item.symbols (symbols_by (is_kind Essential) (active before)) r.0) [
      | inl i ↦ (
          let there = subst (In (symbol before name)) (sym b.symbols.symbols) (in_map (symbol before) name item.symbols i) in
          inr (inl (float_to all before tables own (symbol before name) n b.sound b.known b.symbols.numbered there r.1 p.2))
          )
      | inr i ↦ (
          let q = from_symbols (is_kind Essential) name (active before) i in
          let e = q.0 in
          let at = number_of_active before e q.1 in
          let same = kept_essential all before expressions at.number e b.sound b.expressions at.there at.stayed q.2 in
          inr (inr (in_flat (λ m. float_numbers tables (item_list expressions m)) at.number n (active_numbers is_essential_item before) (to_active_number is_essential_item before at.number e at.there at.stayed q.2)
          (float_to all before tables (item_list expressions at.number) (symbol before name) n b.sound b.known (b.numbered at.number) (subst (In (symbol before name)) (sym same) (in_map (symbol before) name e.symbols q.3)) r.1 p.2)))
          )
    ]

-- the same with the variables that are kept of the `$e`
abbrev pub collected_known : Tables → List ℕ → List EssentialVariable → List NumberedSymbol → List ℕ
collected_known tables essentials found own = (float_numbers tables own ++ flat_map (known_float tables essentials) found) ++ essentials

known_collected : (tables : Tables) (expressions : List (List NumberedSymbol)) (essentials : List ℕ) (found : List EssentialVariable) (own : List NumberedSymbol) → AreVariablesOf essentials expressions found → (n : ℕ)
    → In n (collected_known tables essentials found own) → IsCollected tables expressions own n essentials
known_collected tables expressions essentials found own are n h =
    let floats = float_numbers tables own in
    let known = flat_map (known_float tables essentials) found in
    elim (in_cases n (floats ++ known) essentials h) [
      | inl a ↦ elim (in_cases n floats known a) [
        | inl f ↦ inr (inl f)
        | inr b ↦ (
            let r = from_flat (known_float tables essentials) n found b in
            let v = r.0 in
            let known = in_cond (is_among essentials v.number) n (float_number tables v.symbol) r.2 in
            inr (inr (in_flat (λ m. float_numbers tables (item_list expressions m)) v.number n essentials (among_in essentials v.number known.0)
            (in_flat (float_number tables) v.symbol n (item_list expressions v.number)
            (contains_in v.symbol (item_list expressions v.number) (are.from v (in_contains v found r.1))) known.1)))
            )
      ]
      | inr e ↦ inl e
    ]

collected_is_known : (tables : Tables) (expressions : List (List NumberedSymbol)) (essentials : List ℕ) (found : List EssentialVariable) (own : List NumberedSymbol) → AreVariablesOf essentials expressions found → (n : ℕ)
    → IsCollected tables expressions own n essentials → In n (collected_known tables essentials found own)
collected_is_known tables expressions essentials found own are n h =
    let floats = float_numbers tables own in
    let known = flat_map (known_float tables essentials) found in
    elim h [
      | inl e ↦ in_right n (floats ++ known) essentials e
      | inr a ↦ in_left n (floats ++ known) essentials (elim a [ inl f ↦ in_left n floats known f | inr b ↦ in_right n floats known (known_to tables essentials expressions found are n b) ])
    ]

-- sorted, and each once
pub hypotheses_sorted : (tables : Tables) (expressions : List (List NumberedSymbol)) (essentials : List ℕ) (found : List EssentialVariable)
    (own : List NumberedSymbol) (numbers once sorted kept : List ℕ) → numbers ≡ collected_known tables essentials found own
    → IsFiltered (DiffersFromLast eqb) [] numbers once
    → IsPermutation once sorted → IsSorted nat_cmp sorted → IsFiltered (DiffersFromLast eqb) [] sorted kept
    → (all : List (List ℕ)) (before : List Said) (item : Said) → IsAssertionBehind all before item tables expressions own
    → AreVariablesOf essentials expressions found
    → essentials ≡ active_numbers is_essential_item before → kept ≡ mandatory_numbers before item
hypotheses_sorted tables expressions essentials found own numbers once sorted kept whole fewer moved rising filtered all before item b are e =
    let first = dedup_is eqb numbers once fewer in
    let here = λ (n : ℕ). subst (IsCollected tables expressions own n) e in
    let typed = sound_typed before b.sound item b.item_sound (assertion_expression item.kind b.assertion) in
    (dedup_is eqb sorted kept filtered) ∙ mandatory_numbers_built before b.sound item typed (dedup eqb sorted) (AllPairs-from_increasing (dedup eqb sorted) (IsStrictlyIncreasing-dedup sorted rising)) (λ n. (
      λ m. collected_from all before item tables expressions own b n (here n (known_collected tables expressions essentials found own are n (subst (In n) whole (contains_in n numbers
          (Contains-from_dedup eqb numbers n (subst (λ w. Contains w n) first (Contains-permutation sorted once n (IsPermutation-sym once sorted moved) (Contains-from_dedup eqb sorted n m)))))))),
      λ f. Contains-dedup_nat sorted n (Contains-permutation once sorted n moved
          (subst (λ w. Contains w n) (sym first) (Contains-dedup_nat numbers n (in_contains n numbers
          (subst (In n) (sym whole) (collected_is_known tables expressions essentials found own are n
          (subst (IsCollected tables expressions own n) (sym e) (collected_to all before item tables expressions own b n f)))))))),
    ))

-- a `$f` is no `$e`
pub not_both : (k : Kind) → is_kind Floating k ≡ true → is_kind Essential k ≡ true → ⊥
not_both k f e = grind (arith, common_steps) steps 200000
