-- The steps of a walk do not go by keys.
use Rattle.std.{proofs.{Common.{rules, arith, ◌≡◌, ℕ, List, [], ◌∷◌, map, refl, sym, ap, ◌∙◌, subst, inl, inr}, lemmas.{Grind.{common_steps}, Option.{slice_get-map}}}, specs.List.{AllByRecursion}}
use Rattle.std.specs.Option.{option_map}
use Rattle.mm_store.specs.{declared.walk.PlacedPiece.{PlacedPiece}, Language.{FilesView.{PieceView, FileView, FilesView, files_in, plain, number_of}, Expansion.{Placed, IsInclusion}}}
use Rattle.mm_store.specs.{Language.{Keyless.{bare, keyless_placed}, Walking.{LevelView, WalkView}}, Code.Gains.{HoldUnits}}
use Rattle.mm_store.{specs.Code.Steps.{piece_at, IsHere, IncludesNothing, Includes, spot_at, Tells, IsStep}, proofs.lemmas.files.ViewLemmas.{there_from_map}}
use Rattle.mm_store.proofs.lemmas.expansion.KeylessLemmas.{keyless_piece, keyless_file, number_keyless, parts_keyless, keyless_bare}
use Rattle.mm_store.specs.declared.walk.Step.TheVariants as steps

own_keyless : (parts : List Placed) → AllByRecursion (λ part. ¬ IsInclusion part) parts → AllByRecursion (λ part. ¬ IsInclusion part) (map keyless_placed parts)
own_keyless [] h = tt
own_keyless (part ∷ parts) h = (h.0, own_keyless parts h.1)

nothing_keyless : (file n : ℕ) (piece : PieceView) → IncludesNothing file n piece → IncludesNothing file n (keyless_piece piece)
nothing_keyless file n piece h = record { placed = map keyless_placed h.placed; are_parts = parts_keyless file n piece h.placed h.are_parts; own = own_keyless h.placed h.own }

includes_keyless : (file n : ℕ) (piece : PieceView) (name : List ℕ) → Includes file n piece name → Includes file n (keyless_piece piece) name
includes_keyless file n piece name h = grind (arith, common_steps, parts_keyless file n piece (h.part ∷ []) h.are_parts) steps 200000

module _ (files : List FileView) where
  at_keyless : (level : LevelView) → piece_at (map keyless_file files) level ≡ option_map keyless_piece (piece_at files level)
  at_keyless level = grind (arith, common_steps, keyless_file, slice_get-map, keyless_piece) steps 200000

  here_keyless : (levels front : List LevelView) (level : LevelView) (piece : PieceView) → IsHere files levels front level piece → IsHere (map keyless_file files) levels front level (keyless_piece piece)
  here_keyless levels front level piece h = record { last = h.last; there = at_keyless level ∙ ap (option_map keyless_piece) h.there }

  module _ (old new : WalkView) where
    nothing_step : IsStep files old steps.Nothing new → IsStep (map keyless_file files) old steps.Nothing new
    nothing_step (inl l) = inl (record { front = l.front; level = l.level; last = l.last; none = at_keyless l.level ∙ ap (option_map keyless_piece) l.none; after = l.after })
    nothing_step (inr (inl a)) =
        search (rules, here_keyless old.levels a.front a.level a.piece a.is_here, includes_keyless a.level.file a.level.piece a.piece a.name a.includes, keyless_piece a.piece)
    nothing_step (inr (inr e)) =
        search (rules, here_keyless old.levels e.front e.level e.piece e.is_here, includes_keyless e.level.file e.level.piece e.piece e.name e.includes, keyless_piece e.piece, number_keyless files e.name)

    items_step : (spot : PlacedPiece) → IsStep files old (steps.Items spot) new → (other : PlacedPiece) × IsStep (map keyless_file files) old (steps.Items other) new
    items_step spot (inl p) = (
      spot_at p.level (keyless_piece p.piece),
      inl (record {
        front = p.front;
        level = p.level;
        piece = keyless_piece p.piece;
        is_here = here_keyless old.levels p.front p.level p.piece p.is_here;
        is_spot = refl;
        nothing = nothing_keyless p.level.file p.level.piece p.piece p.nothing;
        after = p.after;
      }),
    )
    items_step spot (inr p) = (
      spot_at p.level (keyless_piece p.piece),
      inr (record {
        front = p.front;
        level = p.level;
        piece = keyless_piece p.piece;
        is_here = here_keyless old.levels p.front p.level p.piece p.is_here;
        is_spot = refl;
        name = p.name;
        includes = includes_keyless p.level.file p.level.piece p.piece p.name p.includes;
        fresh = p.fresh;
        none = number_keyless files p.name ∙ p.none;
        told = p.told;
        after = p.after;
      }),
    )

    tells_step : (name : List ℕ) → Tells files old name new → Tells (map keyless_file files) old name new
    tells_step name t = search (rules, here_keyless, includes_keyless, keyless_piece, number_keyless) steps 200000

module _ (view : FilesView) where
  pub hold_bare : HoldUnits (files_in view) → HoldUnits (bare (plain view))
  hold_bare hold = grind (arith, common_steps, keyless_bare, keyless_file, keyless_piece, there_from_map) steps 200000

  pub number_bare : (name : List ℕ) → number_of (bare (plain view)) name ≡ number_of (files_in view) name
  number_bare name = ap (λ files. number_of files name) (sym (keyless_bare view)) ∙ number_keyless (files_in view) name

  module _ (old new : WalkView) where
    pub bare_nothing : IsStep (files_in view) old steps.Nothing new → IsStep (bare (plain view)) old steps.Nothing new
    bare_nothing s = subst (λ files. IsStep files old steps.Nothing new) (keyless_bare view) (nothing_step (files_in view) old new s)

    pub bare_items : (spot : PlacedPiece) → IsStep (files_in view) old (steps.Items spot) new → (other : PlacedPiece) × IsStep (bare (plain view)) old (steps.Items other) new
    bare_items spot s = (let t = items_step (files_in view) old new spot s in (t.0, subst (λ files. IsStep files old (steps.Items t.0) new) (keyless_bare view) t.1))

    pub bare_tells : (name : List ℕ) → Tells (files_in view) old name new → Tells (bare (plain view)) old name new
    bare_tells name s = subst (λ files. Tells files old name new) (keyless_bare view) (tells_step (files_in view) old new name s)
