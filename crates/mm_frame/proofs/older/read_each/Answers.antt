use Rattle.std.{proofs.{lemmas.Grind.{common_steps}, Common.{◌≡◌, ◌∷◌, ◌++◌, [], suc, ◌+◌, take, ap, ◌∙◌, subst, sym, arith}}, specs.List.{AllZip}}
use Rattle.mm_statement.specs.Language.Statement.{Says}
use Rattle.mm_frame.{specs.{Language.Older.{HasOlder}, Code.FromOlder.{AreFirstIf}}, proofs.lemmas.{names.NumberLemmas.{begins_on}, base.BaseLemmas.{zip_more}, reading.KnownItems.{older_on}}}
use Rattle.mm_frame.proofs.older.read_each.Goals as goal

pub loop-item-preserved : goal.loop-item-preserved
loop-item-preserved c =
    let files = c.args.files.now in
    let items = c.args.items.now in
    let n = c.loop-item.item-index in
    let so_far = c.loop-item.invariant in
    let read = c.in_ok-cursor.ensures.read in
    let said = so_far.2 ++ read.0 ∷ [] in
    let next : suc n ≡ n + 1 = omega arith in (
      begins_on _ _ _ so_far.0 c.read_next.ensures.grows,
      ap (λ w. w.now) c.in_ok-cursor.ensures.base ∙ so_far.1,
      said,
      subst (λ k. AllZip (Says files) (take k items) said) next (zip_more (Says files) items so_far.2 n _ read.0 c.loop-item-test.true so_far.3 read.1),
      λ stands.
          let before = so_far.4 stands in
          let after = read.2 so_far.2 before.0 (subst (λ b. AreFirstIf c.loop-item.cursor.same files b so_far.2) (sym so_far.1) before.1) in
          (after.0, subst (λ b. AreFirstIf c.in_ok-cursor.cursor.same files b said) so_far.1 after.1),
    )

pub returns-clause-read : goal.returns-clause-read
returns-clause-read c = grind (arith, common_steps, c.loop-item.invariant.4) steps 200000

pub read_next-requires-clause-older : goal.read_next-requires-clause-older
read_next-requires-clause-older c =
    subst (HasOlder c.loop-item.names c.args.files.now) (sym c.loop-item.invariant.1) (older_on _ _ c.args.files.now c.args.old.now c.loop-item.invariant.0 c.requires.older)
