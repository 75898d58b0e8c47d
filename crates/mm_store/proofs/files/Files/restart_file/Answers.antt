use Rattle.std.proofs.{lemmas.Grind.{common_steps}, Common.{refl, sym, subst, arith}}
use Rattle.mm_store.{specs.Code.Kept.{AreFilesKept}, proofs.lemmas.files.{EntryLemmas.{same_view}, FileLemmas.{keys_now, lent}, KeptLemmas.{kept_edited, view_after}, ListLemmas.{with_same}}}
use Rattle.mm_store.proofs.{lemmas.edits.StepLemmas.{same}, files.Files.restart_file.Goals.{in-None, in-Some}}
use Rattle.mm_store.proofs.files.Files.restart_file.Goals as goal

pub restart-requires : goal.restart-requires
restart-requires c = grind (arith, common_steps, lent c.self.inside c.args.number c.self.invariant c.get_index_mut.ensures.value c.in-Some.is) steps 200000

pub invariant_of-self : goal.invariant_of-self
invariant_of-self c = elim c.match-get_index_mut.branch [
  | in-None w ↦ subst AreFilesKept (sym w.self-inside-is) c.self.invariant
  | in-Some w ↦
      let file = lent c.self.inside c.args.number c.self.invariant c.get_index_mut.ensures.value w.in-Some.is in
      subst AreFilesKept (sym w.self-inside-is)
      (kept_edited file w.restart.ensures.keys refl _ c.self.invariant (same file.keyed file.there) (omega (arith, w.restart.ensures.deleted)) refl c.self.invariant.within)
]

pub returns : goal.returns
returns c = elim c.match-get_index_mut.branch [
  | in-None w ↦ grind (arith, common_steps) steps 200000
  | in-Some w ↦
      let file = lent c.self.inside c.args.number c.self.invariant c.get_index_mut.ensures.value w.in-Some.is in
      let is = view_after file w.restart.ensures.keys (refl {a = c.self.inside.pieces}) c.self.inside.bytes c.self.view_is in
      let keys = keys_now file c.self.view_is in
      grind (arith, common_steps, same_view, with_same) steps 200000
]
