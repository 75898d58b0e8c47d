use Rattle.std.proofs.{lemmas.Grind.{common_steps}, Common.{[], ◌∷◌, ◌++◌, arith}}
use Rattle.mm_keep.proofs.ToldLemmas.{told_more}
use Rattle.mm_keep.proofs.answers.tally_of.Goals as goal

pub finding_of-requires : goal.finding_of-requires
finding_of-requires c =
    let h = c.requires in
    (h.0, h.1, h.2, h.3, omega (arith, c.loop-i-test.true, c.count-i-end.ensures.count h.1 (h.0, h.2.read_in.base)))

pub with-tally-requires : goal.with-tally-requires
with-tally-requires c =
    grind (arith, common_steps, c.loop-i.invariant c.requires.0 c.requires.1 c.requires.2 c.requires.3, c.count-i-end.ensures.few c.requires.1 (c.requires.0, c.requires.2.read_in.base)) steps 200000

pub loop-i-preserved : goal.loop-i-preserved
loop-i-preserved c names view is checked =
    let t = c.loop-i.invariant names view is checked in
    let one = c.finding_of.ensures names view is checked in
    (t.0 ++ _ ∷ [], told_more c.args.files.now c.args.base.now.items view c.loop-i.i t.0 _ one t.1, c.with-tally.ensures t.0 t.2)

pub returns : goal.returns
returns c names view is checked = grind (arith, common_steps, c.loop-i.invariant names view is checked, c.count-i-end.ensures.count view (names, is.read_in.base)) steps 200000
