use Rattle.mm_frame.proofs.draft.Draft.with_room.Goals as goal

pub returns : goal.returns
returns c = λ all distinct. (c.in_ok-passed.ensures all distinct, c.in_ok-assertions.ensures all)
