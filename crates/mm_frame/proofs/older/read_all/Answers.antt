use Rattle.mm_frame.proofs.older.read_all.Goals as goal

pub returns-in-Ok-clause-read : goal.returns-in-Ok-clause-read
returns-in-Ok-clause-read c = c.in-Ok.ensures.read (λ all distinct more. c.in_ok-draft.ensures all distinct)
