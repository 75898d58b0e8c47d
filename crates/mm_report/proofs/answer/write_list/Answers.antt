use Rattle.mm_report.proofs.answer.write_list.Goals as goal

pub returns-in-Err : goal.returns-in-Err
returns-in-Err g c question label finds lacks = record { ok = tt; err = (c.in-Err.ensures.answers question label finds lacks).err }
