use Rattle.cells.proofs.pack.Goals as goal

pub returns-in-Free : goal.returns-in-Free
returns-in-Free c = rw c.in-Free.is c.of_free.ensures

pub returns-in-Word : goal.returns-in-Word
returns-in-Word c = rw c.in-Word.is c.of_fields.ensures

pub returns-in-Term : goal.returns-in-Term
returns-in-Term c = rw c.in-Term.is c.of_term.ensures

pub returns-in-Process : goal.returns-in-Process
returns-in-Process c = rw c.in-Process.is c.of_process.ensures
