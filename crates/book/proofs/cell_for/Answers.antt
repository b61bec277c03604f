use Rattle.steps.proofs.Sequence.{same_err}
use Rattle.book.proofs.Lines.{by-case}
use Rattle.paper.specs.Deck.{cell_for}
use Rattle.records.specs.Symbols.{name_of}
use Rattle.book.proofs.cell_for.Goals as goal

pub returns-in_err-define_local-in-Local : goal.returns-in_err-define_local-in-Local
returns-in_err-define_local-in-Local c =
    rw (same_err c.from_residual.ensures.1)
    (by-case (λ x. cell_for (name_of x)) c.in-Local.is (c.in_err-define_local-in-Local.ensures _ _ _))

pub returns-in_err-take_cell-in-Blank : goal.returns-in_err-take_cell-in-Blank
unfolding cell_for
returns-in_err-take_cell-in-Blank c =
    rw (same_err c.from_residual-in_err-take_cell-in-Blank.ensures.1)
    (by-case (λ x. cell_for (name_of x)) c.in-Blank.is (c.in_err-take_cell-in-Blank.ensures _ _ _ _))

pub returns-in-Regional : goal.returns-in-Regional
returns-in-Regional c =
    by-case (λ x. cell_for (name_of x)) c.in-Regional.is (c.open_structure.ensures _)

pub returns-in_ok-define_local-in-Local : goal.returns-in_ok-define_local-in-Local
returns-in_ok-define_local-in-Local c =
    by-case (λ x. cell_for (name_of x)) c.in-Local.is (c.in_ok-define_local-in-Local.ensures _ _ _)

pub returns-in_ok-take_cell-in-Blank : goal.returns-in_ok-take_cell-in-Blank
unfolding cell_for
returns-in_ok-take_cell-in-Blank c =
    by-case (λ x. cell_for (name_of x)) c.in-Blank.is (c.in_ok-take_cell-in-Blank.ensures _ _ _ _)
