use Rattle.steps.proofs.Sequence.{give, seen}
use Rattle.book.proofs.Lines.{by-case, part}
use Rattle.paper.specs.Deck.{cell_named}
use Rattle.paper.proofs.Kit.{sym, ⊎_elim}
use Rattle.book.proofs.cell_named.Goals as goal

pub returns-in-Regional : goal.returns-in-Regional
unfolding cell_named
returns-in-Regional c = λ k m. by-case cell_named c.in-Regional.is (seen (part _ (sym c.cell_of.ensures)))

pub returns-in-Local : goal.returns-in-Local
unfolding cell_named
returns-in-Local c =
    λ k m. by-case cell_named c.in-Local.is (c.mention.ensures _ k m)

pub returns-in-Zero : goal.returns-in-Zero
unfolding cell_named
returns-in-Zero c =
    λ k m. ⊎_elim (λ p. by-case cell_named p give) (λ p. by-case cell_named p give) c.in-Zero.is
