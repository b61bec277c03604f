-- The count in H3 as its number.
use Rattle.paper.proofs.Kit.{ℕ, ◌<◌, ap, List, length, get_or, set}
use Rattle.paper.specs.Cell.{term, term_in, with_cells}
use Rattle.paper.specs.Act.{done, ◌>>=◌, peek, put}
use Rattle.paper.specs.Cycle.{one_more, count}
use Rattle.cells.specs.Layout.{unpack_of}
use Rattle.cells.specs.Pack.{Packs}
use Rattle.cells.specs.Bridge.{cell_in, state_of}
use Rattle.cells.proofs.Store.{cell_at, unpacked-set, formed-set}
use Rattle.cycle.specs.Turns.{Counted}

-- H3 has got the number y
module _ (s : List ℕ) (y : ℕ) (h : 4 < length s) (p : Packs y (term (one_more (term_in (unpack_of (get_or s 4 0)))))) where
  pub counted : Counted s (set s 4 y)
  unfolding count peek put ◌>>=◌ cell_in
  counted =
      record {
        is = λ e. rw (cell_at s 4 h) (ap (λ cs. done tt (with_cells (state_of e s) cs)) (rw (unpacked-set s 4 y, p.unpacks)));
        formed = λ f. formed-set s 4 y p.formed f;
      }
