use Rattle.paper.proofs.Kit.{◌*◌, ◌^◌, ◌≡◌, refl, Bool, true, false, arith, le-leb, lt-leb, le-ltb, leb, ltb, ltb-true, ltb-false}
use Rattle.cells.proofs.Laws.{by_kind, cond_same}
use Rattle.cells.specs.Layout.{unpack_of}
use Rattle.paper.specs.Cell.{is_process}
use Rattle.cells.proofs.is_process.Goals as goal

pub returns : goal.returns
returns c = go (ltb c.args.x (3 * 2 ^ 48)) refl
  where
    go : (b : Bool) → ltb c.args.x (3 * 2 ^ 48) ≡ b → leb (3 * 2 ^ 48) c.args.x ≡ is_process (unpack_of c.args.x)
    go true e =
        let h = ltb-true c.args.x (3 * 2 ^ 48) e in
        simp (by_kind is_process c.args.x, e, lt-leb (3 * 2 ^ 48) c.args.x (omega arith), cond_same)
    go false e =
        let h = ltb-false c.args.x (3 * 2 ^ 48) e in
        simp (
          by_kind is_process c.args.x,
          le-ltb c.args.x (2 ^ 48) (omega arith),
          le-ltb c.args.x (2 * 2 ^ 48) (omega arith),
          e,
          le-leb (3 * 2 ^ 48) c.args.x (omega arith),
        )
