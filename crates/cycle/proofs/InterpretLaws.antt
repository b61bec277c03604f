-- Step 3 from its parts: the fetch, the operation, and then the LINK; it ends at the first that is refused.
use Rattle.paper.proofs.Kit.{ℕ, ◌≤◌, ◌≡◌, refl, List, [], arith, length, get_or}
use Rattle.std.specs.Prelude.{Ok, Err}
use Rattle.paper.specs.declared.Refusal.{Refusal}
use Rattle.paper.specs.Cycle.{Control, operate, advance, interpret}
use Rattle.steps.specs.Follows.{Follows}
use Rattle.steps.proofs.Sequence.{bind, bind_err, alike, most}
use Rattle.undo.specs.Did.{Top, reading, lent}
use Rattle.undo.proofs.Lines.{reads_err}
use Rattle.printing.specs.Telling.{Printing}
use Rattle.printing.proofs.TellingLaws.{quietly, quietly-reads}
use Rattle.cycle.specs.Order.{Order, fetch}
use Rattle.cycle.proofs.OrderLaws.{doing, interprets}
use Rattle.cycle.proofs.PartLaws.{told-top, part-quiet, part-as}

module _ (t : List ℕ) {s l : List ℕ} {top : ℕ} (c : ℕ) (ends : top ≡ get_or t 0 0) where
  pub not-fetched : (d : List ℕ) (at k : ℕ) → at ≤ length d → {z : Refusal} → Follows reading (Top top) 0 (fetch c) s s (Err z)
      → Printing t k (interpret c) (s, l) d at (s, l) d (Err z) (Err z)
  not-fetched d at k within {z} f = part-quiet t d at within (Err z) refl ends (alike (interprets c) (reads_err doing f))

  module _ {o : Order} (f : Follows reading (Top top) 0 (fetch c) s s (Ok o)) {k : ℕ} {d : List ℕ} {at : ℕ} {y : List ℕ × List ℕ} {d' : List ℕ} where
    pub not-operated : {z : Refusal} → Printing t k (operate o.p o.x) (s, l) d at y d' (Err z) (Err z)
        → Printing t k (interpret c) (s, l) d at y d' (Err z) (Err z)
    not-operated p =
        part-as p
        (λ rs w line q. alike (interprets c) (most k (omega arith) (bind doing (quietly-reads [] (told-top [] w ends) f) (bind_err (advance o.link) q))))

    pub interpreted : {z : List ℕ × List ℕ} {n : ℕ} {v : Control} → Printing t k (operate o.p o.x) (s, l) d at y d' (Ok n) (Ok v)
        → Follows lent (Top top) 0 (advance o.link v) y z (Ok (tt {0})) → Printing t k (interpret c) (s, l) d at z d' (Ok n) (Ok (tt {0}))
    interpreted p a =
        part-as p
        (λ rs w line q. alike (interprets c) (most k (omega arith) (bind doing (quietly-reads [] (told-top [] w ends) f)
        (bind (advance o.link) q (quietly line (told-top line w ends) a)))))
