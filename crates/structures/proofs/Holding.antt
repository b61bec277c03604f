-- What the order and the marks hold: with no cell met, with one more, and where a part of a walk has ended.
use Rattle.paper.proofs.Kit.{ℕ, suc, ◌+◌, ◌<◌, ◌≡◌, sym, ap, ◌∙◌, subst, false, List, [], ◌∷◌, ⊎_elim, arith, add-one, le_of_suc-le-suc}
use Rattle.paper.proofs.Kit.{eq-or-lt_of_le, length, take, set, get_or, length-set, length-replicate, get_or-set_same, get_or-set_other}
use Rattle.std.specs.Prelude.{Result, Ok}
use Rattle.paper.specs.declared.Refusal.{Refusal}
use Rattle.paper.specs.Limits.{largest_n}
use Rattle.paper.specs.Cell.{is_free}
use Rattle.paper.specs.Act.{Act}
use Rattle.cells.specs.Bridge.{cell_in}
use Rattle.undo.specs.Did.{Always}
use Rattle.structures.specs.Marks.{back, many_numbers, blank, Marked, Only, unmet, Ordered}
use Rattle.structures.specs.Walks.{Gets, InRange, Holds, Ends, Lists}
use Rattle.structures.proofs.Marks.{back-set, marked-none, marked_more, not-met, marked-only, unmet-mark, unmet-blank}
use Rattle.structures.proofs.Meeting.{New}
use Rattle.structures.proofs.Lists.{only_back}

module _ {s order marks : List ℕ} {n : ℕ} (h : Holds s order marks n) where
  pub holds-only : Only marks (take n order)
  holds-only = only_back (take n order) (marked-only h.marked)

  -- a new cell is marked and put in the order
  module _ (c : ℕ) (new : New s c (back n order)) where
    pub fewer : unmet (length s) (set marks c 1) + 1 ≡ unmet (length s) marks
    fewer =
        let i = new.used.inside in
        unmet-mark (length s) marks c i (omega (arith, h.small, h.wide)) (not-met h.marked c new.unseen)

    pub fits : n < largest_n
    fits = omega (arith, fewer, h.room, h.small)

    pub seen_more : back (n + 1) (set order n c) ≡ c ∷ back n order
    seen_more = back-set order n c (omega (arith, fits, h.ordered.sized))

    -- what holds of the new cell and of those before holds of all
    each : (P : ℕ → Type 0) → P c → ((k : ℕ) → k < n → P (get_or order k 0)) → (k : ℕ) → k < n + 1 → P (get_or (set order n c) k 0)
    each P p f k l = ⊎_elim
        (λ (e : k ≡ n). subst P (sym (ap (λ j. get_or (set order n c) j 0) e ∙ get_or-set_same order n c 0 (omega (arith, fits, h.ordered.sized)))) p)
        (λ (l' : k < n). subst P (sym (get_or-set_other order n k c 0 (omega arith))) (f k l'))
        (eq-or-lt_of_le (le_of_suc-le-suc (rw add-one at l)))

    pub holds_more : Holds s (set order n c) (set marks c 1) (n + 1)
    holds_more =
        let u = new.used in
        record {
          small = h.small;
          wide = simp length-set h.wide;
          ordered = record {
            sized = simp length-set h.ordered.sized;
            inside = each (λ k. k < length s) u.inside h.ordered.inside;
            in_use = each (λ k. is_free (cell_in s k) ≡ false) u.in_use h.ordered.in_use;
            once = rw seen_more (new.unseen, h.ordered.once);
          };
          marked = rw seen_more (marked_more c (omega (arith, u.inside, h.small, h.wide)) h.marked);
          room = omega (arith, fewer, h.room);
        }

pub holds_as : {s order marks order' marks' : List ℕ} {n : ℕ} → order' ≡ order → marks' ≡ marks → Holds s order marks n → Holds s order' marks' n
holds_as {s} {order} {marks} {order'} {marks'} {n} p q h = subst (λ o. Holds s o marks' n) (sym p) (subst (λ m. Holds s order m n) (sym q) h)

-- a new cell was put in the order
module _ {s order marks order' marks' : List ℕ} {n c : ℕ} (h : Holds s order marks n) (new : New s c (back n order))
    (e : (order' ≡ set order n c) × (marks' ≡ set marks c 1)) where
  pub listed-held : Holds s order' marks' (n + 1)
  listed-held = holds_as e.0 e.1 (holds_more h c new)

  pub listed-less : unmet (length s) marks' + 1 ≡ unmet (length s) marks
  listed-less = ap (λ m. unmet (length s) m + 1) e.1 ∙ fewer h c new

  pub listed-more : back (n + 1) order' ≡ c ∷ back n order
  listed-more = ap (back (n + 1)) e.0 ∙ seen_more h c new

-- with no cell met
pub ordered-none : {s order : List ℕ} → length order ≡ largest_n → Ordered s order 0
ordered-none h = record { sized = h; inside = λ k l. absurd (omega arith); in_use = λ k l. absurd (omega arith); once = tt }

pub blank-wide : {marks : List ℕ} → marks ≡ blank → length marks ≡ many_numbers
blank-wide m = ap length m ∙ length-replicate {A = ℕ} many_numbers 0

pub only-blank : {marks : List ℕ} → marks ≡ blank → Only marks []
only-blank m = subst (λ t. Only t []) (sym m) (marked-only marked-none)

module _ {s marks : List ℕ} (l : InRange s) (u : marks ≡ blank) where
  pub holds-none : {order : List ℕ} → length order ≡ largest_n → Holds s order marks 0
  holds-none h = record {
    small = l.small;
    wide = blank-wide u;
    ordered = ordered-none h;
    marked = subst (λ t. Marked t []) (sym u) marked-none;
    room = omega (arith, ap (unmet (length s)) u, unmet-blank (length s) l.small);
  }

  -- there are more turns than cells
  pub more-turns : unmet (length s) marks < suc (length s)
  more-turns = omega (arith, ap (unmet (length s)) u, unmet-blank (length s) l.small)

-- a part of a walk that has ended: the whole walk
module _ {claim : ℕ → Result (List ℕ) Refusal → Type 0} {s m order marks : List ℕ} {M : Act (List ℕ)} where
  pub ends-lists : {n : ℕ} → Ends claim s m order marks (Ok n) → Gets Always M s (Ok (back n order)) → Lists M s order (Ok n)
  ends-lists l d = let h = l.left.0 in record { says = d; listed = (omega (arith, h.room), h.ordered) }
