-- The blocks of an erasure and of a copy, from their loops.
use Rattle.paper.proofs.Kit.{ℕ, ◌+◌, ◌-◌, ◌<◌, ◌≤◌, ◌≡◌, sym, ap, ◌∙◌, subst, true, false, List, [], ◌∷◌, ◌++◌, map, reverse, reverse-reverse, arith}
use Rattle.paper.proofs.Kit.{length, take, get_or, take-length, length-reverse, length-map}
use Rattle.std.proofs.lemmas.List.{length-take}
use Rattle.std.specs.Prelude.{Result, Ok, Err}
use Rattle.paper.specs.declared.Refusal.{Refusal}
use Rattle.paper.specs.Cell.{Word, word, word_in, with_link, is_free, cell_at}
use Rattle.paper.specs.Act.{own, put}
use Rattle.paper.specs.Walk.{member, walk_back, none_reserved, release_all, erase_back, take_all, renamed, copy_all, copy}
use Rattle.cells.specs.Layout.{unpack_of}
use Rattle.cells.specs.Bridge.{Rest, state_of, unpacked, cell_in}
use Rattle.steps.specs.Follows.{Follows, seen_as}
use Rattle.steps.specs.Follows as steps
use Rattle.steps.proofs.Sequence.{bind, bind_err, then, give, give-as, any, most, alike}
use Rattle.undo.specs.Did.{Always, Top, reading, lent}
use Rattle.undo.proofs.Lines.{reads, meets_err, looks}
use Rattle.structures.specs.declared.copies.Found.{Found}
use Rattle.structures.specs.Marks.{back, Once, Only, Met}
use Rattle.structures.specs.Walks.{Gets, InRange}
use Rattle.structures.specs.Net.{free_all, copy_of, copy_into}
use Rattle.structures.specs.Copies.{new_of, news_of, Run, Finds, AllNew, Leaves, Prepared, Prepares}
use Rattle.structures.proofs.Marks.{back-less}
use Rattle.structures.proofs.FreeNet.{free-net}
use Rattle.structures.proofs.Run.{place, run-once}
use Rattle.structures.proofs.CopyNet.{copy-into}
use Rattle.structures.proofs.Halves.{apart, Took, most-taken}
use Rattle.structures.proofs.Lists.{back-all, member_back, renamed-is, news-next}
use Rattle.structures.proofs.Loops.{no_writes}

-- the cells met are freed by their net effect
module _ (met : List ℕ) where
  pub released-none : {x : List ℕ × List ℕ} → length met ≡ 0 → Follows lent Always (length met) (release_all (reverse met)) x x (Ok tt)
  unfolding release_all
  released-none {x} e = none met e
    where
      none : (xs : List ℕ) → length xs ≡ 0 → Follows lent Always (length xs) (release_all (reverse xs)) x x (Ok tt)
      none [] e = give
      none (y ∷ xs) e = absurd (omega arith)

  pub released : {s l : List ℕ} {y : List ℕ × List ℕ} {r : Result (Unit {0}) Refusal} → (length met ≡ 0 → ⊥) → 3 < length s
      → Follows lent Always (length met) (free_all (reverse met)) (s, l) y r → Follows lent Always (length met) (release_all (reverse met)) (s, l) y r
  released {s} {l} {y} {r} z i d =
      let n = length met in
      let e = sym (back-all met) ∙ back-less met n (omega arith) (omega arith) in
      subst (λ ns. Follows lent Always n (release_all ns) (s, l) y r) (sym e)
      (free-net _ _ i (subst (λ ns. Follows lent Always n (free_all ns) (s, l) y r) e d))

-- "frees the walk in reverse order"; or nothing is freed
module _ (top : ℕ) (met : List ℕ) {s l : List ℕ} where
  pub erased : {y : List ℕ × List ℕ} → Gets (Top top) (none_reserved met) s (Ok tt)
      → Follows lent Always (length met) (release_all (reverse met)) (s, l) y (Ok tt)
      → Follows lent (Top top) (length met) (erase_back (reverse met)) (s, l) y (Ok tt)
  unfolding erase_back
  erased f d = most (length met) (omega arith) (then (no_writes (alike (ap none_reserved (sym (reverse-reverse met))) f)) (any d))

  pub not-erased : {e : Refusal} → Gets (Top top) (none_reserved met) s (Err e)
      → Follows lent (Top top) (length met) (erase_back (reverse met)) (s, l) (s, l) (Err e)
  unfolding erase_back
  not-erased f = meets_err _ (alike (ap none_reserved (sym (reverse-reverse met))) f)

-- the cells that a walk has met are erased
pub erases : (top n : ℕ) (order met : List ℕ) {x y : List ℕ × List ℕ} {r : Result (Unit {0}) Refusal} → met ≡ take n order
    → Follows lent (Top top) (length met) (erase_back (reverse met)) x y r → Follows lent (Top top) n (erase_back (back n order)) x y r
erases top n order met e d = most n (omega (arith, ap length e, length-take n order)) (alike (ap (λ ns. erase_back (reverse ns)) e) d)

-- as many cells are as much in range
pub range-as : {s s' : List ℕ} → length s' ≡ length s → InRange s → InRange s'
range-as e c = record { large = omega (arith, c.large); small = omega (arith, c.small) }

-- as many as there are are all
pub take-whole : (met : List ℕ) {n : ℕ} → n ≡ length met → take n met ≡ met
take-whole met e = ap (λ k. take k met) e ∙ take-length met

-- new cells are at hand
module _ (met marks : List ℕ) (only : Only marks met) where
  abbrev new : ℕ → ℕ
  new = new_of marks

  table : renamed met (map new met) ≡ new
  table = renamed-is marks met only

  module _ {s : List ℕ} (m : Met s met) where
    in_use : (k : ℕ) → member k met ≡ true → is_free (cell_at (unpacked s) k) ≡ false
    unfolding cell_in
    in_use k e = let (i, h, p) = place k met e in subst (λ c. is_free (cell_at (unpacked s) c) ≡ false) p (m.in_use i h)

    -- where each has got a new cell, the store has twice as many, less one
    room : (e : Rest) → Took met (state_of e s) → length met + length met ≤ length s + 1
    room e t =
        let a = apart (reverse met) (unpacked s) m.once (λ p k. in_use p (sym (member_back p met) ∙ k)) in
        omega (arith, a, most-taken met (state_of e s) t, length-reverse met, length-map s unpack_of)

    -- they were taken one by one
    pub prepared-taken : {l : List ℕ} {y : List ℕ × List ℕ} → Follows lent Always (length met) (take_all met) (s, l) y (Ok (news_of marks met))
        → Prepared met marks (s, l) y
    unfolding copy_of
    prepared-taken t = record {
      wrote = length met;
      on = λ c j z d.
          most (length met + j) (omega arith)
          (bind _ t (then (alike (ap (λ f. copy_all f met (map new met)) (sym table)) d) (give-as (ap (λ f. f c) table))));
      count = t.kept.count;
      fits = room nothing (_, _, t.is nothing tt);
    }
      where
        nothing : Rest
        nothing = record { regions = []; lines = []; room = 0 }

    -- or found, each once, and H2 passes over them
    module _ {f : Found} (g : Finds s met marks f) (a : AllNew met marks f.n) where
      run : Run (unpacked s) (word_in (cell_at (unpacked s) 3)).link (map new met) f.next
      unfolding cell_in
      run = subst (λ ns. Run (unpacked s) (word_in (cell_at (unpacked s) 3)).link (news_of marks ns) f.next) (take-whole met a.all) g.run

      each : Once (map new met)
      each =
          let z = a.some in
          let n = length met in
          let k = news_of marks (take (n - 1) met) in
          let x = (word_in (cell_at (unpacked s) 3)).link in
          let e : n - 1 + 1 ≡ n = omega arith in
          let u : news_of marks met ≡ k ++ (new (get_or met (n - 1) 0) ∷ []) =
          ap (news_of marks) (sym (take-whole met e)) ∙ news-next marks met (n - 1) (omega arith) in
          subst Once (sym u) (run-once (unpacked s) k x f.next _ (subst (λ ns. Run (unpacked s) x ns f.next) u run) a.last)

      pub prepared-found : {l : List ℕ} {y : List ℕ × List ℕ} {h : Word} → steps.Sees reading Always (own 3) s h
          → Follows lent Always 0 (put 3 (word (with_link h f.next))) (s, l) y (Ok tt) → Prepared met marks (s, l) y
      unfolding copy_into
      prepared-found v p = record {
        wrote = 0;
        on = λ c j z d.
            most (0 + j) (omega arith)
            (copy-into new met f.next c (let k = a.some in omega arith) table run each in_use (looks _ v (then p (then d give))));
        count = omega (arith, p.kept.count);
        fits = omega (arith, m.few);
      }

-- so many were taken, or there were too few
pub prepares-taken : (met marks : List ℕ) {s l : List ℕ} {y : List ℕ × List ℕ} (r : Result (Unit {0}) Refusal) → Met s met → Leaves met marks r
    → Follows lent Always (length met) (take_all met) (s, l) y (seen_as (λ _. news_of marks met) r) → Prepares met marks (s, l) y r
unfolding copy_of
prepares-taken met marks (Ok v) m o t = prepared-taken met marks o m t
prepares-taken met marks {s} (Err e) m o t = λ c. most (length s + 1) (omega (arith, m.few)) (bind_err _ t)

-- the cells are filled, and the table tells the name
pub copied-met : (c : ℕ) (met marks : List ℕ) {s l : List ℕ} {y z : List ℕ × List ℕ} {v : ℕ} → Prepared met marks (s, l) y
    → Follows lent Always (length met) (copy_all (new_of marks) met (news_of marks met)) y z (Ok tt) → v ≡ new_of marks c
    → Follows lent Always (length s + 1) (copy_of c met) (s, l) z (Ok v)
copied-met c met marks {s} {l} {z = z} t d e =
    subst (λ v. Follows lent Always (length s + 1) (copy_of c met) (s, l) z (Ok v)) (sym e)
    (most (length s + 1) (omega (arith, t.fits)) (t.on c (length met) z d))

-- what was walked is copied
pub copied-whole : (c n : ℕ) (order : List ℕ) {s l : List ℕ} {z : List ℕ × List ℕ} {r : Result ℕ Refusal} → Gets Always (walk_back c) s (Ok (back n order))
    → Follows lent Always (length s + 1) (copy_of c (take n order)) (s, l) z r → Follows lent Always (length s + 1) (copy c) (s, l) z r
unfolding copy copy_of
copied-whole c n order w d = reads _ w (alike (ap (copy_of c) (sym (reverse-reverse (take n order)))) d)
