-- What code that prints owes, a line of its block at a time, and the line as it stands in the output.
use Rattle.paper.proofs.Kit.{ℕ, suc, ◌+◌, ◌-◌, ◌<◌, ◌≤◌, ◌≡◌, refl, ap, ◌∙◌, sym, List, [], ◌∷◌, ◌++◌, append_assoc, some, arith, ltb-false, ltb}
use Rattle.paper.proofs.Kit.{length, take, drop, length-drop, paste, paste-zero, length-paste, take-paste, drop-paste, take-take, take_at, drop_at}
use Rattle.paper.proofs.Kit.{length-take-le}
use Rattle.std.specs.Prelude.{Result, Ok, Err}
use Rattle.paper.specs.declared.Refusal.{Refusal}
use Rattle.paper.specs.declared.Refusal.TheVariants.{NoRoom}
use Rattle.paper.specs.declared.Symbol.{Symbol}
use Rattle.paper.specs.Limits.{first_deck, longest_line}
use Rattle.paper.specs.Region.{Region, end_of_regions}
use Rattle.paper.specs.Cell.{State}
use Rattle.paper.specs.Act.{Act, ◌>>=◌, refuse_if, asks, pop}
use Rattle.paper.specs.Print.{symbol_text}
use Rattle.paper.specs.Process.{then as and_then, goes_on, one, listed, perform}
use Rattle.steps.specs.Follows.{Follows, seen_as}
use Rattle.steps.specs.Follows as steps
use Rattle.steps.proofs.Sequence.{Judged, bind, bind_err, sees, when, alike, most, to_is}
use Rattle.steps.proofs.Listed.{entry_for}
use Rattle.regions.specs.Lent.{rows_of}
use Rattle.undo.specs.Did.{Always, reading, lent, Top}
use Rattle.acts.specs.GoesOn.{going_on}
use Rattle.acts.proofs.Dispatch.{arm}
use Rattle.printing.specs.Text.{Writes}
use Rattle.printing.specs.Telling.{telling, Hears, line_in, end_of, Stands, Comes, Printing, print_pop}
use Rattle.printing.proofs.TellingLaws.{quietly-sees, quietly-reads, symbol-told, prints-pops, prints-not, hushed, passed}

-- the line as it stands in the output
stands : (d : List ℕ) (at : ℕ) (l : List ℕ) (n : ℕ) → at ≤ length d → n ≤ length l → take n (drop at (paste d at l n)) ≡ take n l
stands d at l n h g =
    ap (λ x. take n (drop at x)) (append_assoc (take at d) (take n l) (drop (at + n) d))
    ∙ ap (take n) (drop_at (take at d) (take n l ++ drop (at + n) d) at (length-take-le at d h))
    ∙ take_at (take n l) (drop (at + n) d) n (length-take-le n l g)

-- no line: the output ends where it ended
pub stands-none : (d : List ℕ) (at : ℕ) (e : Result ℕ Refusal) → end_of at e ≡ at → at ≤ length d → Stands d at d e
stands-none d at e p h =
    let n : 0 ≡ end_of at e - at = omega arith in
    let line = line_in d at (end_of at e) in
    record {
      sized = refl;
      pastes = paste-zero d at line ∙ ap (paste d at line) n;
      starts = omega arith;
      ends = omega arith;
      unchanged = λ c q. refl;
    }

-- what code that prints owes: no line where there is a refusal; a line that was written
module _ {A : Type 0} {table d : List ℕ} {k : ℕ} {M : Act A} {x y : List ℕ × List ℕ} {at : ℕ} where
  pub no_line : {c : Refusal} (t : List ℕ) → at ≤ length d → Comes table k M x d at y t (Err c) → Printing table k M x d at y d (Err c) (Err c)
  no_line {c} t h f = record { follows = λ rs k. hushed (line_in d at at) (f rs k); stands = stands-none d at (Err c) refl h }

  pub the-line : {d' : List ℕ} {e : ℕ} {r : Result A Refusal} (l : List ℕ) (n : ℕ) → e ≡ at + n → n ≤ length l → at + n ≤ length d → d' ≡ paste d at l n
      → Comes table k M x d at y (take n l) r → Printing table k M x d at y d' (Ok e) r
  the-line {d'} {e} l n p h b q f =
      let m : e - at ≡ n = omega arith in
      let line : line_in d' at e ≡ take n l = (λ i. take (m i) (drop at (q i))) ∙ stands d at l n (omega arith) h in
      let same : take (e - at) (line_in d' at e) ≡ take n l = (λ i. take (m i) (line i)) ∙ take-take n n l (omega arith) in
      record {
        follows = λ rs k. rw line (f rs k);
        stands =
            record {
              sized = ap length q ∙ length-paste d at l n b h;
              pastes = q ∙ sym (λ i. take at d ++ same i ++ drop (at + m i) d);
              starts = omega arith;
              ends = omega arith;
              unchanged = λ c z. cc;
            };
      }

-- the first n bytes of a line are printed with a line feed, and H0 popped
module _ {line line' : List ℕ} {n len : ℕ} (sized : length line ≡ longest_line) (short : n < longest_line) (w : Writes line n (10 ∷ []) line' len)
    (room : ℕ) where
  counted : len ≡ suc (length (take n line))
  counted = omega (arith, w.end, length-take-le n line (omega arith))

  pub line-pops : {rs : List Region} {top : ℕ} {x y : List ℕ × List ℕ} {r : Result (Unit {0}) Refusal}
      → Judged {S = State} steps.Always (refuse_if (ltb room len) NoRoom) (Ok tt) → Follows lent (Top top) 1 pop x y r → end_of_regions rs first_deck ≡ top
      → Follows telling (Hears rs room) 1 (print_pop (take n line)) (x, []) (y, take len line') r
  line-pops d f p = rw w.text (prints-pops (take n line) room p (when NoRoom (ap (ltb room) counted) d) f)

  pub line-not : {rs : List Region} {x : List ℕ × List ℕ} {c : Refusal} → Judged {S = State} steps.Always (refuse_if (ltb room len) NoRoom) (Err c)
      → Follows telling (Hears rs room) 1 (print_pop (take n line)) (x, []) (x, []) (Err c)
  line-not d = prints-not (take n line) room (when NoRoom (ap (ltb room) counted) d)

  pub line-fits : Judged {S = State} steps.Always (refuse_if (ltb room len) NoRoom) (Ok tt) → len ≤ room
  line-fits d = ltb-false room len (passed (ltb room len) NoRoom d)

-- a block that prints, line by line: a part of the state, the text of a symbol, a reading; a block that does the same
module _ {A : Type 0} {table s l d d' : List ℕ} {at k : ℕ} {y : List ℕ × List ℕ} {e : Result ℕ Refusal} {r : Result A Refusal} where
  pub p-sees : {B : Type 0} (g : B → Act A) {M : Act B} {u : B} → steps.Sees reading Always M s u → Printing table k (g u) (s, l) d at y d' e r
      → Printing table k (M >>= g) (s, l) d at y d' e r
  p-sees g f p = record { follows = λ rs k. sees g (quietly-sees [] (λ e h. tt) f) (p.follows rs k); stands = p.stands }

  pub p-text : (g : List ℕ → Act A) (x : Symbol) → Printing table k (g (symbol_text (rows_of table) x)) (s, l) d at y d' e r
      → Printing table k (asks (λ s. symbol_text s.regions x) >>= g) (s, l) d at y d' e r
  p-text g x p = record { follows = λ rs k. sees g (symbol-told x [] k (λ e h. h.regions)) (p.follows rs k); stands = p.stands }

  pub p-reads : {B : Type 0} (g : B → Act A) {M : Act B} {u : B} → Follows reading Always 0 M s s (Ok u) → Printing table k (g u) (s, l) d at y d' e r
      → Printing table k (M >>= g) (s, l) d at y d' e r
  p-reads g f p =
      record { follows = λ rs w. most k (omega arith) (bind g (quietly-reads [] (λ e h. tt) f) (p.follows rs w)); stands = p.stands }

  pub p-alike : {M N : Act A} → M ≡ N → Printing table k M (s, l) d at y d' e r → Printing table k N (s, l) d at y d' e r
  p-alike q p = record { follows = λ rs k. alike q (p.follows rs k); stands = p.stands }

-- a reading that is refused
pub p-reads_err : {A B : Type 0} {table s l d : List ℕ} {at k : ℕ} {c : Refusal} (g : B → Act A) {M : Act B} → at ≤ length d
    → Follows reading Always 0 M s s (Err c) → Printing table k (M >>= g) (s, l) d at (s, l) d (Err c) (Err c)
p-reads_err {k = k} g h f = no_line [] h (λ rs w. most k (omega arith) (bind_err g (quietly-reads [] (λ e h. tt) f)))

-- what a listed process does, by its number, and then control goes on
went_on : (e : Result ℕ Refusal) → going_on (seen_as (λ _. tt {0}) e) ≡ seen_as (λ _. and_then goes_on) e
went_on (Ok n) = refl
went_on (Err c) = refl

pub p-arm : {table d d' : List ℕ} {at n k : ℕ} {x y : List ℕ × List ℕ} {e : Result ℕ Refusal} (m : ℕ) (M : Act (Unit {0}))
    → Printing table k M x d at y d' e (seen_as (λ _. tt {0}) e) → n ≡ m → entry_for listed m m ≡ some (one m M)
    → Printing table k (perform n) x d at y d' e (seen_as (λ _. and_then goes_on) e)
p-arm {e = e} m M p q h =
    record { follows = λ rs k. to_is (went_on e) (arm m M (p.follows rs k) (λ e h. h) q h (omega arith)); stands = p.stands }

-- what stands in the output: the length of the line, what is printed so far, and the bytes past it
module _ (d : List ℕ) (at : ℕ) (d' : List ℕ) (r : Result ℕ Refusal) (k : Stands d at d' r) where
  pub line-length : length (line_in d' at (end_of at r)) ≡ end_of at r - at
  line-length = length-take-le (end_of at r - at) (drop at d') (omega (arith, length-drop at d', k.sized, k.starts, k.ends))

  pub so_far : take (end_of at r) d' ≡ take at d ++ line_in d' at (end_of at r)
  so_far =
      let line = line_in d' at (end_of at r) in
      let n = end_of at r - at in
      let e : end_of at r ≡ at + n = omega (arith, k.starts) in
      (λ i. take (e i) (k.pastes i)) ∙ take-paste d at line n (omega (arith, k.starts, k.ends)) (omega (arith, line-length))
      ∙ ap (λ (x : List ℕ). take at d ++ x) (take-take n n (drop at d') (omega arith))

  pub past-it : drop (end_of at r) d' ≡ drop (end_of at r) d
  past-it =
      let line = line_in d' at (end_of at r) in
      let n = end_of at r - at in
      let e : end_of at r ≡ at + n = omega (arith, k.starts) in
      (λ i. drop (e i) (k.pastes i)) ∙ drop-paste d at line n (omega (arith, k.starts, k.ends)) (omega (arith, line-length))
      ∙ ap (λ (j : ℕ). drop j d) (sym e)
