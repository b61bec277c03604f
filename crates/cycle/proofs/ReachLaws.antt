-- The laws of `Reaches`: a turn of J1, the last turn, and what follows.
use Rattle.paper.proofs.Kit.{ℕ, suc, zero, ◌+◌, ◌-◌, ◌<◌, ◌≤◌, ◌≡◌, refl, ap, ◌∙◌, sym, Bool, true, false, List}
use Rattle.paper.proofs.Kit.{arith, add-one, eqb-true, length, eqb}
use Rattle.std.specs.Prelude.{Result, Ok, Err}
use Rattle.paper.specs.declared.Refusal.{Refusal}
use Rattle.paper.specs.declared.Refusal.TheVariants.{WrongKind}
use Rattle.paper.specs.declared.Symbol.{Symbol}
use Rattle.paper.specs.Cell.{Cell, free, word, term, process, Word, State, H, J, cell_at, word_in, is_free, is_process, symbol_of}
use Rattle.paper.specs.Act.{Act, Res, done, refused, ◌>>=◌, ◌>>◌, ret, if_then, sized, own, touch, not_own, pop}
use Rattle.paper.specs.Process.{Next, executing, J1, listed, perform_in, perform}
use Rattle.paper.specs.Cycle.{Control, finish, performs, execute, executes}
use Rattle.paper.proofs.SoundStore.{and-true}
use Rattle.cells.specs.Bridge.{Rest, state_of, cell_in}
use Rattle.cells.proofs.Store.{unpacked-length}
use Rattle.steps.specs.Follows.{World, Follows}
use Rattle.steps.specs.Follows as steps
use Rattle.steps.proofs.Steps.{bind_ok, then_ok, then-no, passes}
use Rattle.steps.proofs.Sequence.{stop}
use Rattle.undo.specs.Did.{Top, Always, lent, reading}
use Rattle.acts.proofs.Net.{touches}
use Rattle.cycle.specs.Reaches.{Reaches, is_j1}

module _ {A : Type 0} {W : World State Refusal} {K : W.Rest → Type 0} where
  pub reach-none : {M : Act A} {x : W.Held} → Reaches W K 0 M M x x
  reach-none {x = x} = record { is = λ e h. refl; kept = W.same x }

  pub reach-then : {M N O : Act A} {i j : ℕ} {x y z : W.Held} → Reaches W K i M N x y → Reaches W K j N O y z → Reaches W K (i + j) M O x z
  reach-then {i = i} {j} {x} {y} {z} d f = record { is = λ e h. d.is e h ∙ f.is e h; kept = W.joined i j x y z d.kept f.kept }

  pub reach-most : (k : ℕ) {M N : Act A} {i : ℕ} {x y : W.Held} → i ≤ k → Reaches W K i M N x y → Reaches W K k M N x y
  reach-most k {i = i} {x} {y} h d = record { is = d.is; kept = W.more i k x y h d.kept }

  -- what is left is done
  pub reach-follows : {M N : Act A} {i j : ℕ} {x y z : W.Held} {r : Result A Refusal} → Reaches W K i M N x y → Follows W K j N y z r
      → Follows W K (i + j) M x z r
  reach-follows {i = i} {j} {x} {y} {z} d f = record { is = λ e h. d.is e h ∙ f.is e h; kept = W.joined i j x y z d.kept f.kept }

yes-at : {A : Type 0} (m n : Act A) (t : State) {b : Bool} → b ≡ true → if_then b m n t ≡ m t
unfolding if_then
yes-at m n t p = rw p

-- "J1 pop (0), execute it": J1 leaves the symbol to be executed
unfoldable pop_then : (Symbol → Act Control) → Act Control
pop_then again = do
  w ← own (H 0)
  pop
  again (symbol_of w)

handed : (m : Act (Unit {0})) (v : Next) (g : Next → Act Control) (t : State) → ((m >> ret v) >>= g) t ≡ (m >> g v) t
unfolding ◌>>=◌ ◌>>◌ ret
handed m v g t = go (m t) t
  where
    go : (q : Res State Refusal (Unit {0})) (t : State) → (((λ _. q) >> ret v) >>= g) t ≡ ((λ _. q) >> g v) t
    go (done u s) t = refl
    go (refused e) t = refl

j1-performs : (again : Symbol → Act Control) (t : State) → performs again 1 t ≡ pop_then again t
unfolding performs perform perform_in listed if_then J1 finish pop_then own ◌>>=◌
j1-performs again t = handed pop (executing (symbol_of (word_in (cell_at t.cells (H 0))))) (finish again) t

j1-pops : (f : ℕ) (y : Symbol) (t : State) → y.num ≡ J 1 → is_process (cell_at t.cells (J 1)) ≡ true
    → execute (suc f) y t ≡ pop_then (λ z. execute f z) t
unfolding execute not_own
j1-pops f y t n p =
    rw n
    (bind_ok (touch (J 1)) _ t t _ (touches (J 1) t _ refl refl (not_free (cell_at t.cells (J 1)) p))
    (then_ok (not_own (J 1)) _ t t tt (passes _ _ t refl) (yes-at _ _ t p ∙ j1-performs (λ z. execute f z) t)))
  where
    not_free : (x : Cell) → is_process x ≡ true → is_free x ≡ false
    not_free (free l) h = sym h
    not_free (word w) h = refl
    not_free (term t) h = refl
    not_free process h = refl

-- the turns of the definition
turns : (x : Symbol) (e : Rest) (s : List ℕ) → executes x (state_of e s) ≡ execute (length s + 1) x (state_of e s)
unfolding executes sized
turns x e s = rw (unpacked-length s, add-one)

module _ {top : ℕ} {s l : List ℕ} where
  pub j1-begins : (x : Symbol) → Reaches lent (Top top) 0 (executes x) (execute (length s + 1) x) (s, l) (s, l)
  j1-begins x = record { is = λ e h. turns x e s; kept = lent.same (s, l) }

  -- no turn is left
  pub j1-spent : (y : Symbol) → Follows lent (Top top) 0 (execute zero y) (s, l) (s, l) (Err (WrongKind y.num))
  unfolding execute
  j1-spent y = stop (WrongKind y.num)

  -- where a turn is left, there is a last one
  pub j1-left : (n : ℕ) (y : Symbol) → 0 < n → Reaches lent (Top top) 0 (execute n y) (execute (suc (n - 1)) y) (s, l) (s, l)
  j1-left n y h =
      let p : n ≡ suc (n - 1) = omega arith in
      record { is = λ e h. ap (λ i. execute i y (state_of e s)) p; kept = lent.same (s, l) }

-- one turn of J1
j1-begun : (n : ℕ) (y : Symbol) (s : List ℕ) → 0 < n → is_j1 s y.num ≡ true → (e : Rest)
    → execute n y (state_of e s) ≡ pop_then (λ z. execute (n - 1) z) (state_of e s)
unfolding cell_in
j1-begun zero y s h j e = absurd (omega arith)
j1-begun (suc m) y s h j e =
    let q = and-true (eqb y.num (J 1)) _ j in
    let c = eqb-true y.num (J 1) q.0 in
    let p : m ≡ suc m - 1 = omega arith in
    j1-pops m y (state_of e s) c (ap (λ (i : ℕ). is_process (cell_in s i)) (sym c) ∙ q.1)
    ∙ ap (λ i. pop_then (λ z. execute i z) (state_of e s)) p

-- (0) is popped, or that is refused
module _ {top : ℕ} {s l : List ℕ} (n : ℕ) (y : Symbol) (left : 0 < n) (j : is_j1 s y.num ≡ true) {w : Word}
    (o : steps.Sees reading Always (own (H 0)) s w) {x : List ℕ × List ℕ}
  where
    pub j1-turn : {z : Symbol} → z ≡ symbol_of w → Follows lent (Top top) 1 pop (s, l) x (Ok tt)
        → Reaches lent (Top top) 1 (execute n y) (execute (n - 1) z) (s, l) x
    unfolding pop_then
    j1-turn v d =
        record {
          is = λ e h. j1-begun n y s left j e ∙ bind_ok (own (H 0)) _ _ _ w (o.is e tt)
              (then_ok pop _ _ _ tt (d.is e h) (ap (λ i. execute (n - 1) i (lent.state e x)) (sym v)));
          kept = d.kept;
        }

    pub j1-refused : {c : Refusal} → Follows lent (Top top) 1 pop (s, l) x (Err c) → Follows lent (Top top) 1 (execute n y) (s, l) x (Err c)
    unfolding pop_then
    j1-refused {c} d =
        record {
          is = λ e h. j1-begun n y s left j e ∙ bind_ok (own (H 0)) _ _ _ w (o.is e tt) (then-no pop _ _ c (d.is e h));
          kept = d.kept;
        }
