-- Demand 3 inside a cycle: whenever a cycle is accepted whose order executes J72, J71 or J74, it has done to the store what that process
-- does, and besides that H1 has got the LINK and H3 counts one more. Each statement can be read without its proof.
use Rattle.paper.proofs.Kit.{clash, ℕ, suc, ◌-◌, ◌<◌, ◌≤◌, ◌≡◌, refl, sym, ap, subst, ◌∙◌, Bool, true, false, List, [], ◌∷◌, reverse, ◌≢◌, arith, ne_eqb}
use Rattle.paper.proofs.Kit.{length, set}
use Rattle.paper.specs.declared.Refusal.{Refusal}
use Rattle.paper.specs.declared.Symbol.{Symbol}
use Rattle.paper.specs.Limits.{first_deck}
use Rattle.paper.specs.Cell.{size_fits, Cell, free, word, term, process, Word, word_in, term_in, with_symbol, cell_at, State, with_cells, H, J, name_in}
use Rattle.paper.specs.Act.{Act, Res, done, refused, ◌>>=◌, ◌>>◌, ret, refuse_if, if_then, choose, peek, put, own, name_of, sized, touch, not_own, own_store}
use Rattle.paper.specs.Walk.{walk_back, chain_back}
use Rattle.paper.specs.Process.{J71, J72, J74, Next, perform, then_on, listed, perform_in}
use Rattle.paper.specs.Cycle.{Control, goes_on, finish, performs, execute, executes, operate, to_link, advance, work, one_more, count, cycle}
use Rattle.paper.specs.Run.{Turn, finishes, continues, is_finished, alone, joined, after_cycle, turn}
use Rattle.paper.proofs.SoundStore.{Frame, at, CellOk}
use Rattle.paper.proofs.SoundTest.{sound-from}
use Rattle.paper.proofs.Demand1.{Runnable}
use Rattle.paper.proofs.Demand3.{in_h0, Erased, Copied, J71-frees, J72-frees, J74-copy}
use Rattle.regions.specs.declared.Regions.{Regions}
use Rattle.regions.specs.Table.{regions_of}
use Rattle.sound.specs.Store.{state_with}
use Rattle.cycle.specs.Order.{fetch}
use Rattle.cycle.specs.Turns.{state_at}
use Rattle.cycle.proofs.OrderLaws.{doing, interprets}
use Rattle.cycle.proofs.TurnLaws.{after-work, no-work}
use Rattle.machine.specs.declared.Ran.{Ran}
use Rattle.machine.specs.Numbers.{numbers, run_on}
use Rattle.machine.proofs.Carried.{Before, runnable}
use Rattle.promises.proofs.EveryCycle.{was-sound, every-cycle, next-cycle}

-- the word in H1, and the store with the symbol x in H1
abbrev pub in_h1 : State → Word
in_h1 s = word_in (cell_at s.cells (H 1))

abbrev pub going_to : Symbol → State → State
going_to x s = with_cells s (set s.cells (H 1) (word (with_symbol (in_h1 s) x)))

-- and with one more in H3
abbrev pub counting : State → State
counting s = with_cells s (set s.cells (H 3) (term (one_more (term_in (cell_at s.cells (H 3))))))

-- the order of the cycle from s executes the process n, and then H1 is to get the LINK l
pub record Executes (n l : ℕ) (s : State) : Type 0 where
  pub going : (in_h1 s).symb ≢ 0
  pub x : Symbol
  pub fetched : fetch (in_h1 s).symb s ≡ done (record { p = 0; x = x; link = l }) s
  pub process : x.num ≡ J n

-- "J cells are the only process cells"
J-cell : (F : Frame) (c : ℕ) (x : Cell) → J 0 ≤ c → c < first_deck → CellOk F c x → x ≡ process
J-cell F c (free l) a b k = absurd (omega (arith, k.not_reserved, F.end≥))
J-cell F c (word w) a b k = absurd (omega (arith, k.place.no_j a))
J-cell F c (term t) a b k = absurd (omega (arith, k.place (omega arith)))
J-cell F c process a b k = refl

-- a line of a block that was accepted
module _ {A B : Type 0} (m : Act A) (s : State) {t : State} {a : A} (e : m s ≡ done a t) where
  after-bind : (f : A → Act B) → (m >>= f) s ≡ f a t
  unfolding ◌>>=◌
  after-bind f = rw (e, ◌>>=◌)

  after_then : (f : Act B) → (m >> f) s ≡ f t
  unfolding ◌>>◌
  after_then f = rw (e, ◌>>◌)

module _ (s : State) (r : Runnable s) (n : ℕ) (few : J n < first_deck) (m : Act (Unit {0})) (does : perform n ≡ then_on m) where
  abbrev c : ℕ
  c = J n

  is-process : cell_at s.cells c ≡ process
  is-process = let t = sound-from s r.size r.test in J-cell t.frame c (at s c) (omega arith) (omega (arith, few))
      (t.is_sound.each c (omega (arith, few, t.frame.big)))

  touched : touch c s ≡ done process s
  unfolding touch peek refuse_if ret ◌>>=◌ ◌>>◌
  touched = rw (ne_eqb c 0 (λ e. omega (arith, e)), is-process)

  passes-own : not_own c s ≡ done tt s
  unfolding not_own refuse_if
  passes-own = rw (ne_eqb c 2 (λ e. omega (arith, e)), ne_eqb c 3 (λ e. omega (arith, e)))

  executed : (x : Symbol) → x.num ≡ c → (k : ℕ) → execute (suc k) x s ≡ performs (λ z. execute k z) n s
  unfolding execute if_then
  executed x e k =
      let j : x.num - J 0 ≡ n = omega (arith, e) in
      after-bind (touch x.num) s (ap (λ d. touch d s) e ∙ touched) _
      ∙ after_then (not_own x.num) s (ap (λ d. not_own d s) e ∙ passes-own) _
      ∙ ap (λ d. performs (λ z. execute k z) d s) j

  performed : (again : Symbol → Act Control) → performs again n s ≡ (then_on m >>= finish again) s
  unfolding performs
  performed again = ap (λ (p : Act Next). (p >>= finish again) s) does

  -- the process is refused, and so is its execution; or both are accepted, and control goes on
  refused-too : (again : Symbol → Act Control) (e : Refusal) → m s ≡ refused e → (then_on m >>= finish again) s ≡ refused e
  unfolding then_on ◌>>=◌ ◌>>◌
  refused-too again e h = rw (h, ◌>>=◌, ◌>>◌)

  done-too : (again : Symbol → Act Control) (u : State) → m s ≡ done tt u → (then_on m >>= finish again) s ≡ done goes_on u
  unfolding then_on finish ret
  done-too again u h = after-bind (then_on m) s (after_then m s h _) _

  module _ (l : ℕ) (o : Executes n l s) where
    work-is : work s ≡ (operate 0 o.x >>= advance l) s
    unfolding work own if_then
    work-is =
        after-bind (own (H 1)) s refl _
        ∙ rw (ne_eqb (in_h1 s).symb 0 o.going, if_then)
        (ap (λ (f : Act (Unit {0})). f s) (sym (interprets (in_h1 s).symb)) ∙ after-bind (fetch (in_h1 s).symb) s o.fetched doing)

    operates : operate 0 o.x s ≡ (then_on m >>= finish (λ z. execute (length s.cells) z)) s
    unfolding operate choose executes sized
    operates = executed o.x o.process (length s.cells) ∙ performed (λ z. execute (length s.cells) z)

    stopped : (e : Refusal) → operate 0 o.x s ≡ refused e → cycle s ≡ refused e
    unfolding ◌>>=◌
    stopped e h = no-work s e (work-is ∙ rw (h, ◌>>=◌))

    advanced : (u : State) → advance l goes_on u ≡ done tt (going_to (name_in u.regions l) u)
    unfolding advance to_link name_of own_store own put ◌>>=◌
    advanced u = refl

    counts : (u : State) → work s ≡ done tt u → cycle s ≡ done tt (counting u)
    unfolding count peek put ◌>>=◌
    counts u h = after-work s u h

    -- an accepted cycle: the process was accepted, H1 has got the LINK, and H3 counts it
    accepted : (t : State) → cycle s ≡ done tt t → (u : State) × (m s ≡ done tt u) × (t ≡ counting (going_to (name_in u.regions l) u))
    accepted t e = go (m s) refl
      where
        go : (y : Res State Refusal (Unit {0})) → m s ≡ y → (u : State) × (m s ≡ done tt u) × (t ≡ counting (going_to (name_in u.regions l) u))
        go (refused q) h =
            let f = stopped q (operates ∙ refused-too (λ z. execute (length s.cells) z) q h) in
            clash cc
        go (done v u) h =
            let f = work-is ∙ after-bind (operate 0 o.x) s (operates ∙ done-too (λ z. execute (length s.cells) z) u h) (advance l) ∙ advanced u in
            let g = counts _ f in
            (u, h, cc)

-- From s to t a cycle has freed the cell below H0 and the cells that m met, and changed nothing else (`Erased` of paper/proofs/Demand3); then
-- H1 got the LINK l, and H3 one more.
pub record ErasesIn (l : ℕ) (m : Act (List ℕ)) (s t : State) : Type 0 where
  pub back : List ℕ
  pub met : m s ≡ done back s
  pub between : State
  pub erased : Erased s between ((in_h0 s).link ∷ reverse back)
  pub link : t ≡ counting (going_to (name_in between.regions l) between)

module _ (s t : State) (r : Runnable s) (l : ℕ) where
  erases-in : (n : ℕ) → J n < first_deck → (p : Act (Unit {0})) → perform n ≡ then_on p → (m : Act (List ℕ))
      → ((u : State) → p s ≡ done tt u → (back : List ℕ) × (m s ≡ done back s) × Erased s u ((in_h0 s).link ∷ reverse back))
      → Executes n l s → cycle s ≡ done tt t → ErasesIn l m s t
  erases-in n few p does m frees o e =
      let (u, d, h) = accepted s r n few p does l o t e in
      let (back, w, x) = frees u d in
      record { back = back; met = w; between = u; erased = x; link = h }

  -- whenever a cycle that executes J72 is accepted, it erases what the walk of the symbol in H0 meets
  pub J72-in-cycle : Executes 72 l s → cycle s ≡ done tt t → ErasesIn l (walk_back (in_h0 s).symb) s t
  unfolding perform perform_in listed if_then
  J72-in-cycle = erases-in 72 (omega arith) J72 refl (walk_back (in_h0 s).symb) (λ u d. J72-frees s u r d)

  -- and J71, what the chain of it meets
  pub J71-in-cycle : Executes 71 l s → cycle s ≡ done tt t → ErasesIn l (chain_back (in_h0 s).symb) s t
  unfolding perform perform_in listed if_then
  J71-in-cycle = erases-in 71 (omega arith) J71 refl (chain_back (in_h0 s).symb) (λ u d. J71-frees s u r d)

  -- and J74: the structure that H0 names is copied (`Copied`); then H1 got the LINK, and H3 one more
  pub J74-in-cycle : Executes 74 l s → cycle s ≡ done tt t
      → (u : State) × (back : List ℕ) × (news : List ℕ) × (walk_back (in_h0 s).symb s ≡ done back s) × Copied s u (reverse back) news
      × (t ≡ counting (going_to (name_in u.regions l) u))
  unfolding perform perform_in listed if_then
  J74-in-cycle o e =
      let (u, d, h) = accepted s r 74 (omega arith) J74 refl l o t e in
      let (back, news, w, x) = J74-copy s u r d in
      (u, back, news, w, x, h)

-- A turn of a run that goes on has done a cycle, which sees only its own line
turn-done : (t u : State) → turn t ≡ continues u → (v : State) × (cycle (alone t) ≡ done tt v) × (joined t v ≡ u)
unfolding turn after_cycle
turn-done t u e = go (is_finished t) (cycle (alone t)) refl e
  where
    go : (b : Bool) (x : Res State Refusal (Unit {0})) → cycle (alone t) ≡ x
        → elim b as (λ _. Turn) [ true ↦ finishes | false ↦ after_cycle t x ] ≡ continues u → (v : State) × (cycle (alone t) ≡ done tt v) × (joined t v ≡ u)
    go true x p q = clash cc
    go false (done a v) p q = (v, p, cc)
    go false (refused r) p q = clash cc

-- an erasure prints nothing
erased-alone : {l : ℕ} {m : Act (List ℕ)} (t : State) {u v : State} → joined t v ≡ u → ErasesIn l m (alone t) v → ErasesIn l m (alone t) (alone u)
erased-alone {l} {m} t {v = v} j e =
    let p : v.lines ≡ [] = ap (λ (x : State). x.lines) e.link ∙ ap (λ (x : State). x.lines) e.erased.rest in
    let q : v ≡ alone v = λ i. record { cells = v.cells; regions = v.regions; lines = p i; room = v.room } in
    subst (ErasesIn l m (alone t)) (q ∙ ap alone j) e

-- The same of a turn of a run
module _ (t u : State) (r : Runnable (alone t)) (l : ℕ) (goes : turn t ≡ continues u) where
  pub J72-in-turn : Executes 72 l (alone t) → ErasesIn l (walk_back (in_h0 t).symb) (alone t) (alone u)
  J72-in-turn o = let (v, d, j) = turn-done t u goes in erased-alone t j (J72-in-cycle (alone t) v r l o d)

  pub J71-in-turn : Executes 71 l (alone t) → ErasesIn l (chain_back (in_h0 t).symb) (alone t) (alone u)
  J71-in-turn o = let (v, d, j) = turn-done t u goes in erased-alone t j (J71-in-cycle (alone t) v r l o d)

-- The same of the call machine::run, whose answer is neither 1 nor 20: sₖ are the numbers after k of its cycles and sₙ those after one more, as the
-- runs with these budgets leave them (`every-cycle`). A store is that of its numbers, with no line and the room that is left
module _ (regions : Regions) (budget : ℕ) (s out : List ℕ) {r : Ran} {s' out' : List ℕ} (allowed : numbers r s' out' ≡ run_on regions budget s out)
    (began : Before r.answer → ⊥) (k : ℕ) (more : suc k ≤ r.cycles) {rₖ rₙ : Ran} {sₖ sₙ outₖ outₙ : List ℕ}
    (before : numbers rₖ sₖ outₖ ≡ run_on regions k s out) (after : numbers rₙ sₙ outₙ ≡ run_on regions (suc k) s out) (l : ℕ)
  where
    -- the stores before and after the cycle
    abbrev pub store : State
    store = state_with regions sₖ [] (length outₖ - rₖ.len)

    abbrev pub next : State
    next = state_with regions sₙ [] (length outₙ - rₙ.len)

    abbrev stood : State
    stood = state_at (regions_of regions) sₖ outₖ rₖ.len

    abbrev stands : State
    stands = state_at (regions_of regions) sₙ outₙ rₙ.len

    goes : turn stood ≡ continues stands
    goes = next-cycle regions budget s out allowed began k more before after

    runs : Runnable store
    runs =
        let c = every-cycle regions budget s out allowed began k (omega (arith, more)) before in
        runnable regions sₖ (ap size_fits c.many ∙ (was-sound regions budget s out allowed began).0) c.sound [] (length outₖ - rₖ.len)

    pub J72-in-run : Executes 72 l store → ErasesIn l (walk_back (in_h0 store).symb) store next
    J72-in-run = J72-in-turn stood stands runs l goes

    pub J71-in-run : Executes 71 l store → ErasesIn l (chain_back (in_h0 store).symb) store next
    J71-in-run = J71-in-turn stood stands runs l goes
