-- Pop, then push x, is `stays x` wherever H2 is a word: the cell that the pop frees is the one that the push takes.
use Rattle.paper.proofs.Kit.{clash, ◌≡◌, refl, sym, ap, ◌∙◌, Bool, true, false, ◌&&◌, not, List, [], ◌∷◌, ◌≢◌, ℕ, zero, suc, ◌+◌, ◌<◌, ◌≤◌, arith}
use Rattle.paper.proofs.Kit.{eqb-false, ltb-false, lt-ltb, eqb, ltb, length, set, length-set, get_or-set_same, get_or-set_other, set-set, set_comm, set-get_or}
use Rattle.std.specs.Prelude.{Result}
use Rattle.paper.specs.declared.Symbol.{Symbol}
use Rattle.paper.specs.declared.Refusal.{Refusal}
use Rattle.paper.specs.declared.Refusal.TheVariants.{FreeCell, WrongKind, NotToBeFreed, NothingBelow}
use Rattle.paper.specs.Cell.{State, Region, Cell, free, word, term, process, is_free, is_word, word_in, Word, with_link, with_cells, cell_at, end_of_regions}
use Rattle.paper.specs.Cell.{reserved_in, is_hw, H}
use Rattle.paper.specs.Act.{Act, done, refused, ◌>>=◌, ◌>>◌, ret, refuse_if, own, peek, put, reserved, touch, as_word, word_at, has_below, pull_up, release, take_as}
use Rattle.paper.specs.Act.{own_restore, pop, push, pops, gives}
use Rattle.cells.specs.Bridge.{Rest, state_of, cell_in}
use Rattle.steps.specs.Follows.{Follows}
use Rattle.undo.specs.Did.{lent}
use Rattle.steps.proofs.Steps.{bind_ok, then_ok, bind-no, then-no, fails, passes}
use Rattle.steps.proofs.Sequence.{alike-here}
use Rattle.acts.specs.Net.{topped, stays}
use Rattle.acts.proofs.Once.{push-once}

end-least : (rs : List Region) (at : ℕ) → at ≤ end_of_regions rs at
unfolding end_of_regions
end-least [] at = omega arith
end-least (r ∷ rs) at = let h = end-least rs (at + r.count) in omega arith

-- a cell that is not 0 and not reserved is no H, W or J cell
high : (rs : List Region) (n : ℕ) → eqb n 0 ≡ false → reserved_in rs n ≡ false → 221 ≤ n
unfolding reserved_in
high rs zero n0 un = absurd (eqb-false 0 0 n0 refl)
high rs (suc n) n0 un =
    let q : ltb (suc n) (end_of_regions rs 221) ≡ false = rw (lt-ltb 0 (suc n) (omega arith)) at un in
    omega (arith, ltb-false (suc n) (end_of_regions rs 221) q, end-least rs 221)

in-range : (cs : List Cell) (n : ℕ) (v : Word) → cell_at cs n ≡ word v → n < length cs
in-range [] n v e = clash cc
in-range (y ∷ cs) zero v e = omega arith
in-range (y ∷ cs) (suc n) v e = let h = in-range cs n v e in omega arith

-- parts of the state, where they are known
owns : (c : ℕ) (s : State) (w : Word) → word_in (cell_at s.cells c) ≡ w → own c s ≡ done w s
unfolding own
owns c s w p = ap (λ (y : Word). done y s) p

peeks : (c : ℕ) (s : State) (y : Cell) → cell_at s.cells c ≡ y → peek c s ≡ done y s
unfolding peek
peeks c s y p = ap (λ (z : Cell). done z s) p

holds : (c : ℕ) (s : State) (b : Bool) → reserved_in s.regions c ≡ b → reserved c s ≡ done b s
unfolding reserved
holds c s b p = ap (λ (z : Bool). done z s) p

pub touches : (c : ℕ) (s : State) (y : Cell) → eqb c 0 ≡ false → cell_at s.cells c ≡ y → is_free y ≡ false → touch c s ≡ done y s
unfolding touch ret
touches c s y p at q = then_ok _ _ _ _ _ (passes _ _ s p) (bind_ok _ _ _ _ _ (peeks c s y at) (then_ok _ _ _ _ _ (passes _ _ s q) refl))

word-is : (n : ℕ) (s : State) (v : Word) → eqb n 0 ≡ false → cell_at s.cells n ≡ word v → word_at n s ≡ done v s
unfolding word_at as_word ret
word-is n s v n0 at = bind_ok _ _ _ _ _ (touches n s (word v) n0 at refl) (then_ok _ _ _ _ _ (passes _ _ s refl) refl)

-- what is no word is refused
free-no : (n : ℕ) (s : State) (l : ℕ) → eqb n 0 ≡ false → cell_at s.cells n ≡ free l → word_at n s ≡ refused (FreeCell n)
unfolding word_at touch
free-no n s l n0 at =
    bind-no _ _ _ _
    (then_ok _ _ _ _ _ (passes _ _ s n0) (bind_ok _ _ _ _ _ (peeks n s (free l) at) (then-no _ _ _ _ (fails _ _ s refl))))

kind-no : (n : ℕ) (s : State) (y : Cell) → eqb n 0 ≡ false → cell_at s.cells n ≡ y → is_free y ≡ false → not (is_word y) ≡ true
    → word_at n s ≡ refused (WrongKind n)
unfolding word_at as_word
kind-no n s y n0 at f k = bind_ok _ _ _ _ _ (touches n s y n0 at f) (then-no _ _ _ _ (fails _ _ s k))

release-is : (c : ℕ) (s : State) (h : Word) → cell_at s.cells 3 ≡ word h
    → release c s ≡ done tt (with_cells s (set (set s.cells c (free h.link)) 3 (word (with_link h c))))
unfolding release put
release-is c s h at = bind_ok _ _ _ _ _ (owns 3 s h (ap word_in at)) (then_ok _ _ _ _ _ refl refl)

-- what a pop tests, once for every way to go on
unfoldable lifting : (Word → Word → Act (Unit {0})) → Act (Unit {0})
lifting K = do
  w ← own (H 0)
  has_below (H 0) w
  v ← word_at w.link
  refuse_if (is_hw (H 0) && eqb v.q 1) (WrongKind w.link)
  r ← reserved w.link
  refuse_if r (NotToBeFreed w.link)
  K w v

-- the tests pass
record Pops (s : State) (w v : Word) : Type 0 where
  top : word_in (cell_at s.cells 1) ≡ w
  below : cell_at s.cells w.link ≡ word v
  other : eqb w.link 1 ≡ false
  some : eqb w.link 0 ≡ false
  q : eqb v.q 1 ≡ false
  free-to : reserved_in s.regions w.link ≡ false

data Way (s : State) : Type 0 where
  stops : (e : Refusal) → ((K : Word → Word → Act (Unit {0})) → lifting K s ≡ refused e) → Way s
  goes : (w v : Word) → Pops s w v → Way s

has : (s : State) (w : Word) → eqb w.link 1 ≡ false → eqb w.link 0 ≡ false → has_below 1 w s ≡ done tt s
unfolding has_below
has s w p q = then_ok _ _ _ _ _ (passes _ _ s p) (passes _ _ s q)

lifts : (s : State) (w v : Word) (K : Word → Word → Act (Unit {0})) → Pops s w v → lifting K s ≡ K w v s
unfolding lifting
lifts s w v K p =
    bind_ok _ _ _ _ _ (owns 1 s w p.top)
    (then_ok _ _ _ _ _ (has s w p.other p.some)
    (bind_ok _ _ _ _ _ (word-is w.link s v p.some p.below)
    (then_ok _ _ _ _ _ (passes _ _ s p.q)
    (bind_ok _ _ _ _ _ (holds w.link s false p.free-to) (then_ok _ _ _ _ _ (passes _ _ s refl) refl)))))

way : (s : State) → Way s
unfolding lifting has_below
way s = go (eqb w.link 1) (eqb w.link 0) (cell_at s.cells w.link) refl refl refl
  where
    w : Word
    w = word_in (cell_at s.cells 1)

    at-word : (v : Word) (b d : Bool) → eqb w.link 1 ≡ false → eqb w.link 0 ≡ false → cell_at s.cells w.link ≡ word v
        → eqb v.q 1 ≡ b → reserved_in s.regions w.link ≡ d → Way s
    at-word v true d p q at e f =
        stops (WrongKind w.link)
        (λ K. bind_ok _ _ _ _ _ (owns 1 s w refl)
        (then_ok _ _ _ _ _ (has s w p q) (bind_ok _ _ _ _ _ (word-is w.link s v q at) (then-no _ _ _ _ (fails _ _ s e)))))
    at-word v false true p q at e f =
        stops (NotToBeFreed w.link)
        (λ K. bind_ok _ _ _ _ _ (owns 1 s w refl)
        (then_ok _ _ _ _ _ (has s w p q)
        (bind_ok _ _ _ _ _ (word-is w.link s v q at)
        (then_ok _ _ _ _ _ (passes _ _ s e) (bind_ok _ _ _ _ _ (holds w.link s true f) (then-no _ _ _ _ (fails _ _ s refl)))))))
    at-word v false false p q at e f = goes w v (record { top = refl; below = at; other = p; some = q; q = e; free-to = f })

    no_word : (e : Refusal) → eqb w.link 1 ≡ false → eqb w.link 0 ≡ false → word_at w.link s ≡ refused e → Way s
    no_word e p q n = stops e (λ K. bind_ok _ _ _ _ _ (owns 1 s w refl) (then_ok _ _ _ _ _ (has s w p q) (bind-no _ _ _ _ n)))

    go : (b d : Bool) (y : Cell) → eqb w.link 1 ≡ b → eqb w.link 0 ≡ d → cell_at s.cells w.link ≡ y → Way s
    go true d y p q at = stops (NotToBeFreed 1) (λ K. bind_ok _ _ _ _ _ (owns 1 s w refl) (then-no _ _ _ _ (then-no _ _ _ _ (fails _ _ s p))))
    go false true y p q at =
        stops (NothingBelow 1)
        (λ K. bind_ok _ _ _ _ _ (owns 1 s w refl) (then-no _ _ _ _ (then_ok _ _ _ _ _ (passes _ _ s p) (fails _ _ s q))))
    go false false (free l) p q at = no_word (FreeCell w.link) p q (free-no w.link s l q at)
    go false false (term z) p q at = no_word (WrongKind w.link) p q (kind-no w.link s (term z) q at refl refl)
    go false false process p q at = no_word (WrongKind w.link) p q (kind-no w.link s process q at refl refl)
    go false false (word v) p q at = at-word v (eqb v.q 1) (reserved_in s.regions w.link) p q at refl refl

-- pop and stays are their tests, and then what they do
pop-lifts : pop ≡ lifting (λ w v. put 1 (word v) >> release w.link)
unfolding pop own_restore pull_up lifting
pop-lifts = refl

stays-lifts : (x : Symbol) → stays x ≡ lifting (λ w v. put 1 (topped x w v))
unfolding stays lifting
stays-lifts x = refl

-- what is refused as a pop is refused as a push after it
net-no : (x : Symbol) (s : State) (e : Refusal) → ((K : Word → Word → Act (Unit {0})) → lifting K s ≡ refused e) → gives 1 x s ≡ stays x s
unfolding gives pops
net-no x s e f =
    then-no _ _ _ _ (then-no _ _ _ _ (ap (λ (m : Act (Unit {0})). m s) pop-lifts ∙ f (λ w v. put 1 (word v) >> release w.link)))
    ∙ sym (ap (λ (m : Act (Unit {0})). m s) (stays-lifts x) ∙ f (λ w v. put 1 (topped x w v)))

module _ (s : State) (x : Symbol) (w v h : Word) (p : Pops s w v) (at-3 : cell_at s.cells 3 ≡ word h) where
  far : 221 ≤ w.link
  far = high s.regions w.link p.some p.free-to

  n≢1 : w.link ≢ 1
  n≢1 e = let f = far in omega arith

  n≢3 : w.link ≢ 3
  n≢3 e = let f = far in omega arith

  H< : 3 < length s.cells
  H< = in-range s.cells 3 h at-3

  -- the cells with v at the top, and popped
  lifted : List Cell
  lifted = set s.cells 1 (word v)

  popped : List Cell
  popped = set (set lifted w.link (free h.link)) 3 (word (with_link h w.link))

  lifted-3 : cell_at lifted 3 ≡ word h
  unfolding lifted
  lifted-3 = get_or-set_other s.cells 1 3 (word v) (free 0) (omega arith) ∙ at-3

  pop-is : pop s ≡ done tt (with_cells s popped)
  unfolding popped lifted put
  pop-is =
      ap (λ (m : Act (Unit {0})). m s) pop-lifts ∙ lifts s w v (λ w v. put 1 (word v) >> release w.link) p
      ∙ then_ok _ _ _ _ _ refl (release-is w.link (with_cells s (set s.cells 1 (word v))) h lifted-3)

  stays-is : stays x s ≡ done tt (with_cells s (set s.cells 1 (topped x w v)))
  unfolding put
  stays-is = ap (λ (m : Act (Unit {0})). m s) (stays-lifts x) ∙ lifts s w v (λ w v. put 1 (topped x w v)) p

  popped-1 : cell_at popped 1 ≡ word v
  unfolding popped lifted
  popped-1 =
      get_or-set_other (set lifted w.link (free h.link)) 3 1 (word (with_link h w.link)) (free 0) (omega arith)
      ∙ get_or-set_other lifted w.link 1 (free h.link) (free 0) (λ e. n≢1 (sym e))
      ∙ get_or-set_same s.cells 1 (word v) (free 0) (let k = H< in omega arith)

  popped-3 : cell_at popped 3 ≡ word (with_link h w.link)
  unfolding popped lifted
  popped-3 = get_or-set_same (set lifted w.link (free h.link)) 3 (word (with_link h w.link)) (free 0) (simp length-set H<)

  popped-n : cell_at popped w.link ≡ free h.link
  unfolding popped lifted
  popped-n =
      get_or-set_other (set lifted w.link (free h.link)) 3 w.link (word (with_link h w.link)) (free 0) n≢3
      ∙ get_or-set_same lifted w.link (free h.link) (free 0) (simp length-set (in-range s.cells w.link v p.below))

  push-is : push x (with_cells s popped) ≡ done tt (with_cells s (set (set (set popped 3 (word h)) w.link (word v)) 1 (topped x w v)))
  unfolding take_as put ret
  push-is =
      let t = with_cells s popped in
      sym (ap (λ (m : Act (Unit {0})). m t) (push-once x))
      ∙ bind_ok _ _ _ _ _ (owns 1 t v (ap word_in popped-1))
      (bind_ok _ _ _ _ _
      (bind_ok _ _ _ _ _ (owns 3 t (with_link h w.link) (ap word_in popped-3))
      (then_ok _ _ _ _ _ (passes _ _ t p.some)
      (bind_ok _ _ _ _ _ (peeks w.link t (free h.link) popped-n) (then_ok _ _ _ _ _ refl (then_ok _ _ _ _ _ refl refl)))))
      refl)

  -- the cell below and H2 come back
  as-lifted : set (set popped 3 (word h)) w.link (word v) ≡ lifted
  unfolding popped lifted
  as-lifted =
      let A : List Cell = set s.cells 1 (word v) in
      let e : cell_at A w.link ≡ word v = get_or-set_other s.cells 1 w.link (word v) (free 0) n≢1 ∙ p.below in
      rw (set-set, set_comm _ w.link 3 _ _ n≢3, set-set)
      (ap (λ (y : Cell). set (set A 3 (word h)) w.link y) (sym (get_or-set_other A 3 w.link (word h) (free 0) n≢3 ∙ e))
      ∙ set-get_or (set A 3 (word h)) w.link (free 0) ∙ ap (λ (y : Cell). set A 3 y) (sym lifted-3) ∙ set-get_or A 3 (free 0))

  net-is : gives 1 x s ≡ stays x s
  unfolding gives pops ret lifted
  net-is =
      then_ok _ _ _ _ _ (then_ok _ _ _ _ _ pop-is refl) push-is
      ∙ ap (λ (y : List Cell). done tt (with_cells s (set y 1 (topped x w v)))) as-lifted
      ∙ ap (λ (y : List Cell). done tt (with_cells s y)) (set-set s.cells 1 (word v) _) ∙ sym stays-is

word-held : (y : Cell) → is_word y ≡ true → y ≡ word (word_in y)
word-held (word w) e = refl
word-held (free l) e = clash cc
word-held (term z) e = clash cc
word-held process e = clash cc

net : (x : Symbol) (s : State) → is_word (cell_at s.cells 3) ≡ true → gives 1 x s ≡ stays x s
net x s k = go (way s)
  where
    go : Way s → gives 1 x s ≡ stays x s
    go (goes w v p) = net-is s x w v (word_in (cell_at s.cells 3)) p (word-held (cell_at s.cells 3) k)
    go (stops e f) = net-no x s e f

-- carried to the numbers
pub net-did : (x : Symbol) {k : ℕ} {K : Rest → Type 0} {s l : List ℕ} {y : List ℕ × List ℕ} {r : Result (Unit {0}) Refusal} → is_word (cell_in s 3) ≡ true
    → Follows lent K k (stays x) (s, l) y r → Follows lent K k (gives 1 x) (s, l) y r
unfolding cell_in
net-did x {s = s} q d = alike-here (λ e h. net x (state_of e s) q) d
