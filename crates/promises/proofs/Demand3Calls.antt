-- Demand 3 of the calls plain::preserve, plain::copy, plain::erase and plain::walk, in their own words: numbers, answers, and the cells that
-- a walk met. Each statement can be read without its proof.
use Rattle.paper.proofs.Kit.{clash, ℕ, ◌+◌, ◌≤◌, ◌≡◌, refl, sym, ap, subst, ◌∙◌, Bool, true, false, List, [], ◌∷◌, reverse, ◌≢◌, some, arith, length, take}
use Rattle.paper.proofs.Kit.{length-reverse, take-append_seam}
use Rattle.paper.specs.declared.Refusal.{Refusal}
use Rattle.paper.specs.declared.RunAnswer.{RunAnswer}
use Rattle.paper.specs.declared.RunAnswer.TheVariants.{Finished, BadSize, NotSound}
use Rattle.paper.specs.Limits.{first_deck}
use Rattle.paper.specs.Cell.{State, size_fits, end_of_regions}
use Rattle.paper.specs.Act.{Act, Res, done, refused}
use Rattle.paper.specs.Walk.{walk_back}
use Rattle.paper.specs.Process.{J72, J74}
use Rattle.paper.specs.Plain.{preserve_h0, walked, after_walk, after_act}
use Rattle.paper.proofs.SoundStore.{Frame}
use Rattle.paper.proofs.ActLaws.{s-preserve}
use Rattle.paper.proofs.ProcessLaws.{Kept, s-J72, s-J74}
use Rattle.paper.proofs.Handed.{when-done}
use Rattle.paper.proofs.WalkForm.{r-walk_back}
use Rattle.paper.proofs.Demand1.{FreeListed, free-listed}
use Rattle.paper.proofs.Demand3.{in_h0, Longer, OnlyLink}
use Rattle.cells.proofs.Store.{packed-unpacked}
use Rattle.regions.specs.declared.Regions.{Regions}
use Rattle.regions.specs.Table.{regions_of}
use Rattle.sound.specs.Store.{state_with, store_sound}
use Rattle.sound.specs.Asked.{unfit, Passed}
use Rattle.sound.proofs.SoundLaws.{passed-formed}
use Rattle.sound.proofs.AskLaws.{unfit-size, unfit-unsound}
use Rattle.plain.specs.declared.Met.{Met}
use Rattle.plain.specs.Numbers.{Numbers, numbers, in_numbers, plain_on}
use Rattle.plain.specs.Walks.{met_of, walk_on}
use Rattle.plain.proofs.Settled.{plain-unfit, done-or-not}
use Rattle.plain.proofs.Walked.{walk-unfit, walks}
use Rattle.plain.proofs.GivesBack.{GaveBack, runnable, calls-give-back, call-keeps, call-frees}
use Rattle.promises.specs.Free.{free_numbers}
use Rattle.promises.proofs.FreeLaws.{free-count}
use Rattle.promises.proofs.Freed.{Freed, freed-so}

-- what a call asks first: it is answered at once, and not with Finished, or the store passes
pub data Way (r : Regions) (s : List ℕ) : Type 0 where
  answered : (a : RunAnswer) → unfit r s ≡ some a → a ≢ Finished → Way r s
  passed : Passed r s (end_of_regions (regions_of r) first_deck) → Way r s

pub way : (r : Regions) (s : List ℕ) → Way r s
way r s = by_size (size_fits (length s)) refl
  where
    by_sound : size_fits (length s) ≡ true → (b : Bool) → store_sound r s ≡ b → Way r s
    by_sound e true f = passed (record { size = e; sound = f; end = refl })
    by_sound e false f = answered NotSound (unfit-unsound r s e f) (λ p. clash cc)

    by_size : (b : Bool) → size_fits (length s) ≡ b → Way r s
    by_size true e = by_sound e (store_sound r s) refl
    by_size false e = answered BadSize (unfit-size r s e) (λ p. clash cc)

-- a call that finished was lent a store that passes
finished-passed : (r : Regions) (s : List ℕ) → ((a : RunAnswer) → unfit r s ≡ some a → a ≡ Finished) → Passed r s (end_of_regions (regions_of r) first_deck)
finished-passed r s f = go (way r s)
  where
    go : Way r s → Passed r s (end_of_regions (regions_of r) first_deck)
    go (answered a e n) = absurd (n (f a e))
    go (passed p) = p

-- the cells of a walk
cells-met : {met : Met} (cs : List ℕ) → met_of (walked Finished cs) ≡ met → (met.answer ≡ Finished) × (met.n ≡ length cs) × (take met.n met.cells ≡ cs)
cells-met {met} cs e = (
  ap (λ (m : Met). m.answer) (sym e),
  ap (λ (m : Met). m.n) (sym e),
  ap (λ (m : Met). take m.n m.cells) (sym e) ∙ take-append_seam cs _,
)

module _ (c : ℕ) (r : Regions) (s : List ℕ) {met : Met} (allowed : met ≡ walk_on c r s) where
  -- the walk of the definition, and the call
  walk-met : Passed r s (end_of_regions (regions_of r) first_deck) → {back : List ℕ} {t : State} → walk_back c (state_with r s [] 0) ≡ done back t
      → met_of (walked Finished (reverse back)) ≡ met
  unfolding after_walk
  walk-met p e = ap (λ x. met_of (after_walk x)) (sym e) ∙ walks c r s p ∙ sym allowed

  walk-back : Passed r s (end_of_regions (regions_of r) first_deck) → met.answer ≡ Finished
      → (back : List ℕ) × (walk_back c (state_with r s [] 0) ≡ done back (state_with r s [] 0)) × (met.n ≡ length back)
  unfolding after_walk
  walk-back p f = go (walk_back c (state_with r s [] 0)) refl
    where
      go : (x : Res State Refusal (List ℕ)) → walk_back c (state_with r s [] 0) ≡ x
          → (back : List ℕ) × (walk_back c (state_with r s [] 0) ≡ done back (state_with r s [] 0)) × (met.n ≡ length back)
      go (refused q) e =
          let m : met_of (after_walk (refused q)) ≡ met = ap (λ x. met_of (after_walk x)) (sym e) ∙ walks c r s p ∙ sym allowed in
          clash cc
      go (done back t) e =
          let t-is = (when-done (r-walk_back c) (state_with r s [] 0) t back refl e).0 in
          (back, e ∙ ap (done back) t-is, (cells-met (reverse back) (walk-met p e)).1 ∙ length-reverse back)

-- DEMAND 3. If the walk of the symbol in H0 finished, and there is one more free cell than it met, then preserve, copy and erase, each on
-- what the one before left, all finish, and every number is as it was.
pub copy-and-erase : (r : Regions) (s : List ℕ) {met : Met} → met ≡ walk_on (in_h0 (state_with r s [] 0)).symb r s → met.answer ≡ Finished
    → met.n + 1 ≤ free_numbers s → {a₁ a₂ a₃ : RunAnswer} {s₁ s₂ s₃ : List ℕ}
    → numbers a₁ s₁ ≡ plain_on preserve_h0 r s
    → numbers a₂ s₂ ≡ plain_on J74 r s₁
    → numbers a₃ s₃ ≡ plain_on J72 r s₂
    → GaveBack s a₁ a₂ a₃ s₃
copy-and-erase r s {met} allowed f enough =
    let c = (in_h0 (state_with r s [] 0)).symb in
    let p = finished-passed r s (λ a e. ap (λ (m : Met). m.answer) (walk-unfit c r s e ∙ sym allowed) ∙ f) in
    let (back, walk, many) = walk-back c r s allowed p f in
    calls-give-back r s p.size p.sound (record { back = back; walk = walk; enough = omega (arith, enough, many, free-count s) })

-- Whenever erase finishes, it has freed the cell below H0 and the cells that the walk of the symbol in H0 met, and nothing else; these now
-- stand first on H2's list, in this order, and of H2's word only the LINK has changed.
pub erase-frees : (r : Regions) (s : List ℕ) {met : Met} {s₁ : List ℕ}
    → met ≡ walk_on (in_h0 (state_with r s [] 0)).symb r s
    → numbers Finished s₁ ≡ plain_on J72 r s
    → (let below = (in_h0 (state_with r s [] 0)).link in
    let gone = below ∷ take met.n met.cells in
    (met.answer ≡ Finished) × Freed s s₁ gone below × Longer (state_with r s [] 0) (state_with r s₁ [] 0) gone
    × OnlyLink (state_with r s [] 0) (state_with r s₁ [] 0))
erase-frees r s {s₁ = s₁} allowed e =
    let c = (in_h0 (state_with r s [] 0)).symb in
    let below = (in_h0 (state_with r s [] 0)).link in
    let p = finished-passed r s (λ a u. ap (λ (n : Numbers). n.answer) (plain-unfit J72 r s u ∙ sym e)) in
    let (back, walk, erased) = call-frees r s p.size p.sound e in
    let (passes, many) = call-keeps r s p.size p.sound (λ F. s-J72) e in
    let (answer, n, cells) = cells-met (reverse back) (walk-met c r s allowed p walk) in (
      answer,
      subst (λ cs. Freed s s₁ (below ∷ cs) below) (sym cells) (freed-so r s p.size p.sound s₁ passes many (reverse back) erased),
      subst (λ cs. Longer (state_with r s [] 0) (state_with r s₁ [] 0) (below ∷ cs)) (sym cells) erased.order,
      erased.in_h2,
    )

-- A plain action whose answer is not Finished leaves every number as it was: preserve, copy, erase, or any other.
pub refused-leaves : (m : Act (Unit {0})) (r : Regions) (s : List ℕ) {a : RunAnswer} {s₁ : List ℕ}
    → numbers a s₁ ≡ plain_on m r s → a ≢ Finished → s₁ ≡ s
unfolding after_act
refused-leaves m r s {a} {s₁} e n = go (way r s)
  where
    by_act : Passed r s (end_of_regions (regions_of r) first_deck) → (x : Res State Refusal (Unit {0})) → numbers a s₁ ≡ in_numbers (after_act (state_with r s [] 0) x)
        → s₁ ≡ s
    by_act p (done v t) f = absurd (n (ap (λ (k : Numbers). k.answer) f))
    by_act p (refused q) f = ap (λ (k : Numbers). k.cells) f ∙ packed-unpacked s (passed-formed r s p.sound)

    go : Way r s → s₁ ≡ s
    go (answered b u _) = ap (λ (k : Numbers). k.cells) (e ∙ sym (plain-unfit m r s u))
    go (passed p) = by_act p (m (state_with r s [] 0)) (e ∙ sym (done-or-not m r s p))

-- Whatever a plain action answers, a store that passes the test passes it afterwards, and its free cells are exactly those on the H2 list,
-- each once.
module _ (r : Regions) (s : List ℕ) (size : size_fits (length s) ≡ true) (passes : store_sound r s ≡ true) {a : RunAnswer} {s₁ : List ℕ} where
  keeps : {m : Act (Unit {0})} → ((F : Frame) → Kept F m) → numbers a s₁ ≡ plain_on m r s → (store_sound r s₁ ≡ true) × FreeListed (state_with r s₁ [] 0)
  keeps k e =
      let (f, n) = call-keeps r s size passes k e in
      (f, free-listed (state_with r s₁ [] 0) (runnable r s₁ (ap size_fits n ∙ size) f))

  pub preserve-keeps : numbers a s₁ ≡ plain_on preserve_h0 r s → (store_sound r s₁ ≡ true) × FreeListed (state_with r s₁ [] 0)
  preserve-keeps = keeps (λ F. s-preserve 1)

  pub copy-keeps : numbers a s₁ ≡ plain_on J74 r s → (store_sound r s₁ ≡ true) × FreeListed (state_with r s₁ [] 0)
  copy-keeps = keeps (λ F. s-J74)

  pub erase-keeps : numbers a s₁ ≡ plain_on J72 r s → (store_sound r s₁ ≡ true) × FreeListed (state_with r s₁ [] 0)
  erase-keeps = keeps (λ F. s-J72)
