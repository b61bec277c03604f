-- Demand 3, carried to the calls: of every outcome that the contracts of preserve, copy and erase allow. Each statement can be read
-- without its proof.
use Rattle.paper.proofs.Kit.{ℕ, zero, suc, ◌+◌, ◌≤◌, ◌≡◌, refl, sym, ap, subst, ◌∙◌, Bool, true, false, List, [], ◌∷◌, reverse, arith, length, length-map}
use Rattle.paper.proofs.Kit.{leb, leb-true}
use Rattle.paper.specs.declared.RunAnswer.{RunAnswer}
use Rattle.paper.specs.declared.RunAnswer.TheVariants.{Finished, BadSize, BudgetSpent, NotSound, Refused as Stopped}
use Rattle.paper.specs.Cell.{cell_at, H, State, size_fits}
use Rattle.paper.specs.declared.Refusal.{Refusal}
use Rattle.paper.specs.Act.{Act, Res, done, refused}
use Rattle.paper.specs.Walk.{walk_back}
use Rattle.paper.specs.Process.{J72, J74}
use Rattle.paper.specs.Sound.{sound}
use Rattle.paper.specs.Plain.{after_act, plainly, preserve_h0}
use Rattle.paper.proofs.SoundStore.{Frame, Sound, and-true, never}
use Rattle.paper.proofs.SoundTest.{sound-from, sound-passes, size-passes}
use Rattle.paper.proofs.ActLaws.{s-preserve}
use Rattle.paper.proofs.ProcessLaws.{Kept, s-J72, s-J74}
use Rattle.paper.proofs.Handed.{when-done}
use Rattle.paper.proofs.Demand1.{Runnable}
use Rattle.paper.proofs.TallyLaws.{plain-leaves}
use Rattle.paper.proofs.Demand3.{CanCopy, plainly-back, in_h0, Erased, J72-frees}
use Rattle.cells.specs.Pack.{pack_of, packed}
use Rattle.cells.specs.Bridge.{unpacked}
use Rattle.cells.proofs.Store.{unpacked-length, packed-unpacked}
use Rattle.regions.specs.declared.Regions.{Regions}
use Rattle.regions.specs.Table.{regions_of}
use Rattle.sound.specs.Store.{state_with, store_sound}
use Rattle.sound.proofs.SoundLaws.{passed-formed, passed-sound, in-form}
use Rattle.sound.proofs.FitLaws.{EachFits, sound-fits, unpacked-packed, packed-formed}
use Rattle.plain.specs.Numbers.{Numbers, numbers, in_numbers, plain_on}
use Rattle.plain.proofs.Settled.{plain-is}

acts-on : (m : Act (Unit {0})) (t : State) → Runnable t → plainly m t ≡ after_act t (m t)
unfolding plainly
acts-on m t r = rw (r.size, r.test, plainly)

module _ (r : Regions) (n : ℕ) where
  -- a sound store of n cells with this table, outside any cycle: no lines, and no room for any
  record Plain (t : State) : Type 0 where
    frame : Frame
    is_sound : Sound frame t
    many : frame.n ≡ n
    table : frame.rs ≡ regions_of r
    nothing : frame.out ≡ 0

  plain_fits : {t : State} → Plain t → EachFits t.cells
  plain_fits {t} p = sound-fits p.frame t p.is_sound

  -- it is the store of its numbers
  numbered : (t : State) → Plain t → state_with r (packed t.cells) [] 0 ≡ t
  numbered t p = go t.lines refl t.room refl
    where
      counted : length t.lines + t.room ≡ 0
      counted = p.is_sound.lines ∙ p.nothing

      go : (xs : List ℕ) → t.lines ≡ xs → (room : ℕ) → t.room ≡ room → state_with r (packed t.cells) [] 0 ≡ t
      go [] e zero f =
          rw (unpacked-packed t.cells (plain_fits p), sym p.table, sym p.is_sound.regions, sym e, sym f)
      go [] e (suc room) f = absurd (omega (arith, counted, f))
      go (x ∷ xs) e room f = absurd (omega (arith, counted, ap length e))

  -- an action that was accepted leaves such a store
  plain_done : {m : Act (Unit {0})} → ((F : Frame) → Kept F m) → (t u : State) (v : Unit {0}) → Plain t → m t ≡ done v u → Plain u
  plain_done k t u v p e = record {
    frame = p.frame;
    many = p.many;
    table = p.table;
    nothing = p.nothing;
    is_sound = (when-done (k p.frame) t u v (record { sound = p.is_sound; used = tt }) e).0.sound;
  }

  -- and so does one that was refused
  plain-after : {m : Act (Unit {0})} → ((F : Frame) → Kept F m) → (t : State) → Plain t → Plain (plainly m t).state
  unfolding after_act
  plain-after {m} k t p =
      rw (acts-on m t (record { size = size-passes p.frame t p.is_sound; test = sound-passes p.frame t p.is_sound })) (go (m t) refl)
    where
      go : (x : Res State Refusal (Unit {0})) → m t ≡ x → Plain (after_act t x).state
      go (refused f) e = p
      go (done v u) e = plain_done k t u v p e

  module _ (tabled : r.n ≤ 23) where
    -- what a call comes to on the numbers of such a store
    on-numbers : (m : Act (Unit {0})) (t : State) → Plain t → plain_on m r (packed t.cells) ≡ in_numbers (plainly m t)
    on-numbers m t p =
        plain-is m r (packed t.cells) tabled (packed-formed t.cells (plain_fits p)) ∙ ap (λ u. in_numbers (plainly m u)) (numbered t p)

finished : RunAnswer → Bool
finished a = elim a [ Finished ↦ true | BadSize ↦ false | BudgetSpent ↦ false | NotSound ↦ false | Stopped q ↦ false ]

-- Three calls, each on what the one before left, gave every number back.
pub record GaveBack (s : List ℕ) (preserved copied erased : RunAnswer) (s₃ : List ℕ) : Type 0 where
  pub preserve : preserved ≡ Finished
  pub copy : copied ≡ Finished
  pub erase : erased ≡ Finished
  pub back : s₃ ≡ s

module _ (r : Regions) (s : List ℕ) (size : size_fits (length s) ≡ true) (passes : store_sound r s ≡ true) where
  -- the store of the numbers
  abbrev pub given : State
  given = state_with r s [] 0

  tabled : r.n ≤ 23
  unfolding store_sound
  tabled = leb-true r.n 23 (and-true (leb r.n 23) _ (and-true _ _ passes).0).0

  pub runnable : Runnable given
  runnable = record { size = ap size_fits (unpacked-length s) ∙ size; test = passed-sound r s [] 0 passes }

  plain : Plain r (length s) given
  plain = let t = sound-from given runnable.size runnable.test in
      record { frame = t.frame; is_sound = t.is_sound; many = t.n-is ∙ unpacked-length s; table = t.rs-is; nothing = t.out-is }

  begins : (m : Act (Unit {0})) → plain_on m r s ≡ in_numbers (plainly m given)
  begins m = plain-is m r s tabled (passed-formed r s passes)

  -- whatever the three calls answer and leave: on a sound store whose H0 names a well-formed structure, with one more free cell than
  -- it has cells, they finish and every cell is as it was
  pub calls-give-back : CanCopy given → {a₁ a₂ a₃ : RunAnswer} {s₁ s₂ s₃ : List ℕ}
      → numbers a₁ s₁ ≡ plain_on preserve_h0 r s
      → numbers a₂ s₂ ≡ plain_on J74 r s₁
      → numbers a₃ s₃ ≡ plain_on J72 r s₂
      → GaveBack s a₁ a₂ a₃ s₃
  calls-give-back can {s₁ = s₁} {s₂} e₁ e₂ e₃ =
      let g = plainly-back given runnable can in
      let t₁ = (plainly preserve_h0 given).state in
      let t₂ = (plainly J74 t₁).state in
      let p₁ = plain-after r (length s) {m = preserve_h0} (λ F. s-preserve 1) given plain in
      let p₂ = plain-after r (length s) {m = J74} (λ F. s-J74) t₁ p₁ in
      let f₁ = e₁ ∙ begins preserve_h0 in
      let f₂ = e₂ ∙ ap (λ x. plain_on J74 r x) (ap (λ (n : Numbers). n.cells) f₁) ∙ on-numbers r (length s) tabled J74 t₁ p₁ in
      let f₃ = e₃ ∙ ap (λ x. plain_on J72 r x) (ap (λ (n : Numbers). n.cells) f₂) ∙ on-numbers r (length s) tabled J72 t₂ p₂ ∙ ap in_numbers g.erased in
      record {
        preserve = ap (λ (n : Numbers). n.answer) f₁ ∙ g.preserved;
        copy = ap (λ (n : Numbers). n.answer) f₂ ∙ g.copied;
        erase = ap (λ (n : Numbers). n.answer) f₃;
        back = ap (λ (n : Numbers). n.cells) f₃ ∙ packed-unpacked s (passed-formed r s passes);
      }

  -- whatever a call answers, the numbers pass the test again, and are as many
  pub call-keeps : {m : Act (Unit {0})} → ((F : Frame) → Kept F m) → {a : RunAnswer} {s₁ : List ℕ} → numbers a s₁ ≡ plain_on m r s
      → (store_sound r s₁ ≡ true) × (length s₁ ≡ length s)
  call-keeps {m} k {s₁ = s₁} e =
      let t = (plainly m given).state in
      let p = plain-after r (length s) k given plain in
      let q : s₁ ≡ packed t.cells = ap (λ (n : Numbers). n.cells) (e ∙ begins m) in (
        ap (store_sound r) q
            ∙ in-form r (packed t.cells) [] 0 tabled (packed-formed t.cells (plain_fits r (length s) p))
            ∙ ap sound (numbered r (length s) t p) ∙ sound-passes p.frame t p.is_sound,
        ap length q ∙ length-map t.cells pack_of ∙ p.is_sound.size ∙ p.many,
      )

  -- and H3 is as it was
  pub call-leaves-H3 : {m : Act (Unit {0})} → ((F : Frame) → Kept F m) → {a : RunAnswer} {s₁ : List ℕ} → numbers a s₁ ≡ plain_on m r s
      → cell_at (unpacked s₁) (H 3) ≡ cell_at (unpacked s) (H 3)
  call-leaves-H3 {m} k e =
      let t = (plainly m given).state in
      ap (λ (n : Numbers). cell_at (unpacked n.cells) (H 3)) (e ∙ begins m)
      ∙ ap (λ (u : State). cell_at u.cells (H 3)) (numbered r (length s) t (plain-after r (length s) k given plain))
      ∙ plain-leaves m k given runnable

  -- whenever the call erase finishes, it frees the structure's cells, once each, and one popped from H0, and changes nothing else but
  -- H0 and H2: `Erased` of paper/proofs/Demand3
  pub call-frees : {s₁ : List ℕ} → numbers Finished s₁ ≡ plain_on J72 r s
      → (back : List ℕ) × (walk_back (in_h0 given).symb given ≡ done back given) × Erased given (state_with r s₁ [] 0) ((in_h0 given).link ∷ reverse back)
  unfolding after_act finished
  call-frees {s₁} e = go (J72 given) refl
    where
      so : (x : Res State Refusal (Unit {0})) → J72 given ≡ x → numbers Finished s₁ ≡ in_numbers (after_act given x)
      so x f = e ∙ begins J72 ∙ ap in_numbers (acts-on J72 given runnable ∙ ap (λ y. after_act given y) f)

      go : (x : Res State Refusal (Unit {0})) → J72 given ≡ x
          → (back : List ℕ) × (walk_back (in_h0 given).symb given ≡ done back given) × Erased given (state_with r s₁ [] 0) ((in_h0 given).link ∷ reverse back)
      go (done u t) f =
          let (back, w, x) = J72-frees given t runnable f in
          let c = ap (λ (n : Numbers). n.cells) (so (done u t) f) in
          let n = numbered r (length s) t (plain_done r (length s) (λ F. s-J72) given t u plain f) in
          let z : t ≡ state_with r s₁ [] 0 = sym n ∙ ap (λ l. state_with r l [] 0) (sym c) in
          (back, w, subst (λ y. Erased given y ((in_h0 given).link ∷ reverse back)) z x)
      go (refused q) f = never (finished (Stopped q)) (sym (ap (λ (n : Numbers). finished n.answer) (so (refused q) f))) refl
