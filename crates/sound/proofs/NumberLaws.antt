-- The number of a cell: when it is in form, and what soundness asks of it, by its kind.
use Rattle.paper.proofs.Kit.{ℕ, ◌+◌, ◌*◌, ◌%◌, ◌^◌, ◌<◌, ◌≤◌, Bool, true, false, cond, ◌&&◌, ◌||◌, and_assoc, and-true, and-false, true≢false, ◌≡◌, refl, ap, sym, ◌∙◌}
use Rattle.paper.proofs.Kit.{arith, lt-ltb, eq-eqb, ne_eqb, ltb-true, ltb-false, eqb-true, eqb-false, ltb, leb, eqb, ℤ, pos, negsuc}
use Rattle.paper.specs.Cell.{word, integer, term_fits}
use Rattle.paper.specs.Term.{is_finite}
use Rattle.paper.specs.Sound.{word_sound, takes_word, takes_term, cell_sound, is_zeros}
use Rattle.paper.proofs.SoundStore.{and-true as both}
use Rattle.cells.specs.Layout.{unpack_of, word_of, p_of, q_of, symb_of, link_of, value_of, sort_of, bits_of, term_of}
use Rattle.cells.specs.Pack.{pack_of, IntegerFits, a_word, a-free, a-term, a-process}
use Rattle.cells.proofs.Laws.{by_kind, cond_same, unpack-word, unpack-free, unpack-term, unpack-process, pack-unpack, term-bits, value-fits}
use Rattle.sound.specs.Store.{formed, term_sound, number_sound}

-- a test that says whether two numbers are equal
decided : (a b : ℕ) (t : Bool) → (t ≡ true → a ≡ b) → (t ≡ false → a ≡ b → ⊥) → eqb a b ≡ t
decided a b true f g = eq-eqb a b (f refl)
decided a b false f g = ne_eqb a b (g refl)

formed-word : (x : ℕ) → x < 2 ^ 48 → formed x ≡ true
unfolding formed
formed-word x h = eq-eqb _ _ (pack-unpack x (a_word h))

formed-free : (x : ℕ) → 2 ^ 48 ≤ x → x < 2 * 2 ^ 48 → formed x ≡ ltb x (2 ^ 48 + 2 ^ 16)
unfolding formed
formed-free x g h =
    decided (pack_of (unpack_of x)) x (ltb x (2 ^ 48 + 2 ^ 16)) (λ e. pack-unpack x (a-free g (ltb-true _ _ e)))
    (λ e q. let l = ltb-false x (2 ^ 48 + 2 ^ 16) e in omega (arith, ap pack_of (unpack-free x g h)))

term-packs : (x : ℕ) → 2 * 2 ^ 48 ≤ x → x < 3 * 2 ^ 48 → pack_of (unpack_of x) ≡ 2 * 2 ^ 48 + x % 2 ^ 33
term-packs x g h = ap pack_of (unpack-term x g h) ∙ ap (λ (a : ℕ). 2 * 2 ^ 48 + a) (term-bits x)

formed-term : (x : ℕ) → 2 * 2 ^ 48 ≤ x → x < 3 * 2 ^ 48 → formed x ≡ ltb x (2 * 2 ^ 48 + 2 ^ 33)
unfolding formed
formed-term x g h =
    decided (pack_of (unpack_of x)) x (ltb x (2 * 2 ^ 48 + 2 ^ 33)) (λ e. pack-unpack x (a-term g (ltb-true _ _ e)))
    (λ e q. let l = ltb-false x (2 * 2 ^ 48 + 2 ^ 33) e in omega (arith, term-packs x g h))

formed-process : (x : ℕ) → 3 * 2 ^ 48 ≤ x → formed x ≡ eqb x (3 * 2 ^ 48)
unfolding formed
formed-process x g =
    decided (pack_of (unpack_of x)) x (eqb x (3 * 2 ^ 48)) (λ e. pack-unpack x (a-process (eqb-true _ _ e)))
    (λ e q. eqb-false x (3 * 2 ^ 48) e (omega (arith, ap pack_of (unpack-process x g))))

in-32 : (z : ℤ) → IntegerFits z → term_fits (integer z) ≡ true
in-32 (pos n) h = lt-ltb n (2 ^ 31) h
in-32 (negsuc n) h = lt-ltb n (2 ^ 31) h

-- what is asked of the number of a data term, by its sort
module _ (c x : ℕ) (g : 2 * 2 ^ 48 ≤ x) (h : x < 3 * 2 ^ 48) where
  pub integer-sound : x < 2 * 2 ^ 48 + 2 ^ 32 → (eqb c 4 || leb 221 c) ≡ term_sound c x
  unfolding term_sound
  integer-sound l =
      let s : sort_of x ≡ 0 = omega arith in
      let f = in-32 (value_of (bits_of x)) (value-fits (bits_of x) (omega arith)) in
      rw (formed-term x g h, lt-ltb x (2 * 2 ^ 48 + 2 ^ 33) (omega arith), s, f, and-true (eqb c 4), and-true (eqb c 4 || leb 221 c))

  pub floating-sound : 2 * 2 ^ 48 + 2 ^ 32 ≤ x → (ltb x (2 * 2 ^ 48 + 2 ^ 33) && leb 221 c && is_finite (bits_of x)) ≡ term_sound c x
  unfolding term_sound
  floating-sound l = rw (formed-term x g h) (go (ltb x (2 * 2 ^ 48 + 2 ^ 33)) refl)
    where
      go : (t : Bool) → ltb x (2 * 2 ^ 48 + 2 ^ 33) ≡ t → (t && leb 221 c && is_finite (bits_of x)) ≡ (t && (takes_term c (term_of x) && term_fits (term_of x)))
      go true e =
          let k = ltb-true x (2 * 2 ^ 48 + 2 ^ 33) e in
          let s : sort_of x ≡ 1 = omega arith in
          rw (s, lt-ltb (bits_of x) (2 ^ 32) (omega arith), and-false (eqb c 4))
      go false e = refl

-- what is asked of the number of cell c
module _ (n end c x : ℕ) where
  pub number_word : x < 2 ^ 48 → (word_sound n c (word_of x) && takes_word c) ≡ number_sound n end c x
  unfolding number_sound cell_sound
  number_word h = rw (formed-word x h, unpack-word x h)

  pub number-free : 2 ^ 48 ≤ x → x < 2 * 2 ^ 48 → (ltb x (2 ^ 48 + 2 ^ 16) && leb end c && ltb (link_of x) n) ≡ number_sound n end c x
  unfolding number_sound cell_sound
  number-free g h = rw (formed-free x g h, unpack-free x g h) (and_assoc (ltb x (2 ^ 48 + 2 ^ 16)) (leb end c) (ltb (link_of x) n))

  pub number-term : 2 * 2 ^ 48 ≤ x → x < 3 * 2 ^ 48 → term_sound c x ≡ number_sound n end c x
  unfolding term_sound number_sound cell_sound
  number-term g h = rw (unpack-term x g h)

  pub number-process : 3 * 2 ^ 48 ≤ x → (eqb x (3 * 2 ^ 48) && leb 21 c && ltb c 221) ≡ number_sound n end c x
  unfolding number_sound cell_sound
  number-process g = rw (formed-process x g, unpack-process x g) (and_assoc (eqb x (3 * 2 ^ 48)) (leb 21 c) (ltb c 221))

-- "cell 0 is a word of zeros": its number is 0
zero_word : (x : ℕ) → x < 2 ^ 48 → eqb x 0 ≡ is_zeros (word (word_of x))
zero_word x h = decided x 0 (is_zeros (word (word_of x))) zero (λ e q. true≢false (rw q at e))
  where
    zero : is_zeros (word (word_of x)) ≡ true → x ≡ 0
    zero e =
        let a = both (eqb (p_of x) 0 && eqb (q_of x) 0 && eqb (symb_of x) 0) (eqb (link_of x) 0) e in
        let b = both (eqb (p_of x) 0 && eqb (q_of x) 0) (eqb (symb_of x) 0) a.0 in
        let d = both (eqb (p_of x) 0) (eqb (q_of x) 0) b.0 in
        let w = ap pack_of (sym (unpack-word x h)) ∙ pack-unpack x (a_word h) in
        omega (arith, w, eqb-true (link_of x) 0 a.1, eqb-true (symb_of x) 0 b.1, eqb-true (q_of x) 0 d.1, eqb-true (p_of x) 0 d.0)

pub zero_is : (x : ℕ) → eqb x 0 ≡ is_zeros (unpack_of x)
zero_is x = go (ltb x (2 ^ 48)) refl
  where
    go : (t : Bool) → ltb x (2 ^ 48) ≡ t → eqb x 0 ≡ is_zeros (unpack_of x)
    go true e = let h = ltb-true x (2 ^ 48) e in rw (unpack-word x h) (zero_word x h)
    go false e =
        let h = ltb-false x (2 ^ 48) e in
        let same : (t : Bool) → cond t false false ≡ false = λ t. cond_same t false in
        rw (by_kind is_zeros x, e, same (ltb x (3 * 2 ^ 48)), same (ltb x (2 * 2 ^ 48))) (ne_eqb x 0 (λ q. omega arith))
