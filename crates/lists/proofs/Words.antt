-- Words by their numbers: an end, and what was made for a word.
use Rattle.paper.proofs.Kit.{ℕ, ◌*◌, ◌%◌, ◌^◌, Bool, true, false, ◌≡◌, refl, ap, ◌∙◌, sym, arith, eq-eqb, ne_eqb, eqb-true, eqb-false, ltb-true, eqb, ltb}
use Rattle.paper.specs.declared.Symbol.{Symbol}
use Rattle.paper.specs.Cell.{Word, word, mk_word, symbol_of, is_word, word_in}
use Rattle.paper.specs.Process.{is_end}
use Rattle.cells.specs.Layout.{unpack_of, word_of, p_of, q_of, symb_of, link_of}
use Rattle.cells.specs.Pack.{Packs}
use Rattle.cells.proofs.Laws.{by_kind, cond_same, cond-test, unpack-word, fields-sum}

-- an end has one number
pub end_is : (w : ℕ) → eqb (w % 2 ^ 48) (4 * 2 ^ 32) ≡ is_end (word_of w)
end_is w = go (eqb (p_of w) 0) (eqb (q_of w) 4) (eqb (symb_of w) 0) (eqb (link_of w) 0) refl refl refl refl
  where
    no : (x y : ℕ) → eqb x y ≡ false → (w % 2 ^ 48 ≡ 4 * 2 ^ 32 → x ≡ y) → eqb (w % 2 ^ 48) (4 * 2 ^ 32) ≡ false
    no x y e h = ne_eqb (w % 2 ^ 48) (4 * 2 ^ 32) (λ z. eqb-false x y e (h z))

    go : (p q s l : Bool) → eqb (p_of w) 0 ≡ p → eqb (q_of w) 4 ≡ q → eqb (symb_of w) 0 ≡ s → eqb (link_of w) 0 ≡ l
        → eqb (w % 2 ^ 48) (4 * 2 ^ 32) ≡ is_end (word_of w)
    go true true true true a b c d =
        let p = eqb-true (p_of w) 0 a in
        let q = eqb-true (q_of w) 4 b in
        let s = eqb-true (symb_of w) 0 c in
        let l = eqb-true (link_of w) 0 d in
        let e = fields-sum w in
        rw (a, b, c, d) (eq-eqb (w % 2 ^ 48) (4 * 2 ^ 32) (omega arith))
    go true true true false a b c d = rw (a, b, c, d) (no (link_of w) 0 d (λ z. omega arith))
    go true true false l a b c d = rw (a, b, c) (no (symb_of w) 0 c (λ z. omega arith))
    go true false s l a b c d = rw (a, b) (no (q_of w) 4 b (λ z. omega arith))
    go false q s l a b c d = rw a (no (p_of w) 0 a (λ z. omega arith))

-- the number made for a word holds that word
word-packed : {r : ℕ} {w : Word} → Packs r (word w) → word_of r ≡ w
word-packed {r} {w} p =
    let k : ltb r (2 ^ 48) ≡ is_word (unpack_of r) = simp (by_kind is_word r, cond_same, cond-test) in
    ap word_in (sym (unpack-word r (ltb-true r (2 ^ 48) (k ∙ ap is_word p.unpacks))) ∙ p.unpacks)

-- a word with P 0 that was made for the symbol of another
pub plain : (w : Word) {r l : ℕ} {x : Symbol} → Packs r (word (mk_word 0 x.tag x.num l)) → x ≡ symbol_of w → word_of r ≡ mk_word 0 w.q w.symb l
plain w {l = l} p e = word-packed p ∙ ap (λ (x : Symbol). mk_word 0 x.tag x.num l) e
