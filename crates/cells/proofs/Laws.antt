-- Laws of the packed cell: a cell by the range of its number, and both round trips.
use Rattle.paper.proofs.Kit.{ℕ, suc, ◌+◌, ◌-◌, ◌*◌, ◌%◌, ◌^◌, ◌<◌, ◌≤◌, Bool, true, false, cond, ◌≡◌, refl, ap, ◌∙◌, sym, arith, lt-ltb, le-ltb, ltb-true}
use Rattle.paper.proofs.Kit.{clash, ltb-false, ltb, eqb, eqb-true, eqb-false, ℤ, pos, negsuc}
use Rattle.paper.specs.Cell.{Word, mk_word, Term, Cell, free, word, term, integer, floating, process, word_in, link_in}
use Rattle.paper.specs.Term.{is_integer, alike}
use Rattle.cells.specs.Layout.{unpack_of, word_of, link_of, symb_of, q_of, p_of, value_of, sort_of, bits_of, term_of}
use Rattle.cells.specs.Pack.{excess, term_bits, pack_of, WordFits, IntegerFits, TermFits, CellFits, Valid, a_word, a-free, a-term, a-process, Packs}

-- a function of the cell, by the kind of its number: this gives all tests and parts
pub by_kind : {A : Type 0} (f : Cell → A) (x : ℕ)
    → f (unpack_of x)
    ≡ cond (ltb x (2 ^ 48)) (f (word (word_of x)))
    (cond (ltb x (2 * 2 ^ 48)) (f (free (link_of x))) (cond (ltb x (3 * 2 ^ 48)) (f (term (term_of x))) (f process)))
unfolding unpack_of
by_kind {A} f x =
    over (ltb x (2 ^ 48)) _ _
    ∙ ap (cond (ltb x (2 ^ 48)) _) (over (ltb x (2 * 2 ^ 48)) _ _ ∙ ap (cond (ltb x (2 * 2 ^ 48)) _) (over (ltb x (3 * 2 ^ 48)) _ _))
  where
    over : (b : Bool) (y z : Cell) → f (cond b y z) ≡ cond b (f y) (f z)
    over true y z = refl
    over false y z = refl

pub cond_same : {A : Type 0} (b : Bool) (a : A) → cond b a a ≡ a
cond_same true a = refl
cond_same false a = refl

pub cond-test : (b : Bool) → cond b true false ≡ b
cond-test true = refl
cond-test false = refl

-- by range
pub unpack-word : (x : ℕ) → x < 2 ^ 48 → unpack_of x ≡ word (word_of x)
unfolding unpack_of
unpack-word x h = simp (lt-ltb x (2 ^ 48) h)

pub unpack-free : (x : ℕ) → 2 ^ 48 ≤ x → x < 2 * 2 ^ 48 → unpack_of x ≡ free (link_of x)
unfolding unpack_of
unpack-free x g h = simp (le-ltb x (2 ^ 48) g, lt-ltb x (2 * 2 ^ 48) h)

pub unpack-term : (x : ℕ) → 2 * 2 ^ 48 ≤ x → x < 3 * 2 ^ 48 → unpack_of x ≡ term (term_of x)
unfolding unpack_of
unpack-term x g h = simp (le-ltb x (2 ^ 48) (omega arith), le-ltb x (2 * 2 ^ 48) g, lt-ltb x (3 * 2 ^ 48) h)

pub unpack-process : (x : ℕ) → 3 * 2 ^ 48 ≤ x → unpack_of x ≡ process
unfolding unpack_of
unpack-process x g = simp (le-ltb x (2 ^ 48) (omega arith), le-ltb x (2 * 2 ^ 48) (omega arith), le-ltb x (3 * 2 ^ 48) g)

-- an integer and its excess
pub value_low : (a : ℕ) → a < 2 ^ 31 → value_of a ≡ negsuc (2 ^ 31 - suc a)
value_low a h = simp (lt-ltb a (2 ^ 31) h)

pub value-high : (a : ℕ) → 2 ^ 31 ≤ a → value_of a ≡ pos (a - 2 ^ 31)
value-high a h = simp (le-ltb a (2 ^ 31) h)

pub excess-value : (a : ℕ) → excess (value_of a) ≡ a
excess-value a = go (ltb a (2 ^ 31)) refl
  where
    go : (b : Bool) → ltb a (2 ^ 31) ≡ b → excess (value_of a) ≡ a
    go true e = let h = ltb-true a (2 ^ 31) e in rw (value_low a h) (omega arith)
    go false e = let h = ltb-false a (2 ^ 31) e in rw (value-high a h) (omega arith)

pub value-fits : (a : ℕ) → a < 2 ^ 32 → IntegerFits (value_of a)
value-fits a k = go (ltb a (2 ^ 31)) refl
  where
    go : (b : Bool) → ltb a (2 ^ 31) ≡ b → IntegerFits (value_of a)
    go true e = let h = ltb-true a (2 ^ 31) e in rw (value_low a h) (omega arith)
    go false e = let h = ltb-false a (2 ^ 31) e in rw (value-high a h) (omega arith)

-- a data term, by its sort
pub by-sort : (P : Term → Type 0) (x : ℕ) → (sort_of x ≡ 0 → P (integer (value_of (bits_of x)))) → (sort_of x ≡ 1 → P (floating (bits_of x))) → P (term_of x)
by-sort P x h k = go (eqb (sort_of x) 0) refl
  where
    go : (b : Bool) → eqb (sort_of x) 0 ≡ b → P (cond b (integer (value_of (bits_of x))) (floating (bits_of x)))
    go true e = h (eqb-true _ _ e)
    go false e = let n = eqb-false (sort_of x) 0 e in k (omega arith)

pub alike-sorts : (x y : ℕ) → eqb (sort_of x) (sort_of y) ≡ alike (term_of x) (term_of y)
alike-sorts x y =
    let same : Term → Term → Type 0 = λ t u. eqb (sort_of x) (sort_of y) ≡ alike t u in
    by-sort (λ t. same t (term_of y)) x
    (λ e. by-sort (same (integer (value_of (bits_of x)))) y (λ f. rw (e, f)) (λ f. rw (e, f)))
    (λ e. by-sort (same (floating (bits_of x))) y (λ f. rw (e, f)) (λ f. rw (e, f)))

pub integer-sort : (x : ℕ) → eqb (sort_of x) 0 ≡ is_integer (term_of x)
integer-sort x = by-sort (λ t. eqb (sort_of x) 0 ≡ is_integer t) x (λ e. rw e) (λ e. rw e)

-- what is no integer is a floating term
pub integer-is : (x : ℕ) → is_integer (term_of x) ≡ true → term_of x ≡ integer (value_of (bits_of x))
integer-is x = by-sort (λ t. is_integer t ≡ true → t ≡ integer (value_of (bits_of x))) x (λ _ _. refl) (λ _ e. clash cc)

pub floating-is : (x : ℕ) → is_integer (term_of x) ≡ false → term_of x ≡ floating (bits_of x)
floating-is x = by-sort (λ t. is_integer t ≡ false → t ≡ floating (bits_of x)) x (λ _ e. clash cc) (λ _ _. refl)

pub term-bits : (x : ℕ) → term_bits (term_of x) ≡ x % 2 ^ 33
term-bits x = by-sort (λ t. term_bits t ≡ x % 2 ^ 33) x (λ e. excess-value (bits_of x) ∙ omega arith) (λ e. omega arith)

pub term_fits : (x : ℕ) → TermFits (term_of x)
term_fits x = by-sort TermFits x (λ _. value-fits (bits_of x) (omega arith)) (λ _. omega arith)

-- what is packed unpacks to itself
word-pack : (w : Word) → WordFits w → word_of (pack_of (word w)) ≡ w
word-pack w f =
    let p : p_of (pack_of (word w)) ≡ w.p = omega arith in
    let q : q_of (pack_of (word w)) ≡ w.q = omega arith in
    let s : symb_of (pack_of (word w)) ≡ w.symb = omega arith in
    let l : link_of (pack_of (word w)) ≡ w.link = omega arith in
    λ i. mk_word (p i) (q i) (s i) (l i)

value-excess : (z : ℤ) → IntegerFits z → value_of (excess z) ≡ z
value-excess (pos n) f = value-high (2 ^ 31 + n) (omega arith) ∙ ap pos (omega arith)
value-excess (negsuc n) f = value_low (2 ^ 31 - suc n) (omega arith) ∙ ap negsuc (omega arith)

excess-below : (z : ℤ) → IntegerFits z → excess z < 2 ^ 32
excess-below (pos n) f = omega arith
excess-below (negsuc n) f = omega arith

bits_below : (t : Term) → TermFits t → term_bits t < 2 ^ 33
bits_below (integer z) f = let l = excess-below z f in omega arith
bits_below (floating b) f = omega arith

term-pack : (t : Term) → TermFits t → term_of (pack_of (term t)) ≡ t
term-pack (integer z) f =
    let l = excess-below z f in
    let s : sort_of (pack_of (term (integer z))) ≡ 0 = omega arith in
    let b : bits_of (pack_of (term (integer z))) ≡ excess z = omega arith in
    rw (s, b) (ap integer (value-excess z f))
term-pack (floating n) f =
    let s : sort_of (pack_of (term (floating n))) ≡ 1 = omega arith in
    let b : bits_of (pack_of (term (floating n))) ≡ n = omega arith in
    rw (s, b)

pub unpack-pack : (c : Cell) → CellFits c → unpack_of (pack_of c) ≡ c
unpack-pack (free l) f = unpack-free (2 ^ 48 + l) (omega arith) (omega arith) ∙ ap free (omega arith)
unpack-pack (word w) f = unpack-word (pack_of (word w)) (omega arith) ∙ ap word (word-pack w f)
unpack-pack (term t) f = let l = bits_below t f in unpack-term (pack_of (term t)) (omega arith) (omega arith) ∙ ap term (term-pack t f)
unpack-pack process f = unpack-process (3 * 2 ^ 48) (omega arith)

-- a word's number is the sum of its fields
split-32 : (x : ℕ) → x % 2 ^ 32 ≡ symb_of x * 2 ^ 16 + link_of x
split-32 x = omega arith

split-40 : (x : ℕ) → x % 2 ^ 40 ≡ q_of x * 2 ^ 32 + x % 2 ^ 32
split-40 x = omega arith

split-48 : (x : ℕ) → x % 2 ^ 48 ≡ p_of x * 2 ^ 40 + x % 2 ^ 40
split-48 x = omega arith

pub fields-sum : (x : ℕ) → x % 2 ^ 48 ≡ pack_of (word (word_of x))
fields-sum x = omega (arith, split-48 x, split-40 x, split-32 x)

-- a number that holds a cell is the number of that cell
pub pack-unpack : (x : ℕ) → Valid x → pack_of (unpack_of x) ≡ x
pack-unpack x (a_word h) = ap pack_of (unpack-word x h) ∙ sym (fields-sum x) ∙ omega arith
pack-unpack x (a-free g h) = ap pack_of (unpack-free x g (omega arith)) ∙ omega arith
pack-unpack x (a-term g h) = ap pack_of (unpack-term x g (omega arith)) ∙ ap (λ (a : ℕ). 2 * 2 ^ 48 + a) (term-bits x) ∙ omega arith
pack-unpack x (a-process e) = ap pack_of (unpack-process x (omega arith)) ∙ sym e

-- what the makers of numbers answer
pub packs : (c : Cell) {r : ℕ} → CellFits c → r ≡ pack_of c → Packs r c
packs c f e =
    let u = ap unpack_of e ∙ unpack-pack c f in
    record { unpacks = u; formed = ap pack_of u ∙ sym e }

pub packs-word : (p q s l : ℕ) {r : ℕ} → p < 2 ^ 8 → q < 2 ^ 8 → s < 2 ^ 16 → l < 2 ^ 16 → r ≡ p * 2 ^ 40 + q * 2 ^ 32 + s * 2 ^ 16 + l
    → Packs r (word (mk_word p q s l))
packs-word p q s l a b c d e = packs (word (mk_word p q s l)) (record { p = a; q = b; symb = c; link = d }) e

pub packs-term : (x : ℕ) {r : ℕ} → r ≡ 2 * 2 ^ 48 + x % 2 ^ 33 → Packs r (term (term_of x))
packs-term x e = packs (term (term_of x)) (term_fits x) (e ∙ ap (λ (n : ℕ). 2 * 2 ^ 48 + n) (sym (term-bits x)))

pub packs-integer : (a : ℕ) {r : ℕ} → a < 2 ^ 32 → r ≡ 2 * 2 ^ 48 + a → Packs r (term (integer (value_of a)))
packs-integer a h e = packs (term (integer (value_of a))) (value-fits a h) (e ∙ ap (λ (n : ℕ). 2 * 2 ^ 48 + n) (sym (excess-value a)))

-- the LINK of a cell, by the word in it
pub link-in : (x : Cell) (w : ℕ) → word_in x ≡ word_of w → link_in x ≡ link_of w
link-in x w e = go x ∙ ap (λ (v : Word). v.link) e
  where
    go : (x : Cell) → link_in x ≡ (word_in x).link
    go (free l) = refl
    go (word v) = refl
    go (term t) = refl
    go process = refl
