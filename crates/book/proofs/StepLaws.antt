-- Laws of the lines that write: what the code stores is what the block makes of the book.
use Rattle.paper.proofs.Kit.{ℕ, ◌*◌, ◌^◌, ◌<◌, ◌≤◌, Bool, true, false, List, ◌≡◌, refl, ap, sym, ◌∙◌, ltb-true, ltb-false, ltb, set, replicate}
use Rattle.paper.proofs.Kit.{set-get_or}
use Rattle.paper.specs.Limits.{many_locals}
use Rattle.paper.specs.Cell.{Region, Cell, free, word, with_link, empty_word, free_link}
use Rattle.paper.specs.Step.{becomes}
use Rattle.paper.specs.Deck.{with_cells, with_local, with_structure, with_waiting, took_first, linked, link_up, put_cell}
use Rattle.cells.specs.Layout.{unpack_of, word_of, link_of}
use Rattle.cells.specs.Pack.{Packs}
use Rattle.cells.specs.Bridge.{unpacked, cell_in}
use Rattle.cells.proofs.Laws.{unpack-word, unpack-free, unpack-term, unpack-process}
use Rattle.cells.proofs.Store.{unpacked-set, formed-set}
use Rattle.steps.specs.Follows.{Follows, Always}
use Rattle.std.specs.Prelude.{Ok}
use Rattle.book.specs.declared.locals.Local.{Local}
use Rattle.book.specs.declared.Notes.{Notes}
use Rattle.book.specs.Kept.{Held, held, book_of, local_of, unmentioned, structure_noted, waiting_noted}
use Rattle.book.specs.Booked.{loading}
use Rattle.book.proofs.Lines.{changes}
use Rattle.book.proofs.KeptLaws.{local-set, local-none}

-- a local is noted
pub notes-local : (n : ℕ) (x : Local) (c : ℕ) (w : Bool) {rs : List Region} {k : Notes} {l l' : List Local} {s : List ℕ} {m : List Bool} → l' ≡ set l n x
    → local_of x ≡ record { cell = c; has_word = w }
    → Follows loading Always 0 (becomes (with_local n c w)) (held rs k l s m) (held rs k l' s m) (Ok tt)
notes-local n x c w {rs} {k} {l} {l'} {s} {m} e f =
    changes (with_local n c w) (held rs k l s m) (held rs k l' s m) (rw (e, local-set l n x, f)) (λ g. g)

-- a structure is opened
pub opens-structure : (c : ℕ) {rs : List Region} {k : Notes} {l l' : List Local} {s : List ℕ} {m m' : List Bool} → l' ≡ replicate many_locals unmentioned
    → m' ≡ set m c true
    → Follows loading Always 0 (becomes (with_structure c)) (held rs k l s m) (held rs (structure_noted k) l' s m') (Ok tt)
opens-structure c {rs} {k} {l} {l'} {s} {m} {m'} e f =
    changes (with_structure c) (held rs k l s m) (held rs (structure_noted k) l' s m') (rw (e, f, local-none many_locals)) (λ g. g)

-- a word has come, and its cell waits or none does
pub waits : (w : ℕ) {h : Held} {k : Notes} → k ≡ waiting_noted h.notes w
    → Follows loading Always 0 (becomes (with_waiting w)) h (held h.regions k h.locals h.numbers h.names) (Ok tt)
waits w {h} {k} e = changes (with_waiting w) h (held h.regions k h.locals h.numbers h.names) (rw e) (λ f. f)

-- a number is stored
pub puts : (c x : ℕ) {y : Cell} {rs : List Region} {k : Notes} {l : List Local} {s s' : List ℕ} {m : List Bool} → s' ≡ set s c x → Packs x y
    → Follows loading Always 0 (put_cell c y) (held rs k l s m) (held rs k l s' m) (Ok tt)
unfolding put_cell
puts c x {y} {rs} {k} {l} {s} {s'} {m} e p =
    changes _ (held rs k l s m) (held rs k l s' m)
    (ap (λ (cs : List Cell). with_cells (book_of (held rs k l s m)) cs) (rw (e, unpacked-set s c x, p.unpacks)))
    (λ h. rw e (formed-set s c x p.formed h))

-- the waiting cell is linked
other-kind : (c x : ℕ) → 2 ^ 48 ≤ x → linked c (unpack_of x) ≡ unpack_of x
other-kind c x h = go (ltb x (2 * 2 ^ 48)) (ltb x (3 * 2 ^ 48)) refl refl
  where
    go : (s t : Bool) → ltb x (2 * 2 ^ 48) ≡ s → ltb x (3 * 2 ^ 48) ≡ t → linked c (unpack_of x) ≡ unpack_of x
    go true t p q = rw (unpack-free x h (ltb-true x (2 * 2 ^ 48) p))
    go false true p q = rw (unpack-term x (ltb-false x (2 * 2 ^ 48) p) (ltb-true x (3 * 2 ^ 48) q))
    go false false p q = rw (unpack-process x (ltb-false x (3 * 2 ^ 48) q))

module _ {rs : List Region} {k : Notes} {l : List Local} {m : List Bool} where
  pub links : (w c x y : ℕ) {s s' : List ℕ} → s' ≡ set s w y → cell_in s w ≡ unpack_of x → x < 2 ^ 48 → Packs y (word (with_link (word_of x) c))
      → Follows loading Always 0 (link_up w c) (held rs k l s m) (held rs k l s' m) (Ok tt)
  unfolding link_up cell_in
  links w c x y {s} {s'} e g h p =
      changes _ (held rs k l s m) (held rs k l s' m)
      (ap (λ (cs : List Cell). with_cells (book_of (held rs k l s m)) cs) (rw (g, unpack-word x h, e, unpacked-set s w y, p.unpacks)))
      (λ f. rw e (formed-set s w y p.formed f))

  pub links-not : (w c x : ℕ) {s : List ℕ} → cell_in s w ≡ unpack_of x → 2 ^ 48 ≤ x
      → Follows loading Always 0 (link_up w c) (held rs k l s m) (held rs k l s m) (Ok tt)
  unfolding link_up cell_in
  links-not w c x {s} g h =
      changes _ (held rs k l s m) (held rs k l s m)
      (ap (λ (cs : List Cell). with_cells (book_of (held rs k l s m)) cs)
      (ap (λ (z : Cell). set (unpacked s) w (linked c z)) g
      ∙ ap (set (unpacked s) w) (other-kind c x h ∙ sym g)
      ∙ set-get_or (unpacked s) w (free 0)))
      (λ f. f)

-- a cell is taken
empty-is : unpack_of 0x400000000 ≡ word (empty_word 0)
unfolding unpack_of
empty-is = refl

module _ {rs : List Region} {k : Notes} {l : List Local} {m : List Bool} where
  pub takes : (x y z n : ℕ) {s s₁ s₂ : List ℕ} → s₁ ≡ set s 3 y → s₂ ≡ set s₁ (link_of x) 0x400000000 → Packs y (word (with_link (word_of x) n))
      → cell_in s (link_of x) ≡ unpack_of z → free_link (unpack_of z) ≡ n
      → Follows loading Always 0 (becomes (λ b. with_cells b (took_first b.cells (word_of x)))) (held rs k l s m) (held rs k l s₂ m) (Ok tt)
  unfolding cell_in unpack_of
  takes x y z n {s} {s₁} {s₂} one two p g f =
      changes _ (held rs k l s m) (held rs k l s₂ m)
      (ap (λ (cs : List Cell). with_cells (book_of (held rs k l s m)) cs)
      (rw (g, f, two, unpacked-set s₁ (link_of x) 0x400000000, one, unpacked-set s 3 y, p.unpacks, empty-is)))
      (λ h. rw (two, one) (formed-set (set s 3 y) (link_of x) 0x400000000 refl (formed-set s 3 y p.formed h)))
