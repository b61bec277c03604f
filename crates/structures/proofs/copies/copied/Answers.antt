use Rattle.paper.proofs.Kit.{ℕ, List, ◌≡◌, sym, ap, ◌∙◌, subst}
use Rattle.paper.specs.Cell.{Cell, word, mk_word}
use Rattle.paper.specs.Walk.{copied}
use Rattle.cells.specs.declared.Cell.{Cell as CodeCell}
use Rattle.cells.specs.Pack.{Packs, cell_of}
use Rattle.structures.specs.Copies.{new_of}
use Rattle.structures.proofs.copies.copied.Goals as goal

word-as : (p q : ℕ) {s s' l l' : ℕ} → s ≡ s' → l ≡ l' → word (mk_word p q s l) ≡ word (mk_word p q s' l')
word-as p q e f = λ i. word (mk_word p q (e i) (f i))

-- the cell taken apart is the one to be copied
copy-as : (marks : List ℕ) {r : ℕ} {y z : CodeCell} {x : Cell} → y ≡ z → cell_of y ≡ x → Packs r (copied (new_of marks) (cell_of z))
    → Packs r (copied (new_of marks) x)
copy-as marks {r} p e d = subst (λ c. Packs r (copied (new_of marks) c)) (sym (ap cell_of p) ∙ e) d

pub returns-in-Word : goal.returns-in-Word
unfolding copied
returns-in-Word c =
    let w = c.in-Word.w in
    let e = word-as w.p w.q c.new_symb.ensures c.mark_at.ensures in
    copy-as c.args.marks.now c.in-Word.is c.unpack-c.ensures (subst (Packs _) e c.of_fields.ensures)

pub returns-in-Free : goal.returns-in-Free
unfolding copied
returns-in-Free c =
    copy-as c.args.marks.now c.in-Free.is c.unpack-c.ensures c.of_free.ensures

pub returns-in-Term : goal.returns-in-Term
unfolding copied
returns-in-Term c =
    copy-as c.args.marks.now c.in-Term.is c.unpack-c.ensures c.of_term.ensures

pub returns-in-Process : goal.returns-in-Process
unfolding copied
returns-in-Process c =
    copy-as c.args.marks.now c.in-Process.is c.unpack-c.ensures c.of_process.ensures
