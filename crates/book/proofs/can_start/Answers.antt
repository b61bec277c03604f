use Rattle.paper.proofs.Kit.{ℕ, List, true, false, rules, ap, sym, ◌∙◌, ◌≡◌}
use Rattle.std.proofs.Common.{tests}
use Rattle.paper.specs.Region.{is_j}
use Rattle.paper.specs.declared.Symbol.{Symbol}
use Rattle.paper.specs.Cell.{Cell, Word, word_in, symbol_of, H}
use Rattle.cells.specs.Layout.{unpack_of, word_of}
use Rattle.cells.specs.Bridge.{cell_in}
use Rattle.book.proofs.StartLaws.{of-process, of-cell}
use Rattle.book.proofs.can_start.Goals as goal

start_is : (s : List ℕ) (x w : ℕ) (y : Symbol) → cell_in s (H 1) ≡ unpack_of x → word_in (unpack_of x) ≡ word_of w → y ≡ symbol_of (word_of w)
    → (word_in (cell_in s (H 1))).symb ≡ y.num
start_is s x w y p q r = ap (λ (z : Cell). (word_in z).symb) p ∙ ap (λ (v : Word). v.symb) q ∙ sym (ap (λ (z : Symbol). z.num) r)

pub returns-in-21-to-220 : goal.returns-in-21-to-220
returns-in-21-to-220 c =
    let j : is_j c.symbol-start.result.num ≡ true = search (tests, rules) in
    λ rs k l. c.is_listed.ensures ∙ of-process _ _ _ (start_is _ _ _ _ c.peek.ensures c.word_in.ensures c.symbol-start.ensures) rs k l j

pub returns-in_default : goal.returns-in_default
returns-in_default c =
    let j : is_j c.symbol-start.result.num ≡ false = search (tests, rules) in
    λ rs k l. c.named.ensures ∙ of-cell _ _ _ (start_is _ _ _ _ c.peek.ensures c.word_in.ensures c.symbol-start.ensures) rs k l j
