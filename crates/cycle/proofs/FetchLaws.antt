-- What is fetched, by the kind of the cell; and a refusal with nothing to be done beside it.
use Rattle.paper.proofs.Kit.{ℕ, ◌≡◌, refl, sym, ap, ◌∙◌, ◌≢◌, Bool, true, false, List}
use Rattle.std.specs.Prelude.{Result, Ok, Err}
use Rattle.paper.specs.declared.Refusal.{Refusal}
use Rattle.paper.specs.declared.Refusal.TheVariants.{WrongKind}
use Rattle.paper.specs.declared.Symbol.{Symbol}
use Rattle.paper.specs.Cell.{Cell, Word, free, word, term, process, is_free, is_word, is_term, is_process, word_in, regional}
use Rattle.paper.proofs.SoundStore.{never}
use Rattle.cells.specs.Bridge.{Rest, cell_in}
use Rattle.steps.specs.Follows.{Follows}
use Rattle.steps.proofs.Sequence.{test, test_err, yes, else, give-as, alike}
use Rattle.undo.specs.Did.{reading}
use Rattle.undo.proofs.Auto.{t-fails, t-passes}
use Rattle.acts.proofs.Used.{r-used, r-word}
use Rattle.cycle.specs.Order.{Order, order, order_in, fetch}

word-is : (x : Cell) → is_word x ≡ true → (is_term x ≡ false) × (is_process x ≡ false)
word-is (free l) h = never _ h refl
word-is (word w) h = (refl, refl)
word-is (term t) h = never _ h refl
word-is process h = never _ h refl

process-is : (x : Cell) → is_process x ≡ true → is_term x ≡ false
process-is (free l) h = refl
process-is (word w) h = refl
process-is (term t) h = never _ h refl
process-is process h = refl

term-left : (x : Cell) → is_word x ≡ false → is_free x ≡ false → is_process x ≡ false → is_term x ≡ true
term-left (free l) h f p = never _ refl f
term-left (word w) h f p = never _ refl h
term-left (term t) h f p = refl
term-left process h f p = never _ refl p

-- the tests of the code: w for a word, f for a free cell, p for a process
module _ {K : Rest → Type 0} {s : List ℕ} (c : ℕ) (x : Cell) (is : cell_in s c ≡ x) (some-cell : c ≢ 0) where
  pub by_word : {w : Bool} {v : Word} {r : Result Order Refusal} → w ≡ is_word x → w ≡ true → word_in x ≡ v
      → Follows reading K 0 (order_in c v) s s r → Follows reading K 0 (fetch c) s s r
  unfolding fetch
  by_word e h v d =
      let k = word-is x (sym e ∙ h) in
      r-word c _ x _ is some-cell e h (test (t-passes (WrongKind c) (is_term x) k.0) (else _ k.1 (alike (ap (order_in c) (sym v)) d)))

  module _ {f p : Bool} (f-is : f ≡ is_free x) (used : f ≡ false) (p-is : p ≡ is_process x) where
    pub by-process : {y : Symbol} → p ≡ true → y ≡ regional c → Follows reading K 0 (fetch c) s s (Ok (order 0 y 0))
    unfolding fetch
    by-process h y =
        let k = sym p-is ∙ h in
        r-used c _ x _ is some-cell f-is used
        (test (t-passes (WrongKind c) (is_term x) (process-is x k)) (yes _ k (give-as (ap (λ z. order 0 z 0) (sym y)))))

    pub by-term : {w : Bool} → w ≡ is_word x → w ≡ false → p ≡ false → Follows reading K 0 (fetch c) s s (Err (WrongKind c))
    unfolding fetch
    by-term w-is h k =
        let i = term-left x (sym w-is ∙ h) (sym f-is ∙ used) (sym p-is ∙ k) in
        r-used c _ x _ is some-cell f-is used (test_err _ (t-fails (WrongKind c) (is_term x) i))
