-- What is known of a cell that was met and not refused.
use Rattle.paper.proofs.Kit.{ℕ, ◌<◌, ◌≤◌, ◌≡◌, refl, sym, ap, ◌∙◌, subst, Bool, true, false, List, length, ltb, ltb-true, ltb-false}
use Rattle.paper.specs.Cell.{Cell, free, word, term, process, is_free, is_word, cell_at, State}
use Rattle.paper.specs.Act.{touch, as_word, word_at, named, not_own, peek}
use Rattle.paper.specs.Limits.{deepest}
use Rattle.paper.specs.Walk.{member, meet}
use Rattle.paper.proofs.Safe.{Safe, Any, bind, seq, safe-ret, safe-ret-at, safe-refuse_if}
use Rattle.paper.proofs.SoundStore.{never}
use Rattle.cells.specs.Bridge.{unpacked, cell_in}
use Rattle.cells.proofs.Store.{cell_out}
use Rattle.structures.specs.Walks.{arrives, chains}

-- a cell that is met is in use, and has not been met
pub record Used (s : List ℕ) (c : ℕ) : Type 0 where
  pub inside : c < length s
  pub in_use : is_free (cell_in s c) ≡ false

pub record New (s : List ℕ) (c : ℕ) (seen : List ℕ) : Type 0 where
  pub used : Used s c
  pub unseen : member c seen ≡ false

-- a word is in use
pub word-used : (x : Cell) → is_word x ≡ true → is_free x ≡ false
word-used (word w) e = refl
word-used (free l) e = never _ e refl
word-used (term t) e = refl
word-used process e = refl

module _ (s : List ℕ) (c : ℕ) where
  abbrev Same : State → Type 0
  Same t = t.cells ≡ unpacked s

  used-by : is_free (cell_in s c) ≡ false → Used s c
  used-by f = go (ltb c (length s)) refl
    where
      go : (b : Bool) → ltb c (length s) ≡ b → Used s c
      go true e = record { inside = ltb-true c (length s) e; in_use = f }
      go false e = never _ refl (subst (λ x. is_free x ≡ false) (cell_out s c (ltb-false c (length s) e)) f)

  free-not : (t : State) (x : Cell) → Same t → cell_at t.cells c ≡ x → is_free x ≡ false → Used s c
  unfolding cell_in
  free-not t x e p f = used-by (ap (λ cs. is_free (cell_at cs c)) (sym e) ∙ ap is_free p ∙ f)

  s-peek : Safe Same Any (λ x t. Same t × (cell_at t.cells c ≡ x)) (peek c)
  unfolding peek
  s-peek = record { at = λ s i. ((i, refl), tt) }

  pub s-touch : Safe Same (λ _. Used s c) (λ _. Same) (touch c)
  unfolding touch
  s-touch =
      seq (safe-refuse_if _ _) λ _ _. bind s-peek λ x _. seq (safe-refuse_if _ _) λ _ f. safe-ret-at x (λ t i. (i.0, free-not t x i.0 i.1 f))

  s-meet : Safe Same (λ _. Used s c) (λ _. Same) (meet c)
  unfolding meet
  s-meet = bind s-touch λ x h. seq (safe-refuse_if _ _) λ _ _. safe-ret x h (λ t i. i)

  pub s-arrives : (b : Bool) (d : ℕ) (seen : List ℕ)
      → Safe Same (λ _. New s c seen × (b ≡ false → d ≤ deepest)) (λ _. Same) (arrives b d c seen)
  unfolding arrives
  s-arrives b d seen =
      bind s-meet λ x h. seq (safe-refuse_if _ _) λ _ _. seq (safe-refuse_if _ _) λ _ m. seq (safe-refuse_if _ _) λ _ f.
      safe-ret x (record { used = h; unseen = m }, λ e. ltb-false deepest d (rw e at f)) (λ t i. i)

  s-named : Safe Same (λ _. Used s c) (λ _. Same) (named c)
  unfolding word_at as_word named not_own
  s-named =
      bind (bind s-touch λ x h. seq (safe-refuse_if _ _) λ _ _. safe-ret {P = λ _. Used s c} _ h (λ t i. i)) λ w h.
      seq (safe-refuse_if _ _) λ _ _. safe-ret w h (λ t i. i)

  pub s-chains : (seen : List ℕ) → Safe Same (λ _. New s c seen) (λ _. Same) (chains c seen)
  unfolding chains
  s-chains seen = bind s-named λ w h. seq (safe-refuse_if _ _) λ _ m. safe-ret w (record { used = h; unseen = m }) (λ t i. i)
