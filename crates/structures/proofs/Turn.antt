-- What the blocks say of one turn: of a walk, of a list that is named, of a chain.
use Rattle.paper.proofs.Kit.{◌||◌, ℕ, suc, ◌+◌, ◌≡◌, refl, sym, ap, ◌∙◌, subst, Bool, true, false, cond, not, List, [], ◌∷◌, arith, add-one}
use Rattle.paper.proofs.Kit.{length, ltb, eqb, eq-eqb, ne_eqb, lt-ltb, le-ltb}
use Rattle.std.specs.Prelude.{Result, Ok, Err}
use Rattle.paper.specs.declared.Refusal.{Refusal}
use Rattle.paper.specs.Limits.{first_deck, deepest}
use Rattle.paper.specs.Cell.{Word, Cell, free, word, term, process, is_word, is_term, word_in, link_in, is_hwj}
use Rattle.paper.specs.Act.{Act, ◌>>=◌, ◌>>◌, ret, refuse_if, if_then, touch, as_word, word_at, named, not_own}
use Rattle.paper.specs.declared.Refusal.TheVariants.{WrongKind, BadWalk}
use Rattle.paper.specs.Walk.{Trail, member, list_named, meet, onward, enter, follow, chain, chain_back}
use Rattle.cells.specs.Layout.{word_of, q_of, symb_of}
use Rattle.cells.specs.Bridge.{cell_in}
use Rattle.steps.specs.Follows.{seen_as}
use Rattle.steps.proofs.Steps.{bind-bind}
use Rattle.steps.proofs.Sequence.{bind, bind_err, test, sees, alike, yes, else, give, give-as, judged-no}
use Rattle.undo.specs.Did.{Always}
use Rattle.undo.proofs.Leaves.{peeked}
use Rattle.structures.specs.Marks.{back, Marked}
use Rattle.structures.specs.Walks.{Gets, Fine, FineLink, trail, Visits, arrives, chains, list_of, sublist}
use Rattle.structures.proofs.Leads.{known, sized_on}
use Rattle.structures.proofs.Meeting.{New, word-used, s-touch}

-- the list that a cell names, and its LINK, by the word in it
pub list-in : (x : Cell) (w : ℕ) → word_in x ≡ word_of w → list_of w ≡ list_named x
list-in x w e = ap (λ (v : Word). cond (eqb v.q 2) v.symb 0) (sym e) ∙ go x
  where
    go : (x : Cell) → cond (eqb (word_in x).q 2) (word_in x).symb 0 ≡ list_named x
    go (free l) = refl
    go (word v) = refl
    go (term t) = refl
    go process = refl

pub list-none : (w : ℕ) → (q_of w ≡ 2 → ⊥) → list_of w ≡ 0
list-none w h = ap (λ b. cond b (symb_of w) 0) (ne_eqb (q_of w) 2 h)

pub list-is : (w : ℕ) → q_of w ≡ 2 → list_of w ≡ symb_of w
list-is w h = ap (λ b. cond b (symb_of w) 0) (eq-eqb (q_of w) 2 h)

-- one turn: `follow` by a LINK, `enter` at a head
abbrev pub step : Bool → ℕ → ℕ → ℕ → Trail → Act Trail
step true f d c t = follow f d c t
step false f d c t = enter f d c t

abbrev adds : Bool → ℕ → Trail → Trail
adds linked c t = trail (c ∷ t.met) (cond linked t.entered (c ∷ t.entered))

-- three tests and then a value, handed on
module _ {A B : Type 0} (x : A) (g : A → Act B) where
  tested : (a b d : Bool) (e f h : Refusal)
      → (refuse_if a e >> (refuse_if b f >> (refuse_if d h >> ret x)) >>= g) ≡ (refuse_if a e >> (refuse_if b f >> (refuse_if d h >> g x)))
  unfolding ◌>>=◌ ◌>>◌ ret refuse_if
  tested true b d e f h = refl
  tested false true d e f h = refl
  tested false false true e f h = refl
  tested false false false e f h = refl

-- a cell that passes all checks
pub arrives-fine : (s marks : List ℕ) (b : Bool) (d c : ℕ) {x : Cell} → cell_in s c ≡ x → Fine marks b d c x → (seen : List ℕ) → Marked marks seen
    → Gets Always (arrives b d c seen) s (Ok x)
unfolding arrives meet touch
arrives-fine s marks b d c {x} p f seen m =
    let h = f.high in
    let z : eqb c 0 ≡ false = ne_eqb c 0 (λ e. omega arith) in
    let j : is_hwj c ≡ false = rw (lt-ltb 0 c (omega arith), le-ltb c first_deck h) in
    let n : member c seen ≡ false = sym (m.is c) ∙ ap (λ k. not (eqb k 0)) f.unmarked in
    bind _ (bind _ (test (judged-no _ _ z) (sees _ (peeked s c p) (test (judged-no _ _ f.in_use) give))) (test (judged-no _ _ j) give))
    (test (judged-no _ _ f.kind) (test (judged-no _ _ n) (test (judged-no _ _ f.shallow) give)))

pub chains-fine : (s marks : List ℕ) (c : ℕ) {x : Cell} {w : Word} → cell_in s c ≡ x → word_in x ≡ w → FineLink marks c x → (seen : List ℕ)
    → Marked marks seen → Gets Always (chains c seen) s (Ok w)
unfolding chains named word_at as_word touch not_own
chains-fine s marks c {x} p q f seen m =
    let h = f.high in
    let z : eqb c 0 ≡ false = ne_eqb c 0 (λ e. omega arith) in
    let o : (eqb c 2 || eqb c 3) ≡ false = rw (ne_eqb c 2 (λ e. omega arith), ne_eqb c 3 (λ e. omega arith)) in
    let n : member c seen ≡ false = sym (m.is c) ∙ ap (λ k. not (eqb k 0)) f.unmarked in
    bind _
    (bind _
    (bind _ (test (judged-no _ _ z) (sees _ (peeked s c p) (test (judged-no _ _ (word-used x f.kind)) give)))
    (test (judged-no _ _ (ap not f.kind)) (give-as q)))
    (test (judged-no _ _ o) give))
    (test (judged-no _ _ n) give)

-- the checks of the cell that comes next, and then onward from it
abbrev goes : ℕ → ℕ → ℕ → Trail → Cell → Act Trail
goes k d c t x = onward (λ d k' u. enter k d k' u) (λ d k' u. follow k d k' u) d x t

step_is : (b : Bool) (k d c : ℕ) (t : Trail) → (arrives b d c t.met >>= goes k d c (adds b c t)) ≡ step b (suc k) d c t
unfolding arrives enter follow ◌>>=◌ ◌>>◌ refuse_if
step_is true k d c t =
    let g = goes k d c (adds true c t) in
    bind-bind g (meet c) _
    ∙ ap (λ (h : Cell → Act Trail). meet c >>= h)
    (λ i x. tested x g (not (is_word x)) (member c t.met) false (WrongKind c) (BadWalk c) (BadWalk c) i)
step_is false k d c t =
    let g = goes k d c (adds false c t) in
    bind-bind g (meet c) _
    ∙ ap (λ (h : Cell → Act Trail). meet c >>= h)
    (λ i x. tested x g false (member c t.met) (ltb deepest d) (WrongKind c) (BadWalk c) (BadWalk c) i)

-- what the block says of the turn
module _ {s : List ℕ} (d : ℕ) (b : Bool) (c : ℕ) (seen : List ℕ) (k : ℕ) where
  turn : (heads : List ℕ) {r : Result Trail Refusal} → Gets Always (arrives b d c seen >>= goes k d c (adds b c (trail seen heads))) s r
      → Gets Always (step b (suc k) d c (trail seen heads)) s r
  turn heads w = alike (step_is b k d c (trail seen heads)) w

  pub meet-refused : {e : Refusal} → Gets Always (arrives b d c seen) s (Err e) → Visits (step b (suc k) d c) s seen (Err e)
  meet-refused m = record { is = λ heads. (heads, turn heads (bind_err _ m)) }

  module _ {x : Cell} (m : Gets Always (arrives b d c seen) s (Ok x)) where
    abbrev heads-after : List ℕ → List ℕ
    heads-after heads = (adds b c (trail seen heads)).entered

    pub inner-refused : {e : Refusal} → Visits (sublist d (list_named x) k) s (c ∷ seen) (Err e) → Visits (step b (suc k) d c) s seen (Err e)
    unfolding onward sublist
    inner-refused i = record { is = λ heads. (heads, turn heads (bind _ m (bind_err _ (i.is (heads-after heads)).1))) }

    module _ {l : ℕ} (e : link_in x ≡ l) where
      pub walk_end : {v : List ℕ} → Visits (sublist d (list_named x) k) s (c ∷ seen) (Ok v) → l ≡ 0 → Visits (step b (suc k) d c) s seen (Ok v)
      unfolding onward sublist
      walk_end i q = record {
        is = λ heads.
            let (h, w) = i.is (heads-after heads) in
            (h, turn heads (bind _ m (bind _ w (yes _ (eq-eqb (link_in x) 0 (e ∙ q)) give))));
      }

      pub walk-on : {u : List ℕ} {r : Result (List ℕ) Refusal} → Visits (sublist d (list_named x) k) s (c ∷ seen) (Ok u) → (l ≡ 0 → ⊥)
          → Visits (step true k d l) s u r → Visits (step b (suc k) d c) s seen r
      unfolding onward sublist
      walk-on {u} {r} i q f = record {
        is = λ heads.
            let (h, w) = i.is (heads-after heads) in
            let (h', w') = f.is h in (
              h',
              turn heads (bind _ m (bind _ w (else _ (ne_eqb (link_in x) 0 (λ z. q (sym e ∙ z)))
                  (subst (λ j. Gets Always (follow k d j (trail u h)) s (seen_as (λ met. trail met h') r)) (sym e) w')))),
            );
      }

-- and of a list that is named
module _ {s : List ℕ} (d c : ℕ) (seen : List ℕ) (k : ℕ) where
  pub sublist-none : c ≡ 0 → Visits (sublist d c k) s seen (Ok seen)
  unfolding sublist
  sublist-none e = record { is = λ heads. (heads, yes _ (eq-eqb c 0 e) give) }

  pub sublist-in : {r : Result (List ℕ) Refusal} → (c ≡ 0 → ⊥) → Visits (enter k (d + 1) c) s seen r → Visits (sublist d c k) s seen r
  unfolding sublist
  sublist-in {r} e w = record {
    is = λ heads.
        let (h, f) = w.is heads in
        (h, else _ (ne_eqb c 0 e) (subst (λ j. Gets Always (enter k j c (trail seen heads)) s (seen_as (λ met. trail met h) r)) (add-one d) f));
  }

  pub sublist-as : {c' : ℕ} {seen' : List ℕ} {r : Result (List ℕ) Refusal} → c' ≡ c → seen' ≡ seen → Visits (sublist d c' k) s seen' r
      → Visits (sublist d c k) s seen r
  sublist-as {c'} {seen'} {r} p q w =
      subst (λ j. Visits (sublist d j k) s seen r) p (subst (λ t. Visits (sublist d c' k) s t r) q w)

-- and of a turn of a chain
module _ (c : ℕ) (seen : List ℕ) (k : ℕ) where
  abbrev onward-from : Word → Act (List ℕ)
  onward-from w = if_then (eqb w.link 0) (ret (c ∷ seen)) (chain k w.link (c ∷ seen))

  chain-turn : {s : List ℕ} {r : Result (List ℕ) Refusal} → Gets Always (chains c seen >>= onward-from) s r → Gets Always (chain (suc k) c seen) s r
  unfolding chains chain ◌>>=◌ ◌>>◌ ret refuse_if
  chain-turn d =
      alike (bind-bind onward-from (named c) _
      ∙ ap (λ (h : Word → Act (List ℕ)). named c >>= h) (λ i x. tested x onward-from (member c seen) false false (BadWalk c) (BadWalk c) (BadWalk c) i)) d

  pub chain-refused : {s : List ℕ} {e : Refusal} → Gets Always (chains c seen) s (Err e) → Gets Always (chain (suc k) c seen) s (Err e)
  chain-refused m = chain-turn (bind_err _ m)

  module _ {s : List ℕ} {w : Word} (m : Gets Always (chains c seen) s (Ok w)) where
    pub chain-end : w.link ≡ 0 → Gets Always (chain (suc k) c seen) s (Ok (c ∷ seen))
    chain-end e = chain-turn (bind _ m (yes _ (eq-eqb w.link 0 e) give))

    pub chain-on : {r : Result (List ℕ) Refusal} → (w.link ≡ 0 → ⊥) → Gets Always (chain k w.link (c ∷ seen)) s r → Gets Always (chain (suc k) c seen) s r
    chain-on e d = chain-turn (bind _ m (else _ (ne_eqb w.link 0 e) d))

-- J71's chain, by its first cell
module _ {s : List ℕ} (c : ℕ) where
  pub chain-not : {e : Refusal} → Gets Always (touch c) s (Err e) → Gets Always (chain_back c) s (Err e)
  unfolding chain_back
  chain-not m = bind_err _ m

  module _ {x : Cell} (m : Gets Always (touch c) s (Ok x)) where
    pub chain-new : (order : List ℕ) → New s c (back 0 order)
    unfolding member
    chain-new order = record { used = known _ _ _ _ _ (s-touch _ _) m; unseen = refl }

    pub chain-one : {v : List ℕ} → is_term x ≡ true → c ∷ [] ≡ v → Gets Always (chain_back c) s (Ok v)
    unfolding chain_back
    chain-one e q = bind _ m (yes _ e (give-as q))

    pub chain-long : {r : Result (List ℕ) Refusal} → is_term x ≡ false → Gets Always (chain (suc (length s)) c []) s r → Gets Always (chain_back c) s r
    unfolding chain_back
    chain-long e d = bind _ m (else _ e (sized_on _ d))
