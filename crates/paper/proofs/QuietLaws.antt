-- What does not print: it leaves the lines and the room, and is refused neither by 28 nor by 30. The small actions, walk, chain, erase and copy.
use Rattle.paper.proofs.Kit.{◌≡◌, refl, ◌∙◌, Bool, true, false, List, [], ◌∷◌, ℕ, zero, suc, length}
use Rattle.paper.specs.Step.{Res, done, refused, ◌>>=◌, ◌>>◌, ret, refuse, refuse_if, if_then, asks}
use Rattle.paper.specs.Cell.{Symbol, Word, Cell, State}
use Rattle.paper.specs.Act.{Act, Refusal, CellZero, FreeCell, WrongKind, NotToBeFreed, NothingBelow, NoFreeCell, OwnCell, NotListed, OutOfRange, NoRoom}
use Rattle.paper.specs.Act.{BadWalk, peek, put, reserved, name_of, own, sized, touch, target, as_word, as_term, word_at, word_to, term_at, term_to, not_own}
use Rattle.paper.specs.Act.{named, read_at, take_as, release, link_below, preserve, has_below, pull_up, restore, store, own_preserve, own_restore, own_store}
use Rattle.paper.specs.Act.{push, pop, below, pops, gives}
use Rattle.paper.specs.Walk.{Trail, no_trail, meet, onward, enter, follow, walk_of, walk_back, chain, chain_back, none_reserved, release_all, erase_back}
use Rattle.paper.specs.Walk.{erase, take_all, copy_all, copy}

-- a refusal that is neither 28 nor 30
abbrev pub Other : Refusal → Type 0
Other CellZero = Unit {0}
Other (FreeCell c) = Unit {0}
Other (WrongKind c) = Unit {0}
Other (NotToBeFreed c) = Unit {0}
Other (NothingBelow c) = Unit {0}
Other NoFreeCell = Unit {0}
Other (OwnCell c) = Unit {0}
Other (NotListed c) = ⊥
Other (OutOfRange c) = Unit {0}
Other NoRoom = ⊥
Other (BadWalk c) = Unit {0}

-- the lines and the room of t are those of s
pub record Same (s t : State) : Type 0 where
  pub lines : t.lines ≡ s.lines
  pub room : t.room ≡ s.room

abbrev pub Still : {A : Type 0} → State → Res State Refusal A → Type 0
Still s (done a t) = Same s t
Still s (refused e) = Other e

pub record Quiet {A : Type 0} (m : Act A) : Type 0 where
  pub at : (s : State) → Still s (m s)

pub as_it_was : (s : State) → Same s s
as_it_was s = record { lines = refl; room = refl }

still_after : {A : Type 0} {s t : State} → Same s t → (r : Res State Refusal A) → Still t r → Still s r
still_after p (done a u) q = record { lines = q.lines ∙ p.lines; room = q.room ∙ p.room }
still_after p (refused e) q = q

pub q-ret : {A : Type 0} (a : A) → Quiet (ret a)
unfolding ret
q-ret a = record { at = λ s. as_it_was s }

pub q-refuse : {A : Type 0} (e : Refusal) → Other e → Quiet {A = A} (refuse e)
unfolding refuse
q-refuse e h = record { at = λ s. h }

pub q-check : (b : Bool) (e : Refusal) → Other e → Quiet (refuse_if b e)
unfolding refuse_if
q-check true e h = record { at = λ s. h }
q-check false e h = record { at = λ s. as_it_was s }

q-asks : {A : Type 0} (f : State → A) → Quiet (asks f)
unfolding asks
q-asks f = record { at = λ s. as_it_was s }

pub q-if : {A : Type 0} (b : Bool) {m n : Act A} → Quiet m → Quiet n → Quiet (if_then b m n)
unfolding if_then
q-if true h k = record { at = λ s. h.at s }
q-if false h k = record { at = λ s. k.at s }

pub q-bind : {A B : Type 0} {m : Act A} {f : A → Act B} → Quiet m → ((a : A) → Quiet (f a)) → Quiet (m >>= f)
unfolding ◌>>=◌
q-bind {A} {B} {m} {f} h k = record { at = λ s. go s (m s) (h.at s) }
  where
    go : (s : State) (r : Res State Refusal A) → Still s r → Still {A = B} s (elim r as (λ _. Res State Refusal B) [ done a t ↦ f a t | refused e ↦ refused e ])
    go s (done a t) p = still_after p (f a t) ((k a).at t)
    go s (refused e) p = p

pub q-seq : {A B : Type 0} {m : Act A} {n : Act B} → Quiet m → Quiet n → Quiet (m >> n)
unfolding ◌>>◌
q-seq {A} {B} {m} {n} h k = record { at = λ s. go s (m s) (h.at s) }
  where
    go : (s : State) (r : Res State Refusal A) → Still s r → Still {A = B} s (elim r as (λ _. Res State Refusal B) [ done a t ↦ n t | refused e ↦ refused e ])
    go s (done a t) p = still_after p (n t) (k.at t)
    go s (refused e) p = p

q-sized : {A : Type 0} (f : ℕ → Act A) → ((n : ℕ) → Quiet (f n)) → Quiet (sized f)
unfolding sized
q-sized f h = record { at = λ s. (h (length s.cells)).at s }

-- the small actions
pub q-peek : (c : ℕ) → Quiet (peek c)
unfolding peek
q-peek c = record { at = λ s. as_it_was s }

pub q-put : (c : ℕ) (x : Cell) → Quiet (put c x)
unfolding put
q-put c x = record { at = λ s. record { lines = refl; room = refl } }

pub q-reserved : (c : ℕ) → Quiet (reserved c)
unfolding reserved
q-reserved c = record { at = λ s. as_it_was s }

pub q-name_of : (c : ℕ) → Quiet (name_of c)
unfolding name_of
q-name_of c = record { at = λ s. as_it_was s }

pub q-own : (c : ℕ) → Quiet (own c)
unfolding own
q-own c = record { at = λ s. as_it_was s }

pub q-touch : (c : ℕ) → Quiet (touch c)
unfolding touch
q-touch c = q-seq (q-check _ _ tt) (q-bind (q-peek c) λ x. q-seq (q-check _ _ tt) (q-ret x))

pub q-target : (c : ℕ) → Quiet (target c)
unfolding target
q-target c = q-bind (q-touch c) λ x. q-seq (q-check _ _ tt) (q-ret x)

q-as_word : (c : ℕ) (x : Cell) → Quiet (as_word c x)
unfolding as_word
q-as_word c x = q-seq (q-check _ _ tt) (q-ret _)

q-as_term : (c : ℕ) (x : Cell) → Quiet (as_term c x)
unfolding as_term
q-as_term c x = q-seq (q-check _ _ tt) (q-ret _)

pub q-word_at : (c : ℕ) → Quiet (word_at c)
unfolding word_at
q-word_at c = q-bind (q-touch c) (q-as_word c)

pub q-word_to : (c : ℕ) → Quiet (word_to c)
unfolding word_to
q-word_to c = q-bind (q-target c) (q-as_word c)

pub q-term_at : (c : ℕ) → Quiet (term_at c)
unfolding term_at
q-term_at c = q-bind (q-touch c) (q-as_term c)

pub q-term_to : (c : ℕ) → Quiet (term_to c)
unfolding term_to
q-term_to c = q-bind (q-target c) (q-as_term c)

pub q-not_own : (c : ℕ) → Quiet (not_own c)
unfolding not_own
q-not_own c = q-check _ _ tt

pub q-named : (c : ℕ) → Quiet (named c)
unfolding named
q-named c = q-bind (q-word_at c) λ w. q-seq (q-not_own c) (q-ret w)

pub q-read_at : (c : ℕ) → Quiet (read_at c)
unfolding read_at
q-read_at c = q-bind (q-word_at c) λ w. q-seq (q-check _ _ tt) (q-seq (q-not_own c) (q-ret w))

pub q-take_as : (y : Cell) → Quiet (take_as y)
unfolding take_as
q-take_as y = q-bind (q-own _) λ h. q-seq (q-check _ _ tt) (q-bind (q-peek _) λ x. q-seq (q-put _ _) (q-seq (q-put _ _) (q-ret _)))

pub q-release : (c : ℕ) → Quiet (release c)
unfolding release
q-release c = q-bind (q-own _) λ h. q-seq (q-put _ _) (q-put _ _)

pub q-link_below : (c : ℕ) (w : Word) (v : Word) → Quiet (link_below c w v)
unfolding link_below
q-link_below c w v = q-bind (q-take_as _) λ n. q-put _ _

pub q-preserve : (c : ℕ) → Quiet (preserve c)
unfolding preserve
q-preserve c = q-bind (q-word_to c) λ w. q-seq (q-not_own c) (q-link_below c w w)

q-has_below : (c : ℕ) (w : Word) → Quiet (has_below c w)
unfolding has_below
q-has_below c w = q-seq (q-check _ _ tt) (q-check _ _ tt)

pub q-pull_up : (c : ℕ) (b : ℕ) → Quiet (pull_up c b)
unfolding pull_up
q-pull_up c b = q-bind (q-word_at b) λ v. q-seq (q-check _ _ tt) (q-bind (q-reserved b) λ r. q-seq (q-check _ _ tt) (q-seq (q-put _ _) (q-release b)))

pub q-restore : (c : ℕ) → Quiet (restore c)
unfolding restore
q-restore c = q-bind (q-word_to c) λ w. q-seq (q-has_below c w) (q-seq (q-not_own c) (q-pull_up c _))

pub q-store : (c : ℕ) (x : Symbol) → Quiet (store c x)
unfolding store
q-store c x = q-bind (q-word_to c) λ w. q-seq (q-not_own c) (q-put _ _)

pub q-own_preserve : (c : ℕ) → Quiet (own_preserve c)
unfolding own_preserve
q-own_preserve c = q-bind (q-own c) λ w. q-link_below c w w

pub q-own_restore : (c : ℕ) → Quiet (own_restore c)
unfolding own_restore
q-own_restore c = q-bind (q-own c) λ w. q-seq (q-has_below c w) (q-pull_up c _)

pub q-own_store : (c : ℕ) (x : Symbol) → Quiet (own_store c x)
unfolding own_store
q-own_store c x = q-bind (q-own c) λ w. q-put _ _

pub q-push : (x : Symbol) → Quiet (push x)
unfolding push
q-push x = q-seq (q-own_preserve _) (q-own_store _ x)

pub q_pop : Quiet pop
unfolding pop
q_pop = q-own_restore _

pub q-below : (c : ℕ) (w : Word) → Quiet (below c w)
unfolding below
q-below c w = q-seq (q-check _ _ tt) (q-read_at _)

pub q-pops : (n : ℕ) → Quiet (pops n)
unfolding pops
q-pops zero = q-ret _
q-pops (suc n) = q-seq q_pop (q-pops n)

pub q-gives : (n : ℕ) (x : Symbol) → Quiet (gives n x)
unfolding gives
q-gives n x = q-seq (q-pops n) (q-push x)

-- the walk, the chain, erase and copy
q-meet : (c : ℕ) → Quiet (meet c)
unfolding meet
q-meet c = q-bind (q-touch c) λ x. q-seq (q-check _ _ tt) (q-ret x)

q-onward : (e f : ℕ → ℕ → Trail → Act Trail) → ((d c : ℕ) (t : Trail) → Quiet (e d c t)) → ((d c : ℕ) (t : Trail) → Quiet (f d c t))
    → (d : ℕ) (x : Cell) (t : Trail) → Quiet (onward e f d x t)
unfolding onward
q-onward e f h k d x t = q-bind (q-if _ (q-ret t) (h _ _ t)) λ u. q-if _ (q-ret u) (k _ _ u)

mutual
  unfolding enter follow

  q-enter : (n d c : ℕ) (t : Trail) → Quiet (enter n d c t)
  q-enter zero d c t = q-refuse _ tt
  q-enter (suc n) d c t = q-bind (q-meet c) λ x. q-seq (q-check _ _ tt) (q-seq (q-check _ _ tt)
      (q-onward _ _ (λ d k u. q-enter n d k u) (λ d k u. q-follow n d k u) d x _))

  q-follow : (n d c : ℕ) (t : Trail) → Quiet (follow n d c t)
  q-follow zero d c t = q-refuse _ tt
  q-follow (suc n) d c t = q-bind (q-meet c) λ x. q-seq (q-check _ _ tt) (q-seq (q-check _ _ tt)
      (q-onward _ _ (λ d k u. q-enter n d k u) (λ d k u. q-follow n d k u) d x _))

q-walk_back : (c : ℕ) → Quiet (walk_back c)
unfolding walk_back walk_of
q-walk_back c = q-bind (q-sized _ λ n. q-enter (suc n) 1 c no_trail) λ t. q-ret _

q-chain : (n c : ℕ) (seen : List ℕ) → Quiet (chain n c seen)
unfolding chain
q-chain zero c seen = q-refuse _ tt
q-chain (suc n) c seen = q-bind (q-named c) λ w. q-seq (q-check _ _ tt) (q-if _ (q-ret _) (q-chain n _ _))

pub q-chain_back : (c : ℕ) → Quiet (chain_back c)
unfolding chain_back
q-chain_back c = q-bind (q-touch c) λ x. q-if _ (q-ret _) (q-sized _ λ n. q-chain (suc n) c [])

q-none_reserved : (cs : List ℕ) → Quiet (none_reserved cs)
unfolding none_reserved
q-none_reserved [] = q-ret _
q-none_reserved (c ∷ cs) = q-bind (q-reserved c) λ r. q-seq (q-check _ _ tt) (q-none_reserved cs)

q-release_all : (cs : List ℕ) → Quiet (release_all cs)
unfolding release_all
q-release_all [] = q-ret _
q-release_all (c ∷ cs) = q-seq (q-release c) (q-release_all cs)

pub q-erase_back : (back : List ℕ) → Quiet (erase_back back)
unfolding erase_back
q-erase_back back = q-seq (q-none_reserved _) (q-release_all back)

pub q-erase : (c : ℕ) → Quiet (erase c)
unfolding erase
q-erase c = q-bind (q-walk_back c) q-erase_back

q-take_all : (cs : List ℕ) → Quiet (take_all cs)
unfolding take_all
q-take_all [] = q-ret _
q-take_all (c ∷ cs) = q-bind (q-take_as _) λ n. q-bind (q-take_all cs) λ ns. q-ret _

q-copy_all : (new : ℕ → ℕ) (os ns : List ℕ) → Quiet (copy_all new os ns)
unfolding copy_all
q-copy_all new [] ns = q-ret _
q-copy_all new (o ∷ os) [] = q-ret _
q-copy_all new (o ∷ os) (n ∷ ns) = q-bind (q-peek o) λ x. q-seq (q-put n _) (q-copy_all new os ns)

pub q-copy : (c : ℕ) → Quiet (copy c)
unfolding copy
q-copy c = q-bind (q-walk_back c) λ back. q-bind (q-take_all _) λ news. q-seq (q-copy_all _ _ news) (q-ret _)
