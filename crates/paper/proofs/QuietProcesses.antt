-- No process prints but J152 and J153: the others leave the lines and the room, and are refused neither by 28 nor by 30.
use Rattle.paper.proofs.Kit.{Bool, true, false, ℕ, zero, suc}
use Rattle.paper.specs.Cell.{Symbol, Term}
use Rattle.paper.specs.Term.{Operation, Relation}
use Rattle.paper.specs.Act.{Act}
use Rattle.paper.specs.Process.{set_h5, tests, J1, J2, J5, J6, J9, each_w, move_to, J2n, J3n, J4n, J5n, at_end, drop_end, move_on, next_cell, J60, J63, J64}
use Rattle.paper.specs.Process.{delete_last, delete_next, J68, J71, J72, J74, J90, pair_at, put_term, combines, compares, compares0, J120, changes, J124}
use Rattle.paper.specs.Process.{tests_tag, J131, retags}
use Rattle.paper.proofs.QuietLaws.{Quiet, q-ret, q-check, q-if, q-bind, q-seq, q-put, q-reserved, q-name_of, q-own, q-touch, q-target, q-word_at}
use Rattle.paper.proofs.QuietLaws.{q-word_to, q-term_at, q-term_to, q-not_own, q-named, q-take_as, q-release, q-link_below, q-preserve, q-pull_up, q-restore}
use Rattle.paper.proofs.QuietLaws.{q-store, q-own_store, q-push, q_pop, q-below, q-pops, q-gives, q-chain_back, q-erase_back, q-erase, q-copy}

pub q-set_h5 : (b : Bool) → Quiet (set_h5 b)
unfolding set_h5
q-set_h5 b = q-own_store _ _

q-tests : (n : ℕ) (b : Bool) → Quiet (tests n b)
unfolding tests
q-tests n b = q-seq (q-set_h5 b) (q-pops n)

pub q-J1 : Quiet J1
unfolding J1
q-J1 = q-bind (q-own _) λ w0. q-seq q_pop (q-ret _)

pub q-J2 : Quiet J2
unfolding J2
q-J2 = q-bind (q-own _) λ w0. q-bind (q-below _ w0) λ w1. q-tests 2 _

pub q-J5 : Quiet J5
unfolding J5
q-J5 = q-bind (q-own _) λ h. q-set_h5 _

pub q-J6 : Quiet J6
unfolding J6
q-J6 = q-bind (q-own _) λ w0. q-bind (q-below _ w0) λ w1. q-seq (q-pops 2) (q-seq (q-push _) (q-push _))

pub q-J9 : Quiet J9
unfolding J9
q-J9 = q-bind (q-own _) λ w0. q-bind (q-touch _) λ x. q-seq (q-check _ _ tt) (q-bind (q-reserved _) λ r. q-seq (q-check _ _ tt) (q-seq (q-release _) q_pop))

q-each_w : (i n : ℕ) (f : ℕ → Act (Unit {0})) → ((w : ℕ) → Quiet (f w)) → Quiet (each_w i n f)
unfolding each_w
q-each_w i zero f h = h _
q-each_w i (suc n) f h = q-seq (h _) (q-each_w (suc i) n f h)

q-move_to : (w : ℕ) → Quiet (move_to w)
unfolding move_to
q-move_to w = q-bind (q-own _) λ w0. q-seq (q-own_store w _) q_pop

pub q-J2n : (n : ℕ) → Quiet (J2n n)
unfolding J2n
q-J2n n = q-each_w 0 n _ q-move_to

pub q-J3n : (n : ℕ) → Quiet (J3n n)
unfolding J3n
q-J3n n = q-each_w 0 n _ q-restore

pub q-J4n : (n : ℕ) → Quiet (J4n n)
unfolding J4n
q-J4n n = q-each_w 0 n _ q-preserve

pub q-J5n : (n : ℕ) → Quiet (J5n n)
unfolding J5n
q-J5n n = q-seq (q-J4n n) (q-J2n n)

q-at_end : (x : Symbol) → Quiet (at_end x)
unfolding at_end
q-at_end x = q-seq (q-set_h5 false) (q-gives 1 x)

pub q-J60 : Quiet J60
unfolding J60 next_cell drop_end move_on
q-J60 = q-bind (q-own _) λ w0. q-bind (q-named _) λ w. q-if _ (q-at_end _) (q-bind (q-word_at _) λ v. q-bind (q-reserved _) λ r.
    q-seq (q-check _ _ tt) (q-seq (q-not_own _) (q-if _ (q-seq (q-put _ _) (q-seq (q-release _) (q-at_end _)))
    (q-bind (q-name_of _) λ x. q-seq (q-set_h5 true) (q-gives 1 x)))))

pub q-J63 : Quiet J63
unfolding J63
q-J63 = q-bind (q-own _) λ w0. q-bind (q-below _ w0) λ w1. q-seq (q-preserve _) (q-seq (q-store _ _) (q-pops 2))

pub q-J64 : Quiet J64
unfolding J64
q-J64 = q-bind (q-own _) λ w0. q-bind (q-below _ w0) λ w1. q-bind (q-word_to _) λ w. q-seq (q-not_own _) (q-seq (q-link_below _ w _) (q-pops 2))

pub q-J68 : Quiet J68
unfolding J68 delete_last delete_next
q-J68 = q-bind (q-own _) λ w0. q-bind (q-word_to _) λ w. q-seq (q-check _ _ tt) (q-seq (q-not_own _)
    (q-if _ (q-seq (q-put _ _) (q-tests 1 false)) (q-seq (q-pull_up _ _) (q-tests 1 true))))

pub q-J71 : Quiet J71
unfolding J71
q-J71 = q-bind (q-own _) λ w0. q-bind (q-chain_back _) λ back. q-seq (q-erase_back back) q_pop

pub q-J72 : Quiet J72
unfolding J72
q-J72 = q-bind (q-own _) λ w0. q-seq (q-erase _) q_pop

pub q-J74 : Quiet J74
unfolding J74
q-J74 = q-bind (q-own _) λ w0. q-bind (q-copy _) λ n. q-gives 1 _

pub q-J90 : Quiet J90
unfolding J90
q-J90 = q-bind (q-take_as _) λ n. q-push _

q-pair_at : (c d : ℕ) → Quiet (pair_at c d)
unfolding pair_at
q-pair_at c d = q-bind (q-term_at c) λ t. q-bind (q-term_at d) λ u. q-seq (q-check _ _ tt) (q-ret _)

q-put_term : (c : ℕ) (t : Term) → Quiet (put_term c t)
unfolding put_term
q-put_term c t = q-seq (q-check _ _ tt) (q-put _ _)

pub q-combines : (f : Operation) → Quiet (combines f)
unfolding combines
q-combines f = q-bind (q-own _) λ w0. q-bind (q-below _ w0) λ w1. q-bind (q-below _ w1) λ w2. q-seq (q-term_to _) (q-bind (q-pair_at _ _) λ p.
    q-seq (q-put_term _ _) (q-gives 3 _))

pub q-compares : (r : Relation) → Quiet (compares r)
unfolding compares
q-compares r = q-bind (q-own _) λ w0. q-bind (q-below _ w0) λ w1. q-bind (q-pair_at _ _) λ p. q-tests 2 _

pub q-compares0 : (r : Relation) → Quiet (compares0 r)
unfolding compares0
q-compares0 r = q-bind (q-own _) λ w0. q-bind (q-term_at _) λ t. q-tests 1 _

pub q-J120 : Quiet J120
unfolding J120
q-J120 = q-bind (q-own _) λ w0. q-bind (q-term_at _) λ t. q-bind (q-take_as _) λ n. q-gives 1 _

pub q-changes : (takes : Term → Bool) (f : Term → Term) → Quiet (changes takes f)
unfolding changes
q-changes takes f = q-bind (q-own _) λ w0. q-bind (q-term_to _) λ t. q-seq (q-check _ _ tt) (q-seq (q-put_term _ _) (q-gives 1 _))

pub q-J124 : Quiet J124
unfolding J124
q-J124 = q-bind (q-own _) λ w0. q-bind (q-target _) λ x. q-seq (q-check _ _ tt) (q-seq (q-check _ _ tt) (q-seq (q-put _ _) (q-gives 1 _)))

pub q-tests_tag : (t : ℕ) → Quiet (tests_tag t)
unfolding tests_tag
q-tests_tag t = q-bind (q-own _) λ w0. q-tests 1 _

pub q-J131 : Quiet J131
unfolding J131
q-J131 = q-bind (q-own _) λ w0. q-bind (q-touch _) λ x. q-seq (q-not_own _) (q-tests 1 _)

pub q-retags : (f : ℕ → Symbol) → Quiet (retags f)
unfolding retags
q-retags f = q-bind (q-own _) λ w0. q-gives 1 _
