-- Step 3 in two parts, what is to be done and doing it, is step 3.
use Rattle.paper.proofs.Kit.{ℕ, ◌≡◌, refl, ap, ◌∙◌, Bool, true, false, eqb}
use Rattle.paper.specs.declared.Refusal.TheVariants.{WrongKind}
use Rattle.paper.specs.declared.Symbol.{Symbol}
use Rattle.paper.specs.Cell.{Cell, Word, regional, is_term, is_process, word_in}
use Rattle.paper.specs.Act.{Act, ◌>>=◌, ◌>>◌, ret, refuse_if, if_then, choose, touch, not_own, designate}
use Rattle.paper.specs.Cycle.{operate, advance, obey, direct, interpret}
use Rattle.steps.proofs.Steps.{bind-bind, then-bind}
use Rattle.cycle.specs.Order.{Order, order, order_in, fetch}

-- "Then by P", and then the LINK
abbrev pub doing : Order → Act (Unit {0})
doing o = operate o.p o.x >>= advance o.link

obeys : (c : ℕ) (w : Word) → (order_in c w >>= doing) ≡ obey c w
unfolding order_in obey ret ◌>>=◌
obeys c w =
    let test : Act (Unit {0}) = refuse_if (eqb w.q 4) (WrongKind c) in
    let told : Symbol → Act Order = λ x. ret (order w.p x w.link) in
    then-bind doing test (not_own c >> (designate w.q w.symb >>= told))
    ∙ ap (λ (n : Act (Unit {0})). test >> n)
    (then-bind doing (not_own c) (designate w.q w.symb >>= told)
    ∙ ap (λ (n : Act (Unit {0})). not_own c >> n) (bind-bind doing (designate w.q w.symb) told))

forks : (c : ℕ) (x : Cell) (b : Bool)
    → (if_then b (ret (order 0 (regional c) 0)) (order_in c (word_in x)) >>= doing) ≡ if_then b (direct c) (obey c (word_in x))
unfolding direct operate choose ret if_then ◌>>=◌
forks c x true = refl
forks c x false = obeys c (word_in x)

pub interprets : (c : ℕ) → (fetch c >>= doing) ≡ interpret c
unfolding fetch interpret
interprets c =
    let way : Cell → Act Order = λ x. if_then (is_process x) (ret (order 0 (regional c) 0)) (order_in c (word_in x)) in
    bind-bind doing (touch c) (λ x. refuse_if (is_term x) (WrongKind c) >> way x)
    ∙ ap (λ (f : Cell → Act (Unit {0})). touch c >>= f)
    (λ i x. (then-bind doing (refuse_if (is_term x) (WrongKind c)) (way x)
    ∙ ap (λ (n : Act (Unit {0})). refuse_if (is_term x) (WrongKind c) >> n) (forks c x (is_process x))) i)
