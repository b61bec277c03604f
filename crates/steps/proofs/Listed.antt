-- The list of processes, by the ranges of numbers that a decision names: which entry has them all, or that none has any.
use Rattle.paper.proofs.Kit.{clash, ◌||◌, ℕ, ◌-◌, ◌<◌, ◌≤◌, ◌≡◌, refl, ◌∙◌, ◌≢◌, Bool, true, false, cond, ◌&&◌, List, [], ◌∷◌, Option, none, some, arith}
use Rattle.paper.proofs.Kit.{leb-true, ltb-true, eqb-true, le-leb, lt-leb, leb, ltb, eqb}
use Rattle.paper.specs.declared.Refusal.TheVariants.{NotListed}
use Rattle.paper.specs.Cell.{J}
use Rattle.paper.specs.Act.{refuse, if_then}
use Rattle.paper.specs.Walk.{member}
use Rattle.paper.specs.Process.{Entry, perform_in}
use Rattle.paper.proofs.SoundStore.{and-true}
use Rattle.steps.proofs.Rest.{Rest, not_in}
use Rattle.steps.proofs.Sequence.{if_yes, if_no}

-- the entry that has all numbers from a to b, where those before it have none of them
unfoldable pub entry_for : List Entry → ℕ → ℕ → Option Entry
entry_for [] a b = none
entry_for (e ∷ es) a b = cond (leb e.from a && leb b e.up_to) (some e) (cond (ltb e.up_to a || ltb b e.from) (entry_for es a b) none)

-- no entry has a number from a to b, but for those in ks
unfoldable pub none_for : List Entry → ℕ → ℕ → List ℕ → Bool
none_for [] a b ks = true
none_for (e ∷ es) a b ks = (ltb e.up_to a || ltb b e.from || (eqb e.from e.up_to && member e.from ks)) && none_for es a b ks

-- a number outside a range
outside_low : (f u n : ℕ) → u < n → leb f n && leb n u ≡ false
outside_low f u n h = rw (lt-leb n u h) (and-off (leb f n))
  where
    and-off : (b : Bool) → b && false ≡ false
    and-off true = refl
    and-off false = refl

outside_high : (f u n : ℕ) → n < f → leb f n && leb n u ≡ false
outside_high f u n h = rw (lt-leb f n h)

-- a number apart from the one number of an entry
apart : (f u n : ℕ) → f ≡ u → n ≢ f → leb f n && leb n u ≡ false
apart f u n e z = go (leb f n) refl
  where
    go : (b : Bool) → leb f n ≡ b → b && leb n u ≡ false
    go true p = let k = leb-true f n p in lt-leb n u (omega arith)
    go false p = refl

pub entry-does : (es : List Entry) (e : Entry) (a b n : ℕ) → entry_for es a b ≡ some e → a ≤ n → n ≤ b → e.does (n - e.from) ≡ perform_in es n
unfolding entry_for perform_in
entry-does [] e a b n h p q = clash cc
entry-does (x ∷ es) e a b n h p q = go (leb x.from a && leb b x.up_to) refl (ltb x.up_to a || ltb b x.from) refl h (entry-does es e a b n)
  where
    here : leb x.from a && leb b x.up_to ≡ true
        → x.does (n - x.from) ≡ if_then (leb x.from n && leb n x.up_to) (x.does (n - x.from)) (perform_in es n)
    here t =
        let k = and-true (leb x.from a) (leb b x.up_to) t in
        let f = leb-true x.from a k.0 in
        let u = leb-true b x.up_to k.1 in
        if_yes _ (rw (le-leb x.from n (omega arith), le-leb n x.up_to (omega arith)))

    past : ltb x.up_to a || ltb b x.from ≡ true → leb x.from n && leb n x.up_to ≡ false
    past t = far (ltb x.up_to a) refl t
      where
        far : (c : Bool) → ltb x.up_to a ≡ c → c || ltb b x.from ≡ true → leb x.from n && leb n x.up_to ≡ false
        far true e t = let k = ltb-true x.up_to a e in outside_low x.from x.up_to n (omega arith)
        far false e t = let k = ltb-true b x.from t in outside_high x.from x.up_to n (omega arith)

    go : (c : Bool) → leb x.from a && leb b x.up_to ≡ c → (d : Bool) → ltb x.up_to a || ltb b x.from ≡ d
        → cond c (some x) (cond d (entry_for es a b) none) ≡ some e → (entry_for es a b ≡ some e → a ≤ n → n ≤ b → e.does (n - e.from) ≡ perform_in es n)
        → e.does (n - e.from) ≡ if_then (leb x.from n && leb n x.up_to) (x.does (n - x.from)) (perform_in es n)
    go true t d u h k = let s : x ≡ e = cc in rw (← s) (here t)
    go false t true u h k = k h p q ∙ if_no _ (past u)
    go false t false u h k = clash cc

pub none-does : (es : List Entry) (a b n : ℕ) (ks : List ℕ) → none_for es a b ks ≡ true → a ≤ n → n ≤ b
    → Rest (Unit {0}) ks n → refuse (NotListed (J n)) ≡ perform_in es n
unfolding none_for perform_in
none-does [] a b n ks h p q z = refl
none-does (x ∷ es) a b n ks h p q z =
    let t = and-true (ltb x.up_to a || ltb b x.from || (eqb x.from x.up_to && member x.from ks)) (none_for es a b ks) h in
    none-does es a b n ks t.1 p q z ∙ if_no _ (past (ltb x.up_to a) refl (ltb b x.from) refl t.0)
  where
    past : (c : Bool) → ltb x.up_to a ≡ c → (d : Bool) → ltb b x.from ≡ d → c || d || (eqb x.from x.up_to && member x.from ks) ≡ true
        → leb x.from n && leb n x.up_to ≡ false
    past true e d f t = let k = ltb-true x.up_to a e in outside_low x.from x.up_to n (omega arith)
    past false e true f t = let k = ltb-true b x.from f in outside_high x.from x.up_to n (omega arith)
    past false e false f t =
        let u = and-true (eqb x.from x.up_to) (member x.from ks) t in
        apart x.from x.up_to n (eqb-true x.from x.up_to u.0) (not_in (Unit {0}) ks n x.from z u.1)
