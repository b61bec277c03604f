use Rattle.paper.proofs.Kit.{ℕ, ◌≡◌, refl, sym, ◌∙◌, true, false, Bool, List, [], ◌∷◌, map, eqb, eqb-true, eqb-false, eq-eqb, ne_eqb}
use Rattle.std.specs.List.{list_any}
use Rattle.std.proofs.lemmas.Iterator.{YieldsList-from_slice}
use Rattle.std.proofs.lemmas.Iterator.Search.{any_from_yields_List}
use borrow.Author.Tests.{tests}
use Rattle.std.proofs.Common.{rules}
use Rattle.paper.specs.Walk.{member}
use Rattle.structures.specs.Copies.{new_of}
use Rattle.structures.proofs.copies.among.Goals as goal

eqb-sym : (a b : ℕ) → eqb a b ≡ eqb b a
eqb-sym a b = go (eqb b a) refl
  where
    go : (t : Bool) → eqb b a ≡ t → eqb a b ≡ t
    go true e = eq-eqb a b (sym (eqb-true b a e))
    go false e = ne_eqb a b (λ p. eqb-false b a e (sym p))

-- whether c is in the table of the cells
any-new : (f : ℕ → ℕ) (c : ℕ) (os : List ℕ) → list_any (λ o. eqb (f o) c) os ≡ member c (map f os)
unfolding member
any-new f c [] = refl
any-new f c (o ∷ os) = rw (eqb-sym (f o) c, any-new f c os)

pub returns : goal.returns
returns c =
    let f = new_of c.args.marks.now in
    let p = any_from_yields_List (λ o. eqb (f o) c.args.c) _ _ _ c.any.ensures.ran (YieldsList-from_slice _ cc) (λ x b q k. search (rules, tests)) in
    λ e. sym (any-new f c.args.c _) ∙ sym p ∙ e
