-- Laws of the order and of the table old to new.
use Rattle.paper.proofs.Kit.{◌||◌, ℕ, zero, suc, ◌+◌, ◌<◌, ◌≤◌, ◌≡◌, refl, sym, ap, ◌∙◌, subst, Bool, true, false, cond, List, [], ◌∷◌, ◌++◌, map, reverse}
use Rattle.paper.proofs.Kit.{reverse_aux, arith, add-one, length, get_or, set, take, drop, take-suc, take-length, drop-cons}
use Rattle.paper.proofs.Kit.{get_or-set_same, get_or-set_other, eqb, eqb-true, eqb-false, ne_eqb}
use Rattle.paper.specs.Walk.{member, renamed}
use Rattle.paper.proofs.SoundStore.{or-false}
use Rattle.structures.specs.Marks.{back, Once, Only}
use Rattle.structures.proofs.Marks.{back_more}
use Rattle.structures.specs.Copies.{new_of, news_of}

-- what is left of a list
pub drop-at : (xs : List ℕ) (i : ℕ) → i < length xs → drop i xs ≡ get_or xs i 0 ∷ drop (i + 1) xs
drop-at xs i h = drop-cons xs i 0 h ∙ ap (λ k. get_or xs i 0 ∷ drop k xs) (sym (add-one i))

-- all of a list
pub back-all : (xs : List ℕ) → back (length xs) xs ≡ reverse xs
back-all xs = ap reverse (take-length xs)

-- a cell is among those of a list, whichever way they are met
either_way : (a b c : Bool) → (a || (b || c)) ≡ ((b || a) || c)
either_way true true c = refl
either_way true false c = refl
either_way false true c = refl
either_way false false c = refl

member-onto : (c : ℕ) (xs r : List ℕ) → member c (reverse_aux xs r) ≡ (member c xs || member c r)
unfolding member
member-onto c [] r = refl
member-onto c (x ∷ xs) r = member-onto c xs (x ∷ r) ∙ either_way (member c xs) (eqb c x) (member c r)

pub member_back : (c : ℕ) (xs : List ℕ) → member c (reverse xs) ≡ member c xs
unfolding member
member_back c xs = member-onto c xs [] ∙ last (member c xs)
  where
    last : (b : Bool) → (b || false) ≡ b
    last true = refl
    last false = refl

-- marks that are at cells of a list, whichever way it is met
pub only_back : {marks : List ℕ} (xs : List ℕ) → Only marks (reverse xs) → Only marks xs
only_back xs o = record { is = λ c e. o.is c (member_back c xs ∙ e) }

only-forth : {marks : List ℕ} (xs : List ℕ) → Only marks xs → Only marks (reverse xs)
only-forth xs o = record { is = λ c e. o.is c (sym (member_back c xs) ∙ e) }

pub member-end : (c y : ℕ) (xs : List ℕ) → member c xs ≡ false → (c ≡ y → ⊥) → member c (xs ++ (y ∷ [])) ≡ false
unfolding member
member-end c y [] m n = simp (ne_eqb c y n)
member-end c y (x ∷ xs) m n = let (a, b) = or-false (eqb c x) (member c xs) m in rw (a, member-end c y xs b n)

-- no cell of the order was met before
once-before : (order : List ℕ) (n i : ℕ) → n ≤ length order → i < n → Once (back n order) → member (get_or order i 0) (take i order) ≡ false
once-before order zero i l h o = absurd (omega arith)
once-before order (suc n) i l h o =
    let p : Once (get_or order n 0 ∷ back n order) = subst Once (ap (λ k. back k order) (sym (add-one n)) ∙ back_more order n (omega arith)) o in
    go (eqb i n) refl p (λ k. once-before order n i (omega arith) k p.1)
  where
    go : (b : Bool) → eqb i n ≡ b → Once (get_or order n 0 ∷ back n order) → (i < n
        → member (get_or order i 0) (take i order) ≡ false) → member (get_or order i 0) (take i order) ≡ false
    go true e p f = rw (eqb-true i n e) (sym (member_back (get_or order n 0) (take n order)) ∙ p.0)
    go false e p f = let k = eqb-false i n e in f (omega arith)

pub once-at : (met : List ℕ) (i : ℕ) → i < length met → Once (reverse met) → member (get_or met i 0) (take i met) ≡ false
once-at met i h o = once-before met (length met) i (omega arith) h (subst Once (sym (back-all met)) o)

-- one new cell more
news-kept : (marks : List ℕ) (o t : ℕ) (xs : List ℕ) → member o xs ≡ false → map (new_of (set marks o t)) xs ≡ map (new_of marks) xs
unfolding member
news-kept marks o t [] e = refl
news-kept marks o t (x ∷ xs) e =
    let (a, b) = or-false (eqb o x) (member o xs) e in
    rw (get_or-set_other marks o x t 0 (λ p. eqb-false o x a (sym p)), news-kept marks o t xs b)

map-append : (f : ℕ → ℕ) (xs ys : List ℕ) → map f (xs ++ ys) ≡ map f xs ++ map f ys
map-append f [] ys = refl
map-append f (x ∷ xs) ys = ap (λ (zs : List ℕ). f x ∷ zs) (map-append f xs ys)

pub news-next : (marks met : List ℕ) (i : ℕ) → i < length met
    → news_of marks (take (i + 1) met) ≡ news_of marks (take i met) ++ (new_of marks (get_or met i 0) ∷ [])
news-next marks met i h =
    let f = new_of marks in
    ap (λ k. map f (take k met)) (add-one i) ∙ ap (map f) (take-suc met i 0 h) ∙ map-append f (take i met) (get_or met i 0 ∷ [])

pub news-more : (marks met : List ℕ) (i t : ℕ) → i < length met → get_or met i 0 < length marks → member (get_or met i 0) (take i met) ≡ false
    → news_of (set marks (get_or met i 0) t) (take (i + 1) met) ≡ news_of marks (take i met) ++ (t ∷ [])
news-more marks met i t h l m =
    let o = get_or met i 0 in
    news-next (set marks o t) met i h ∙ rw (news-kept marks o t (take i met) m, get_or-set_same marks o t 0 l)

only_cons : {marks seen : List ℕ} (c t : ℕ) → Only marks seen → Only (set marks c t) (c ∷ seen)
unfolding member
only_cons {marks} {seen} c t o = record {
  is = λ k e.
      let (a, b) = or-false (eqb k c) (member k seen) e in
      get_or-set_other marks c k t 0 (eqb-false k c a) ∙ o.is k b;
}

pub only-more : {marks : List ℕ} (met : List ℕ) (i t : ℕ) → i < length met → Only marks (take i met)
    → Only (set marks (get_or met i 0) t) (take (i + 1) met)
only-more met i t h o =
    only_back (take (i + 1) met) (subst (Only _) (sym (back_more met i h)) (only_cons _ _ (only-forth (take i met) o)))

-- the table tells the new number of an old one
renamed-map : (f : ℕ → ℕ) (os : List ℕ) (c : ℕ) → renamed os (map f os) c ≡ cond (member c os) (f c) 0
unfolding renamed member
renamed-map f [] c = refl
renamed-map f (o ∷ os) c = go (eqb c o) refl (renamed-map f os c)
  where
    go : (b : Bool) → eqb c o ≡ b → renamed os (map f os) c ≡ cond (member c os) (f c) 0
        → elim b as (λ _. ℕ) [ true ↦ f o | false ↦ renamed os (map f os) c ] ≡ cond (b || member c os) (f c) 0
    go true e h = ap f (sym (eqb-true c o e))
    go false e h = h

pub renamed-is : (marks met : List ℕ) → Only marks met → renamed met (news_of marks met) ≡ new_of marks
renamed-is marks met o = λ i c. at c i
  where
    go : (c : ℕ) (b : Bool) → member c met ≡ b → cond b (new_of marks c) 0 ≡ new_of marks c
    go c true e = refl
    go c false e = sym (o.is c e)

    at : (c : ℕ) → renamed met (news_of marks met) c ≡ new_of marks c
    at c = renamed-map (new_of marks) met c ∙ go c (member c met) refl
