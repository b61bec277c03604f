-- The lines of a record's block that write.
use Rattle.paper.proofs.Kit.{clash, ◌||◌, ℕ, Bool, true, false, List, [], ◌∷◌, ◌++◌, ◌≡◌, refl, ap, sym, ◌∙◌, subst, set}
use Rattle.paper.specs.Cell.{Region, Cell, word, mk_word, H, J}
use Rattle.std.specs.Prelude.{Result, Ok, Err}
use Rattle.paper.specs.declared.Fault.{Fault}
use Rattle.paper.specs.Step.{Res, done, refused, ◌>>=◌, ◌>>◌, ret, refuse_if, becomes}
use Rattle.paper.specs.Deck.{Book, Load, with_cells, fresh_book}
use Rattle.cells.specs.Pack.{Packs, AllFormed}
use Rattle.steps.specs.Follows.{Follows, Always}
use Rattle.steps.proofs.Sequence.{bind, bind_err, then, then_err, test, test_err, alike-here, judged-yes, judged-no, give, give-as}
use Rattle.cells.proofs.Store.{unpacked-set, formed-set}
use Rattle.book.specs.declared.locals.Local.{Local}
use Rattle.book.specs.declared.Notes.{Notes}
use Rattle.book.specs.Kept.{Held, held, book_of}
use Rattle.book.specs.Booked.{loading, Booked, Told}
use Rattle.book.proofs.Lines.{changes}
use Rattle.deck.specs.declared.Placed.{Placed}
use Rattle.deck.specs.Load.{ordinary, Made, PlacesIn}
use Rattle.regions.specs.declared.Regions.{Regions}
use Rattle.regions.specs.Table.{regions_of}

-- H5 and H1 are filled
pub starts : (c x y : ℕ) {rs : List Region} {k : Notes} {l : List Local} {s s₁ s₂ : List ℕ} {m : List Bool} → s₁ ≡ set s 6 x → s₂ ≡ set s₁ 2 y
    → Packs x (word (mk_word 0 0 25 0)) → Packs y (word (mk_word 0 0 c 0))
    → Follows loading Always 0 (becomes (λ b. with_cells b (set (set b.cells (H 5) (word (mk_word 0 0 (J 4) 0))) (H 1) (word (mk_word 0 0 c 0)))))
    (held rs k l s m) (held rs k l s₂ m) (Ok tt)
starts c x y {rs} {k} {l} {s} {s₁} {s₂} {m} e f p q =
    changes _ (held rs k l s m) (held rs k l s₂ m)
    (ap (λ (cs : List Cell). with_cells (book_of (held rs k l s m)) cs) (rw (f, unpacked-set s₁ 2 y, e, unpacked-set s 6 x, p.unpacks, q.unpacks)))
    (λ h. rw (f, e) (formed-set (set s 6 x) 2 y q.formed (formed-set s 6 x p.formed h)))

-- the cells are laid anew, with one region more
pub lays : (size : ℕ) (x : Region) {rs : List Region} {k k' : Notes} {l l' : List Local} {s s' : List ℕ} {m m' : List Bool} (rs' : List Region)
    → rs' ≡ rs ++ (x ∷ []) → book_of (held rs' k' l' s' m') ≡ fresh_book size rs' → AllFormed s'
    → Follows loading Always 0 (becomes (λ b. fresh_book size (b.regions ++ (x ∷ [])))) (held rs k l s m) (held rs' k' l' s' m') (Ok tt)
lays size x {rs} {k} {k'} {l} {l'} {s} {s'} {m} {m'} rs' e b f =
    changes _ (held rs k l s m) (held rs' k' l' s' m') (ap (fresh_book size) (sym e) ∙ sym b) (λ _. f)

-- none of three
pub none-holds : (a b c : Bool) → (a || b || c) ≡ false → (a ≡ false) × (b ≡ false) × (c ≡ false)
none-holds true b c e = clash cc
none-holds false true c e = clash cc
none-holds false false c e = (refl, refl, e)

-- one test of the code for two lines of the block: y counts where x does not refuse
pub or-stops : (x y : Bool) (f : Fault) {N : Load (Unit {0})} {h : Held} → (x || y) ≡ true → (y ≡ true → Booked N h h (Err f))
    → Booked (refuse_if x f >> N) h h (Err f)
or-stops true y f {N} e d = test_err N (judged-yes true f refl)
or-stops false y f e d = test (judged-no false f refl) (d e)

-- after a fault nothing is said of the book
pub anywhere : {A : Type 0} {M : Load A} {x y z : Held} {e : Fault} → Booked M x y (Err e) → (AllFormed y.numbers → AllFormed z.numbers) → Booked M x z (Err e)
anywhere d f = record { is = d.is; kept = λ h. f (d.kept h) }

module _ {M : Load (Unit {0})} {t : Regions} {k : Notes} {l : List Local} {s : List ℕ} {m : List Bool} where
  -- a record that is not the start; one that is refused
  pub placed : {l' : List Local} {s' : List ℕ} {m' : List Bool} {x : Placed} → x.last ≡ false → Made x.regions
      → Booked M (held (regions_of t) k l s m) (held (regions_of x.regions) x.notes l' s' m') (Ok tt) → PlacesIn (ordinary M) t k l s m l' s' m' (Ok x)
  unfolding ordinary
  placed e h d = record { did = then d (give-as (sym e)); made = h }

  pub faulty : {y : Held} {l' : List Local} {m' : List Bool} {e : Fault} → Booked M (held (regions_of t) k l s m) y (Err e) → Made t
      → PlacesIn (ordinary M) t k l s m l' y.numbers m' (Err e)
  unfolding ordinary
  faulty d h = record { did = anywhere (then_err (ret false) d) (λ f. f); made = h }

-- and one test more, N, after it
after-it : (M N : Load (Unit {0})) (v : Bool) (b : Book) → ((M >> N) >> ret v) b ≡ ((M >> ret v) >>= (λ l. N >> ret l)) b
unfolding ◌>>◌ ◌>>=◌ ret
after-it M N v b = go (M b)
  where
    go : (q : Res Book Fault (Unit {0}))
        → ◌≡◌ {A = Res Book Fault Bool} (elim (elim q as (λ _. Res Book Fault (Unit {0})) [ done a t ↦ N t | refused f ↦ refused f ]) as (λ _. Res Book Fault Bool) [
          | done a t ↦ done v t
          | refused f ↦ refused f
        ]) (elim (elim q as (λ _. Res Book Fault Bool) [ done a t ↦ done v t | refused f ↦ refused f ]) as (λ _. Res Book Fault Bool) [
          | done l t ↦ elim (N t) as (λ _. Res Book Fault Bool) [ done a u ↦ done l u | refused f ↦ refused f ]
          | refused f ↦ refused f
        ])
    go (done a t) = refl
    go (refused f) = refl

module _ (M N : Load (Unit {0})) {t : Regions} {k : Notes} {l l' : List Local} {s s' : List ℕ} {m m' : List Bool} where
  pub tested-too : {x : Placed} → PlacesIn (ordinary M) t k l s m l' s' m' (Ok x) → Told Always N (Ok tt)
      → PlacesIn (ordinary (M >> N)) t k l s m l' s' m' (Ok x)
  unfolding ordinary
  tested-too d q = record { did = alike-here (λ _ _. after-it M N false _) (bind (λ l. N >> ret l) d.did (test q give)); made = d.made }

  pub tested-no : {x : Placed} {e : Fault} → PlacesIn (ordinary M) t k l s m l' s' m' (Ok x) → Told Always N (Err e) → Made t
      → PlacesIn (ordinary (M >> N)) t k l s m l' s' m' (Err e)
  unfolding ordinary
  tested-no {x} d q h =
      record { did = anywhere (alike-here (λ _ _. after-it M N false _) (bind (λ l. N >> ret l) {j = 0} d.did (test_err (ret x.last) q))) (λ f. f); made = h }

  pub tested-err : {e : Fault} → PlacesIn (ordinary M) t k l s m l' s' m' (Err e) → PlacesIn (ordinary (M >> N)) t k l s m l' s' m' (Err e)
  unfolding ordinary
  tested-err d = record { did = alike-here (λ _ _. after-it M N false _) (bind_err (λ l. N >> ret l) d.did); made = d.made }

-- a record by the case of x, which is known to be y
pub placed-as : {A : Type 0} (M : A → Load Bool) {x y : A} {t : Regions} {k : Notes} {l l' : List Local} {s s' : List ℕ} {m m' : List Bool}
    {r : Result Placed Fault} → x ≡ y → PlacesIn (M y) t k l s m l' s' m' r → PlacesIn (M x) t k l s m l' s' m' r
placed-as {A} M {t = t} {k = k} {l = l} {l' = l'} {s = s} {s' = s'} {m = m} {m' = m'} {r = r} p d =
    subst (λ (z : A). PlacesIn (M z) t k l s m l' s' m' r) (sym p) d

-- an answer that is known
pub placed-to : {M : Load Bool} {t : Regions} {k : Notes} {l l' : List Local} {s s' : List ℕ} {m m' : List Bool} {x y : Result Placed Fault} → x ≡ y
    → PlacesIn M t k l s m l' s' m' y → PlacesIn M t k l s m l' s' m' x
placed-to {M} {t} {k} {l} {l'} {s} {s'} {m} {m'} p d = subst (λ (z : Result Placed Fault). PlacesIn M t k l s m l' s' m' z) (sym p) d
