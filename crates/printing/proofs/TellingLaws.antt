-- The laws of the world of what prints: what does not print, the printing itself, and a refusal, which has no line.
use Rattle.paper.proofs.Kit.{ℕ, suc, ◌-◌, ◌≡◌, ap, ◌∙◌, Bool, true, false, refl, List, [], ◌∷◌, ◌++◌, arith, ltb, length, length-append}
use Rattle.std.specs.Prelude.{Result, Ok, Err}
use Rattle.paper.specs.declared.Refusal.{Refusal}
use Rattle.paper.specs.declared.Refusal.TheVariants.{NoRoom}
use Rattle.paper.specs.declared.Symbol.{Symbol}
use Rattle.paper.specs.Limits.{first_deck}
use Rattle.paper.specs.Region.{Region, end_of_regions}
use Rattle.paper.specs.Cell.{State}
use Rattle.paper.specs.Act.{Act, done, refuse_if, asks, becomes, pop}
use Rattle.paper.specs.Print.{with_line, print_line, symbol_text}
use Rattle.cells.specs.Bridge.{Rest, state_of}
use Rattle.steps.specs.Follows.{Follows}
use Rattle.steps.specs.Follows as steps
use Rattle.steps.proofs.Sequence.{Judged, then, then_err, sees, test, test_err, most}
use Rattle.regions.specs.Lent.{rows_of, Tells}
use Rattle.undo.specs.Did.{reading, lent, Top}
use Rattle.printing.specs.Telling.{Heard, after, telling, Hears, print_pop}

-- what does not print, after whatever bytes
pub quietly : {A : Type 0} {K : Heard → Type 0} {J : Rest → Type 0} {k : ℕ} {M : Act A} {x y : List ℕ × List ℕ} {r : Result A Refusal} (t : List ℕ)
    → ((e : Heard) → K e → J (after e t)) → Follows lent J k M x y r → Follows telling K k M (x, t) (y, t) r
quietly t w d = record { is = λ e h. d.is (after e t) (w e h); kept = d.kept }

pub quietly-reads : {A : Type 0} {K : Heard → Type 0} {J : Rest → Type 0} {M : Act A} {s l : List ℕ} {r : Result A Refusal} (t : List ℕ)
    → ((e : Heard) → K e → J (after e t)) → Follows reading J 0 M s s r → Follows telling K 0 M ((s, l), t) ((s, l), t) r
quietly-reads {s = s} {l = l} t w d = record { is = λ e h. d.is (after e t) (w e h); kept = lent.same (s, l) }

pub quietly-sees : {A : Type 0} {K : Heard → Type 0} {J : Rest → Type 0} {M : Act A} {s l : List ℕ} {v : A} (t : List ℕ)
    → ((e : Heard) → K e → J (after e t)) → steps.Sees reading J M s v → steps.Sees telling K M ((s, l), t) v
quietly-sees t w d = record { is = λ e h. d.is (after e t) (w e h) }

-- the text of a symbol is that of the regions that the table tells
pub text-told : {t : List ℕ} {rs : List Region} (x : Symbol) → Tells t rs → symbol_text rs x ≡ symbol_text (rows_of t) x
unfolding symbol_text
text-told x k = rw (k.names x.num, symbol_text)

pub symbol-told : {K : Heard → Type 0} {t : List ℕ} {rs : List Region} {s l : List ℕ} (x : Symbol) (u : List ℕ) → Tells t rs
    → ((e : Heard) → K e → e.regions ≡ rs) → steps.Sees telling K (asks (λ s. symbol_text s.regions x)) ((s, l), u) (symbol_text (rows_of t) x)
unfolding asks
symbol-told {s = s} x u k w =
    record { is = λ e h. ap (λ (t : List ℕ). done t (state_of (after e u) s)) (ap (λ (rs : List Region). symbol_text rs x) (w e h) ∙ text-told x k) }

-- the regions end where they do, after whatever bytes
pub ending : {rs : List Region} {n top : ℕ} (t : List ℕ) → end_of_regions rs first_deck ≡ top → (e : Heard) → Hears rs n e → Top top (after e t)
ending t p e h = ap (λ rs. end_of_regions rs first_deck) h.regions ∙ p

-- the first line of a cycle: the room for it is looked at, and it is printed
module _ {K : Heard → Type 0} {x : List ℕ × List ℕ} where
  room-told : (room : ℕ) → ((e : Heard) → K e → e.room ≡ room) → steps.Sees telling K (asks (λ s. s.room)) (x, []) room
  unfolding asks
  room-told room w =
      let p : (e : Heard) → K e → e.room - length {A = ℕ} [] ≡ room = λ e h. let q = w e h in omega arith in
      record { is = λ e h. ap (λ (n : ℕ). done n (state_of (after e []) x.0)) (p e h) }

  line-in : (t : List ℕ) → Follows telling K 0 (becomes (with_line t)) (x, []) (x, t ++ (10 ∷ [])) (Ok tt)
  unfolding becomes
  line-in t =
      let p : (e : Heard) → e.room - length {A = ℕ} [] - suc (length t) ≡ e.room - length (t ++ (10 ∷ [])) = λ e. rw length-append (omega arith) in
      record {
        is = λ e h. ap (λ (n : ℕ). done tt (state_of (record { regions = e.regions; lines = t ++ (10 ∷ []); room = n }) x.0)) (p e);
        kept = lent.same x;
      }

  module _ (t : List ℕ) (room : ℕ) (w : (e : Heard) → K e → e.room ≡ room) where
    pub prints : Judged {S = State} steps.Always (refuse_if (ltb room (suc (length t))) NoRoom) (Ok tt)
        → Follows telling K 0 (print_line t) (x, []) (x, t ++ (10 ∷ [])) (Ok tt)
    unfolding print_line
    prints d = sees _ (room-told room w) (test d (line-in t))

    pub prints_err : {c : Refusal} → Judged {S = State} steps.Always (refuse_if (ltb room (suc (length t))) NoRoom) (Err c)
        → Follows telling K 0 (print_line t) (x, []) (x, []) (Err c)
    unfolding print_line
    prints_err d = sees _ (room-told room w) (test_err _ d)

-- J152 and J153 end so: there is no room; the pop is made or refused
module _ {rs : List Region} {x : List ℕ × List ℕ} (t : List ℕ) (room : ℕ) where
  pub prints-pops : {top : ℕ} {y : List ℕ × List ℕ} {r : Result (Unit {0}) Refusal} → end_of_regions rs first_deck ≡ top
      → Judged {S = State} steps.Always (refuse_if (ltb room (suc (length t))) NoRoom) (Ok tt) → Follows lent (Top top) 1 pop x y r
      → Follows telling (Hears rs room) 1 (print_pop t) (x, []) (y, t ++ (10 ∷ [])) r
  prints-pops p d f = then (prints t room (λ e h. h.room) d) (quietly (t ++ (10 ∷ [])) (ending (t ++ (10 ∷ [])) p) f)

  pub prints-not : {c : Refusal} → Judged {S = State} steps.Always (refuse_if (ltb room (suc (length t))) NoRoom) (Err c)
      → Follows telling (Hears rs room) 1 (print_pop t) (x, []) (x, []) (Err c)
  prints-not d = most 1 (omega arith) (then_err _ (prints_err t room (λ e h. h.room) d))

-- a refusal has whatever bytes
pub hushed : {A : Type 0} {K : Heard → Type 0} {k : ℕ} {M : Act A} {x : (List ℕ × List ℕ) × List ℕ} {y : List ℕ × List ℕ} {t : List ℕ} {c : Refusal}
    (u : List ℕ) → Follows telling K k M x (y, t) (Err c) → Follows telling K k M x (y, u) (Err c)
hushed u d = record { is = d.is; kept = d.kept }

-- a test that let the code go on does not hold
any_state : State
any_state = record { cells = []; regions = []; lines = []; room = 0 }

pub passed : (b : Bool) (z : Refusal) → Judged {S = State} steps.Always (refuse_if b z) (Ok tt) → b ≡ false
unfolding refuse_if
passed false z d = refl
passed true z d = let p = d.is any_state tt in cc
