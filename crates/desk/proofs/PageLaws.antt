-- The page: lines, the answer's line, and zeros; and what the program prints, by the outcomes of its two calls.
use Rattle.paper.proofs.Kit.{ℕ, zero, suc, ◌+◌, ◌-◌, ◌<◌, ◌≤◌, min, ◌≡◌, refl, sym, ap, subst, ◌∙◌, List, [], ◌∷◌, ◌++◌, arith, dec_lt, length, take, drop}
use Rattle.paper.proofs.Kit.{replicate, length-append, length-replicate, replicate-append-replicate, length-take-le, drop-drop, drop-append-le}
use Rattle.paper.proofs.Kit.{take-append-le, take-append_seam, take_all, take-length}
use Rattle.paper.specs.declared.LoadAnswer.{LoadAnswer}
use Rattle.paper.specs.declared.LoadAnswer.TheVariants.{Loaded as AnswerLoaded, BadSize, Broken}
use Rattle.paper.specs.Limits.{largest_budget, program_deck, program_cells, program_room, longest_line, longest_printout}
use Rattle.paper.specs.Answer.{run_number, load_number}
use Rattle.paper.specs.Cell.{Cell, word, zeros}
use Rattle.paper.specs.Deck.{LoadOutcome, load}
use Rattle.paper.specs.Run.{Outcome, run}
use Rattle.paper.specs.Program.{answer_line, ran_text, loaded_text, printout}
use Rattle.paper.proofs.LoadLaws.{ready}
use Rattle.cells.specs.Layout.{unpack_of}
use Rattle.cells.specs.Bridge.{unpacked}
use Rattle.regions.specs.declared.Regions.{Regions}
use Rattle.sound.specs.Store.{state_with}
use Rattle.printing.specs.Text.{Puts}
use Rattle.deck.specs.declared.Loaded.{Loaded}
use Rattle.deck.specs.Load.{Loads}
use Rattle.machine.specs.declared.Ran.{Ran}
use Rattle.machine.specs.Numbers.{numbers, in_numbers, run_on}
use Rattle.machine.proofs.RunLaws.{run-passes}
use Rattle.machine.proofs.Carried.{run-keeps-past}
use Rattle.desk.specs.declared.Printout.{Printout}
use Rattle.desk.specs.Page.{printed, run_text}
use Rattle.desk.proofs.LoadedRuns.{loaded-fits}

drop-zeros : (i n : ℕ) → drop i (replicate {A = ℕ} n 0) ≡ replicate (n - i) 0
drop-zeros zero n = let e : n ≡ n - 0 = omega arith in ap (λ k. replicate k 0) e
drop-zeros (suc i) zero = let e : 0 ≡ 0 - suc i = omega arith in ap (λ k. replicate k 0) e
drop-zeros (suc i) (suc n) = let e : n - i ≡ suc n - suc i = omega arith in drop-zeros i n ∙ ap (λ k. replicate k 0) e

-- the text is within the page
pub text-within : (t : List ℕ) {p : Printout} → p ≡ printed t → p.n ≤ length p.bytes
unfolding printed
text-within t e = rw e (simp length-append (omega arith))

-- the answer's line after the lines
pub page-answered : (page : List ℕ) (len a : ℕ) {n : ℕ} {bytes : List ℕ} → len ≤ program_room → length page ≡ longest_printout
    → drop len page ≡ replicate (longest_printout - len) 0 → Puts page len (answer_line a) bytes n
    → record { n = n; bytes = bytes } ≡ printed (take len page ++ answer_line a)
unfolding printed
page-answered page len a {n} {bytes} few sized rest p =
    let line = answer_line a in
    let t = take len page ++ line in
    let long : length t ≡ len + length line =
    length-append (take len page) line ∙ ap (λ k. k + length line) (length-take-le len page (omega (arith, few, sized))) in
    let size : n ≡ length t = p.end ∙ sym long in
    let left : longest_printout - len - length line ≡ longest_printout - length t = omega (arith, long) in
    let past : drop n page ≡ replicate (longest_printout - length t) 0 =
    ap (λ k. drop k page) p.end ∙ sym (drop-drop (length line) len page) ∙ ap (drop (length line)) rest
    ∙ drop-zeros (length line) (longest_printout - len) ∙ ap (λ k. replicate k 0) left in
    let whole : bytes ≡ t ++ replicate (longest_printout - length t) 0 = p.bytes ∙ ap (λ x. t ++ x) past in
    λ i. record { n = size i; bytes = whole i }

take-zeros : (i k : ℕ) → take i (replicate {A = ℕ} (i + k) 0) ≡ replicate i 0
take-zeros zero k = refl
take-zeros (suc i) k =
    let e : suc i + k ≡ suc (i + k) = omega arith in
    ap (λ n. take (suc i) (replicate {A = ℕ} n 0)) e ∙ ap (λ (x : List ℕ). 0 ∷ x) (take-zeros i k)

-- the page is lent up to the room: zeros, and zeros after it
pub zeros-lent : take program_room (replicate {A = ℕ} longest_printout 0) ≡ replicate program_room 0
zeros-lent = take-zeros program_room longest_line

pub zeros-kept : drop program_room (replicate {A = ℕ} longest_printout 0) ≡ replicate longest_line 0
zeros-kept = drop-zeros program_room longest_printout

-- what a run leaves of a room of zeros, with more zeros after it
past-zeros : (out : List ℕ) (room more len : ℕ) → len ≤ length out → length out ≡ room → drop len out ≡ drop len (replicate room 0)
    → drop len (out ++ replicate more 0) ≡ replicate (room + more - len) 0
past-zeros out room more len few sized kept =
    let e : room - len + more ≡ room + more - len = omega arith in
    drop-append-le len out (replicate more 0) few
    ∙ ap (λ x. x ++ replicate more 0) (kept ∙ drop-zeros len room)
    ∙ replicate-append-replicate (room - len) more 0
    ∙ ap (λ k. replicate k 0) e

-- a run in the first bytes of a page, z, and the rest of the page
module _ (regions : Regions) (budget : ℕ) (s : List ℕ) {ran : Ran} {s' out z rest : List ℕ} (lent : z ≡ replicate program_room 0)
    (kept : rest ≡ replicate longest_line 0) (e : numbers ran s' out ≡ run_on regions budget s z) where
  long : length z ≡ program_room
  long = ap length lent ∙ length-replicate {A = ℕ} program_room 0

  abbrev past : (drop ran.len out ≡ drop ran.len z) × (ran.len ≤ length z) × (length out ≡ length z)
  past = run-keeps-past regions budget s z e

  within : ran.len ≤ length out
  within = omega (arith, past.1, past.2)

  -- its lines leave room for the answer's line, and zeros
  pub run-page : (ran.len ≤ program_room) × (length (out ++ rest) ≡ longest_printout)
      × (drop ran.len (out ++ rest) ≡ replicate (longest_printout - ran.len) 0)
  run-page =
      let more : length rest ≡ longest_line = ap length kept ∙ length-replicate {A = ℕ} longest_line 0 in (
        omega (arith, past.1, long),
        length-append out rest ∙ omega (arith, past.2, long, more),
        ap (λ x. drop ran.len (out ++ x)) kept
            ∙ past-zeros out program_room longest_line ran.len within (past.2 ∙ long) (past.0 ∙ ap (drop ran.len) lent),
      )

  pub run-prints : {p : Printout} {a : ℕ} → p ≡ printed (take ran.len (out ++ rest) ++ answer_line a) → a ≡ run_number ran.answer
      → p ≡ printed (run_text (run_on regions budget s (replicate program_room 0)))
  run-prints {a = a} p n =
      p
      ∙ ap (λ x. printed (x ++ answer_line a)) (take-append-le ran.len out rest within)
      ∙ ap (λ a. printed (take ran.len out ++ answer_line a)) n
      ∙ ap (λ x. printed (run_text x)) (e ∙ ap (λ x. run_on regions budget s x) lent)

unpacked-zeros : (n : ℕ) → unpacked (replicate n 0) ≡ replicate n (word zeros)
unfolding unpack_of
unpacked-zeros zero = refl
unpacked-zeros (suc n) = ap (λ (cs : List Cell). word zeros ∷ cs) (unpacked-zeros n)

-- the lines of a run stand first in the bytes it left
run-text : (out : List ℕ) (o : Outcome) → run_text (in_numbers out o) ≡ ran_text o
run-text out o =
    let t = o.state.lines in
    ap (λ x. x ++ answer_line (run_number o.answer)) (take-append_seam t (drop (length t) out))

text-loaded : (l : LoadOutcome) → l.answer ≡ AnswerLoaded → ran_text (run largest_budget (ready l program_room)) ≡ loaded_text l l.answer
unfolding loaded_text
text-loaded l e = rw e

text-other : (l : LoadOutcome) (a : LoadAnswer) → (a ≡ AnswerLoaded → ⊥) → answer_line (load_number a) ≡ loaded_text l a
unfolding loaded_text
text-other l AnswerLoaded h = absurd (h refl)
text-other l BadSize h = refl
text-other l (Broken f o) h = refl

-- "It reads at most 16,384 deck bytes"
deck-read : (input : List ℕ) (k : ℕ) → take (min (length input) k) input ≡ take k input
deck-read input k = go (dec_lt k (length input))
  where
    go : Dec (k < length input) → take (min (length input) k) input ≡ take k input
    go (yes p) = let e : min (length input) k ≡ k = omega arith in ap (λ i. take i input) e
    go (no p) =
        let e : min (length input) k ≡ length input = omega arith in
        ap (λ i. take i input) e ∙ take-length input ∙ sym (take_all k input (omega arith))

pub deck-counted : (input : List ℕ) {n : ℕ} → n ≡ min (length input) program_deck → n ≡ length (take n input)
deck-counted input {n} e = sym (length-take-le n input (omega arith))

-- whatever the load answered and left
module _ (input : List ℕ) {n : ℕ} (read : n ≡ min (length input) program_deck) {s' : List ℕ} {r : Loaded}
    (allowed : Loads (take n input) (replicate program_cells 0) s' r) where
  abbrev deck : List ℕ
  deck = take program_deck input

  loads : Loads deck (replicate program_cells 0) s' r
  loads = subst (λ d. Loads d (replicate program_cells 0) s' r) (ap (λ i. take i input) read ∙ deck-read input program_deck) allowed

  abbrev outcome : LoadOutcome
  outcome = load deck (unpacked (replicate program_cells 0))

  printout-is : loaded_text outcome outcome.answer ≡ printout input
  unfolding printout
  printout-is = ap (λ cs. let l = load deck cs in loaded_text l l.answer) (unpacked-zeros program_cells)

  -- loaded: the lines of its run, and the answer's
  pub prints-run : r.answer ≡ AnswerLoaded → run_text (run_on r.regions largest_budget s' (replicate program_room 0)) ≡ printout input
  prints-run a =
      let f = loaded-fits deck (replicate program_cells 0) loads (ap load_number a) in
      let out = replicate {A = ℕ} program_room 0 in
      let room : length out ≡ program_room = length-replicate {A = ℕ} program_room 0 in
      ap run_text (sym (run-passes r.regions largest_budget s' out f.size f.passes))
      ∙ run-text out (run largest_budget (state_with r.regions s' [] (length out)))
      ∙ ap (λ t. ran_text (run largest_budget t)) (f.is (length out) ∙ ap (ready outcome) room)
      ∙ text-loaded outcome (sym loads.answer ∙ a)
      ∙ printout-is

  -- not loaded: the answer's line
  pub prints-answer : (r.answer ≡ AnswerLoaded → ⊥) → answer_line (load_number r.answer) ≡ printout input
  prints-answer h = text-other outcome r.answer h ∙ ap (loaded_text outcome) loads.answer ∙ printout-is
