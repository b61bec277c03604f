use Rattle.paper.proofs.Kit.{ℕ, List, ◌≡◌, ◌%◌, ◌≤◌, ◌<◌, refl, sym, ◌∙◌, subst, arith, length, take}
use Rattle.paper.specs.Cell.{Word}
use Rattle.paper.specs.Act.{own}
use Rattle.cells.specs.Layout.{word_of}
use Rattle.cells.specs.Bridge.{unpacked}
use Rattle.steps.specs.Follows as steps
use Rattle.undo.specs.Did.{Always, reading}
use Rattle.structures.specs.Marks.{Only}
use Rattle.structures.specs.Copies.{news_of, Run, Finds}
use Rattle.structures.proofs.Leads.{owned_by}
use Rattle.structures.proofs.Holding.{only-blank}
use Rattle.structures.proofs.Lists.{once-at, news-more, only-more}
use Rattle.structures.proofs.Run.{run-found}
use Rattle.structures.proofs.copies.find.Goals as goal

-- it ends with what is noted so far
ends : {s met marks : List ℕ} {i next : ℕ} (h : ℕ) → steps.Sees reading Always (own 3) s (word_of h) → i ≤ length met
    → Only marks (take i met) × Run (unpacked s) (h % 65536) (news_of marks (take i met)) next → Finds s met marks (record { n = i; next = next })
ends {s} {met} {marks} {i} {next} h o few (only, run) = record {
  few = few;
  only = only;
  run = subst (λ (w : Word). Run (unpacked s) w.link (news_of marks (take i met)) next) (sym (owned_by _ _ o)) run;
}

pub loop-i-init : goal.loop-i-init
loop-i-init c = (only-blank c.requires.1, refl)

pub returns-then-next-eq0 : goal.returns-then-next-eq0
returns-then-next-eq0 c = ends c.own-h.result c.own-h.ensures (omega arith) c.loop-i.invariant

pub loop-i-preserved : goal.loop-i-preserved
loop-i-preserved c =
    let l = c.loop-i in
    let met = c.args.met.now in
    let h : l.i < length met = omega arith in
    let o = once-at met _ h c.requires.0 in
    let s = c.args.cells.now in
    let x = c.own-h.result % 65536 in
    let e = news-more l.marks met l.i l.next h (omega arith) o in (
      only-more met l.i l.next h l.invariant.0,
      subst (λ ns. Run (unpacked s) x ns c.free_link-next.result) (sym e)
          (run-found s (news_of l.marks (take l.i met)) x l.next c.peek-x.result l.invariant.1
          c.if-next-eq0.false c.peek-x.ensures (sym c.is_free.ensures ∙ c.if-not-is_free.false)
          c.free_link-next.ensures),
    )

pub returns : goal.returns
returns c =
    let l = c.loop-i in
    let e : l.i ≡ length c.args.met.now = omega arith in
    subst (λ i. Finds c.args.cells.now c.args.met.now l.marks (record { n = i; next = l.next })) e
    (ends c.own-h.result c.own-h.ensures (omega arith) l.invariant)
