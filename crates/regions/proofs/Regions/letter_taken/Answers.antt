use Rattle.paper.proofs.Kit.{ℕ, ◌≡◌, ap, eqb, ◌∙◌, arith, rules, drop, take}
use Rattle.std.proofs.Common.{tests}
use Rattle.std.specs.List.{list_any}
use Rattle.std.proofs.lemmas.Iterator.{YieldsList-from_slice}
use Rattle.std.proofs.lemmas.Iterator.Adapters.{YieldsList-from_skip}
use Rattle.std.proofs.lemmas.Iterator.Search.{any_from_yields_List}
use Rattle.paper.specs.Region.{layout, letter_taken}
use Rattle.regions.proofs.RegionLaws.{rest, first-taken, deck-taken, taken-listed}
use Rattle.regions.proofs.Regions.letter_taken.Goals as goal

pub returns-then-matches : goal.returns-then-matches
returns-then-matches c =
    let f = first-taken c.args.b (rest c.args.self c.args.from) in
    let g = c.match-matches.branch in
    search rules

pub returns-else-matches : goal.returns-else-matches
returns-else-matches c =
    let a = c.args in
    let r = a.self in
    let m = c.len.ensures.0 in
    let f : letter_taken (rest r a.from) a.b ≡ letter_taken (layout (rest r a.from)) a.b =
    let g = c.match-matches.branch in
    let h = deck-taken a.b (rest r a.from) in
    search rules
    in
    let s = YieldsList-from_skip a.from (YieldsList-from_slice (take c.len.result r.letters) cc) c.skip.ensures.count in
    let e = any_from_yields_List (λ x. eqb x a.b) _ _ _ c.any.ensures.ran s (λ x b q k. search (rules, tests)) in
    e ∙ ap (λ (n : ℕ). list_any (λ x. eqb x a.b) (drop a.from (take n r.letters))) m ∙ taken-listed r a.b (omega arith) a.from ∙ f
