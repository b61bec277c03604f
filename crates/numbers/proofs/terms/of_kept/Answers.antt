use Rattle.std.proofs.Common.{◌≡◌, ◌+◌, ◌^◌, arith}
use Rattle.std.specs.Option.{option_map}
use Rattle.std.proofs.lemmas.Grind.{common_steps}
use Rattle.numbers.proofs.Fitting.{kept-gives}
use Rattle.numbers.proofs.terms.of_kept.Goals as goal

pub returns : goal.returns
returns c = λ x f e.
    let h : option_map (λ b. 2 ^ 32 + b) c.args.k ≡ c.map.result = grind (arith, common_steps) in
    rw (← h) (kept-gives x f c.args.k e)
