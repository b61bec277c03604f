-- What a process other than J1 answers: after it control goes on.
use Rattle.std.specs.Prelude.{Result}
use Rattle.paper.specs.declared.Refusal.{Refusal}
use Rattle.paper.specs.Process.{Next, then as and_then, goes_on}
use Rattle.steps.specs.Follows.{seen_as}

abbrev pub going_on : Result (Unit {0}) Refusal → Result Next Refusal
going_on r = seen_as (λ _. and_then goes_on) r
