use Rattle.std.proofs.Common.{rules, tests}
use Rattle.paper.specs.Process.{is_listed, is_listed_in, listed}
use Rattle.book.proofs.listed.is_listed.Goals as goal

-- the numbers that stand alone
pub returns-in-0-to-6 : goal.returns-in-0-to-6
unfolding is_listed is_listed_in listed
returns-in-0-to-6 c = search (tests, rules)
