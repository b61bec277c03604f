use Rattle.printing.proofs.+digits.Given as goal

-- Recursion on the number of digits that are left.
abbrev pub decreases-digits : goal.decreases-digits
decreases-digits l = l.k
