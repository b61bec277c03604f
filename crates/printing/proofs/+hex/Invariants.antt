use Rattle.printing.proofs.+hex.Given as goal

-- Recursion on the number of digits that are left.
abbrev pub decreases-hex : goal.decreases-hex
decreases-hex l = l.k
