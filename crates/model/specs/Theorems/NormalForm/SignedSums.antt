-- What a signed variable is worth in the normal state, and that a signed sum has there the value of the sum it comes from.
-- Assumes nothing.
use Rattle.std.specs.Prelude.{◌+◌, ◌*◌, neg_ℤ}
use Rattle.model.specs.Task.{Term}

-- "A weight w above 0 becomes w on 2i, below 0 becomes −w on 2i+1."
abbrev pub even_term : Term → Term
even_term t = record { var = 2 * t.var; weight = t.weight }

abbrev pub odd_term : Term → Term
odd_term t = record { var = 2 * t.var + 1; weight = neg_ℤ t.weight }

-- −S term by term
abbrev pub negative : Term → Term
negative t = record { var = t.var; weight = neg_ℤ t.weight }
