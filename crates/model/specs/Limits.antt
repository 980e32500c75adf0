-- The limits of document 01 as parameters of the definitions, with its figures as one value, `paper`; the ranges that they give;
-- the largest refusal number. Assumes nothing.
use Rattle.std.specs.Prelude.{ℕ, ◌+◌, ◌*◌, ◌%◌, Bool, ◌&&◌, eqb, leb, ℤ, pos, neg_ℤ, nat_abs}
use Rattle.std.specs.Int.Signed.{le_z}
use Rattle.model.specs.Task.{Form, written, normal}

pub record Limits : Type 0 where
  -- propositions, written variables and moves of a table; a normal table has twice as many variables
  pub props : ℕ
  pub vars : ℕ
  pub moves : ℕ
  -- "A sum has 0 to 8 terms"
  pub terms : ℕ
  -- the size of a weight, and of a constant or a state's value
  pub weight : ℕ
  pub constant : ℕ
  -- "Length: written 32,000, normal 64,000 bytes at most"
  pub written_length : ℕ
  pub normal_length : ℕ
  -- refusal 15: "a finite value above 1,000,000,000,000"
  pub layer_value : ℕ

-- "a finite value above 1,000,000,000,000"
abbrev pub largest_value : ℕ
largest_value = 1_000_000_000_000

unfoldable pub paper : Limits
paper =
    record {
      props = 120;
      vars = 16;
      moves = 64;
      terms = 8;
      weight = 1000;
      constant = 1_000_000;
      written_length = 32_000;
      normal_length = 64_000;
      layer_value = largest_value;
    }

-- "V 0..16 variables"; "N even, 0..32"
unfoldable pub vars_in_range : Limits → Form → ℕ → Bool
vars_in_range L written n = leb n L.vars
vars_in_range L normal n = leb n (2 * L.vars) && eqb (n % 2) 0

-- "Written: weights −1000..1000", 0 among them: "Refusal 4 no longer covers it; normal tables still begin at weight 1"
unfoldable pub weight_in_range : Limits → Form → ℤ → Bool
weight_in_range L written w = leb (nat_abs w) L.weight
weight_in_range L normal w = le_z (pos 1) w && leb (nat_abs w) L.weight

-- "o is 0 ≥, 1 >, 2 ≤, 3 <, 4 ="; "k is 0 := , 1 += , 2 −="; "Normal: .. o only 0, k only 0 or 1"
unfoldable pub comparison_in_range : Form → ℕ → Bool
comparison_in_range written n = leb n 4
comparison_in_range normal n = eqb n 0

unfoldable pub kind_in_range : Form → ℕ → Bool
kind_in_range written n = leb n 2
kind_in_range normal n = leb n 1

-- "constants −1,000,000..1,000,000"; "effect constants as written, condition constants −1,000,000..1,000,001"
unfoldable pub base_in_range : Limits → ℤ → Bool
base_in_range L c = leb (nat_abs c) L.constant

unfoldable pub bound_in_range : Limits → Form → ℤ → Bool
bound_in_range L written c = leb (nat_abs c) L.constant
bound_in_range L normal c = le_z (neg_ℤ (pos L.constant)) c && le_z c (pos (L.constant + 1))

-- the largest number of a refusal of the full calls on tables: 15 in document 01 ("Where a call turns back"), 16 with document 02's "Turned
-- away: 16, such a move"; and of all calls: 17, "a head beyond the rig's limits", and of closure days 18 and "19, no placement exists"
abbrev pub full_number : ℕ
full_number = 16

abbrev pub last_number : ℕ
last_number = 19
