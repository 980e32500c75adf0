-- The byte that stands for no command. Assumes nothing.
use Rattle.std.specs.Prelude.{ℕ, ◌≡◌, refl, Bool, true, false, List, [], ◌∷◌, eqb}
use Rattle.std.proofs.Common.{◌∙◌, ne_eqb}
use Rattle.model.specs.Command.{Command, unknown, code_of, commands, with_code, command_of}
use Rattle.model.specs.Theorems.Reading.WellFormed.{All}

with_code_none : (b : ℕ) (cs : List Command) → All (λ (c : Command). b ≡ code_of c → ⊥) cs → with_code b cs ≡ unknown
unfolding with_code
with_code_none b [] h = refl
with_code_none b (c ∷ cs) h = go (eqb b (code_of c)) (ne_eqb b (code_of c) h.0) ∙ with_code_none b cs h.1
  where
    go : (t : Bool) → t ≡ false → elim t [ true ↦ c | false ↦ with_code b cs ] ≡ with_code b cs
    go t e = rw e refl

pub command_of_none : (b : ℕ) → All (λ (c : Command). b ≡ code_of c → ⊥) commands → command_of b ≡ unknown
unfolding command_of
command_of_none b h = with_code_none b commands h
