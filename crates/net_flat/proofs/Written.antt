-- Drivers that are written into a table.
use Rattle.std.proofs.Common.{◌≡◌, ℕ, zero, suc, List, [], ◌∷◌, length, drop, refl, arith}
use Rattle.std.specs.Prelude.{min}
use Rattle.chw_base.specs.declared.index.WireId.{WireId}
use Rattle.net_flat.specs.Drivers.{outputs_written}
use Rattle.net_flat.specs.declared.tables.Driver.{Driver}

-- nothing is to be written where one of the lists has ended
pub written_end : (next : ℕ) (table : List Driver) (n : ℕ) (drives outputs : List WireId) → n ≡ min (length drives) (length outputs)
    → outputs_written next table (drop n drives) (drop n outputs) ≡ table
written_end next table zero [] outputs e = refl
written_end next table zero (w ∷ drives) [] e = refl
written_end next table zero (w ∷ drives) (o ∷ outputs) e = absurd (omega arith)
written_end next table (suc n) [] outputs e = absurd (omega arith)
written_end next table (suc n) (w ∷ drives) [] e = absurd (omega arith)
written_end next table (suc n) (w ∷ drives) (o ∷ outputs) e = written_end next table n drives outputs (omega arith)
