-- Cells that are pushed for the wires of an instance.
use Rattle.std.proofs.Common.{◌≡◌, ℕ, zero, suc, ◌+◌, ◌⊎◌, inl, inr, List, [], ◌∷◌, ◌++◌, length, Some, None, slice_get, ap, subst, ◌∙◌, arith}
use Rattle.std.specs.Prelude.{slice_index_or}
use Rattle.std.proofs.lemmas.List.{append_assoc, length_push}
use Rattle.netlist.specs.declared.net.Cell.{Cell}
use Rattle.netlist.specs.declared.net.Module.{Module}
use Rattle.net_flat.specs.Drivers.{ArePushed, IsCellFor}
use Rattle.net_flat.specs.declared.tables.Driver.{Driver}
use Rattle.net_flat.specs.declared.tables.Driver.TheVariants.{Place}
use Rattle.net_flat.proofs.Lists.{get_either}

-- one more cell
pub pushed_more : (base : ℕ) (m : Module) (table : List Driver) (w : ℕ) (before after more : List Cell) (c : Cell)
    → ArePushed base m table w before after → IsCellFor base m.cells w (slice_index_or table w (Place 0)) c → more ≡ after ++ c ∷ []
    → ArePushed base m table (w + 1) before more
pushed_more base m table w before after more c p here e = record {
  own = p.own ++ c ∷ [];
  «is» = e ∙ ap (λ (cs : List Cell). cs ++ c ∷ []) p.«is» ∙ append_assoc before p.own (c ∷ []);
  all = omega (arith, p.all, length_push p.own c);
  each = λ j x s. by j x (get_either p.own (c ∷ []) j x s);
}
  where
    by : (j : ℕ) (x : Cell) → (slice_get p.own j ≡ Some x) ⊎ ((i : ℕ) × (j ≡ length p.own + i) × (slice_get (c ∷ []) i ≡ Some x))
        → IsCellFor base m.cells (m.inputs + j) (slice_index_or table (m.inputs + j) (Place 0)) x
    by j x (inl h) = p.each j x h
    by j x (inr (zero, at, h)) =
        let same : c ≡ x = cc in
        let place : m.inputs + j ≡ w = omega (arith, at, p.all) in
        rw place (subst (λ (y : Cell). IsCellFor base m.cells w (slice_index_or table w (Place 0)) y) same here)
    by j x (inr (suc i, at, h)) = absurd (let n : None ≡ Some x = h in cc)
